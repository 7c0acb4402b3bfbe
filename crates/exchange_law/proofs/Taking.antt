-- A grant that a client takes was given in the server's answer to its outstanding request.
use Rattle.std.proofs.Common.{◌≡◌, ◌⊎◌, ◌==◌, not, ℕ, ◌+◌, ◌≤◌, ◌<◌, ◌^◌, Bool, true, false, List, [], ◌∷◌, Option, Some, None, Result, Ok, Err, refl, sym, ap, subst, ◌∙◌, arith, inl, inr, if◌then◌else◌}
use Rattle.std.specs.Prelude.{find}
use Rattle.std.specs.Option.{option_map}
use Rattle.std.proofs.lemmas.Bool.{eqb-true, cases_eq, eq-eqb, ne_eqb, and_parts}
use Rattle.osd_lists.specs.declared.node.Node.{Node}
use Rattle.osd_lists.specs.declared.node.Node.TheVariants as node
use Rattle.layout_ops.specs.declared.err.OpErr.{OpErr}
use Rattle.layout_ops.specs.declared.messages.Answer.{Answer}
use Rattle.layout_ops.specs.declared.results.Results.{Results}
use Rattle.layout_ops.specs.declared.results.Results.TheVariants as results
use Rattle.layout_ops.specs.declared.results.LayoutGetResult.TheVariants as get
use Rattle.layout_ops.specs.declared.results.LayoutGetOk.{LayoutGetOk}
use Rattle.layout_ops.specs.declared.items.StateId.{StateId}
use Rattle.layout_ops.specs.declared.envelope.Envelope.{Envelope}
use Rattle.layout_ops.specs.declared.envelope.Envelope.TheVariants as envelope
use Rattle.layout_ops.specs.Reading.{envelope_of}
use Rattle.layout_ops.specs.Spelling.{StateIdFits}
use Rattle.client_rules.specs.Requests.{grant_in}
use Rattle.client_rules.specs.Results.{layouts_in}
use Rattle.client_rules.specs.Envelopes.{by_envelope, message_in}
use Rattle.client_rules.specs.Messages.{Message as ClientMessage, Replies, Answers, Recalls, Taken, TakesAnswer, TakesReply, TakesRecall, takes, answer_taken, is_awaited, names_nobody, awaited_of}
use Rattle.client_rules.specs.Replies.{answers}
use Rattle.exchange_law.specs.ClientNonces.{given, granted}
use Rattle.server_rules.specs.declared.limits.TheConstants.{GREATEST_SEQUENCE}
use Rattle.server_rules.specs.Laws.{In, last_of}
use Rattle.server_rules.specs.Slots.{slot_of}
use Rattle.history_law.specs.State.{Client, Request, Recall}
use Rattle.world_history.specs.ServerNames.{Slot}
use Rattle.world_history.specs.declared.messages.Body.{Body}
use Rattle.world_history.specs.declared.messages.Body.TheVariants.{Command as OfCommand, Reply as OfReply, Envelope as OfEnvelope}
use Rattle.world_history.specs.declared.messages.Message.{Message}
use Rattle.world_history.specs.declared.messages.Posted.{Posted}
use Rattle.world_history.specs.State.{World}
use Rattle.world_history.specs.Spelled.{spelled}
use Rattle.scenario_text.specs.declared.line.Line.{Line}
use Rattle.exchange_law.specs.Doing.{said}
use Rattle.exchange_law.specs.Messages.{EachMessage, last_before, AnswersOf, IsToldBySlot}
use Rattle.exchange_law.specs.InStep.{StandsAt, IsInStep}
use Rattle.exchange_law.proofs.Turning.{sent_by, bodies, WasPosted}
use Rattle.exchange_law.proofs.Gives.{last_in}
use Rattle.exchange_law.proofs.RefusalTelling.{named}
use Rattle.exchange_law.proofs.RefusalGiven.{WasSent, AreOrdered}
use Rattle.exchange_law.proofs.Owning.{AreOwn, name_fits}
use Rattle.exchange_law.proofs.AnswerRead.{NamedIn, NamedBy, named_read, sequence_read}
use Rattle.exchange_law.proofs.LatestLaw.{reply_never}

-- ---- an answer that is taken

pub record IsAnswer (c : Client) (from : Node) (x : ClientMessage) (a : Answer) : Type 0 where
  pub sender : from ≡ node.Server
  pub is : x ≡ Answers a
  pub request : Request
  pub outstanding : c.outstanding ≡ Some request
  pub sequence : a.sequence ≡ request.sequence

awaited_answer : (c : Client) (x : Answer) (o : Option Request) (a : Answer) → answer_taken c x o ≡ Some (TakesAnswer a)
    → (r : Request) × (o ≡ Some r) × (x ≡ a) × (x.sequence ≡ r.sequence)
awaited_answer c x None a e = absurd (cc e)
awaited_answer c x (Some r) a e = either (is_awaited c x r) refl e
  where
    either : (b : Bool) → is_awaited c x r ≡ b → (if b then Some (TakesAnswer x) else None) ≡ Some (TakesAnswer a)
        → (q : Request) × (Some r ≡ Some q) × (x ≡ a) × (x.sequence ≡ q.sequence)
    either true is f =
        let same : x ≡ a = cc f in
        let both = and_parts (x.client == c.number) _ is in
        let next = and_parts (x.sequence == r.sequence) (not (names_nobody x)) both.1 in
        (r, refl, same, eqb-true x.sequence r.sequence next.0)
    either false is f = absurd (cc f)

recall_no_answer : (b : Bool) (x : Recall) (a : Answer) → (if b then Some (TakesRecall x) else None) ≡ Some
    (TakesAnswer a) → ⊥
recall_no_answer true x a e = cc e
recall_no_answer false x a e = cc e

is_answer : (c : Client) (from : Node) (x : ClientMessage) (a : Answer) → takes c from x ≡ Some (TakesAnswer a)
    → IsAnswer c from x a
unfolding takes
is_answer c (node.Drive d) (Replies s) a e =
    absurd (reply_never s (find (answers d s) (awaited_of c.call)) a e)
is_answer c node.Server (Answers x) a e =
    let r = awaited_answer c x c.outstanding a e in
    record {
      sender = refl;
      is = ap (λ (y : Answer). Answers y) r.2;
      request = r.0;
      outstanding = r.1;
      sequence = ap (λ (y : Answer). y.sequence) (sym r.2) ∙ r.3;
    }
is_answer c node.Server (Recalls x) a e = absurd (recall_no_answer (x.client == c.number) x a e)
is_answer c from x a e = absurd (cc e)

pub answer_in : (bytes : List ℕ) (r : Result Envelope OpErr) (a : Answer) → envelope_of bytes ≡ r
    → by_envelope r ≡ Some (Answers a) → envelope_of bytes ≡ Ok (envelope.Answer a)
answer_in bytes (Ok (envelope.Answer b)) a read e =
    let both : Answers b ≡ Answers a = cc e in
    let same : b ≡ a = cc both in
    read ∙ ap (λ (x : Answer). Ok (envelope.Answer x)) same
answer_in bytes (Ok (envelope.Recall b)) a read e = absurd (cc e)
answer_in bytes (Ok (envelope.Request b)) a read e = absurd (cc e)
answer_in bytes (Ok (envelope.RecallAnswer b)) a read e = absurd (cc e)
answer_in bytes (Ok (envelope.Order b)) a read e = absurd (cc e)
answer_in bytes (Ok (envelope.OrderAnswer b)) a read e = absurd (cc e)
answer_in bytes (Err x) a read e = absurd (cc e)

server_says : (bytes : List ℕ) (a : Answer) → message_in node.Server bytes ≡ Some (Answers a)
    → envelope_of bytes ≡ Ok (envelope.Answer a)
unfolding message_in
server_says bytes a e = answer_in bytes (envelope_of bytes) a refl e

-- ---- what it was

each_in : (P : Message → Type 0) (ps : List Posted) (m : Message) → EachMessage P (said ps) → In m (bodies ps) → P m
each_in P [] m all i = absurd i
each_in P (p ∷ ps) m all (inl e) = subst P (sym e) all.0
each_in P (p ∷ ps) m all (inr i) = each_in P ps m all.1 i

answered_body : (c : ℕ) (o : Option Slot) (b : Body) → IsToldBySlot c o b → (e : Envelope) × (b ≡ OfEnvelope e)
answered_body c o (OfEnvelope e) k = (e, refl)
answered_body c o (OfCommand x) k = absurd k
answered_body c o (OfReply r) k = absurd k

-- the grant that is taken, as it was sent
pub record TakesGrant (w : World) (c : ℕ) (x : Client) (n : ℕ) : Type 0 where
  pub sequence : ℕ
  pub sent : WasSent w c sequence n
  pub request : Request
  pub outstanding : x.outstanding ≡ Some request
  pub same : sequence ≡ request.sequence

named_gives : (r : Results) (ok : LayoutGetOk) → NamedIn r ok
    → (it : LayoutGetOk) × (layouts_in r ≡ Some it) × (StateIdFits it.stateid → ok.stateid ≡ it.stateid)
named_gives (results.LayoutGet (get.Granted it)) ok k = (it, refl, k.same)
named_gives (results.LayoutGet (get.TryLater signal)) ok k = absurd k
named_gives (results.LayoutGet (get.Refused status)) ok k = absurd k
named_gives (results.LayoutCommit r) ok k = absurd k
named_gives (results.LayoutReturn r) ok k = absurd k

module _ (w : World) (h : List Line) (o : AreOrdered w) (own : AreOwn w h) (c : ℕ) (x : Client) (s : IsInStep w h c x)
  where
    answer_gives : (m : Message) (bytes : List ℕ) (e : Envelope) (a : Answer) (ok : LayoutGetOk) (r : Request)
        → In m (sent_by w) → m.from ≡ node.Server → m.to ≡ node.Client c → spelled m.body ≡ bytes
        → m.body ≡ OfEnvelope e → envelope_of bytes ≡ Ok (envelope.Answer a) → layouts_in a.results ≡ Some ok
        → NamedBy e ok → x.outstanding ≡ Some r → a.sequence ≡ r.sequence → TakesGrant w c x (grant_in ok.stateid)
    answer_gives m bytes (envelope.Answer v) a ok r there from to is body read gives k out same =
        let g = named_gives v.results ok k in
        let fits = name_fits c v g.0 (own.each m there c from to (envelope.Answer v) body) g.1 in
        let names : named v.results ≡ Some (grant_in ok.stateid) =
        ap (option_map (λ (y : LayoutGetOk). grant_in y.stateid)) g.1
        ∙ ap (λ (y : StateId). Some (grant_in y)) (sym (g.2 fits)) in
        let sent : WasSent w c v.sequence (grant_in ok.stateid) = record {
          message = m;
          there = there;
          sender = from;
          receiver = to;
          answer = v;
          body = body;
          sequence = refl;
          gives = names;
        } in
        let low : v.sequence < 2 ^ 32 = o.low c v.sequence (grant_in ok.stateid) (inr sent) in
        record {
          sequence = v.sequence;
          sent = sent;
          request = r;
          outstanding = out;
          same = sym (sequence_read v bytes a low (sym is ∙ ap spelled body) read) ∙ same;
        }
    answer_gives m bytes (envelope.Request v) a ok r there from to is body read gives k out same = absurd k
    answer_gives m bytes (envelope.Recall v) a ok r there from to is body read gives k out same = absurd k
    answer_gives m bytes (envelope.RecallAnswer v) a ok r there from to is body read gives k out same = absurd k
    answer_gives m bytes (envelope.Order v) a ok r there from to is body read gives k out same = absurd k
    answer_gives m bytes (envelope.OrderAnswer v) a ok r there from to is body read gives k out same = absurd k

    pub taken_gives : (from : Node) (y : ClientMessage) (bytes : List ℕ) → WasPosted w from (node.Client c) bytes
        → message_in from bytes ≡ Some y → (a : Answer) (ok : LayoutGetOk) → takes x from y ≡ Some (TakesAnswer a)
        → layouts_in a.results ≡ Some ok → TakesGrant w c x (grant_in ok.stateid)
    taken_gives from y bytes m read a ok e gives =
        let t = is_answer x from y a e in
        let says : envelope_of bytes ≡ Ok (envelope.Answer a) =
        server_says bytes a (ap (λ (n : Node). message_in n bytes) (sym t.sender) ∙ read
        ∙ ap (λ (z : ClientMessage). Some z) t.is) in
        let sender : m.message.from ≡ node.Server = m.sender ∙ t.sender in
        let answered : IsToldBySlot c (slot_of w.server.slots c) m.message.body =
        each_in (AnswersOf c
        (slot_of w.server.slots c)) w.network.messages m.message s.answers m.there sender m.receiver in
        let body = answered_body c (slot_of w.server.slots c) m.message.body answered in
        answer_gives m.message bytes body.0 a ok t.request m.there sender m.receiver m.bytes_are body.1 says gives
        (named_read body.0 bytes a ok (sym m.bytes_are ∙ ap spelled body.1) says gives) t.outstanding t.sequence

    -- so of what a message brings
    pub new_grants : (from : Node) (y : ClientMessage) (bytes : List ℕ) → WasPosted w from (node.Client c) bytes
        → message_in from bytes ≡ Some y → (t : Option Taken) → takes x from y ≡ t
        → (granted t ≡ []) ⊎ ((n : ℕ) × (granted t ≡ n ∷ []) × TakesGrant w c x n)
    new_grants from y bytes m read None e = inl refl
    new_grants from y bytes m read (Some (TakesReply a r)) e = inl refl
    new_grants from y bytes m read (Some (TakesRecall r)) e = inl refl
    new_grants from y bytes m read (Some (TakesAnswer a)) e = by_layouts (layouts_in a.results) refl
      where
        by_layouts : (l : Option LayoutGetOk) → layouts_in a.results ≡ l
            → (given l ≡ []) ⊎ ((n : ℕ) × (given l ≡ n ∷ []) × TakesGrant w c x n)
        by_layouts None is = inl refl
        by_layouts (Some ok) is = inr (grant_in ok.stateid, refl, taken_gives from y bytes m read a ok e is)

    -- ---- numbers of requests

    -- what was answered is no later than the client's last request
    awaiting_low : (l : ℕ) (r : Option Request) → StandsAt h c (slot_of w.server.slots c) l r
        → last_in w.server.slots c ≤ l
    awaiting_low l None is = omega (arith, is)
    awaiting_low l (Some r) k = elim k.served [
      | inl next ↦ omega (arith, next, k.sequence)
      | inr done ↦
          let last : last_in w.server.slots c ≡ r.sequence = ap last_of done.kept ∙ done.last in
          omega (arith, last, k.sequence)
    ]

    pub answered_low : last_in w.server.slots c ≤ last_before x.next
    answered_low = awaiting_low (last_before x.next) x.outstanding s.stands

    -- or it is one earlier at the most
    awaiting_near : (l : ℕ) (r : Option Request) → StandsAt h c (slot_of w.server.slots c) l r
        → l ≤ last_in w.server.slots c + 1
    awaiting_near l None is = omega (arith, is)
    awaiting_near l (Some r) k = elim k.served [
      | inl next ↦ omega (arith, next, k.sequence)
      | inr done ↦
          let last : last_in w.server.slots c ≡ r.sequence = ap last_of done.kept ∙ done.last in
          omega (arith, last, k.sequence)
    ]

    pub answered_near : last_before x.next ≤ last_in w.server.slots c + 1
    answered_near = awaiting_near (last_before x.next) x.outstanding s.stands

last_low : (next : ℕ) → (next ≡ 0 → ⊥) → last_before next + 1 ≡ next
last_low next some = rw (ne_eqb next 0 some) (omega (arith, some))

last_spent : (next : ℕ) → next ≡ 0 → last_before next ≡ GREATEST_SEQUENCE
last_spent next none = rw (eq-eqb next 0 none) refl

-- A request that goes out next is later than all that was answered. `last` is the number of the last one that was
-- answered, before and behind, since the server stays as it is.
pub later_request : (last next sequence : ℕ) → last ≤ last_before next → last_before next ≤ last + 1 → sequence ≡ next
    → (last + 1 ≡ sequence) ⊎ (last ≡ sequence) → last < sequence
later_request last next sequence low near is served = elim (cases_eq next 0) [
  | inl none ↦
      let spent : last_before next ≡ 4294967295 = last_spent next none in
      absurd (elim served [
        | inl a ↦ omega (arith, spent, near, none, is, a)
        | inr b ↦ omega (arith, spent, near, none, is, b)
      ])
  | inr some ↦
      let before : last_before next + 1 ≡ next = last_low next some in
      omega (arith, before, low, is)
]
