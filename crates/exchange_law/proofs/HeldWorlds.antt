-- At each moment of a history each client and the server agree.
use Rattle.std.proofs.Common.{◌≡◌, ◌≤◌, ◌++◌, ◌+◌, ℕ, List, [], ◌∷◌, Option, Some, None, inl, inr, arith, refl, sym, ap, subst, ◌∙◌, append_assoc}
use Rattle.std.proofs.lemmas.List.{append-nil}
use Rattle.std.proofs.lemmas.Bool.{cases_eq, eq-eqb, ne_eqb}
use Rattle.osd_lists.specs.declared.node.Node.{Node}
use Rattle.osd_lists.specs.declared.node.Node.TheVariants as node
use Rattle.osd_lists.proofs.Options.{same_some}
use Rattle.layout_ops.specs.declared.envelope.Envelope.TheVariants as envelope
use Rattle.layout_ops.specs.Spelling.{EnvelopeFits}
use Rattle.layout_ops.proofs.Whole.{all_again}
use Rattle.client_rules.specs.declared.limits.TheConstants.{GREATEST_SEQUENCE}
use Rattle.scenario_text.specs.declared.line.Line.{Line}
use Rattle.world_history.specs.ClientNames.{Client, Held, Request}
use Rattle.world_history.specs.ServerNames.{File, Server, Slot, ClientRequest, RequestArgs}
use Rattle.world_history.specs.declared.messages.Body.{Body}
use Rattle.world_history.specs.declared.messages.Body.TheVariants.{Envelope as OfEnvelope}
use Rattle.world_history.specs.Spelled.{spelled}
use Rattle.world_history.specs.State.{World, ClientAt, at_number, empty_world}
use Rattle.world_history.specs.Plans.{due, plan_of}
use Rattle.world_history.specs.Runs.{world_after, plan_after}
use Rattle.world_history.specs.Sending.{Move, move}
use Rattle.world_history.specs.History.{OneEventMore}
use Rattle.client_rules.specs.Grants.{held_of}
use Rattle.client_rules.specs.History.{Input, Hears, Calls, TimesOut, Leaves, Resends, step as client_step}
use Rattle.client_rules.specs.Messages.{TakesAnswer, takes}
use Rattle.server_rules.specs.Envelopes.{asked_in, request_with, by_envelope, message_in}
use Rattle.server_rules.specs.Files.{file_at}
use Rattle.server_rules.specs.History.{Input as ServerInput, Hears as ServerHears}
use Rattle.server_rules.specs.Laws.{SlotsAreKept, AreSafe, last_of}
use Rattle.server_rules.specs.Messages.{Asks}
use Rattle.server_rules.specs.Slots.{slot_of}
use Rattle.history_law.specs.Grants.{GrantsAreSafe}
use Rattle.history_law.specs.HistoryMoments.{IsReached}
use Rattle.history_law.specs.BookMoments.{IsMoment, lines_so_far, lines_in, plan_at}
use Rattle.world_history.proofs.Runs.{due_more, world_more}
use Rattle.history_law.proofs.Moments.{so_far_more}
use Rattle.exchange_law.specs.Doing.{said, IsHeardByServer, IsHeardByClient}
use Rattle.exchange_law.specs.Messages.{AsksOf, IsAsked, last_before}
use Rattle.exchange_law.specs.InStep.{StandsAt, ClientsAreInStep, state_of, client_of}
use Rattle.exchange_law.specs.Taking.{AnswersAreOwn}
use Rattle.exchange_law.proofs.Admitting.{is_next}
use Rattle.exchange_law.proofs.SlotAnswered.{read_of, is_outstanding}
use Rattle.exchange_law.proofs.ClientsWalk.{holds_always}
use Rattle.exchange_law.proofs.Each.{in_step, clients_are_in_step}
use Rattle.exchange_law.proofs.SlotLists.{each_at}
use Rattle.exchange_law.proofs.Standing.{Parts}
use Rattle.exchange_law.specs.Calls.{Knows, GoodAnswer}
use Rattle.exchange_law.specs.Shapes.{HasShape, FilesHaveShape}
use Rattle.exchange_law.specs.Meeting.{AgreesAt, KeptGood, IsMet, Reads, FilesSound, IsReadable, IsReadableThrough, ClientsAgree}
use Rattle.exchange_law.proofs.HeldMoving.{IsSame}
use Rattle.exchange_law.proofs.HeldGoing.{Rules, StepFine}
use Rattle.exchange_law.proofs.HeldStepping.{IsGoodInput, step_fine}
use Rattle.exchange_law.proofs.HeldAsking.{IsOwn, step_met}

-- ---- one client

-- what is held under the same grant agrees as well
agrees_too : (s : Server) (c file : ℕ) (h k : Held) → IsSame h k → AgreesAt s c file h → AgreesAt s c file k
agrees_too s c file h k same agrees f g there has =
    let it = agrees f g there has in
    record {
      file = same.file ∙ it.file;
      number = same.number ∙ it.number;
      rw = ap (λ (r : _). r.rw) same.reach ∙ it.rw;
      extending = ap (λ (r : _). r.extending) same.reach ∙ it.extending;
      first = ap (λ (r : _). r.first) same.reach ∙ it.first;
      end = ap (λ (r : _). r.end) same.reach ∙ it.end;
      map = same.map ∙ it.map;
    }

-- a number that is the last one, or the one before, isn't the next
not_next : (n m : ℕ) → n ≤ GREATEST_SEQUENCE → (m ≡ last_before n → m ≡ n → ⊥) × (m + 1 ≡ last_before n → m ≡ n → ⊥)
not_next n m low = elim (cases_eq n 0) [
  | inl e ↦ rw (eq-eqb n 0 e, e) (λ l f. absurd (omega (arith, l, f)), λ l f. absurd (omega (arith, l, f)))
  | inr e ↦ rw (ne_eqb n 0 e) (λ l f. absurd (omega (arith, l, f, e)), λ l f. absurd (omega (arith, l, f, e)))
]

-- the server has answered no request with the next number
none_answered : (h : List Line) (c : ℕ) (o : Option Slot) (n : ℕ) (p : Option Request) → n ≤ GREATEST_SEQUENCE
    → StandsAt h c o (last_before n) p → (t : Slot) → o ≡ Some t → t.last ≡ n → ⊥
none_answered h c o n None low stands t has last =
    (not_next n t.last low).0 (sym (ap last_of has) ∙ stands) last
none_answered h c o n (Some r) low stands t has last = elim stands.served [
  | inl v ↦ (not_next n t.last low).1 (ap (λ (x : ℕ). x + 1) (sym (ap last_of has)) ∙ v ∙ stands.sequence) last
  | inr v ↦
      let same : v.slot ≡ t = same_some v.slot t o v.kept has in
      (not_next n t.last low).0 (ap (λ (x : Slot). x.last) (sym same) ∙ v.last ∙ stands.sequence) last
]

-- what the server reads of a request that fits
reads_as : (r : Request) (o : Option RequestArgs) (q : ClientRequest) → request_with r o ≡ Some (Asks q)
    → (a : RequestArgs) × (o ≡ Some a)
    × (record { client = r.client; sequence = r.sequence; file = r.file; args = a } ≡ q)
reads_as r None q e = absurd (cc e)
reads_as r (Some a) q e = (a, refl, cc e)

pub reads_fit : (c : ℕ) (r : Request) (q : ClientRequest) → EnvelopeFits (envelope.Request r)
    → message_in (node.Client c) (spelled (OfEnvelope (envelope.Request r))) ≡ Some (Asks q) → Reads q r
unfolding message_in
reads_fit c r q fits e =
    let as_read : request_with r (asked_in r.args) ≡ Some (Asks q) =
    ap by_envelope (sym (all_again (envelope.Request r) fits)) ∙ e in
    let it = reads_as r (asked_in r.args) q as_read in
    record {
      sequence = ap (λ (x : ClientRequest). x.sequence) (sym it.2);
      file = ap (λ (x : ClientRequest). x.file) (sym it.2);
      args = it.1 ∙ ap (λ (x : ClientRequest). Some x.args) it.2;
    }

-- a new request that the server hears of a client is the one that the client waits to be answered
pub own_request : ClientsAreInStep → (w : World) (h : List Line) (k : IsMoment w h) → IsReadable w → (c : ℕ) (i : ServerInput)
    → IsHeardByServer w i → IsOwn w.server c (client_of w c) i
own_request in_step w h k readable c i heard now q is mine named new =
    let x : Client = client_of w c in
    let at : IsHeardByServer w (ServerHears now (node.Client c) (Asks q)) = subst (IsHeardByServer w) is heard in
    let d = at.0 in
    let part = in_step w h k c in
    let asked : IsAsked x d.posted.message.body =
    each_at (AsksOf c x) w.network.messages d.number d.posted d.there part.asks (sym at.2) d.receiver in
    let read : message_in (node.Client c) (spelled d.posted.message.body) ≡ Some (Asks q) =
    ap (λ (n : Node). message_in n (spelled d.posted.message.body)) at.2 ∙ at.3 in
    let r = read_of c x d.posted.message.body q part.number named part.next asked read in
    let out : x.outstanding ≡ Some r.request =
    is_outstanding h c x (slot_of w.server.slots c) r.request q.sequence x.outstanding refl part.stands r.asked r.sequence
    (is_next (slot_of w.server.slots c) q.sequence new).next in
    let here : message_in (node.Client c) (spelled (OfEnvelope (envelope.Request r.request))) ≡ Some (Asks q) =
    ap (λ (b : Body). message_in (node.Client c) (spelled b)) (sym r.body) ∙ read in
    (r.request, out, reads_fit c r.request q (readable.requests c r.request out) here)

-- nothing is held at the begin, and no answer is kept
pub none_held : (file : ℕ) (h : Held) → held_of [] file ≡ Some h → ⊥
unfolding held_of
none_held file h e = cc e

pub none_kept : (c : ℕ) (t : Slot) → slot_of empty_world.server.slots c ≡ Some t → ⊥
none_kept c t e = cc e

-- ---- a move

unfoldable pub next_moment : (w : World) (h : List Line) (k : IsMoment w h) (m : Move) → due (plan_at k) w ≡ Some m.action
    → IsMoment (move w m).world (h ++ lines_in w m)
next_moment w h k m d =
    let here : due (plan_after (plan_of k.before k.event) k.moves) (world_after k.before k.moves) ≡ Some m.action =
    subst (λ (u : World). due (plan_at k) u ≡ Some m.action) k.world_is d in
    record {
      before = k.before;
      history = k.history;
      stands = k.stands;
      event = k.event;
      allowed = k.allowed;
      moves = k.moves ++ m ∷ [];
      are_due = due_more (plan_of k.before k.event) k.before k.moves m k.are_due here;
      world_is = ap (λ (u : World). (move u m).world) k.world_is ∙ sym (world_more k.before k.moves m);
      lines_are =
          ap (λ (l : List Line). l ++ lines_in w m) k.lines_are
          ∙ ap (λ (u : World). (k.history ++ lines_so_far k.before k.event k.moves) ++ lines_in u m) k.world_is
          ∙ append_assoc k.history (lines_so_far k.before k.event k.moves) (lines_in (world_after k.before k.moves) m)
          ∙ ap (λ (l : List Line). k.history ++ l) (sym (so_far_more k.before k.event k.moves m here));
    }

-- T holds of a history's fronts where it holds of the whole
abbrev pub HoldsOfFronts : (List Line → Type 0) → Type 0
HoldsOfFronts T = (h ls : List Line) → T (h ++ ls) → T h

abbrev pub AreReadable : (List Line → Type 0) → Type 0
AreReadable T = (w : World) (h : List Line) → IsMoment w h → T h → IsReadable w

-- so it is of what is readable
pub readable_fronts : HoldsOfFronts IsReadableThrough
readable_fronts h ls t w g rest k is =
    t w g (rest ++ ls) k (ap (λ (l : List Line). l ++ ls) is ∙ append_assoc g rest ls)

pub readable_there : AreReadable IsReadableThrough
readable_there w h k t = t w h [] k (sym (append-nil h))

module _ (kept : SlotsAreKept) (more : OneEventMore)
    (safe : (w : World) (h : List Line) → IsMoment w h → AreSafe w.server.files) (own : AnswersAreOwn)
    (shapes : (w : World) (h : List Line) → IsMoment w h → (n : ℕ) (f : File) → file_at w.server.files n ≡ Some f
    → HasShape f.kept) (T : List Line → Type 0) (front : HoldsOfFronts T) (readable : AreReadable T) where
  abbrev pub AllMet : World → List Line → Type 0
  AllMet w h = T h → (c : ℕ) → IsMet w.server c (client_of w c)

  -- ---- a client's step

  module _ (w : World) (h : List Line) (k : IsMoment w h) (t : T h) (c : ℕ) (a : ClientAt)
      (found : at_number w.clients c ≡ Some a) (fine : IsMet w.server c a.state) where
    abbrev P : ℕ → Held → Type 0
    P = AgreesAt w.server c

    abbrev K : Knows
    K = KeptGood w.server c

    parts : Parts (said w.network.messages) (slot_of w.server.slots c) h c a.state
    parts =
        subst (Parts (said w.network.messages) (slot_of w.server.slots c) h c) (ap (state_of c) found)
        (in_step kept more w h k c)

    rules : Rules P K a.state.next
    rules = record {
      keeps = λ file x y same agrees. agrees_too w.server c file x y same agrees;
      new =
          λ op need r numbered slot has last.
          absurd (none_answered h c (slot_of w.server.slots c) a.state.next a.state.outstanding parts.next parts.stands
          slot has (last ∙ numbered));
    }

    good : (i : Input) → IsHeardByClient w c i → IsGoodInput P K a.state.next rules a.state refl fine i
    good (Hears from m) heard = λ b e op need q call out known.
        let d = heard.0 in
        let there : takes a.state d.posted.message.from m ≡ Some (TakesAnswer b) =
        subst (λ (n : Node). takes a.state n m ≡ Some (TakesAnswer b)) heard.1 e in
        let it = own w h k c a found d.number d.posted d.there d.receiver m b heard.2 there in
        let same : it.request ≡ q = same_some it.request q a.state.outstanding it.outstanding out in
        let exact : b ≡ it.slot.kept = it.exact ((readable w h k t).answers c it.slot it.kept) in
        subst (GoodAnswer P op need) (sym exact)
        (known it.slot it.kept (it.last ∙ ap (λ (r : Request). r.sequence) same))
    good (Calls op) heard = tt
    good (TimesOut j) heard = tt
    good Leaves heard = tt
    good Resends heard = tt

    pub client_fine : (i : Input) → IsHeardByClient w c i → StepFine P K (client_step a.state i)
    client_fine i heard = step_fine P K a.state.next rules a.state refl fine i (good i heard)

  -- ---- the server's step

  sound_at : (w : World) (h : List Line) → IsMoment w h → T h → FilesSound w.server
  sound_at w h k t n f at =
      let x = (readable w h k t).files n f at in
      let y = shapes w h k n f at in
      record {
        shaped = record { map = x.map; few = y.few; components = y.components };
        drives = x.drives;
        fits = x.fits;
      }

  -- ---- at each moment

  pub clients_agree : (w : World) (h : List Line) → IsMoment w h → AllMet w h
  clients_agree =
      holds_always IsMet T (record {
        front = front;
        starts = λ c. record { helds = λ file h e. absurd (none_held file h e); call = tt };
        client = λ w h k t met c a found i heard.
            (client_fine w h k t c a found (subst (IsMet w.server c) (ap (state_of c) found) (met c)) i heard).client;
        server = λ w h k m d t u met g c.
            step_met w.server m.chosen g.input c (client_of w c) (safe w h k)
            (subst FilesSound g.server (sound_at (move w m).world (h ++ lines_in w m) (next_moment w h k m d) u))
            (own_request (clients_are_in_step kept more) w h k (readable w h k t) c g.input g.heard) (met c);
      }) more

-- a moment is reached
pub reached : (w : World) (h : List Line) → IsMoment w h → IsReached w
reached w h k = record {
  before = k.before;
  history = k.history;
  stands = k.stands;
  moves = k.moves;
  world_is = k.world_is;
}

pub all_agree : SlotsAreKept → OneEventMore → GrantsAreSafe → AnswersAreOwn → FilesHaveShape → ClientsAgree
all_agree kept more safe own shapes w h k t =
    clients_agree kept more (λ u g j. safe u (reached u g j)) own
    (λ u g j. shapes u (reached u g j)) IsReadableThrough readable_fronts readable_there w h k t
