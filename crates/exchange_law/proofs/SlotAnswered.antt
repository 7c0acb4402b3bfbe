-- The server's step keeps each client in step.
use Rattle.std.proofs.Common.{◌≡◌, ◌≤◌, ◌<◌, ◌+◌, ℕ, List, ◌++◌, Option, Some, None, map, filter, refl, sym, ap, subst, ◌∙◌, arith, inl, inr, ne_eqb}
use Rattle.osd_lists.specs.declared.node.Node.TheVariants as node
use Rattle.layout_ops.specs.declared.messages.Answer.{Answer}
use Rattle.layout_ops.specs.declared.envelope.Envelope.TheVariants as envelope
use Rattle.client_rules.specs.declared.limits.TheConstants.{GREATEST_SEQUENCE, MAX_CLIENT}
use Rattle.server_rules.specs.declared.files.File.{File}
use Rattle.server_rules.specs.declared.requests.ClientRequest.{ClientRequest}
use Rattle.server_rules.specs.declared.server.Server.{Server}
use Rattle.server_rules.specs.declared.server.Slot.{Slot}
use Rattle.server_rules.specs.Files.{Step, file_at}
use Rattle.server_rules.specs.Laws.{last_of, SlotsAreKept}
use Rattle.server_rules.specs.Slots.{Admit, New, Again, Misordered, slot_of, admit}
use Rattle.server_rules.specs.Messages.{Asks}
use Rattle.server_rules.specs.Envelopes as server
use Rattle.server_rules.specs.Requests.{on_request}
use Rattle.scenario_text.specs.declared.line.Line.{Line}
use Rattle.world_history.specs.declared.messages.Body.{Body}
use Rattle.world_history.specs.declared.messages.Body.TheVariants.{Command as OfCommand, Reply as OfReply, Envelope as OfEnvelope}
use Rattle.world_history.specs.declared.messages.Message.{Message}
use Rattle.world_history.specs.Handed.{is_addressed, server_post}
use Rattle.world_history.specs.Spelled.{spelled}
use Rattle.history_law.specs.State.{Client, Request}
use Rattle.exchange_law.specs.Doing.{posted}
use Rattle.exchange_law.specs.Messages.{EachMessage, last_before, WasAsked, IsAsked, AsksOf, WasAnswered, IsToldBySlot, AnswersOf, IsSlotOf}
use Rattle.exchange_law.specs.Made.{WasMade, answer_at, answer_to}
use Rattle.exchange_law.specs.InStep.{IsAwaiting, StandsAt}
use Rattle.exchange_law.proofs.Admitting.{is_next, is_last, is_earlier}
use Rattle.exchange_law.proofs.SlotLists.{each_map, each_more, addressed_each, server_asks_none, server_answers}
use Rattle.exchange_law.proofs.SlotReading.{server_reads, server_reads_none}
use Rattle.history_law.specs.Answers.{AnswersOnly, Never, IsQuiet}
use Rattle.exchange_law.proofs.SlotServing.{Comes, request_comes}
use Rattle.exchange_law.proofs.Standing.{Parts, stays, at_most_one_behind, last_small}

-- what goes out of a step
abbrev pub sent_by : Step → List Message
sent_by t = posted (filter is_addressed (map server_post t.sends))

no_asks : (c : ℕ) (x : Client) (t : Step) → EachMessage (AsksOf c x) (sent_by t)
no_asks c x t = addressed_each (AsksOf c x) (map server_post t.sends) (server_asks_none c x t.sends)

answers : (c : ℕ) (o : Option Slot) (Q : Answer → Type 0) (t : Step) → AnswersOnly Q t.sends
    → ((a : Answer) → Q a → a.client ≡ c → WasAnswered c o a) → EachMessage (AnswersOf c o) (sent_by t)
answers c o Q t only was =
    addressed_each (AnswersOf c o) (map server_post t.sends) (server_answers c o Q was t.sends only)

module _ (ms : List Message) (h ls : List Line) where
  -- ---- a quiet step

  pub quiet_keeps : (s : Server) (t : Step) (c : ℕ) (x : Client) → Parts ms (slot_of s.slots c) h c x → IsQuiet s t
      → Parts (ms ++ sent_by t) (slot_of t.state.slots c) (h ++ ls) c x
  quiet_keeps s t c x p q =
      subst (λ (ss : List Slot). Parts (ms ++ sent_by t) (slot_of ss c) (h ++ ls) c x) (sym q.slots)
      (stays ms (sent_by t) (slot_of s.slots c) h ls c x p (no_asks c x t)
      (answers c (slot_of s.slots c) Never t q.sends (λ a n e. absurd n)))

  -- a step that leaves the slots, and answers others alone
  others_keep : (s : Server) (t : Step) (c : ℕ) (x : Client) (Q : Answer → Type 0)
      → Parts ms (slot_of s.slots c) h c x → slot_of t.state.slots c ≡ slot_of s.slots c → AnswersOnly Q t.sends
      → ((a : Answer) → Q a → a.client ≡ c → WasAnswered c (slot_of s.slots c) a)
      → Parts (ms ++ sent_by t) (slot_of t.state.slots c) (h ++ ls) c x
  others_keep s t c x Q p same only was =
      subst (λ (o : Option Slot). Parts (ms ++ sent_by t) o (h ++ ls) c x) (sym same)
      (stays ms (sent_by t) (slot_of s.slots c) h ls c x p (no_asks c x t)
      (answers c (slot_of s.slots c) Q t only was))

-- ---- a request that is read

-- what was sent, as it is read
pub record IsReadOf (x : Client) (b : Body) (q : ClientRequest) : Type 0 where
  pub request : Request
  pub body : b ≡ OfEnvelope (envelope.Request request)
  pub asked : WasAsked x request
  pub client : q.client ≡ request.client
  pub sequence : q.sequence ≡ request.sequence

pub read_of : (c : ℕ) (x : Client) (b : Body) (q : ClientRequest) → x.number ≡ c → c ≤ MAX_CLIENT
    → x.next ≤ GREATEST_SEQUENCE → IsAsked x b → server.message_in (node.Client c) (spelled b) ≡ Some (Asks q)
    → IsReadOf x b q
read_of c x (OfEnvelope (envelope.Request r)) q number named next k e =
    let small = last_small x.next next in
    let w = server_reads c r q (omega (arith, k.client, number, named), omega (arith, k.last, small)) e in
    record { request = r; body = refl; asked = k; client = w.0; sequence = w.1 }
read_of c x (OfEnvelope (envelope.RecallAnswer a)) q number named next k e = absurd (server_reads_none c a q e)
read_of c x (OfEnvelope (envelope.Answer a)) q number named next k e = absurd k
read_of c x (OfEnvelope (envelope.Recall a)) q number named next k e = absurd k
read_of c x (OfEnvelope (envelope.Order a)) q number named next k e = absurd k
read_of c x (OfEnvelope (envelope.OrderAnswer a)) q number named next k e = absurd k
read_of c x (OfCommand a) q number named next k e = absurd k
read_of c x (OfReply a) q number named next k e = absurd k

-- ---- a new request

-- its answer is to it
at_client : (s : Server) (now : ℕ) (chosen : List ℕ) (q : ClientRequest) (f : Option File)
    → ((answer_at s now chosen q f).client ≡ q.client) × ((answer_at s now chosen q f).sequence ≡ q.sequence)
at_client s now chosen q None = (refl, refl)
at_client s now chosen q (Some f) = (refl, refl)

pub answer_is_to : (s : Server) (now : ℕ) (chosen : List ℕ) (q : ClientRequest)
    → ((answer_to s now chosen q).client ≡ q.client) × ((answer_to s now chosen q).sequence ≡ q.sequence)
answer_is_to s now chosen q = at_client s now chosen q (file_at s.files q.file)

-- it is the outstanding one
pub is_outstanding : (h : List Line) (c : ℕ) (x : Client) (o : Option Slot) (r : Request) (n : ℕ) (p : Option Request)
    → x.outstanding ≡ p → StandsAt h c o (last_before x.next) p → WasAsked x r → n ≡ r.sequence → n ≡ last_of o + 1
    → x.outstanding ≡ Some r
is_outstanding h c x o r n None is stands w same next =
    absurd (omega (arith, stands, w.last, same, next))
is_outstanding h c x o r n (Some p) is stands w same next = elim stands.served [
  | inl v ↦
      let it : r ≡ p = w.outstanding p is (omega (arith, same, next, v)) in
      is ∙ ap (λ (y : Request). Some y) (sym it)
  | inr v ↦ absurd (omega (arith, w.last, same, next, v.last, stands.sequence, ap last_of v.kept))
]

module _ (ms : List Message) (h ls : List Line) (c : ℕ) (x : Client) (o : Option Slot) where
  abbrev made_slot : ℕ → Answer → Slot
  made_slot n a = record { client = c; last = n; kept = a }

  earlier_answers : (n : ℕ) (a : Answer) → last_of o < n → (b : Body) → IsToldBySlot c o b
      → IsToldBySlot c (Some (made_slot n a)) b
  earlier_answers n a less (OfEnvelope (envelope.Answer b)) k =
      let l : last_of o ≡ k.slot.last = ap last_of k.kept in
      record {
        client = k.client;
        slot = made_slot n a;
        kept = refl;
        last = omega (arith, less, l, k.last);
        same = λ e. absurd (omega (arith, less, l, k.last, e));
      }
  earlier_answers n a less (OfEnvelope (envelope.Recall r)) k = tt
  earlier_answers n a less (OfEnvelope (envelope.Request r)) k = absurd k
  earlier_answers n a less (OfEnvelope (envelope.RecallAnswer r)) k = absurd k
  earlier_answers n a less (OfEnvelope (envelope.Order r)) k = absurd k
  earlier_answers n a less (OfEnvelope (envelope.OrderAnswer r)) k = absurd k
  earlier_answers n a less (OfCommand r) k = absurd k
  earlier_answers n a less (OfReply r) k = absurd k

  -- the slot has the new request's number and answer
  pub new_keeps : (n : ℕ) (a : Answer) (new : List Message) (r : Request) → Parts ms o h c x → c ≤ MAX_CLIENT
      → n ≡ last_of o + 1 → last_of o < GREATEST_SEQUENCE → a.client ≡ c → a.sequence ≡ n → x.outstanding ≡ Some r
      → r.sequence ≡ n → WasMade (h ++ ls) c r a → EachMessage (AsksOf c x) new
      → EachMessage (AnswersOf c (Some (made_slot n a))) new
      → Parts (ms ++ new) (Some (made_slot n a)) (h ++ ls) c x
  new_keeps n a new r p named next below client sequence out same made asks given =
      let w : IsAwaiting h c o (last_before x.next) r = subst (StandsAt h c o (last_before x.next)) out p.stands in
      record {
        number = p.number;
        next = p.next;
        asks = each_more (AsksOf c x) ms new p.asks asks;
        answers =
            each_more (AnswersOf c (Some (made_slot n a))) ms new
            (each_map (λ m k from to. earlier_answers n a (omega (arith, next)) m.body (k from to)) ms p.answers) given;
        slot = λ s is. slot_so s is;
        stands =
            subst (StandsAt (h ++ ls) c (Some (made_slot n a)) (last_before x.next)) (sym out) (record {
              client = w.client;
              first = w.first;
              sequence = w.sequence;
              served = inr (record { slot = made_slot n a; kept = refl; last = sym same; made = made });
            });
        room = p.room;
      }
    where
      slot_so : (s : Slot) → Some (made_slot n a) ≡ Some s → IsSlotOf c s
      slot_so s is =
          let it : made_slot n a ≡ s = cc is in
          subst (IsSlotOf c) it
          (record { named = named; client = client; sequence = sequence; last = omega (arith, next, below) })

-- ---- any request

module _ (kept : SlotsAreKept) (ms : List Message) (h ls : List Line) (s : Server) (now : ℕ) (chosen : List ℕ)
    (q : ClientRequest) (named : q.client ≤ MAX_CLIENT) (t : Step) where
  -- of its client
  module _ (x : Client) (p : Parts ms (slot_of s.slots q.client) h q.client x) (b : Body) (r : IsReadOf x b q)
      (made : x.outstanding ≡ Some r.request → admit (slot_of s.slots q.client) q.sequence ≡ New
      → WasMade (h ++ ls) q.client r.request (answer_to s now chosen q)) where
    abbrev o : Option Slot
    o = slot_of s.slots q.client

    own_keeps : (a : Admit) → admit o q.sequence ≡ a → Comes s now chosen q a t
        → Parts (ms ++ sent_by t) (slot_of t.state.slots q.client) (h ++ ls) q.client x
    own_keeps New is k =
        let it = is_next o q.sequence is in
        let out : x.outstanding ≡ Some r.request =
        is_outstanding h q.client x o r.request q.sequence x.outstanding refl p.stands r.asked r.sequence it.next in
        let a : Answer = answer_to s now chosen q in
        let slot : Slot = record { client = q.client; last = q.sequence; kept = a } in
        let found : slot_of t.state.slots q.client ≡ Some slot =
        ap (λ (ss : List Slot). slot_of ss q.client) k.slots ∙ (kept s.slots slot).0 in
        let to = answer_is_to s now chosen q in
        subst (λ (z : Option Slot). Parts (ms ++ sent_by t) z (h ++ ls) q.client x) (sym found)
        (new_keeps ms h ls q.client x o q.sequence a (sent_by t) r.request p named it.next it.below to.0 to.1 out
        (sym r.sequence) (made out is) (no_asks q.client x t)
        (answers q.client (Some slot) (λ b. b ≡ a) t k.sends (λ b e f. new_answer slot a b e f refl refl to.1)))
      where
        new_answer : (slot : Slot) (a b : Answer) → b ≡ a → b.client ≡ q.client → slot.last ≡ q.sequence
            → slot.kept ≡ a → a.sequence ≡ q.sequence → WasAnswered q.client (Some slot) b
        new_answer slot a b e f l g n = record {
          client = f;
          slot = slot;
          kept = refl;
          last = omega (arith, l, n, ap (λ (z : Answer). z.sequence) e);
          same = λ m. e ∙ sym g;
        }
    own_keeps (Again answer) is k =
        let it = is_last o q.sequence answer is in
        let slot = p.slot it.slot it.there in
        others_keep ms h ls s t q.client x (λ a. a ≡ answer) p
        (ap (λ (z : Server). slot_of z.slots q.client) k.0) k.1
        (λ a e f. again it.slot it.there a (e ∙ sym it.answer) f slot.sequence)
      where
        again : (slot : Slot) → o ≡ Some slot → (a : Answer) → a ≡ slot.kept → a.client ≡ q.client
            → slot.kept.sequence ≡ slot.last → WasAnswered q.client o a
        again slot there a e f n = record {
          client = f;
          slot = slot;
          kept = there;
          last = omega (arith, n, ap (λ (z : Answer). z.sequence) e);
          same = λ m. e;
        }
    own_keeps (Misordered expected) is k =
        let most = at_most_one_behind h q.client o (last_before x.next) x.outstanding p.stands in
        let small = last_small x.next p.next in
        let it = is_earlier o q.sequence expected is (omega (arith, r.sequence, r.asked.first))
        (omega (arith, r.sequence, r.asked.last, most)) (omega (arith, r.sequence, r.asked.last, small)) in
        others_keep ms h ls s t q.client x (λ a. (a.client ≡ q.client) × (a.sequence ≡ q.sequence)) p
        (ap (λ (z : Server). slot_of z.slots q.client) k.0) k.1
        (λ a e f. record {
          client = f;
          slot = it.slot;
          kept = it.there;
          last = omega (arith, e.1, it.earlier);
          same = λ m. absurd (omega (arith, e.1, it.earlier, m));
        })

    pub own_request : t ≡ on_request s now chosen q
        → Parts (ms ++ sent_by t) (slot_of t.state.slots q.client) (h ++ ls) q.client x
    own_request is =
        own_keeps (admit o q.sequence) refl
        (subst (Comes s now chosen q (admit o q.sequence)) (sym is) (request_comes s now chosen q))

  -- of another client
  module _ (c : ℕ) (x : Client) (p : Parts ms (slot_of s.slots c) h c x) (other : q.client ≡ c → ⊥)
      (own : (k : Slot) → slot_of s.slots q.client ≡ Some k → IsSlotOf q.client k) where
    other_keeps : (a : Admit) → admit (slot_of s.slots q.client) q.sequence ≡ a → Comes s now chosen q a t
        → Parts (ms ++ sent_by t) (slot_of t.state.slots c) (h ++ ls) c x
    other_keeps New is k =
        let a : Answer = answer_to s now chosen q in
        let slot : Slot = record { client = q.client; last = q.sequence; kept = a } in
        others_keep ms h ls s t c x (λ b. b ≡ a) p
        (ap (λ (ss : List Slot). slot_of ss c) k.slots ∙ (kept s.slots slot).1 c (ne_eqb q.client c other)) k.sends
        (λ b e f. absurd (other (sym (answer_is_to s now chosen q).0 ∙ sym (ap (λ (z : Answer). z.client) e) ∙ f)))
    other_keeps (Again answer) is k =
        let it = is_last (slot_of s.slots q.client) q.sequence answer is in
        let slot = own it.slot it.there in
        others_keep ms h ls s t c x (λ a. a ≡ answer) p (ap (λ (z : Server). slot_of z.slots c) k.0) k.1
        (λ a e f. absurd (other (sym slot.client ∙ ap (λ (z : Answer). z.client) (it.answer ∙ sym e) ∙ f)))
    other_keeps (Misordered expected) is k =
        others_keep ms h ls s t c x (λ a. (a.client ≡ q.client) × (a.sequence ≡ q.sequence)) p
        (ap (λ (z : Server). slot_of z.slots c) k.0) k.1 (λ a e f. absurd (other (sym e.0 ∙ f)))

    pub other_request : t ≡ on_request s now chosen q
        → Parts (ms ++ sent_by t) (slot_of t.state.slots c) (h ++ ls) c x
    other_request is =
        other_keeps (admit (slot_of s.slots q.client) q.sequence) refl
        (subst (Comes s now chosen q (admit (slot_of s.slots q.client) q.sequence)) (sym is)
        (request_comes s now chosen q))
