-- How a client and its slot stand to each other goes on over a move.
use Rattle.std.proofs.Common.{◌≡◌, ◌≤◌, ◌+◌, ◌==◌, ℕ, true, List, ◌++◌, Option, Some, None, sym, ap, subst, ◌∙◌, arith, inl, inr, append_assoc}
use Rattle.std.proofs.lemmas.Bool.{cases_Bool}
use Rattle.std.proofs.lemmas.Bool.Decides.{nat_tests}
use Rattle.layout_ops.specs.declared.messages.Answer.{Answer}
use Rattle.client_rules.specs.declared.limits.TheConstants.{GREATEST_SEQUENCE}
use Rattle.client_rules.specs.Going.{after_number}
use Rattle.server_rules.specs.declared.server.Slot.{Slot}
use Rattle.server_rules.specs.Laws.{last_of}
use Rattle.scenario_text.specs.declared.line.Line.{Line}
use Rattle.world_history.specs.declared.messages.Body.{Body}
use Rattle.world_history.specs.declared.messages.Body.TheVariants.{Command as OfCommand, Reply as OfReply, Envelope as OfEnvelope}
use Rattle.layout_ops.specs.declared.envelope.Envelope.TheVariants as envelope
use Rattle.world_history.specs.declared.messages.Message.{Message}
use Rattle.history_law.specs.State.{Client, Request}
use Rattle.exchange_law.specs.Messages.{EachMessage, last_before, WasAsked, IsAsked, AsksOf, AnswersOf, IsSlotOf}
use Rattle.exchange_law.specs.Made.{WasMade}
use Rattle.exchange_law.specs.InStep.{IsServed, IsAwaiting, StandsAt}
use Rattle.exchange_law.proofs.SlotAsking.{RoomCall, AsksNone, AsksOne}
use Rattle.exchange_law.proofs.SlotLists.{each_map, each_more}

-- ---- a client at a moment

-- what holds of it by the messages, the slot and the lines so far; and what its call may still need has numbers
abbrev pub Parts : List Message → Option Slot → List Line → (c : ℕ) → Client → Type 0
Parts ms o h c x = record {
  number : x.number ≡ c;
  next : x.next ≤ GREATEST_SEQUENCE;
  asks : EachMessage (AsksOf c x) ms;
  answers : EachMessage (AnswersOf c o) ms;
  slot : (s : Slot) → o ≡ Some s → IsSlotOf c s;
  stands : StandsAt h c o (last_before x.next) x.outstanding;
  room : RoomCall x.held x.next x.call;
}

-- ---- lines more

pub made_on : (h ls : List Line) (c : ℕ) (r : Request) (a : Answer) → WasMade h c r a → WasMade (h ++ ls) c r a
made_on h ls c r a m = record {
  world = m.world;
  before = m.before;
  moment = m.moment;
  since = m.since ++ ls;
  history = ap (λ (l : List Line). l ++ ls) m.history ∙ append_assoc m.before m.since ls;
  request = m.request;
  read = m.read;
  client = m.client;
  sequence = m.sequence;
  new = m.new;
  next = m.next;
  is_due = m.is_due;
  server = m.server;
  answer = m.answer;
}

served_on : (h ls : List Line) (c : ℕ) (o : Option Slot) (r : Request) → IsServed h c o r → IsServed (h ++ ls) c o r
served_on h ls c o r s = record {
  slot = s.slot;
  kept = s.kept;
  last = s.last;
  made = made_on h ls c r s.slot.kept s.made;
}

awaiting_on : (h ls : List Line) (c : ℕ) (o : Option Slot) (last : ℕ) (r : Request) → IsAwaiting h c o last r
    → IsAwaiting (h ++ ls) c o last r
awaiting_on h ls c o last r a = record {
  client = a.client;
  first = a.first;
  sequence = a.sequence;
  served = elim a.served [ inl w ↦ inl w | inr s ↦ inr (served_on h ls c o r s) ];
}

pub stands_on : (h ls : List Line) (c : ℕ) (o : Option Slot) (last : ℕ) (r : Option Request) → StandsAt h c o last r
    → StandsAt (h ++ ls) c o last r
stands_on h ls c o last None s = s
stands_on h ls c o last (Some r) s = awaiting_on h ls c o last r s

-- the client and its slot stay, and more is sent
pub stays : (ms new : List Message) (o : Option Slot) (h ls : List Line) (c : ℕ) (x : Client) → Parts ms o h c x
    → EachMessage (AsksOf c x) new → EachMessage (AnswersOf c o) new → Parts (ms ++ new) o (h ++ ls) c x
stays ms new o h ls c x p asks answers = record {
  number = p.number;
  next = p.next;
  asks = each_more (AsksOf c x) ms new p.asks asks;
  answers = each_more (AnswersOf c o) ms new p.answers answers;
  slot = p.slot;
  stands = stands_on h ls c o (last_before x.next) x.outstanding p.stands;
  room = p.room;
}

-- ---- the slot and the last number

-- the slot has the client's last number, or the one before
pub at_most_one_behind : (h : List Line) (c : ℕ) (o : Option Slot) (last : ℕ) (r : Option Request)
    → StandsAt h c o last r → last ≤ last_of o + 1
at_most_one_behind h c o last None s = omega (arith, s)
at_most_one_behind h c o last (Some r) s = elim s.served [
  | inl w ↦ omega (arith, w, s.sequence)
  | inr v ↦ omega (arith, v.last, s.sequence, ap last_of v.kept)
]

pub last_small : (next : ℕ) → next ≤ GREATEST_SEQUENCE → last_before next ≤ GREATEST_SEQUENCE
last_small n l = elim (cases_Bool (n == 0)) [ inl t ↦ rw t (omega arith) | inr f ↦ rw f (omega (arith, l)) ]

-- the number of a request that was sent is the last from then on
pub last_after : (n : ℕ) → 1 ≤ n → n ≤ GREATEST_SEQUENCE → last_before (after_number n) ≡ n
last_after n some most = elim (cases_Bool (n == GREATEST_SEQUENCE)) [
  | inl t ↦ rw t (sym (it t))
  | inr f ↦ rw f (plus n)
]
  where
    it : (n == GREATEST_SEQUENCE) ≡ true → n ≡ GREATEST_SEQUENCE
    it t = grind (arith, nat_tests, t)

    plus : (k : ℕ) → last_before (k + 1) ≡ k
    plus k = elim (cases_Bool (k + 1 == 0)) [
      | inl t ↦ absurd (grind (arith, nat_tests, t))
      | inr f ↦ rw f (omega arith)
    ]

pub after_small : (n : ℕ) → n ≤ GREATEST_SEQUENCE → after_number n ≤ GREATEST_SEQUENCE
after_small n most = elim (cases_Bool (n == GREATEST_SEQUENCE)) [
  | inl t ↦ rw t (omega arith)
  | inr f ↦ rw f (let below : (n ≡ GREATEST_SEQUENCE → ⊥) = λ e. absurd (grind (arith, nat_tests, f, e)) in
      omega (arith, most, below))
]

pub last_one_less : (n : ℕ) → 1 ≤ n → last_before n + 1 ≡ n
last_one_less n some = elim (cases_Bool (n == 0)) [
  | inl t ↦ absurd (grind (arith, nat_tests, t, some))
  | inr f ↦ rw f (omega (arith, some))
]

-- ---- a client's step

-- what it asked before it asked before still
asked_still : (x y : Client) (q : Request) → y.number ≡ x.number → y.next ≡ x.next
    → ((r : Request) → y.outstanding ≡ Some r → x.outstanding ≡ Some r) → WasAsked x q → WasAsked y q
asked_still x y q number next out w = record {
  client = w.client ∙ sym number;
  first = w.first;
  last = subst (λ (n : ℕ). q.sequence ≤ last_before n) (sym next) w.last;
  outstanding = λ r is same. w.outstanding r (out r is) same;
}

asked_later : (x y : Client) (q r : Request) → y.number ≡ x.number → 1 ≤ x.next → x.next ≤ GREATEST_SEQUENCE
    → y.next ≡ after_number x.next → y.outstanding ≡ Some r → r.sequence ≡ x.next → WasAsked x q → WasAsked y q
asked_later x y q r number some most next out sequence w =
    let last : last_before y.next ≡ x.next = ap last_before next ∙ last_after x.next some most in
    let one : last_before x.next + 1 ≡ x.next = last_one_less x.next some in
    record {
      client = w.client ∙ sym number;
      first = w.first;
      last = omega (arith, w.last, last, one);
      outstanding = λ s is same.
          let it : r ≡ s = same_request out is in
          absurd (omega (arith, w.last, one, same, sequence, ap (λ (z : Request). z.sequence) it));
    }
  where
    same_request : {s : Request} → y.outstanding ≡ Some r → y.outstanding ≡ Some s → r ≡ s
    same_request e f = cc (sym e ∙ f)

-- over the bodies of messages
asks_body : (x y : Client) → ((q : Request) → WasAsked x q → WasAsked y q) → (b : Body) → IsAsked x b → IsAsked y b
asks_body x y f (OfEnvelope (envelope.Request q)) k = f q k
asks_body x y f (OfEnvelope (envelope.RecallAnswer a)) k = tt
asks_body x y f (OfEnvelope (envelope.Answer a)) k = absurd k
asks_body x y f (OfEnvelope (envelope.Recall a)) k = absurd k
asks_body x y f (OfEnvelope (envelope.Order a)) k = absurd k
asks_body x y f (OfEnvelope (envelope.OrderAnswer a)) k = absurd k
asks_body x y f (OfCommand a) k = absurd k
asks_body x y f (OfReply a) k = absurd k

asks_all : (c : ℕ) (x y : Client) (ms : List Message) → ((q : Request) → WasAsked x q → WasAsked y q)
    → EachMessage (AsksOf c x) ms → EachMessage (AsksOf c y) ms
asks_all c x y ms f k = each_map (λ m a from to. asks_body x y f m.body (a from to)) ms k

-- it asks nothing: perhaps its outstanding request was answered
pub rests_on : (ms new : List Message) (o : Option Slot) (h ls : List Line) (c : ℕ) (x y : Client)
    (out : Option Request)
    → Parts ms o h c x → y.number ≡ x.number → AsksNone x.next out y
    → ((r : Request) → out ≡ Some r → x.outstanding ≡ Some r) → StandsAt h c o (last_before x.next) out
    → RoomCall y.held y.next y.call
    → EachMessage (AsksOf c y) new → EachMessage (AnswersOf c o) new → Parts (ms ++ new) o (h ++ ls) c y
rests_on ms new o h ls c x y out p number a same stands room asks answers = record {
  number = number ∙ p.number;
  next = subst (λ (n : ℕ). n ≤ GREATEST_SEQUENCE) (sym a.0) p.next;
  asks = each_more (AsksOf c y) ms new
      (asks_all c x y ms (λ q w. asked_still x y q number a.0 (λ r e. same r (sym a.1 ∙ e)) w) p.asks) asks;
  answers = each_more (AnswersOf c o) ms new p.answers answers;
  slot = p.slot;
  stands =
      subst (λ (n : ℕ). StandsAt (h ++ ls) c o (last_before n) y.outstanding) (sym a.0)
      (subst (StandsAt (h ++ ls) c o (last_before x.next)) (sym a.1)
      (stands_on h ls c o (last_before x.next) out stands));
  room = room;
}

-- it asks
pub asks_on : (ms new : List Message) (o : Option Slot) (h ls : List Line) (c : ℕ) (x y : Client) (out : Option Request)
    → Parts ms o h c x → y.number ≡ x.number → (a : AsksOne x.number x.next out y)
    → StandsAt h c o (last_before x.next) out → RoomCall y.held y.next y.call
    → EachMessage (AsksOf c y) new → EachMessage (AnswersOf c o) new → Parts (ms ++ new) o (h ++ ls) c y
asks_on ms new o h ls c x y out p number a stands room asks answers =
    let r : Request = a.0 in
    let last : last_before y.next ≡ x.next = ap last_before a.5 ∙ last_after x.next a.2 p.next in
    let free : last_of o ≡ last_before x.next = subst (StandsAt h c o (last_before x.next)) a.1 stands in
    record {
      number = number ∙ p.number;
      next = subst (λ (n : ℕ). n ≤ GREATEST_SEQUENCE) (sym a.5) (after_small x.next p.next);
      asks = each_more (AsksOf c y) ms new
          (asks_all c x y ms (λ q w. asked_later x y q r number a.2 p.next a.5 a.6 a.4 w) p.asks) asks;
      answers = each_more (AnswersOf c o) ms new p.answers answers;
      slot = p.slot;
      stands =
          subst (StandsAt (h ++ ls) c o (last_before y.next)) (sym a.6) (record {
            client = a.3 ∙ p.number;
            first = omega (arith, a.2, a.4);
            sequence = a.4 ∙ sym last;
            served = inl (omega (arith, free, last_one_less x.next a.2, a.4));
          });
      room = room;
    }

-- a request that it sends is its outstanding one
pub new_asked : (c : ℕ) (h : List Line) (o : Option Slot) (ms : List Message) (y : Client) (q : Request)
    → y.number ≡ c → StandsAt h c o (last_before y.next) y.outstanding → y.outstanding ≡ Some q → WasAsked y q
new_asked c h o ms y q number stands out =
    let a : IsAwaiting h c o (last_before y.next) q = subst (StandsAt h c o (last_before y.next)) out stands in
    record {
      client = a.client ∙ sym number;
      first = a.first;
      last = omega (arith, a.sequence);
      outstanding = λ r is same. same_request out is;
    }
  where
    same_request : {r : Request} → y.outstanding ≡ Some q → y.outstanding ≡ Some r → q ≡ r
    same_request e f = cc (sym e ∙ f)
