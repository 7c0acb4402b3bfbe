-- The clients of a file that was just made: the machine has asked and answered what each of them did before.
-- Towards `EachFileIsCreated` (`file_simulation/specs/Simulation.antt`).
use Rattle.std.proofs.Common.{◌≡◌, ◌<◌, ◌≤◌, ◌⊎◌, ℕ, zero, suc, ◌+◌, Bool, true, false, List, [], ◌∷◌, ◌++◌, Option, Some, None, flat_map, refl, sym, subst, ◌∙◌, arith, inl, inr}
use Rattle.std.specs.List.{range_with_len}
use Rattle.std.proofs.lemmas.Bool.{cases_eq}
use Rattle.layout_ops.specs.declared.messages.Answer.{Answer as Told}
use Rattle.fence_law.specs.Words.{In}
use Rattle.fence_law.specs.State.{State, Layout, Event, Answer, Request}
use Rattle.fence_law.specs.State.RequestKind.{Get, Return}
use Rattle.fence_law.specs.State.Event.{Asks, Refuses, AsksOther, ServesOther, TakesOther, Fails}
use Rattle.fence_law.specs.Machine.{Lawful as IsLawfulRun, after, after_all}
use Rattle.fence_law.proofs.Words.{updated_other}
use Rattle.file_simulation.specs.Requests.{RequestClass, Own, Other}
use Rattle.file_simulation.specs.Creation.{earlier, asked}
use Rattle.relation_law.proofs.BirthsMachine.{IsYoung, young_all, IsEarly, AreEarly, early_more, lawful_more, after_more, IsReady, earlier_done, earlier_early, HasAsked, IsOut, get_lawful, get_has, refuses_lawful, refused_has, other_out, serves_lawful, served_out}

-- ---- what others leave

-- an event of client c alone, or a failure
abbrev pub IsEarlyOf : (c : ℕ) → Event → Type 0
IsEarlyOf c (Asks d rw) = d ≡ c
IsEarlyOf c (Refuses d kind) = d ≡ c
IsEarlyOf c (AsksOther d) = d ≡ c
IsEarlyOf c (ServesOther d) = d ≡ c
IsEarlyOf c (TakesOther d) = d ≡ c
IsEarlyOf c (Fails k) = Unit {0}
IsEarlyOf c e = ⊥

abbrev pub AreEarlyOf : (c : ℕ) → List Event → Type 0
AreEarlyOf c [] = Unit {0}
AreEarlyOf c (e ∷ es) = IsEarlyOf c e × AreEarlyOf c es

early_one : (c : ℕ) (e : Event) → IsEarlyOf c e → IsEarly e
early_one c (Asks d rw) i = tt
early_one c (Refuses d kind) i = tt
early_one c (AsksOther d) i = tt
early_one c (ServesOther d) i = tt
early_one c (TakesOther d) i = tt
early_one c (Fails k) i = tt
early_one c e i = absurd i

pub early_all : (c : ℕ) (es : List Event) → AreEarlyOf c es → AreEarly es
early_all c [] a = tt
early_all c (e ∷ es) a = (early_one c e a.0, early_all c es a.1)

of_more : (c : ℕ) (es fs : List Event) → AreEarlyOf c es → AreEarlyOf c fs → AreEarlyOf c (es ++ fs)
of_more c [] fs a b = b
of_more c (e ∷ es) fs a b = (a.0, of_more c es fs a.1 b)

-- what the machine has of client c stays, and what was sent stays sent
pub record HasStill (c : ℕ) (s t : State) : Type 0 where
  pub sequence : t.sequence c ≡ s.sequence c
  pub slot : t.slot c ≡ s.slot c
  pub waiting : t.waiting c ≡ s.waiting c
  pub away : t.away c ≡ s.away c
  pub asked : t.asked c ≡ s.asked c
  pub requests : (r : Request) → In r s.requests → In r t.requests
  pub answers : (a : Answer) → In a s.answers → In a t.answers

still_same : (c : ℕ) (s : State) → HasStill c s s
still_same c s = record {
  sequence = refl;
  slot = refl;
  waiting = refl;
  away = refl;
  asked = refl;
  requests = λ r i. i;
  answers = λ a i. i;
}

still_on : (c : ℕ) (s t u : State) → HasStill c s t → HasStill c t u → HasStill c s u
still_on c s t u a b = record {
  sequence = b.sequence ∙ a.sequence;
  slot = b.slot ∙ a.slot;
  waiting = b.waiting ∙ a.waiting;
  away = b.away ∙ a.away;
  asked = b.asked ∙ a.asked;
  requests = λ r i. b.requests r (a.requests r i);
  answers = λ x i. b.answers x (a.answers x i);
}

still_after : (c d : ℕ) → (c ≡ d → ⊥) → (s : State) (e : Event) → IsEarlyOf d e → HasStill c s (after s e)
still_after c d other s (Asks b rw) i =
    let apart : (c ≡ b → ⊥) = λ x. other (x ∙ i) in
    record {
      sequence = updated_other s.sequence b (s.sequence b + 1) c apart;
      slot = refl;
      waiting = updated_other s.waiting b true c apart;
      away = refl;
      asked = updated_other s.asked b (Get rw) c apart;
      requests = λ r j. inr j;
      answers = λ a j. j;
    }
still_after c d other s (Refuses b kind) i =
    let apart : (c ≡ b → ⊥) = λ x. other (x ∙ i) in
    record {
      sequence = refl;
      slot = updated_other s.slot b (s.slot b + 1) c apart;
      waiting = refl;
      away = refl;
      asked = refl;
      requests = λ r j. j;
      answers = λ a j. inr j;
    }
still_after c d other s (AsksOther b) i =
    let apart : (c ≡ b → ⊥) = λ x. other (x ∙ i) in
    record {
      sequence = updated_other s.sequence b (s.sequence b + 1) c apart;
      slot = refl;
      waiting = refl;
      away = updated_other s.away b true c apart;
      asked = refl;
      requests = λ r j. j;
      answers = λ a j. j;
    }
still_after c d other s (ServesOther b) i =
    let apart : (c ≡ b → ⊥) = λ x. other (x ∙ i) in
    record {
      sequence = refl;
      slot = updated_other s.slot b (s.slot b + 1) c apart;
      waiting = refl;
      away = refl;
      asked = refl;
      requests = λ r j. j;
      answers = λ a j. j;
    }
still_after c d other s (TakesOther b) i =
    let apart : (c ≡ b → ⊥) = λ x. other (x ∙ i) in
    record {
      sequence = refl;
      slot = refl;
      waiting = refl;
      away = updated_other s.away b false c apart;
      asked = refl;
      requests = λ r j. j;
      answers = λ a j. j;
    }
still_after c d other s (Fails k) i = record {
  sequence = refl;
  slot = refl;
  waiting = refl;
  away = refl;
  asked = refl;
  requests = λ r j. j;
  answers = λ a j. j;
}
still_after c d other s e i = absurd i

pub still_all : (c d : ℕ) → (c ≡ d → ⊥) → (s : State) (es : List Event) → AreEarlyOf d es → HasStill c s (after_all s es)
still_all c d other s [] a = still_same c s
still_all c d other s (e ∷ es) a =
    still_on c s (after s e) (after_all (after s e) es) (still_after c d other s e a.0)
    (still_all c d other (after s e) es a.1)

ready_still : (c n : ℕ) (s t : State) → HasStill c s t → IsReady c n s → IsReady c n t
ready_still c n s t h r = record {
  sequence = h.sequence ∙ r.sequence;
  slot = h.slot ∙ r.slot;
  waiting = h.waiting ∙ r.waiting;
  away = h.away ∙ r.away;
}

-- ---- one client

-- what the machine has of client c, of whose requests n were answered before the outstanding one, if there is one
pub data StandsSo (c n : ℕ) (s : State) : Option RequestClass → Bool → Type 0 where
  IsFree : IsReady c n s → (b : Bool) → StandsSo c n s None b
  IsAsking : (rw answered : Bool) → HasAsked c n rw answered s → StandsSo c n s (Some (Own (Get rw))) answered
  IsElsewhere : (answered : Bool) → IsOut c n answered s → StandsSo c n s (Some Other) answered

pub stands_still : (c n : ℕ) (s t : State) (o : Option RequestClass) (b : Bool) → HasStill c s t → StandsSo c n s o b →
    StandsSo c n t o b
stands_still c n s t o b h (IsFree r x) = IsFree (ready_still c n s t h r) x
stands_still c n s t o b h (IsAsking mode x a) = IsAsking mode x (record {
  sequence = h.sequence ∙ a.sequence;
  slot = h.slot ∙ a.slot;
  waiting = h.waiting ∙ a.waiting;
  away = h.away ∙ a.away;
  asked = h.asked ∙ a.asked;
  request = h.requests _ a.request;
  answer = λ e. h.answers _ (a.answer e);
})
stands_still c n s t o b h (IsElsewhere x a) = IsElsewhere x (record {
  sequence = h.sequence ∙ a.sequence;
  slot = h.slot ∙ a.slot;
  waiting = h.waiting ∙ a.waiting;
  away = h.away ∙ a.away;
})

abbrev pub is_told : Option Told → Bool
is_told None = false
is_told (Some a) = true

-- the request of a client that is there when the file is made is a LAYOUTGET on it, or another's
abbrev pub IsOfNew : Option RequestClass → Type 0
IsOfNew None = Unit {0}
IsOfNew (Some Other) = Unit {0}
IsOfNew (Some (Own (Get rw))) = Unit {0}
IsOfNew (Some (Own (Return clean))) = ⊥

-- the events of a client, with the class of its outstanding request and the answer to it
abbrev pub of_client : (c n : ℕ) → Option RequestClass → Option Told → List Event
of_client c n None o = earlier c n
of_client c n (Some k) o = earlier c n ++ asked c k o

request_stands : (m : Layout) (c n : ℕ) (s : State) → IsYoung m s → IsReady c n s → (k : RequestClass) →
    IsOfNew (Some k) → (o : Option Told) → IsLawfulRun s (asked c k o)
    × StandsSo c n (after_all s (asked c k o)) (Some k) (is_told o)
request_stands m c n s y r (Own (Get rw)) i None =
    ((get_lawful m c n s y r rw, tt), IsAsking rw false (get_has m c n s y r rw))
request_stands m c n s y r (Own (Get rw)) i (Some a) = (
  (get_lawful m c n s y r rw, (refuses_lawful m c n s y r rw, tt)),
  IsAsking rw true (refused_has m c n s y r rw),
)
request_stands m c n s y r (Own (Return clean)) i o = absurd i
request_stands m c n s y r Other i None =
    ((record { free = r.waiting; home = r.away }, tt), IsElsewhere false (other_out m c n s y r))
request_stands m c n s y r Other i (Some a) = (
  (record { free = r.waiting; home = r.away }, (serves_lawful m c n s y r, tt)),
  IsElsewhere true (served_out m c n s y r),
)

client_stands : (m : Layout) (c n : ℕ) (s : State) → IsYoung m s → IsReady c 0 s → (k : Option RequestClass) →
    IsOfNew k → (o : Option Told) → IsLawfulRun s (of_client c n k o)
    × StandsSo c n (after_all s (of_client c n k o)) k (is_told o)
client_stands m c n s y r None i o =
    let e = earlier_done c n 0 s r in
    (e.0, IsFree (subst (λ (x : ℕ). IsReady c x (after_all s (earlier c n))) (omega arith) e.1) (is_told o))
client_stands m c n s y r (Some k) i o =
    let e = earlier_done c n 0 s r in
    let t : State = after_all s (earlier c n) in
    let young : IsYoung m t = young_all m s (earlier c n) (earlier_early c n) y in
    let ready : IsReady c n t = subst (λ (x : ℕ). IsReady c x t) (omega arith) e.1 in
    let rest = request_stands m c n t young ready k i o in (
      lawful_more s (earlier c n) (asked c k o) e.0 rest.0,
      subst (λ (u : State). StandsSo c n u (Some k) (is_told o)) (sym (after_more s (earlier c n) (asked c k o))) rest.1,
    )

earlier_of : (c n : ℕ) → AreEarlyOf c (earlier c n)
unfolding earlier
earlier_of c zero = tt
earlier_of c (suc n) = (refl, (refl, (refl, earlier_of c n)))

asked_of : (c : ℕ) (k : RequestClass) (o : Option Told) → IsOfNew (Some k) → AreEarlyOf c (asked c k o)
asked_of c (Own (Get rw)) None i = (refl, tt)
asked_of c (Own (Get rw)) (Some a) i = (refl, (refl, tt))
asked_of c (Own (Return clean)) o i = absurd i
asked_of c Other None i = (refl, tt)
asked_of c Other (Some a) i = (refl, (refl, tt))

client_of_it : (c n : ℕ) (k : Option RequestClass) (o : Option Told) → IsOfNew k → AreEarlyOf c (of_client c n k o)
client_of_it c n None o i = earlier_of c n
client_of_it c n (Some k) o i = of_more c (earlier c n) (asked c k o) (earlier_of c n) (asked_of c k o i)

-- ---- all clients

module _ (m : Layout) (number : ℕ → ℕ) (class : ℕ → Option RequestClass) (told : ℕ → Option Told)
    (new : (c : ℕ) → IsOfNew (class c)) where
  abbrev pub of_one : ℕ → List Event
  of_one c = of_client c (number c) (class c) (told c)

  -- from client a on, none was heard of
  abbrev pub AreFresh : (a : ℕ) → State → Type 0
  AreFresh a s = (c : ℕ) → a ≤ c → IsReady c 0 s

  -- n clients from client a on stand so, and the machine has the others still
  pub record AllStand (a n : ℕ) (s : State) (es : List Event) : Type 0 where
    pub lawful : IsLawfulRun s es
    pub early : AreEarly es
    pub stands : (c : ℕ) → a ≤ c → c < a + n → StandsSo c (number c) (after_all s es) (class c) (is_told (told c))
    pub others : (c : ℕ) → (c < a) ⊎ (a + n ≤ c) → HasStill c s (after_all s es)

  pub stand_from : (a n : ℕ) (s : State) → IsYoung m s → AreFresh a s →
      AllStand a n s (flat_map of_one (range_with_len a n))
  stand_from a zero s y fresh = record {
    lawful = tt;
    early = tt;
    stands = λ c low high. absurd (omega (arith, low, high));
    others = λ c i. still_same c s;
  }
  stand_from a (suc n) s y fresh =
      let first = client_stands m a (number a) s y (fresh a (omega arith)) (class a) (new a) (told a) in
      let of_a : AreEarlyOf a (of_one a) = client_of_it a (number a) (class a) (told a) (new a) in
      let t : State = after_all s (of_one a) in
      let young : IsYoung m t = young_all m s (of_one a) (early_all a (of_one a) of_a) y in
      let rest_events : List Event = flat_map of_one (range_with_len (a + 1) n) in
      let fresh_then : AreFresh (a + 1) t = λ c low.
      ready_still c 0 s t (still_all c a (λ e. absurd (omega (arith, low, e))) s (of_one a) of_a)
      (fresh c (omega (arith, low))) in
      let rest : AllStand (a + 1) n t rest_events = stand_from (a + 1) n t young fresh_then in
      let u : State = after_all t rest_events in
      let end : after_all s (of_one a ++ rest_events) ≡ u = after_more s (of_one a) rest_events in
      record {
        lawful = lawful_more s (of_one a) rest_events first.0 rest.lawful;
        early = early_more (of_one a) rest_events (early_all a (of_one a) of_a) rest.early;
        stands = λ c low high.
            subst (λ (v : State). StandsSo c (number c) v (class c) (is_told (told c))) (sym end)
            (elim (cases_eq c a) [
              | inl same ↦
                  subst (λ (b : ℕ). StandsSo b (number b) u (class b) (is_told (told b))) (sym same)
                  (stands_still a (number a) t u (class a) (is_told (told a))
                  (rest.others a (inl (omega arith))) first.1)
              | inr other ↦ rest.stands c (omega (arith, low, other)) (omega (arith, high))
            ]);
        others = λ c i.
            subst (HasStill c s) (sym end)
            (still_on c s t u (still_all c a (λ e. apart c i e) s (of_one a) of_a) (rest.others c (further c i)));
      }
    where
      apart : (c : ℕ) → (c < a) ⊎ (a + suc n ≤ c) → c ≡ a → ⊥
      apart c (inl l) e = absurd (omega (arith, l, e))
      apart c (inr l) e = absurd (omega (arith, l, e))

      further : (c : ℕ) → (c < a) ⊎ (a + suc n ≤ c) → (c < a + 1) ⊎ (a + 1 + n ≤ c)
      further c (inl l) = inl (omega (arith, l))
      further c (inr l) = inr (omega (arith, l))
