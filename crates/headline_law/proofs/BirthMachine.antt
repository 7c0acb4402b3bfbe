-- The machine of a file that was just made: a lawful and calm run has reached it, its clients stand as they do in the world, and
-- what lies on a drive that has failed is lost.
-- Towards `EachFileIsCreated` (`file_simulation/specs/Simulation.antt`).
use Rattle.std.proofs.Common.{◌≡◌, ◌<◌, ◌≤◌, ℕ, zero, suc, ◌+◌, Bool, true, false, List, [], ◌∷◌, ◌++◌, Option, Some, None, flat_map, slice_get, refl, sym, ap, subst, ◌∙◌, arith}
use Rattle.std.specs.List.{range_with_len}
use Rattle.std.proofs.lemmas.List.{append-nil}
use Rattle.layout_ops.specs.declared.messages.Answer.{Answer as Told}
use Rattle.scenario_text.specs.declared.names.TheConstants.{CLIENTS}
use Rattle.server_rules.specs.Slots.{slot_of}
use Rattle.world_history.specs.ClientNames.{Client, Request}
use Rattle.world_history.specs.ServerNames.{Server, File, Component}
use Rattle.world_history.specs.State.{World, at_number}
use Rattle.fence_law.specs.State.{State, Layout, Event}
use Rattle.fence_law.specs.State.RequestKind.{Get, Return}
use Rattle.fence_law.specs.State.Event.{Asks, Refuses, AsksOther, ServesOther, TakesOther, Fails}
use Rattle.fence_law.specs.Law.{Calms, reached}
use Rattle.fence_law.specs.Machine.{Lawful as IsLawfulRun, after, after_all, new_file_state}
use Rattle.fence_law.specs.Words.{updated}
use Rattle.fence_law.proofs.Words.{updated_same, updated_other}
use Rattle.plan_law.specs.FileLayout.{layout_of}
use Rattle.file_simulation.specs.Components.{has_failed}
use Rattle.file_simulation.specs.Creation.{earlier, answered, asked, outstanding, client_before, fails_where, fails_from, first_events, created}
use Rattle.file_simulation.specs.Relation.{client_of}
use Rattle.file_simulation.specs.Requests.{RequestClass, Own, Other, class_of, kept_for}
use Rattle.file_simulation.specs.Showing.{IsRun}
use Rattle.relation_law.proofs.BirthsClients.{AllStand, AreEarlyOf, IsOfNew, StandsSo, is_told, of_client, stand_from, stands_still, still_all}
use Rattle.relation_law.proofs.BirthsMachine.{AreEarly, IsYoung, after_more, early_more, lawful_more, new_young, young_all, young_calms}

-- ---- failures

-- only failures
abbrev AreFailures : List Event → Type 0
AreFailures [] = Unit {0}
AreFailures (Fails k ∷ es) = AreFailures es
AreFailures (e ∷ es) = ⊥

failures_more : (es fs : List Event) → AreFailures es → AreFailures fs → AreFailures (es ++ fs)
failures_more [] fs a b = b
failures_more (Fails k ∷ es) fs a b = failures_more es fs a b
failures_more (e ∷ es) fs a b = absurd a

failures_lawful : (s : State) (es : List Event) → AreFailures es → IsLawfulRun s es
failures_lawful s [] a = tt
failures_lawful s (Fails k ∷ es) a = (tt, failures_lawful (record s { lost = updated s.lost k true }) es a)
failures_lawful s (e ∷ es) a = absurd a

failures_early : (es : List Event) → AreFailures es → AreEarly es
failures_early [] a = tt
failures_early (Fails k ∷ es) a = (tt, failures_early es a)
failures_early (e ∷ es) a = absurd a

failures_of : (c : ℕ) (es : List Event) → AreFailures es → AreEarlyOf c es
failures_of c [] a = tt
failures_of c (Fails k ∷ es) a = (tt, failures_of c es a)
failures_of c (e ∷ es) a = absurd a

where_failures : (b : Bool) (k : ℕ) → AreFailures (fails_where b k)
where_failures true k = tt
where_failures false k = tt

from_failures : (v : World) (cs : List Component) (k : ℕ) → AreFailures (fails_from v cs k)
unfolding fails_from
from_failures v [] k = tt
from_failures v (at ∷ cs) k =
    failures_more (fails_where (has_failed (at_number v.drives at.drive)) k) (fails_from v cs (k + 1))
    (where_failures (has_failed (at_number v.drives at.drive)) k) (from_failures v cs (k + 1))

-- components from number k on that haven't been lost yet are lost behind it if their drives have failed
record AreLostBehind (v : World) (cs : List Component) (k : ℕ) (s : State) : Type 0 where
  earlier : (n : ℕ) → n < k → (after_all s (fails_from v cs k)).lost n ≡ s.lost n
  lost : (n : ℕ) (at : Component) → slice_get cs n ≡ Some at →
      (after_all s (fails_from v cs k)).lost (k + n) ≡ has_failed (at_number v.drives at.drive)

where_earlier : (b : Bool) (k n : ℕ) (s : State) → (n ≡ k → ⊥) → (after_all s (fails_where b k)).lost n ≡ s.lost n
where_earlier true k n s other = updated_other s.lost k true n other
where_earlier false k n s other = refl

where_lost : (b : Bool) (k : ℕ) (s : State) → s.lost k ≡ false → (after_all s (fails_where b k)).lost k ≡ b
where_lost true k s none = updated_same s.lost k true
where_lost false k s none = none

lost_behind : (v : World) (cs : List Component) (k : ℕ) (s : State) → ((n : ℕ) → k ≤ n → s.lost n ≡ false) →
    AreLostBehind v cs k s
unfolding fails_from
lost_behind v [] k s none = record { earlier = λ n low. refl; lost = λ n at e. absurd (cc e) }
lost_behind v (at ∷ cs) k s none =
    let b : Bool = has_failed (at_number v.drives at.drive) in
    let t : State = after_all s (fails_where b k) in
    let end : after_all s (fails_where b k ++ fails_from v cs (k + 1)) ≡ after_all t (fails_from v cs (k + 1)) =
    after_more s (fails_where b k) (fails_from v cs (k + 1)) in
    let rest : AreLostBehind v cs (k + 1) t = lost_behind v cs (k + 1) t (λ n low.
    where_earlier b k n s (λ e. absurd (omega (arith, low, e))) ∙ none n (omega (arith, low))) in
    record {
      earlier = λ n low.
          ap (λ (u : State). u.lost n) end ∙ rest.earlier n (omega (arith, low))
          ∙ where_earlier b k n s (λ e. absurd (omega (arith, low, e)));
      lost = λ n y e. by n y e b refl t refl end rest;
    }
  where
    by : (n : ℕ) (y : Component) → slice_get (at ∷ cs) n ≡ Some y → (b : Bool) → b ≡ has_failed (at_number v.drives at.drive) →
        (t : State) → t ≡ after_all s (fails_where b k) →
        after_all s (fails_where b k ++ fails_from v cs (k + 1)) ≡ after_all t (fails_from v cs (k + 1)) →
        AreLostBehind v cs (k + 1) t →
        (after_all s (fails_where b k ++ fails_from v cs (k + 1))).lost (k + n) ≡ has_failed (at_number v.drives y.drive)
    by zero y e b is t behind end rest =
        let same : at ≡ y = cc e in
        ap (λ (u : State). u.lost (k + 0)) end
        ∙ subst (λ (n : ℕ). (after_all t (fails_from v cs (k + 1))).lost n ≡ b) (omega arith)
        (rest.earlier k (omega arith) ∙ ap (λ (u : State). u.lost k) behind ∙ where_lost b k s (none k (omega arith)))
        ∙ is ∙ ap (λ (z : Component). has_failed (at_number v.drives z.drive)) same
    by (suc n) y e b is t behind end rest =
        ap (λ (u : State). u.lost (k + suc n)) end
        ∙ subst (λ (i : ℕ). (after_all t (fails_from v cs (k + 1))).lost i ≡ has_failed (at_number v.drives y.drive))
        (omega arith) (rest.lost n y e)

-- ---- what clients did before

-- requests and answers alone
abbrev IsTalk : Event → Type 0
IsTalk (Asks c rw) = Unit {0}
IsTalk (Refuses c kind) = Unit {0}
IsTalk (AsksOther c) = Unit {0}
IsTalk (ServesOther c) = Unit {0}
IsTalk (TakesOther c) = Unit {0}
IsTalk e = ⊥

abbrev AreTalk : List Event → Type 0
AreTalk [] = Unit {0}
AreTalk (e ∷ es) = IsTalk e × AreTalk es

talk_more : (es fs : List Event) → AreTalk es → AreTalk fs → AreTalk (es ++ fs)
talk_more [] fs a b = b
talk_more (e ∷ es) fs a b = (a.0, talk_more es fs a.1 b)

talk_one : (s : State) (e : Event) → IsTalk e → (after s e).lost ≡ s.lost
talk_one s (Asks c rw) i = refl
talk_one s (Refuses c kind) i = refl
talk_one s (AsksOther c) i = refl
talk_one s (ServesOther c) i = refl
talk_one s (TakesOther c) i = refl
talk_one s e i = absurd i

talk_all : (s : State) (es : List Event) → AreTalk es → (after_all s es).lost ≡ s.lost
talk_all s [] a = refl
talk_all s (e ∷ es) a = talk_all (after s e) es a.1 ∙ talk_one s e a.0

earlier_talk : (c n : ℕ) → AreTalk (earlier c n)
unfolding earlier
earlier_talk c zero = tt
earlier_talk c (suc n) = (tt, (tt, (tt, earlier_talk c n)))

asked_talk : (c : ℕ) (k : RequestClass) (o : Option Told) → AreTalk (asked c k o)
asked_talk c (Own (Get rw)) None = (tt, tt)
asked_talk c (Own (Get rw)) (Some a) = (tt, (tt, tt))
asked_talk c (Own (Return clean)) None = (tt, tt)
asked_talk c (Own (Return clean)) (Some a) = (tt, (tt, tt))
asked_talk c Other None = (tt, tt)
asked_talk c Other (Some a) = (tt, (tt, tt))

client_talk : (c n : ℕ) (k : Option RequestClass) (o : Option Told) → AreTalk (of_client c n k o)
client_talk c n None o = earlier_talk c n
client_talk c n (Some k) o = talk_more (earlier c n) (asked c k o) (earlier_talk c n) (asked_talk c k o)

clients_talk : (g : ℕ → List Event) → ((c : ℕ) → AreTalk (g c)) → (xs : List ℕ) → AreTalk (flat_map g xs)
clients_talk g all [] = tt
clients_talk g all (x ∷ xs) = talk_more (g x) (flat_map g xs) (all x) (clients_talk g all xs)

-- the class of a client's outstanding request
abbrev pub class_for : (file : ℕ) → Client → Option Request → Option RequestClass
class_for file x None = None
class_for file x (Some r) = Some (class_of file x r)

before_is : (file : ℕ) (server : Server) (c : ℕ) (x : Client) (o : Option Request) →
    earlier c (answered x o) ++ outstanding file server c x o
    ≡ of_client c (answered x o) (class_for file x o) (kept_for (slot_of server.slots c) o)
before_is file server c x None = append-nil (earlier c (answered x None))
before_is file server c x (Some r) = refl

mapped_same : (g k : ℕ → List Event) → ((c : ℕ) → g c ≡ k c) → (xs : List ℕ) → flat_map g xs ≡ flat_map k xs
mapped_same g k same [] = refl
mapped_same g k same (x ∷ xs) =
    ap (λ (es : List Event). es ++ flat_map g xs) (same x) ∙ ap (λ (es : List Event). k x ++ es) (mapped_same g k same xs)

module _ (v : World) (f : File)
    (new : (c : ℕ) → IsOfNew (class_for f.kept.number (client_of v c) (client_of v c).outstanding)) where
  abbrev layout_ : Layout
  layout_ = layout_of f.kept.map f.kept.first_tag

  abbrev pub number_ : ℕ → ℕ
  number_ c = answered (client_of v c) (client_of v c).outstanding

  abbrev pub class_ : ℕ → Option RequestClass
  class_ c = class_for f.kept.number (client_of v c) (client_of v c).outstanding

  abbrev pub told_ : ℕ → Option Told
  told_ c = kept_for (slot_of v.server.slots c) (client_of v c).outstanding

  abbrev clients_ : List Event
  clients_ = flat_map (λ c. of_client c (number_ c) (class_ c) (told_ c)) (range_with_len 0 CLIENTS)

  abbrev failures_ : List Event
  failures_ = fails_from v f.kept.components 0

  first_is : first_events v f ≡ clients_ ++ failures_
  unfolding first_events
  first_is =
      ap (λ (es : List Event). es ++ failures_)
      (mapped_same (client_before v f.kept.number) (λ c. of_client c (number_ c) (class_ c) (told_ c))
      (λ c. before_is f.kept.number v.server c (client_of v c) (client_of v c).outstanding) (range_with_len 0 CLIENTS))

  all_stand : AllStand layout_ number_ class_ told_ new 0 CLIENTS (new_file_state layout_) clients_
  all_stand =
      stand_from layout_ number_ class_ told_ new 0 CLIENTS (new_file_state layout_) (new_young layout_)
      (λ c low. record { sequence = refl; slot = refl; waiting = refl; away = refl })

  abbrev between : State
  between = after_all (new_file_state layout_) clients_

  early : AreEarly (clients_ ++ failures_)
  early = early_more clients_ failures_ all_stand.early (failures_early failures_ (from_failures v f.kept.components 0))

  state_is : created v f ≡ after_all between failures_
  state_is = ap (reached layout_) first_is ∙ after_more (new_file_state layout_) clients_ failures_

  pub is_young : IsYoung layout_ (created v f)
  is_young =
      subst (λ (es : List Event). IsYoung layout_ (reached layout_ es)) (sym first_is)
      (young_all layout_ (new_file_state layout_) (clients_ ++ failures_) early (new_young layout_))

  pub is_run : IsRun (created v f)
  is_run = record {
    events = first_events v f;
    lawful =
        subst (λ (m : Layout). IsLawfulRun (new_file_state m) (first_events v f)) (sym is_young.layout)
        (subst (IsLawfulRun (new_file_state layout_)) (sym first_is)
        (lawful_more (new_file_state layout_) clients_ failures_ all_stand.lawful
        (failures_lawful between failures_ (from_failures v f.kept.components 0))));
    calm =
        subst (λ (m : Layout). Calms (new_file_state m) (first_events v f)) (sym is_young.layout)
        (subst (Calms (new_file_state layout_)) (sym first_is)
        (young_calms layout_ (new_file_state layout_) (clients_ ++ failures_) early (new_young layout_)));
    state = ap (λ (m : Layout). reached m (first_events v f)) (sym is_young.layout);
  }

  -- what the machine has of each client
  pub client_stands : (c : ℕ) → c < CLIENTS → StandsSo c (number_ c) (created v f) (class_ c) (is_told (told_ c))
  client_stands c low =
      subst (λ (u : State). StandsSo c (number_ c) u (class_ c) (is_told (told_ c))) (sym state_is)
      (stands_still c (number_ c) between (after_all between failures_) (class_ c) (is_told (told_ c))
      (still_all c (c + 1) (λ e. absurd (omega (arith, e))) between failures_
      (failures_of (c + 1) failures_ (from_failures v f.kept.components 0)))
      (all_stand.stands c (omega arith) low))

  -- each component whose drive has failed is lost
  pub is_lost : (k : ℕ) (at : Component) → slice_get f.kept.components k ≡ Some at →
      (created v f).lost k ≡ has_failed (at_number v.drives at.drive)
  is_lost k at e =
      ap (λ (u : State). u.lost k) state_is
      ∙ subst (λ (i : ℕ). (after_all between failures_).lost i ≡ has_failed (at_number v.drives at.drive)) (omega arith)
      ((lost_behind v f.kept.components 0 between (λ n low. none n)).lost k at e)
    where
      none : (n : ℕ) → between.lost n ≡ false
      none n =
          ap (λ (l : ℕ → Bool). l n)
          (talk_all (new_file_state layout_) clients_ (clients_talk (λ c. of_client c (number_ c) (class_ c) (told_ c))
          (λ c. client_talk c (number_ c) (class_ c) (told_ c)) (range_with_len 0 CLIENTS)))
