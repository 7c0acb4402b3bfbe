-- A grant that is over is over behind the events of the server that give no grant of its number.
-- Towards `CutsKeepEntries` (`specs/EntriesTied.antt`).
use Rattle.std.proofs.Common.{◌≡◌, ◌<◌, ℕ, true, List, [], ◌∷◌, Option, Some, None, refl, sym, ap, ◌∙◌, inl, inr}
use Rattle.std.proofs.lemmas.Bool.{cases_eq, cases_lt, true≢false}
use Rattle.fence_law.specs.Machine.{after, after_all}
use Rattle.fence_law.specs.Starts.{granted}
use Rattle.fence_law.specs.State.{State, Event, Grant, Answer, Start}
use Rattle.fence_law.specs.State.Event.{Grants, Refuses, ServesOther, Frees, Fences, Fenced, Refenced, Fails, Drops, Declares, Loses, Leaves, Acknowledges, Commits, RefusesCommit, Repaired, Rebuilds}
use Rattle.fence_law.specs.Words.{In}
use Rattle.fence_law.proofs.Words.{updated_at, updated_other}
use Rattle.relation_law.specs.Frames.{AreAll, IsOfServer}
use Rattle.headline_law.proofs.EntriesPairs.{EntriesStay, silent_stay}
use Rattle.headline_law.proofs.EntriesBehindOver.{IsOverIn, given_up}

-- a grant that is given has another number
abbrev pub IsApartFrom : (number : ℕ) → Event → Type 0
IsApartFrom number (Grants c n wide range extending) = n ≡ number → ⊥
IsApartFrom number e = Unit {0}

-- ---- parts

abbrev Untaken : State → (answers : List Answer) → (number : ℕ) → Type 0
Untaken s answers number =
    (c size : ℕ) (x : Grant) → s.waiting c ≡ true →
    In (record { client = c; sequence = s.sequence c; grant = Some x; size = size }) answers → x.number ≡ number → ⊥

-- an answer without a grant
answered : (s : State) (number : ℕ) (a : Answer) → a.grant ≡ None → Untaken s s.answers number →
    Untaken s (a ∷ s.answers) number
answered s number a none k c size x waits (inl e) same = cc (ap (λ (y : Answer). y.grant) e ∙ none)
answered s number a none k c size x waits (inr i) same = k c size x waits i same

-- one with a grant of another number
given : (s : State) (number : ℕ) (a : Answer) (g : Grant) → a.grant ≡ Some g → (g.number ≡ number → ⊥) →
    Untaken s s.answers number → Untaken s (a ∷ s.answers) number
given s number a g is other k c size x waits (inl e) same =
    let it : Some x ≡ Some g = ap (λ (y : Answer). y.grant) e ∙ is in
    let its : x ≡ g = cc it in
    other (ap (λ (y : Grant). y.number) (sym its) ∙ same)
given s number a g is other k c size x waits (inr i) same = k c size x waits i same

abbrev Acknowledged : State → (number : ℕ) → Type 0
Acknowledged s number =
    (j : ℕ) → j < s.count → (s.start j).is_write ≡ true → (s.start j).grant ≡ number → s.acknowledged j ≡ true

acknowledged_on : (s t : State) (number : ℕ) → EntriesStay s t → Acknowledged s number → Acknowledged t number
acknowledged_on s t number stay k j low write grant = elim (cases_lt j s.count) [
  | inl old ↦
      stay.acknowledged j old
      ∙ k j old (ap (λ (y : Start). y.is_write) (sym (stay.start j old)) ∙ write)
      (ap (λ (y : Start). y.grant) (sym (stay.start j old)) ∙ grant)
  | inr new ↦ absurd (true≢false (sym write ∙ (stay.passed j new low).write))
]

-- ---- one event, and all

over_one : (number : ℕ) (o : Option ℕ) (s : State) (e : Event) → IsOfServer o e → IsApartFrom number e → IsOverIn s number →
    IsOverIn (after s e) number
over_one number o s (Grants c n wide range extending) is apart k = record {
  acknowledged = k.acknowledged;
  unheld = k.unheld;
  untaken = given s number _ (granted s c n wide range extending) refl apart k.untaken;
}
over_one number o s (Refuses c kind) is apart k = record {
  acknowledged = k.acknowledged;
  unheld = k.unheld;
  untaken = answered s number _ refl k.untaken;
}
over_one number o s (Frees c) is apart k = record {
  acknowledged = k.acknowledged;
  unheld = k.unheld;
  untaken = answered s number _ refl k.untaken;
}
over_one number o s (Leaves c g) is apart k = record {
  acknowledged = k.acknowledged;
  unheld = given_up s.held number c k.unheld;
  untaken = k.untaken;
}
over_one number o s (Acknowledges c i) is apart k = record {
  acknowledged = λ j low write grant. elim (cases_eq j i) [
    | inl same ↦ updated_at s.acknowledged i true j same
    | inr other ↦ updated_other s.acknowledged i true j other ∙ k.acknowledged j low write grant
  ];
  unheld = k.unheld;
  untaken = k.untaken;
}
over_one number o s (Rebuilds n cells) is apart k = record {
  acknowledged = acknowledged_on s (after s (Rebuilds n cells)) number (silent_stay s (Rebuilds n cells ∷ []) (tt, tt))
      k.acknowledged;
  unheld = k.unheld;
  untaken = k.untaken;
}
over_one number o s (ServesOther c) is apart k = k
over_one number o s Fences is apart k = k
over_one number o s Fenced is apart k = k
over_one number o s Refenced is apart k = k
over_one number o s (Fails n) is apart k = k
over_one number o s (Drops n) is apart k = k
over_one number o s (Declares n) is apart k = k
over_one number o s (Loses c n) is apart k = k
over_one number o s (Commits c j g) is apart k = k
over_one number o s (RefusesCommit c j) is apart k = k
over_one number o s (Repaired done e) is apart k = k
over_one number o s e is apart k = absurd is

pub over_server : (number : ℕ) (o : Option ℕ) (s : State) (es : List Event) → AreAll (IsOfServer o) es →
    AreAll (IsApartFrom number) es → IsOverIn s number → IsOverIn (after_all s es) number
over_server number o s [] is apart k = k
over_server number o s (e ∷ es) is apart k =
    over_server number o (after s e) es is.1 apart.1 (over_one number o s e is.0 apart.0 k)

-- where the server's events are of no request, no grant is given
none_given : (number : ℕ) (e : Event) → IsOfServer None e → IsApartFrom number e
none_given number (Grants c n wide range extending) is = cc is
none_given number e is = tt

pub over_unasked : (number : ℕ) (s : State) (es : List Event) → AreAll (IsOfServer None) es → IsOverIn s number →
    IsOverIn (after_all s es) number
over_unasked number s [] is k = k
over_unasked number s (e ∷ es) is k =
    over_unasked number (after s e) es is.1 (over_one number None s e is.0 (none_given number e is.0) k)
