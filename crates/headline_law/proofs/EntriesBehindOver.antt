-- A grant that is over is over behind the events of a client.
-- Towards `CutsKeepEntries` (`specs/EntriesTied.antt`).
use Rattle.std.proofs.Common.{◌≡◌, ◌≤◌, ◌<◌, ◌+◌, ℕ, Bool, true, false, List, [], ◌∷◌, Option, Some, None, refl, sym, ap, subst, ◌∙◌, inl, inr, arith}
use Rattle.std.proofs.lemmas.Bool.{cases_eq, true≢false}
use Rattle.fence_law.specs.Machine.{Allowed, Lawful, after, after_all}
use Rattle.fence_law.specs.Starts.{written_start, read_start}
use Rattle.fence_law.specs.State.{State, Event, Grant, Start}
use Rattle.fence_law.specs.State.Event.{Asks, Takes, AsksOther, TakesOther, GivesBack, Reports, Forgets, StartsWrite, Sends, Learns, Acknowledges, Breaks, StartsRead, Answers, EndsRead, Tells, AsksCommit, TakesCommit, TakesRefusal}
use Rattle.fence_law.specs.Words.{updated, In}
use Rattle.fence_law.proofs.Safe.{Safe, keep_safe}
use Rattle.fence_law.proofs.Slots.{Slots}
use Rattle.fence_law.proofs.Words.{updated_same, updated_other}
use Rattle.relation_law.specs.Frames.{AreAll, IsOfClient}

-- A grant is over in the machine: its writes are acknowledged, and no client holds it or can take it any more.
abbrev pub IsOverIn : State → (number : ℕ) → Type 0
IsOverIn s number = record {
  acknowledged : (j : ℕ) → j < s.count → (s.start j).is_write ≡ true → (s.start j).grant ≡ number → s.acknowledged j ≡ true;
  unheld : (c : ℕ) (x : Grant) → s.held c ≡ Some x → x.number ≡ number → ⊥;
  untaken : (c size : ℕ) (x : Grant) → s.waiting c ≡ true →
      In (record { client = c; sequence = s.sequence c; grant = Some x; size = size }) s.answers → x.number ≡ number → ⊥;
}

-- ---- parts

abbrev Unheld : (held : ℕ → Option Grant) → (number : ℕ) → Type 0
Unheld held number = (c : ℕ) (x : Grant) → held c ≡ Some x → x.number ≡ number → ⊥

abbrev Untaken : State → (waiting : ℕ → Bool) → (sequence : ℕ → ℕ) → (number : ℕ) → Type 0
Untaken s waiting sequence number =
    (c size : ℕ) (x : Grant) → waiting c ≡ true →
    In (record { client = c; sequence = sequence c; grant = Some x; size = size }) s.answers → x.number ≡ number → ⊥

-- a client gives its grant up
pub given_up : (held : ℕ → Option Grant) (number c : ℕ) → Unheld held number → Unheld (updated held c None) number
given_up held number c k d x has same = elim (cases_eq d c) [
  | inl e ↦ cc (sym (ap (updated held c None) e ∙ updated_same held c None) ∙ has)
  | inr other ↦ k d x (sym (updated_other held c None d other) ∙ has) same
]

-- no answer to a later request was sent
none_ahead : (s : State) (c n size : ℕ) (o : Option Grant) → Slots s → s.sequence c < n →
    In (record { client = c; sequence = n; grant = o; size = size }) s.answers → ⊥
none_ahead s c n size o z less i =
    let told = z.told (record { client = c; sequence = n; grant = o; size = size }) i in
    let slot : s.slot c ≤ s.sequence c = elim (z.near c) [
      | inl k ↦ let e : s.slot c ≡ s.sequence c = k.2 in omega (arith, e)
      | inr k ↦ elim k.1 [
        | inl e ↦ omega (arith, e)
        | inr e ↦ omega (arith, e)
      ]
    ] in
    let low : n ≤ s.slot c = told.0 in
    omega (arith, slot, low, less)

-- a client asks
asked_on : (s : State) (number c : ℕ) (waiting : ℕ → Bool) → Slots s → ((d : ℕ) → (d ≡ c → ⊥) → waiting d ≡ s.waiting d) →
    Untaken s s.waiting s.sequence number → Untaken s waiting (updated s.sequence c (s.sequence c + 1)) number
asked_on s number c waiting z same k d size x waits i is = elim (cases_eq d c) [
  | inl e ↦
      let next : updated s.sequence c (s.sequence c + 1) d ≡ s.sequence d + 1 =
      ap (updated s.sequence c (s.sequence c + 1)) e ∙ updated_same s.sequence c (s.sequence c + 1)
      ∙ ap (λ (n : ℕ). s.sequence n + 1) (sym e) in
      none_ahead s d (updated s.sequence c (s.sequence c + 1) d) size (Some x) z (omega (arith, next)) i
  | inr other ↦
      k d size x (sym (same d other) ∙ waits)
      (subst (λ (n : ℕ). In (record { client = d; sequence = n; grant = Some x; size = size }) s.answers)
      (updated_other s.sequence c (s.sequence c + 1) d other) i) is
]

-- a client takes an answer
taken_on : (s : State) (number c : ℕ) → Untaken s s.waiting s.sequence number →
    Untaken s (updated s.waiting c false) s.sequence number
taken_on s number c k d size x waits i is = elim (cases_eq d c) [
  | inl e ↦
      true≢false (sym waits ∙ ap (updated s.waiting c false) e ∙ updated_same s.waiting c false)
  | inr other ↦ k d size x (sym (updated_other s.waiting c false d other) ∙ waits) i is
]

taken_held : (s : State) (number c size : ℕ) (o : Option Grant) → s.waiting c ≡ true →
    In (record { client = c; sequence = s.sequence c; grant = o; size = size }) s.answers → IsOverIn s number →
    Unheld (updated s.held c o) number
taken_held s number c size o waits comes k d x has same = elim (cases_eq d c) [
  | inl e ↦
      let it : o ≡ Some x = sym (ap (updated s.held c o) e ∙ updated_same s.held c o) ∙ has in
      k.untaken c size x waits
      (subst (λ (p : Option Grant). In (record { client = c; sequence = s.sequence c; grant = p; size = size }) s.answers) it
      comes) same
  | inr other ↦ k.unheld d x (sym (updated_other s.held c o d other) ∙ has) same
]

-- an entry begins, which is no write under the grant
begun_on : (s : State) (number : ℕ) (y : Start) → (y.is_write ≡ true → y.grant ≡ number → ⊥) → IsOverIn s number → (j : ℕ) →
    j < s.count + 1 → (updated s.start s.count y j).is_write ≡ true → (updated s.start s.count y j).grant ≡ number →
    updated s.acknowledged s.count false j ≡ true
begun_on s number y none k j low write under = elim (cases_eq j s.count) [
  | inl e ↦
      let at_ : updated s.start s.count y j ≡ y = ap (updated s.start s.count y) e ∙ updated_same s.start s.count y in
      absurd (none (sym (ap (λ (z : Start). z.is_write) at_) ∙ write) (sym (ap (λ (z : Start). z.grant) at_) ∙ under))
  | inr other ↦
      let at_ : updated s.start s.count y j ≡ s.start j = updated_other s.start s.count y j other in
      updated_other s.acknowledged s.count false j other
      ∙ k.acknowledged j (omega (arith, low, other)) (sym (ap (λ (z : Start). z.is_write) at_) ∙ write)
      (sym (ap (λ (z : Start). z.grant) at_) ∙ under)
]

-- ---- events

waits_else : (s : State) (c : ℕ) (b : Bool) (d : ℕ) → (d ≡ c → ⊥) → updated s.waiting c b d ≡ s.waiting d
waits_else s c b d other = updated_other s.waiting c b d other

over_one : (number d : ℕ) (s : State) (e : Event) → IsOfClient d e → Allowed s e → Safe s → IsOverIn s number →
    IsOverIn (after s e) number
over_one number d s (Asks c rw) o a z k = record {
  acknowledged = k.acknowledged;
  unheld = k.unheld;
  untaken = asked_on s number c (updated s.waiting c true) z.slots (waits_else s c true) k.untaken;
}
over_one number d s (Takes c g size) o a z k = record {
  acknowledged = k.acknowledged;
  unheld = taken_held s number c size g a.waits a.comes k;
  untaken = taken_on s number c k.untaken;
}
over_one number d s (AsksOther c) o a z k = record {
  acknowledged = k.acknowledged;
  unheld = k.unheld;
  untaken = asked_on s number c s.waiting z.slots (λ e other. refl) k.untaken;
}
over_one number d s (GivesBack c g) o a z k = record {
  acknowledged = k.acknowledged;
  unheld = given_up s.held number c k.unheld;
  untaken = asked_on s number c (updated s.waiting c true) z.slots (waits_else s c true) k.untaken;
}
over_one number d s (Reports c g) o a z k = record {
  acknowledged = k.acknowledged;
  unheld = given_up s.held number c k.unheld;
  untaken = asked_on s number c (updated s.waiting c true) z.slots (waits_else s c true) k.untaken;
}
over_one number d s (Forgets c) o a z k = record {
  acknowledged = k.acknowledged;
  unheld = given_up s.held number c k.unheld;
  untaken = k.untaken;
}
over_one number d s (TakesRefusal c j) o a z k = record {
  acknowledged = k.acknowledged;
  unheld = given_up s.held number c k.unheld;
  untaken = k.untaken;
}
over_one number d s (StartsWrite c g i bytes touch hit seen past part) o a z k = record {
  acknowledged = begun_on s number (written_start s c g bytes touch hit seen past part)
      (λ write under. k.unheld c g a.has under) k;
  unheld = k.unheld;
  untaken = k.untaken;
}
over_one number d s (StartsRead c g lo hi reach) o a z k = record {
  acknowledged = begun_on s number (read_start s c g lo hi reach) (λ write under. true≢false (sym write)) k;
  unheld = k.unheld;
  untaken = k.untaken;
}
over_one number d s (Acknowledges c i) o a z k = record {
  acknowledged = λ j low write under. elim (cases_eq j i) [
    | inl e ↦ ap (updated s.acknowledged i true) e ∙ updated_same s.acknowledged i true
    | inr other ↦ updated_other s.acknowledged i true j other ∙ k.acknowledged j low write under
  ];
  unheld = k.unheld;
  untaken = k.untaken;
}
over_one number d s (TakesOther c) o a z k = k
over_one number d s (Sends c n g j i v) o a z k = k
over_one number d s (Learns c n j v i) o a z k = k
over_one number d s (Breaks c j) o a z k = k
over_one number d s (Answers c j bytes) o a z k = k
over_one number d s (EndsRead c j) o a z k = k
over_one number d s (Tells j) o a z k = k
over_one number d s (AsksCommit c j) o a z k = k
over_one number d s (TakesCommit c j) o a z k = k
over_one number d s e o a z k = absurd o

-- So it is behind all of them, where they can happen.
pub over_all : (number d : ℕ) (s : State) (es : List Event) → AreAll (IsOfClient d) es → Lawful s es → Safe s →
    IsOverIn s number → IsOverIn (after_all s es) number
over_all number d s [] all l z k = k
over_all number d s (e ∷ es) all l z k =
    over_all number d (after s e) es all.1 l.1 (keep_safe s e l.0 z) (over_one number d s e all.0 l.0 z k)
