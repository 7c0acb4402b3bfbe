-- Grants in use and writes stay below `high` through each event.
-- Towards `HighGoesOn` (`specs/Steps.antt`).
use Rattle.std.proofs.Common.{◌≡◌, ℕ, ◌+◌, ◌<◌, Bool, true, false, List, [], ◌∷◌, Option, Some, None, ◌⊎◌, refl, sym, ap, ◌∙◌, inl, inr, arith}
use Rattle.std.proofs.lemmas.Bool.{true≢false, eqb-true}
use Rattle.std.proofs.lemmas.Option.{same_Some}
use Rattle.world_history.specs.ServerNames.{File}
use Rattle.fence_law.specs.Words.{updated, In}
use Rattle.fence_law.specs.State.{State, Event, Grant, Answer, Start}
use Rattle.fence_law.specs.Starts.{granted, written_start, read_start, repair_start, rebuilt_start}
use Rattle.fence_law.specs.Machine.{Allowed, after, after_all, Lawful}
use Rattle.fence_law.specs.State.Event.{Asks, Grants, Refuses, Takes, AsksOther, GivesBack, Reports, Forgets, Frees, Fenced, Refenced, StartsWrite, StartsRead, Acknowledges, Leaves, TakesRefusal, Repairs, Repaired, Rebuilds}
use Rattle.fence_law.specs.Law.{IsUnsettled}
use Rattle.fence_law.proofs.Words.{updated_read}
use Rattle.fence_law.proofs.Slots.{Slots}
use Rattle.fence_law.proofs.Formed.{added}
use Rattle.fence_law.proofs.Later.{gathered_covers, unsettled_added, unsettled_acks, unsettled_fenced, unsettled_refenced}
use Rattle.fence_law.proofs.Safe.{Safe, keep_safe}
use Rattle.plan_law.specs.FileLayout.{stripe_of_column}
use Rattle.file_simulation.specs.Phases.{IsBelowHigh, IsInUse, Outstanding, Held, Answered, IsEndedAt, AreBelowHigh}
use Rattle.relation_law.specs.KeptHigh.{HighNeeds}

module _ (f : File) where
  -- ---- part by part

  abbrev OutLow : State → Type 0
  OutLow b = (c : ℕ) (x : Grant) → b.outstanding c ≡ Some x → IsBelowHigh f x

  abbrev HeldLow : State → Type 0
  HeldLow b = (c : ℕ) (x : Grant) → b.held c ≡ Some x → IsBelowHigh f x

  abbrev ComesLow : State → Type 0
  ComesLow b = (c size : ℕ) (x : Grant) → b.waiting c ≡ true →
      In (record { client = c; sequence = b.sequence c; grant = Some x; size = size }) b.answers → IsBelowHigh f x

  abbrev WritesLow : State → Type 0
  WritesLow b = (j x : ℕ) → (b.start j).is_write ≡ true → (b.start j).touch x ≡ true →
      stripe_of_column f.kept.map x < f.kept.high

  abbrev Worked : State → Type 0
  Worked b = b.repairing ≡ true → (j x : ℕ) → IsUnsettled b j → (b.start j).touch x ≡ true → IsEndedAt f x

  -- ---- what is outstanding

  gone : (b : State) (c : ℕ) → OutLow b → (d : ℕ) (x : Grant) → updated b.outstanding c None d ≡ Some x → IsBelowHigh f x
  gone b c h d x e = elim (updated_read b.outstanding c None d).1 [
    | inl w ↦ absurd (cc (sym w.1 ∙ e))
    | inr w ↦ h d x (sym w.1 ∙ e)
  ]

  given : (b : State) (c : ℕ) (g : Grant) → IsBelowHigh f g → OutLow b → (d : ℕ) (x : Grant)
      → updated b.outstanding c (Some g) d ≡ Some x → IsBelowHigh f x
  given b c g low h d x e = elim (updated_read b.outstanding c (Some g) d).1 [
    | inl w ↦ let same : Some g ≡ Some x = sym w.1 ∙ e in rw (sym (same_Some g x same)) low
    | inr w ↦ h d x (sym w.1 ∙ e)
  ]

  keep_out : (b : State) (e : Event) → HighNeeds b f e → OutLow b → OutLow (after b e)
  keep_out b (Grants c number rw range extending) n h = given b c (granted b c number rw range extending) n h
  keep_out b (Leaves c g) n h = gone b c h
  keep_out b (Frees c) n h = gone b c h
  keep_out b Fenced n h = λ c x e. absurd (cc e)
  keep_out b Refenced n h = λ c x e. absurd (cc e)
  keep_out b e n h = h

  -- ---- what is held

  lets_go : (b : State) (c : ℕ) → HeldLow b → (d : ℕ) (x : Grant) → updated b.held c None d ≡ Some x → IsBelowHigh f x
  lets_go b c h d x e = elim (updated_read b.held c None d).1 [
    | inl w ↦ absurd (cc (sym w.1 ∙ e))
    | inr w ↦ h d x (sym w.1 ∙ e)
  ]

  takes : (b : State) (c : ℕ) (o : Option Grant) (size : ℕ) → Allowed b (Takes c o size) → ComesLow b → HeldLow b
      → (d : ℕ) (x : Grant) → updated b.held c o d ≡ Some x → IsBelowHigh f x
  takes b c o size a k h d x e = elim (updated_read b.held c o d).1 [
    | inl w ↦ let is : o ≡ Some x = sym w.1 ∙ e in k c size x a.waits (rw is at a.comes)
    | inr w ↦ h d x (sym w.1 ∙ e)
  ]

  keep_held : (b : State) (e : Event) → Allowed b e → ComesLow b → HeldLow b → HeldLow (after b e)
  keep_held b (Takes c o size) a k h = takes b c o size a k h
  keep_held b (GivesBack c g) a k h = lets_go b c h
  keep_held b (Reports c g) a k h = lets_go b c h
  keep_held b (Forgets c) a k h = lets_go b c h
  keep_held b (Leaves c g) a k h = lets_go b c h
  keep_held b (TakesRefusal c j) a k h = lets_go b c h
  keep_held b e a k h = h

  -- ---- what is to be taken

  asks : (b : State) (c : ℕ) → Slots b → ComesLow b → (d size : ℕ) (x : Grant) → updated b.waiting c true d ≡ true
      → In (record { client = d; sequence = updated b.sequence c (b.sequence c + 1) d; grant = Some x; size = size }) b.answers
      → IsBelowHigh f x
  asks b c s k d size x w i = elim (updated_read b.sequence c (b.sequence c + 1) d).1 [
    | inl y ↦
        absurd (grind (
          arith,
          s.near c,
          y.0,
          y.1,
          (s.told (record {
            client = d;
            sequence = updated b.sequence c (b.sequence c + 1) d;
            grant = Some x;
            size = size;
          }) i).0,
        ))
    | inr y ↦ k d size x (grind (arith, updated_read b.waiting c true d, y.0, w)) (rw y.1 at i)
  ]

  asks_other : (b : State) (c : ℕ) → b.waiting c ≡ false → ComesLow b → (d size : ℕ) (x : Grant) → b.waiting d ≡ true
      → In (record { client = d; sequence = updated b.sequence c (b.sequence c + 1) d; grant = Some x; size = size }) b.answers
      → IsBelowHigh f x
  asks_other b c free k d size x w i = elim (updated_read b.sequence c (b.sequence c + 1) d).1 [
    | inl y ↦ absurd (true≢false (sym w ∙ ap b.waiting y.0 ∙ free))
    | inr y ↦ k d size x w (rw y.1 at i)
  ]

  answered : (b : State) (a : Answer) → a.grant ≡ None → ComesLow b → (d size : ℕ) (x : Grant) → b.waiting d ≡ true
      → In (record { client = d; sequence = b.sequence d; grant = Some x; size = size }) (a ∷ b.answers) → IsBelowHigh f x
  answered b a none k d size x w (inl e) = absurd (cc (ap (λ (y : Answer). y.grant) e ∙ none))
  answered b a none k d size x w (inr i) = k d size x w i

  answered_with : (b : State) (a : Answer) (g : Grant) → a.grant ≡ Some g → IsBelowHigh f g → ComesLow b
      → (d size : ℕ) (x : Grant) → b.waiting d ≡ true
      → In (record { client = d; sequence = b.sequence d; grant = Some x; size = size }) (a ∷ b.answers) → IsBelowHigh f x
  answered_with b a g is low k d size x w (inl e) =
      let same : Some x ≡ Some g = ap (λ (y : Answer). y.grant) e ∙ is in rw (same_Some x g same) low
  answered_with b a g is low k d size x w (inr i) = k d size x w i

  keep_comes : (b : State) (e : Event) → Allowed b e → HighNeeds b f e → Slots b → ComesLow b → ComesLow (after b e)
  keep_comes b (Asks c rw) a n s k = asks b c s k
  keep_comes b (GivesBack c g) a n s k = asks b c s k
  keep_comes b (Reports c g) a n s k = asks b c s k
  keep_comes b (AsksOther c) a n s k = asks_other b c a.free k
  keep_comes b (Takes c o size) a n s k = λ d z x w i. k d z x (grind (arith, updated_read b.waiting c false d, w)) i
  keep_comes b (Refuses c kind) a n s k = answered b _ refl k
  keep_comes b (Frees c) a n s k = answered b _ refl k
  keep_comes b (Grants c number rw range extending) a n s k =
      answered_with b _ (granted b c number rw range extending) refl n k
  keep_comes b e a n s k = k

  -- ---- what is written

  row_added : (b : State) (r : Start)
      → ((x : ℕ) → r.is_write ≡ true → r.touch x ≡ true → stripe_of_column f.kept.map x < f.kept.high) → WritesLow b
      → (j x : ℕ) → (updated b.start b.count r j).is_write ≡ true → (updated b.start b.count r j).touch x ≡ true
      → stripe_of_column f.kept.map x < f.kept.high
  row_added b r new h j x w t = elim (updated_read b.start b.count r j).1 [
    | inl y ↦ new x (rw y.1 at w) (rw y.1 at t)
    | inr y ↦ h j x (rw y.1 at w) (rw y.1 at t)
  ]

  keep_writes : (b : State) (e : Event) → Allowed b e → Safe b → HeldLow b → WritesLow b → WritesLow (after b e)
  keep_writes b (StartsWrite c g i d touch hit seen e1 part) a s h k =
      row_added b (written_start b c g d touch hit seen e1 part)
      (λ x w t. h c g a.has a.may x (gathered_covers b c g i d touch hit seen e1 part a s.calls x t)) k
  keep_writes b (StartsRead c g lo hi reach) a s h k =
      row_added b (read_start b c g lo hi reach) (λ x w t. absurd (true≢false (sym w))) k
  keep_writes b (Repairs j cells e0) a s h k =
      row_added b (repair_start b j cells e0) (λ x w t. absurd (true≢false (sym w))) k
  keep_writes b (Rebuilds j cells) a s h k =
      row_added b (rebuilt_start b j cells) (λ x w t. absurd (true≢false (sym w))) k
  keep_writes b e a s h k = k

  -- ---- what a repair works on

  worked_added : (b : State) (r : Start) (row : ℕ → ℕ → Bool)
      → (b.repairing ≡ true → r.is_write ≡ true → r.alive ≡ true
      → (r.tag ≡ b.tag) ⊎ ((b.repairing ≡ true) × (r.tag ≡ b.ended_tag)) → ⊥)
      → Worked b → Worked (added b r row)
  worked_added b r row new k m j x o t = elim (updated_read b.start b.count r j).1 [
    | inl y ↦ elim (unsettled_added b r row j o) [
      | inl z ↦ absurd (new m z.1 z.2 z.3)
      | inr z ↦ absurd (z.0 y.0)
    ]
    | inr y ↦ elim (unsettled_added b r row j o) [
      | inl z ↦ absurd (y.0 z.0)
      | inr z ↦ k m j x z.1 (rw y.1 at t)
    ]
  ]

  -- what an unsettled write touches is covered by an outstanding grant for writing, if no repair runs
  covered : (b : State) → b.repairing ≡ false → Safe b
      → ((c : ℕ) (x : Grant) → b.outstanding c ≡ Some x → x.rw ≡ true → (q : ℕ) → x.covers q ≡ true → IsEndedAt f q)
      → (j x : ℕ) → IsUnsettled b j → (b.start j).touch x ≡ true → IsEndedAt f x
  covered b r s n j x o t =
      let tag : (b.start j).tag ≡ b.tag = grind (arith, o.4, r) in
      let g = s.open_granted j (o.0, o.1, o.2, o.3, tag) in
      n (b.start j).client g.0 g.1 g.3 x (g.4 x t)

  keep_worked : (b : State) (e : Event) → Allowed b e → HighNeeds b f e → Safe b → Worked b → Worked (after b e)
  keep_worked b (StartsWrite c g i d touch hit seen e1 part) a n s k =
      worked_added b (written_start b c g d touch hit seen e1 part) (λ j z. false)
      (λ m w l t. grind (arith, s.holds.has c g a.has, s.mending.outstanding c m, eqb-true g.tag b.tag l)) k
  keep_worked b (StartsRead c g lo hi reach) a n s k =
      worked_added b (read_start b c g lo hi reach) (λ j z. false) (λ m w l t. absurd (true≢false (sym w))) k
  keep_worked b (Repairs j cells e0) a n s k =
      worked_added b (repair_start b j cells e0) (λ g y. updated (λ w. false) j true g)
      (λ m w l t. absurd (true≢false (sym w))) k
  keep_worked b (Rebuilds j cells) a n s k =
      worked_added b (rebuilt_start b j cells) (λ g y. updated (λ w. false) j true g)
      (λ m w l t. absurd (true≢false (sym w))) k
  keep_worked b (Acknowledges c i) a n s k = λ m j x o t. k m j x (unsettled_acks b i j o).1 t
  keep_worked b Fenced a n s k = λ m j x o t. covered b a.first s n j x (unsettled_fenced b j s.formed o) t
  keep_worked b Refenced a n s k = λ m j x o t. k m j x (unsettled_refenced b j s.formed o) t
  keep_worked b (Repaired done e0) a n s k = λ m. absurd (true≢false (sym m))
  keep_worked b e a n s k = k

  -- ---- all of it

  pub use_of : (b : State) (x : Grant) → OutLow b → HeldLow b → ComesLow b → IsInUse b x → IsBelowHigh f x
  use_of b x o h k (Outstanding c e) = o c x e
  use_of b x o h k (Held c e) = h c x e
  use_of b x o h k (Answered c size w i) = k c size x w i

  pub high_after : (b : State) (e : Event) → Allowed b e → HighNeeds b f e → Safe b → AreBelowHigh b f
      → AreBelowHigh (after b e) f
  high_after b e a n s h =
      let out : OutLow b = λ c x i. h.grants x (Outstanding c i) in
      let held : HeldLow b = λ c x i. h.grants x (Held c i) in
      let comes : ComesLow b = λ c size x w i. h.grants x (Answered c size w i) in
      record {
        grants = λ x. use_of (after b e) x (keep_out b e n out) (keep_held b e a comes held) (keep_comes b e a n s.slots comes);
        writes = keep_writes b e a s held h.writes;
        worked = keep_worked b e a n s h.worked;
      }

-- what each of some events needs
abbrev pub AllNeed : File → State → List Event → Type 0
AllNeed f b [] = Unit {0}
AllNeed f b (e ∷ es) = HighNeeds b f e × AllNeed f (after b e) es

pub high_after_all : (f : File) (b : State) (es : List Event) → Lawful b es → AllNeed f b es → Safe b → AreBelowHigh b f
    → AreBelowHigh (after_all b es) f
high_after_all f b [] l n s h = h
high_after_all f b (e ∷ es) l n s h =
    high_after_all f (after b e) es l.1 n.1 (keep_safe b e l.0 s) (high_after f b e l.0 n.0 s h)
