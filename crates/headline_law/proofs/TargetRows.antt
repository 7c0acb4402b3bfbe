-- What a rebuild makes of the rows that it heard: the words of the bytes that stand on all components that aren't gone.
use Rattle.std.proofs.Common.{◌≡◌, ℕ, zero, suc, ◌+◌, ◌-◌, ◌/◌, ◌%◌, ◌<◌, ◌≤◌, Bool, true, false, nat_lt, min, List, [], ◌∷◌, length, get_or, slice_index, take, filter, replicate, Option, Some, None, Contains, is_none, refl, sym, ap, subst, ◌∙◌, arith, inl, inr, eq-eqb, ne_eqb}
use Rattle.std.specs.List.{range_with_len}
use Rattle.std.proofs.lemmas.Bool.{cases_Bool, cases_eq, cases_lt, ltb-false}
use Rattle.std.proofs.lemmas.List.{length-take, length-replicate, get_or_append_left, get_or-append_right, get_or-replicate, get_or_past, get_or-take}
use Rattle.data_map.specs.declared.check.RawMap.{RawMap}
use Rattle.data_map.specs.Check.{IsChecked}
use Rattle.data_map.specs.Striping.{replicas, parities, group_width, group_of, position_of, offset_of}
use Rattle.data_map.specs.Inverse.{unit_in}
use Rattle.data_map.proofs.Striping.{unit_again, group_in_position, place_in_position}
use Rattle.server_rules.specs.Columns.{filled, row_from, row_at, unit_with}
use Rattle.server_rules.specs.Decoding.{lost_units}
use Rattle.server_rules.specs.Laws.{In}
use Rattle.server_rules.specs.Maps.{group_with}
use Rattle.server_rules.specs.Rebuild.{made_by, made, position_for, group_for}
use Rattle.server_rules.specs.Standing.{replica, lacking}
use Rattle.stripe_repair.proofs.LostLaws.{lost_count}
use Rattle.world_history.specs.ServerNames.{Kept, Component, Heard, Piece, Target}
use Rattle.stripe_plan.specs.Laws.{word_of}
use Rattle.fence_law.specs.State.{State}
use Rattle.fence_law.specs.Columns.{AreBytes}
use Rattle.plan_law.specs.FileLayout.{word_in}
use Rattle.plan_law.specs.Pieces.{AreWords}
use Rattle.plan_law.proofs.PieceRows.{stands_at, word_there, rebuilds_copy_words, rebuilds_write_words}
use Rattle.file_simulation.specs.Jobs.{IsRow}
use Rattle.headline_law.specs.TargetLaws.{OfSources, OfEachSource}

-- ---- one row

-- zeros, and 0 behind them
pub zero_at : (n i : ℕ) → slice_index (replicate n 0) i ≡ 0
zero_at n i = elim (cases_lt i n) [
  | inl inside ↦ get_or-replicate n i 0 0 inside
  | inr past ↦
      let long : length {A = ℕ} (replicate n 0) ≡ n = length-replicate n 0 in
      get_or_past (replicate n 0) i 0 (omega (arith, past, long))
]

filled_at : (bytes : List ℕ) (count j : ℕ) → j < count → slice_index (filled bytes count) j ≡ get_or bytes j 0
filled_at bytes count j low =
    let long : length (take count bytes) ≡ min count (length bytes) = length-take count bytes in
    elim (cases_lt j (length bytes)) [
      | inl inside ↦
          get_or_append_left (take count bytes) (replicate (count - length bytes) 0) 0 j (omega (arith, long, inside, low))
          ∙ get_or-take count bytes j 0 low
      | inr past ↦
          get_or-append_right (take count bytes) (replicate (count - length bytes) 0) (length (take count bytes)) j 0 refl
          (omega (arith, long, past))
          ∙ zero_at (count - length bytes) (j - length (take count bytes)) ∙ sym (get_or_past bytes j 0 past)
    ]

-- the row that was first heard of component k
first_heard : (heard : List Heard) (k count : ℕ) (x : Heard) → In x heard → x.component ≡ k →
    (y : Heard) × In y heard × (y.component ≡ k)
    × ((j : ℕ) → j < count → slice_index (row_from heard k count) j ≡ get_or y.payload j 0)
unfolding row_from
first_heard [] k count x i is = absurd i
first_heard (h ∷ hs) k count x i is = elim (cases_eq h.component k) [
  | inl own ↦ rw (eq-eqb h.component k own) (h, inl refl, own, λ j low. filled_at h.payload count j low)
  | inr other ↦
      let r = first_heard hs k count x (elim i [
        | inl same ↦ absurd (other (ap (λ (y : Heard). y.component) (sym same) ∙ is))
        | inr later ↦ later
      ]) is in
      rw (ne_eqb h.component k other) (r.0, inr r.1, r.2, r.3)
]

-- a component whose row was heard
abbrev pub IsHeard : List Heard → (k : ℕ) → Type 0
IsHeard heard k = (x : Heard) × In x heard × (x.component ≡ k)

-- each row that was heard is as the machine has it
abbrev pub AreHeardRows : State → RawMap → Piece → List Heard → Type 0
AreHeardRows s m p heard =
    (x : Heard) → In x heard → IsRow s x.component (offset_of m p.stripe p.column) p.count x.payload

-- what isn't gone has the words of d
abbrev pub HasWordsOf : State → RawMap → (ℕ → ℕ) → Type 0
HasWordsOf s m d = (k z : ℕ) → k < m.comps → s.gone k ≡ false → s.cell k z ≡ word_in m k z d

module _ (s : State) (m : RawMap) (p : Piece) (heard : List Heard) (d : ℕ → ℕ) (held : HasWordsOf s m d)
    (rows : AreHeardRows s m p heard) where
  row_words : (k : ℕ) → k < m.comps → IsHeard heard k →
      AreWords m p.stripe p.column p.count k d (row_from heard k p.count)
  row_words k below x j inside low =
      let r = first_heard heard k p.count x.0 x.1 x.2 in
      let row = rows r.0 r.1 in
      let z : ℕ = offset_of m p.stripe p.column + j in
      let place : z ≡ offset_of m p.stripe (p.column + j) = omega arith in
      r.3 j low ∙ row.cells j low ∙ ap (λ (n : ℕ). s.cell n z) r.2 ∙ held k z below (ap s.gone (sym r.2) ∙ row.stands)
      ∙ ap (λ (n : ℕ). word_in m k n d) place

-- ---- units that aren't lost

lost_in : (q : ℕ → Bool) (a n c : ℕ) → a ≤ c → c < a + n → q c ≡ true → Contains (filter q (range_with_len a n)) c
lost_in q a zero c low high is = absurd (omega (arith, low, high))
lost_in q a (suc n) c low high is = elim (cases_eq a c) [
  | inl same ↦ rw (ap q same ∙ is) (0, omega arith, same)
  | inr other ↦
      let r = lost_in q (a + 1) n c (omega (arith, low, other)) (omega (arith, high)) is in
      elim (cases_Bool (q a)) [
        | inl more ↦ rw more (suc r.0, omega (arith, r.1), r.2)
        | inr none ↦ rw none r
      ]
]

-- a unit that isn't lost has a present replica
there : (m : RawMap) (cs : List Component) (s c : ℕ) → c < group_width m →
    (Contains (lost_units m cs s) c → ⊥) → (r : ℕ) × (replica m cs (position_of m s c) ≡ Some r)
unfolding lost_units
there m cs s c low found = by_replica (replica m cs (position_of m s c)) refl
  where
    by_replica : (o : Option ℕ) → replica m cs (position_of m s c) ≡ o →
        (r : ℕ) × (replica m cs (position_of m s c) ≡ Some r)
    by_replica None none =
        absurd (found (lost_in (λ (u : ℕ). is_none (replica m cs (position_of m s u))) 0 (group_width m) c (omega arith)
        (omega (arith, low)) (ap is_none none)))
    by_replica (Some r) is = (r, is)

-- ---- what is made

module _ (s : State) (f : Kept) (t : Target) (p : Piece) (heard : List Heard) (d : ℕ → ℕ) (checked : IsChecked f.map)
    (bytes : AreBytes d) (held : HasWordsOf s f.map d) (rows : AreHeardRows s f.map p heard)
    (below : (k position : ℕ) → replica f.map f.components position ≡ Some k → k < f.map.comps)
    (fits : p.column + p.count ≤ f.map.unit) (group : group_with f.map t.component ≡ group_of f.map p.stripe) where
  abbrev m : RawMap
  m = f.map

  abbrev cs : List Component
  cs = f.components

  copied : (o : Option ℕ) → replica m cs (position_for f t) ≡ o → OfSources (IsHeard heard) f t o →
      AreWords m p.stripe p.column p.count t.component d (made_by f t p heard o)
  copied (Some r) is x =
      rebuilds_copy_words m cs heard p.stripe p.column p.count d t.component r is
      (row_words s m p heard d held rows r (below r (position_for f t) is) x)
  copied None is all =
      rebuilds_write_words m cs heard p.stripe p.column p.count d checked bytes
      (let lost = lost_count m cs p.stripe checked in
      let few : length (lacking m cs (group_of m p.stripe)) ≤ parities m =
      subst (λ (n : ℕ). length (lacking m cs n) ≤ parities m) group
      (not_less (parities m) (length (lacking m cs (group_for f t))) all.0) in
      omega (arith, lost, few)) unit t.component group
    where
      not_less : (a b : ℕ) → nat_lt a b ≡ false → b ≤ a
      not_less a b e = ltb-false a b e

      unit : (c j : ℕ) → c < group_width m → (Contains (lost_units m cs p.stripe) c → ⊥) → j < p.count →
          slice_index (row_at heard (replica m cs (position_of m p.stripe c)) p.count) j
          ≡ word_of m d p.stripe (p.column + j) c
      unit c j low none inside =
          let r = there m cs p.stripe c low none in
          let at : r.0 / replicas m ≡ position_of m p.stripe c =
          stands_at m (position_of m p.stripe c) cs 0 r.0 r.1 in
          let within : p.column + j < m.unit = omega (arith, inside, fits) in
          let own : group_with m r.0 ≡ group_of m p.stripe =
          ap (λ (n : ℕ). n / group_width m) at ∙ group_in_position m p.stripe c low in
          let first : replica m cs (r.0 / replicas m) ≡ Some r.0 = ap (replica m cs) at ∙ r.1 in
          let is_unit : unit_with m p.stripe r.0 ≡ c =
          ap (λ (n : ℕ). unit_in m p.stripe (n % group_width m)) at
          ∙ ap (unit_in m p.stripe) (place_in_position m p.stripe c low) ∙ unit_again m p.stripe c low in
          ap (λ (o : Option ℕ). slice_index (row_at heard o p.count) j) r.1
          ∙ row_words s m p heard d held rows r.0 (below r.0 (position_of m p.stripe c) r.1)
          (all.1 r.0 (own ∙ sym group) first) j within inside
          ∙ word_there m p.stripe (p.column + j) r.0 d checked within own
          ∙ ap (λ (u : ℕ). word_of m d p.stripe (p.column + j) u) is_unit

  -- the words of the target
  pub made_are_words : OfEachSource (IsHeard heard) f t →
      AreWords m p.stripe p.column p.count t.component d (made f t p heard)
  unfolding made
  made_are_words all = copied (replica m cs (position_for f t)) refl all
