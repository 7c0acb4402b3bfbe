-- The rows of a piece that isn't short are as they should be where they are words of some bytes: an audit doesn't find its
-- stripe bad.
-- Towards `AuditsFindNone` (`file_simulation/specs/Claim.antt`).
use Rattle.std.proofs.Common.{◌≡◌, ◌==◌, ◌&&◌, ℕ, suc, ◌+◌, ◌-◌, ◌/◌, ◌<◌, ◌≤◌, true, false, not, nat_lt, List, [], ◌∷◌, length, slice_get, Option, Some, refl, sym, ap, subst, ◌∙◌, inl, inr, arith}
use Rattle.std.specs.Prelude.{get_or}
use Rattle.std.proofs.lemmas.Bool.{cases_Bool, eq-eqb, and_parts}
use Rattle.data_map.specs.Check.{IsChecked}
use Rattle.data_map.specs.Striping.{group_width, data_units, group_of, position_of, offset_of}
use Rattle.data_map.proofs.Striping.{group_in_position, placed, turned_below}
use Rattle.server_rules.specs.Audit.{checked}
use Rattle.server_rules.specs.Columns.{row_at, row_from, unit_rows, unit_with, wanted, end_unlike, end_of}
use Rattle.server_rules.specs.Laws.{In}
use Rattle.server_rules.specs.Maps.{group_with}
use Rattle.server_rules.specs.Pieces.{stores, is_off}
use Rattle.server_rules.specs.Standing.{replica, is_short}
use Rattle.stripe_plan.specs.Touched.{unit_start}
use Rattle.history_law.specs.Names.{Kept, Component, Awaited, Heard, Piece, Tally}
use Rattle.plan_law.specs.FileLayout.{word_in}
use Rattle.plan_law.proofs.Codes.{lies_copy, layouts_are_codes}
use Rattle.plan_law.proofs.PieceRows.{repairs_write_words}
use Rattle.relation_law.proofs.RepairAsked.{wanted_long}
use Rattle.headline_law.specs.OweAsking.{IsOfPiece}
use Rattle.headline_law.proofs.OweReplicas.{replica_is, not_short}
use Rattle.headline_law.proofs.OweUnlike.{stored_is, off_is}

-- two rows that are alike differ nowhere
like_end : (xs ys : List ℕ) (i : ℕ) →
    ((n : ℕ) → n < length xs → n < length ys → get_or xs n 0 ≡ get_or ys n 0) → end_unlike xs ys i 0 ≡ 0
unfolding end_unlike
like_end [] ys i like = refl
like_end (x ∷ xs) [] i like = refl
like_end (x ∷ xs) (y ∷ ys) i like =
    let same : x ≡ y = like 0 (omega arith) (omega arith) in
    rw (eq-eqb x y same) (like_end xs ys (i + 1) (λ n low below. like (suc n) (omega (arith, low)) (omega (arith, below))))

-- the row of each present component of the piece's group has words of d
abbrev pub RowsAreWords : Kept → Piece → List Heard → (d : ℕ → ℕ) → Type 0
RowsAreWords k p heard d =
    (n : ℕ) → IsOfPiece k p n → (i : ℕ) → i < p.count →
    get_or (row_from heard n p.count) i 0 ≡ word_in k.map n (offset_of k.map p.stripe (p.column + i)) d

module _ (k : Kept) (c : IsChecked k.map) (p : Piece) (heard : List Heard) (d : ℕ → ℕ)
    (inside : p.count ≤ k.map.unit - p.column) (rows : RowsAreWords k p heard d) where
  -- that of a unit of data has its bytes, where each position has a present replica
  unit_is : is_short k.map k.components (group_of k.map p.stripe) ≡ false → (u j : ℕ) → u < data_units k.map →
      j < p.count → get_or (row_at heard (replica k.map k.components (position_of k.map p.stripe u)) p.count) j 0
      ≡ d (unit_start k.map p.stripe u + (p.column + j))
  unit_is whole u j low less =
      let wide : u < group_width k.map = omega (arith, low) in
      let turn = turned_below k.map p.stripe u wide in
      let group = group_in_position k.map p.stripe u wide in
      let r = not_short k.map k.components (group_of k.map p.stripe) (position_of k.map p.stripe u) whole (omega arith)
      (omega (arith, turn)) in
      let it = replica_is k.map (position_of k.map p.stripe u) k.components r.0 r.1 in
      let of : IsOfPiece k p r.0 = record {
        component = it.component;
        there = it.there;
        present = it.present;
        group = ap (λ (x : ℕ). x / group_width k.map) it.at ∙ group;
      } in
      let q : ℕ = unit_start k.map p.stripe u + (p.column + j) in
      let at = placed k.map p.stripe u (p.column + j) low (omega (arith, inside, less)) in
      let copy = lies_copy k.map r.0 (offset_of k.map p.stripe (p.column + j)) q (at.0 ∙ sym it.at, at.1) in
      ap (λ (o : Option ℕ). get_or (row_at heard o p.count) j 0) r.1 ∙ rows r.0 of j less
      ∙ ((layouts_are_codes k.map 0 c).copies r.0 (offset_of k.map p.stripe (p.column + j)) q copy).2 d

  -- so no row differs from the wanted one
  none_off : is_short k.map k.components (group_of k.map p.stripe) ≡ false → (at : Component) (n : ℕ) →
      slice_get k.components n ≡ Some at →
      is_off k p (row_from heard n p.count)
      (wanted k.map (unit_rows k.map k.components p.stripe heard p.count) (unit_with k.map p.stripe n) p.count) at n ≡ true → ⊥
  none_off whole at n there off =
      let have : List ℕ = row_from heard n p.count in
      let want : List ℕ =
      wanted k.map (unit_rows k.map k.components p.stripe heard p.count) (unit_with k.map p.stripe n) p.count in
      let of = off_is k p have want at n off in
      let words = repairs_write_words k.map k.components heard p.stripe p.column p.count d c (unit_is whole) n of.1 in
      let long : length want ≡ p.count =
      wanted_long k.map (unit_rows k.map k.components p.stripe heard p.count) (unit_with k.map p.stripe n) p.count in
      let none : end_of have want ≡ 0 =
      like_end have want 0
      (λ i low below. rows n (record { component = at; there = there; present = of.0; group = of.1 }) i
      (omega (arith, below, long))
      ∙ sym (words i (omega (arith, inside, below, long)) (omega (arith, below, long)))) in
      let past =
      (and_parts (not at.missing && (group_with k.map n == group_of k.map p.stripe)) (nat_lt 0 (end_of have want)) off).1 in
      cc (sym past ∙ ap (nat_lt 0) none)

  none_stored : is_short k.map k.components (group_of k.map p.stripe) ≡ false → (ws : List Awaited) →
      ws ≡ stores k p heard 0 → ws ≡ []
  none_stored whole [] is = refl
  none_stored whole (a ∷ ws) is =
      let rows : List (List ℕ) = unit_rows k.map k.components p.stripe heard p.count in
      let s =
      stored_is k p (unit_rows k.map k.components p.stripe heard p.count) heard k.components 0 0 a (subst (In a) is (inl refl)) in
      absurd (none_off whole s.component (0 + s.index) (ap (slice_get k.components) (omega arith) ∙ s.there) s.off)

  -- the stripe isn't found bad
  pub checked_clean : (t : Tally) → t.bad ≡ [] → (checked k p heard t).bad ≡ []
  unfolding checked
  checked_clean t empty = elim (cases_Bool (is_short k.map k.components (group_of k.map p.stripe))) [
    | inl short ↦ rw short empty
    | inr whole ↦ rw (whole, none_stored whole (stores k p heard 0) refl) empty
  ]
