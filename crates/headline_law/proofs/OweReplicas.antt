-- The first present replica of a position, and the place of a cell of a piece.
-- Towards `OweFollows` and `DoneFollows` (`specs/Parts.antt`).
use Rattle.std.proofs.Common.{◌≡◌, ◌==◌, ◌&&◌, ℕ, zero, suc, ◌+◌, ◌-◌, ◌*◌, ◌/◌, ◌%◌, ◌<◌, ◌≤◌, Bool, true, false, not, nat_lt, List, [], ◌∷◌, length, slice_get, filter, Option, Some, None, refl, sym, ap, ◌∙◌, inl, inr, arith}
use Rattle.std.specs.Prelude.{is_none}
use Rattle.std.specs.List.{range_with_len}
use Rattle.std.proofs.lemmas.Bool.{cases_Bool, cases_eq, and_parts, eqb-true}
use Rattle.std.proofs.lemmas.Bool.Decides.{nat_tests}
use Rattle.std.proofs.lemmas.Nat.{mod_below, mod-mul-add}
use Rattle.std.proofs.lemmas.Option.{same_Some}
use Rattle.data_map.specs.declared.check.RawMap.{RawMap}
use Rattle.data_map.specs.Check.{IsChecked}
use Rattle.data_map.specs.Striping.{replicas, positions, group_width, group_of, offset_of}
use Rattle.data_map.specs.Inverse.{stripe_at, unit_at}
use Rattle.data_map.proofs.Striping.{group_again, byte_column}
use Rattle.data_map.proofs.Inverse.{group_there}
use Rattle.server_rules.specs.Laws.{In}
use Rattle.server_rules.specs.Maps.{group_with}
use Rattle.server_rules.specs.Standing.{replica_from, replica, lacking, is_short}
use Rattle.server_rules.proofs.Members.{in_filter}
use Rattle.history_law.specs.Names.{Component, Piece}
use Rattle.plan_law.specs.FileLayout.{position_in, column_of_cell}
use Rattle.plan_law.proofs.Cells.{with_parity, is_coded, is_plain, stands_at, offset_again}
use Rattle.plan_law.proofs.Codes.{all_data}
use Rattle.plan_law.proofs.PieceRows.{place}
use Rattle.plan_law.proofs.StripeColumns.{columns_have_stripes}
use Rattle.file_simulation.specs.Jobs.{HasColumn, offset_of_column}
use Rattle.exchange_law.proofs.Missing.{all_missing}

-- ---- replicas

-- a present component of the position
pub record IsReplica (m : RawMap) (cs : List Component) (position f : ℕ) : Type 0 where
  pub component : Component
  pub there : slice_get cs f ≡ Some component
  pub present : component.missing ≡ false
  pub at : f / replicas m ≡ position

replica_on : (m : RawMap) (position : ℕ) (cs : List Component) (n f : ℕ) → replica_from m position cs n ≡ Some f →
    (i : ℕ) × (f ≡ n + i) × (at : Component) × (slice_get cs i ≡ Some at) × (at.missing ≡ false) × (f / replicas m ≡ position)
unfolding replica_from
replica_on m position [] n f e = absurd (cc e)
replica_on m position (x ∷ cs) n f e = elim (cases_Bool (not x.missing && (n / replicas m == position))) [
  | inl here ↦
      let both = and_parts (not x.missing) (n / replicas m == position) here in
      let same : n ≡ f = same_Some n f (rw here at e) in (
        0,
        sym same ∙ omega arith,
        x,
        refl,
        present x.missing both.0,
        ap (λ (k : ℕ). k / replicas m) (sym same) ∙ eqb-true (n / replicas m) position both.1,
      )
  | inr past ↦
      let r = replica_on m position cs (n + 1) f (rw past at e) in
      (suc r.0, r.1 ∙ omega arith, r.2, r.3, r.4, r.5)
]
  where
    present : (b : Bool) → not b ≡ true → b ≡ false
    present true q = absurd (cc q)
    present false q = refl

pub replica_is : (m : RawMap) (position : ℕ) (cs : List Component) (f : ℕ) → replica m cs position ≡ Some f →
    IsReplica m cs position f
replica_is m position cs f e =
    let r = replica_on m position cs 0 f e in
    let same : f ≡ r.0 = r.1 ∙ omega arith in
    record { component = r.2; there = ap (slice_get cs) same ∙ r.3; present = r.4; at = r.5 }

-- where there is none, each component of the position is missing
pub none_stands : (m : RawMap) (position : ℕ) (cs : List Component) → replica m cs position ≡ None → (f : ℕ)
    (at : Component) → slice_get cs f ≡ Some at → f / replicas m ≡ position → at.missing ≡ true
none_stands m position cs none f at there here =
    let same : 0 + f ≡ f = omega arith in
    all_missing m position cs 0 none f at there (ap (λ (k : ℕ). k / replicas m) same ∙ here)

-- a present component finds one
pub some_replica : (m : RawMap) (position : ℕ) (cs : List Component) (n : ℕ) (at : Component) → slice_get cs n ≡ Some at →
    at.missing ≡ false → n / replicas m ≡ position → (f : ℕ) × (replica m cs position ≡ Some f)
some_replica m position cs n at there stands here = by (replica m cs position) refl
  where
    by : (o : Option ℕ) → replica m cs position ≡ o → (f : ℕ) × (replica m cs position ≡ Some f)
    by (Some f) is = (f, is)
    by None is = absurd (cc (sym stands ∙ none_stands m position cs is n at there here))

-- ---- a group that isn't short

in_range : (a n i : ℕ) → a ≤ i → i < a + n → In i (range_with_len a n)
in_range a zero i low high = absurd (omega (arith, low, high))
in_range a (suc n) i low high = elim (cases_eq i a) [
  | inl same ↦ inl same
  | inr other ↦ inr (in_range (a + 1) n i (omega (arith, low, other)) (omega (arith, high)))
]

none_lacking : (xs : List ℕ) (x : ℕ) → nat_lt 0 (length xs) ≡ false → In x xs → ⊥
none_lacking [] x e i = i
none_lacking (y ∷ ys) x e i = grind (arith, nat_tests, e)

-- each of its positions has a present replica
pub not_short : (m : RawMap) (cs : List Component) (group position : ℕ) → is_short m cs group ≡ false →
    group * group_width m ≤ position → position < group * group_width m + group_width m →
    (f : ℕ) × (replica m cs position ≡ Some f)
unfolding lacking
not_short m cs group position short low high = by (replica m cs position) refl
  where
    by : (o : Option ℕ) → replica m cs position ≡ o → (f : ℕ) × (replica m cs position ≡ Some f)
    by (Some f) is = (f, is)
    by None is =
        absurd (none_lacking (filter (λ (p : ℕ). is_none (replica m cs p))
        (range_with_len (group * group_width m) (group_width m)))
        position short
        (in_filter (λ (p : ℕ). is_none (replica m cs p)) position (range_with_len (group * group_width m) (group_width m))
        (in_range (group * group_width m) (group_width m) position low high) (ap is_none is)))

-- ---- the place of a cell

-- cell z of component n is that of the piece's column i
pub record IsPlaced (m : RawMap) (p : Piece) (n z : ℕ) : Type 0 where
  pub index : ℕ
  pub low : index < p.count
  pub inside : p.column + index < m.unit
  pub offset : z ≡ offset_of m p.stripe (p.column + index)
  pub group : group_with m n ≡ group_of m p.stripe

offset_is : (m : RawMap) (n z : ℕ) → IsChecked m → offset_of_column m (column_of_cell m n z) ≡ z % m.unit
unfolding offset_of_column
offset_is m n z c = elim (with_parity m) [
  | inl some ↦
      rw (is_coded m some)
      (mod-mul-add (stripe_at m (position_in m n) z) m.unit (z % m.unit) (mod_below z m.unit c.some_unit))
  | inr none ↦
      rw (is_plain m none)
      (byte_column m (stripe_at m (position_in m n) z) (unit_at m (position_in m n) z) (z % m.unit)
      (all_data m n z c none) (mod_below z m.unit c.some_unit))
]

-- so it is of each cell of one of its columns
pub placed_in : (m : RawMap) (p : Piece) (n z : ℕ) → IsChecked m → n < m.comps → HasColumn m p (column_of_cell m n z) →
    IsPlaced m p n z
placed_in m p n z c below has =
    let stripe : stripe_at m (position_in m n) z ≡ p.stripe =
    sym ((columns_have_stripes m c).1 n z) ∙ has.stripe in
    let column : offset_of_column m (column_of_cell m n z) ≡ z % m.unit = offset_is m n z c in
    let unit : z % m.unit < m.unit = mod_below z m.unit c.some_unit in
    let at : position_in m n < positions m = stands_at m n c below in
    let sum : p.column + (z % m.unit - p.column) ≡ z % m.unit = omega (arith, column, has.first) in
    record {
      index = z % m.unit - p.column;
      low = omega (arith, column, has.first, has.past);
      inside = omega (arith, sum, unit);
      offset = sym (offset_again m (position_in m n) z c at)
          ∙ ap (λ (s : ℕ). offset_of m s (z % m.unit)) stripe ∙ ap (offset_of m p.stripe) (sym sum);
      group = sym (group_again m (position_in m n / group_width m) (z / m.unit) c (group_there m (position_in m n) c at))
          ∙ ap (group_of m) stripe;
    }

-- and each cell of the piece is in one of its columns
pub in_columns : (m : RawMap) (p : Piece) (n z : ℕ) → IsChecked m → group_with m n ≡ group_of m p.stripe →
    p.count ≤ m.unit - p.column → offset_of m p.stripe p.column ≤ z → z < offset_of m p.stripe p.column + p.count →
    HasColumn m p (column_of_cell m n z)
in_columns m p n z c group inside low high =
    let i : ℕ = z - offset_of m p.stripe p.column in
    let below : p.column + i < m.unit = omega (arith, inside, low, high) in
    let same : offset_of m p.stripe (p.column + i) ≡ z = omega (arith, low) in
    let at = place m p.stripe (p.column + i) (position_in m n) c below group in
    let column : offset_of_column m (column_of_cell m n z) ≡ p.column + i =
    offset_is m n z c ∙ ap (λ (y : ℕ). y % m.unit) (sym same) ∙ at.2 in
    record {
      stripe = (columns_have_stripes m c).1 n z ∙ ap (stripe_at m (position_in m n)) (sym same) ∙ at.0;
      first = omega (arith, column);
      past = omega (arith, column, low, high);
    }
