-- The pieces of a rebuild: each lies in a unit of a stripe below `high`, and together they have all of a component's cells there.
use Rattle.std.proofs.Common.{◌≡◌, ◌==◌, ℕ, zero, suc, ◌+◌, ◌-◌, ◌*◌, ◌/◌, ◌%◌, ◌<◌, ◌≤◌, min, refl, sym, ap, subst, ◌∙◌, arith, inl, inr, eq-eqb}
use Rattle.std.proofs.lemmas.Bool.{cases_lt, eqb-true}
use Rattle.std.proofs.lemmas.Nat.{mod_below, mod-mul-add}
use Rattle.data_map.specs.declared.check.RawMap.{RawMap}
use Rattle.data_map.specs.Check.{IsChecked}
use Rattle.data_map.specs.Striping.{replicas, data_units, group_of, offset_of}
use Rattle.data_map.specs.Inverse.{stripe_at, unit_at}
use Rattle.data_map.proofs.Striping.{byte_column}
use Rattle.server_rules.specs.declared.limits.TheConstants.{MAX_PIECE}
use Rattle.server_rules.specs.Laws.{In}
use Rattle.server_rules.specs.Maps.{group_with, pieces_from, pieces_of, pieces_along, pieces_in}
use Rattle.server_rules.proofs.Members.{in_either, in_filtered, in_filter}
use Rattle.world_history.specs.ServerNames.{Piece}
use Rattle.plan_law.specs.FileLayout.{position_in, stripe_of_column, column_of_cell}
use Rattle.plan_law.proofs.Cells.{stands_at, offset_again, unit_inside, with_parity, is_coded, is_plain}
use Rattle.plan_law.proofs.PieceRows.{place}
use Rattle.plan_law.proofs.StripeColumns.{columns_have_stripes}
use Rattle.file_simulation.specs.Jobs.{HasColumn, offset_of_column}
use Rattle.relation_law.proofs.KeptSources.{along_in, group_here}

-- ---- where a piece lies

-- it ends in its unit
abbrev pub IsWithin : (unit : ℕ) → Piece → Type 0
IsWithin unit p = p.column + p.count ≤ unit

from_within : (unit stripe column n : ℕ) (p : Piece) → column + n * MAX_PIECE < unit + MAX_PIECE →
    In p (pieces_from unit stripe column n) → (p.stripe ≡ stripe) × IsWithin unit p
unfolding pieces_from
from_within unit stripe column zero p low i = absurd i
from_within unit stripe column (suc n) p low (inl same) =
    let some : column < unit = omega (arith, low) in
    let ends : column + min MAX_PIECE (unit - column) ≤ unit = omega (arith, some) in
    (ap (λ (q : Piece). q.stripe) same, subst (IsWithin unit) (sym same) ends)
from_within unit stripe column (suc n) p low (inr i) =
    from_within unit stripe (column + MAX_PIECE) n p (omega (arith, low)) i

along_within : (unit first n : ℕ) (p : Piece) → In p (pieces_along unit first n) →
    (p.stripe < first + n) × IsWithin unit p
unfolding pieces_along
along_within unit first zero p i = absurd i
along_within unit first (suc n) p i = elim (in_either p (pieces_of unit first) (pieces_along unit (first + 1) n) i) [
  | inl here ↦
      let r = from_within unit first 0 ((unit + (MAX_PIECE - 1)) / MAX_PIECE) p (omega arith) here in
      (omega (arith, r.0), r.1)
  | inr later ↦ let r = along_within unit (first + 1) n p later in (omega (arith, r.0), r.1)
]

-- a planned piece
pub record IsPlanned (m : RawMap) (group high : ℕ) (p : Piece) : Type 0 where
  pub low : p.stripe < high
  pub within : IsWithin m.unit p
  pub group_is : group_of m p.stripe ≡ group

pub planned : (m : RawMap) (group high : ℕ) (p : Piece) → In p (pieces_in m group high) → IsPlanned m group high p
unfolding pieces_in
planned m group high p i =
    let r = in_filtered (λ (q : Piece). group_of m q.stripe == group) p (pieces_along m.unit 0 high) i in
    let a = along_within m.unit 0 high p r.0 in
    record { low = omega (arith, a.0); within = a.1; group_is = eqb-true (group_of m p.stripe) group r.1 }

-- ---- which piece has a place

from_has : (unit stripe column n b : ℕ) → column ≤ b → b < unit → b < column + n * MAX_PIECE →
    (p : Piece) × In p (pieces_from unit stripe column n) × (p.stripe ≡ stripe) × (p.column ≤ b) × (b < p.column + p.count)
unfolding pieces_from
from_has unit stripe column zero b low some high = absurd (omega (arith, low, high))
from_has unit stripe column (suc n) b low some high = elim (cases_lt b (column + MAX_PIECE)) [
  | inl here ↦ (
    record { stripe = stripe; column = column; count = min MAX_PIECE (unit - column) },
    inl refl,
    refl,
    low,
    omega (arith, low, some, here),
  )
  | inr later ↦
      let r = from_has unit stripe (column + MAX_PIECE) n b later some (omega (arith, high)) in
      (r.0, inr r.1, r.2, r.3, r.4)
]

-- ---- cells

-- the place of a cell's column in its unit
cell_offset : (m : RawMap) (k z : ℕ) → IsChecked m → offset_of_column m (column_of_cell m k z) ≡ z % m.unit
unfolding offset_of_column
cell_offset m k z c = elim (with_parity m) [
  | inl some ↦ rw (is_coded m some) (mod-mul-add (stripe_at m (position_in m k) z) m.unit (z % m.unit) (mod_below z m.unit
      c.some_unit))
  | inr none ↦
      let unit : unit_at m (position_in m k) z < data_units m =
      let u = unit_inside m (position_in m k) z c in omega (arith, u, none) in
      rw (is_plain m none)
      (byte_column m (stripe_at m (position_in m k) z) (unit_at m (position_in m k) z) (z % m.unit) unit
      (mod_below z m.unit c.some_unit))
]

pub cell_stripe : (m : RawMap) (k z : ℕ) → IsChecked m →
    stripe_of_column m (column_of_cell m k z) ≡ stripe_at m (position_in m k) z
cell_stripe m k z c = (columns_have_stripes m c).1 k z

-- a cell whose column a piece has lies there
pub cell_in : (m : RawMap) (p : Piece) (k z : ℕ) → IsChecked m → k < m.comps → HasColumn m p (column_of_cell m k z) →
    (j : ℕ) × (j < p.count) × (p.column + j < m.unit) × (z ≡ offset_of m p.stripe (p.column + j))
cell_in m p k z c low has =
    let b : ℕ = z % m.unit in
    let at : offset_of_column m (column_of_cell m k z) ≡ z % m.unit = cell_offset m k z c in
    let j : ℕ = b - p.column in
    let first : p.column ≤ z % m.unit = subst (λ (n : ℕ). p.column ≤ n) at has.first in
    let past : z % m.unit < p.column + p.count = subst (λ (n : ℕ). n < p.column + p.count) at has.past in
    let same : z % m.unit ≡ p.column + j = omega (arith, first) in
    let stripe : stripe_at m (position_in m k) z ≡ p.stripe = sym (cell_stripe m k z c) ∙ has.stripe in
    let inside : z % m.unit < m.unit = mod_below z m.unit c.some_unit in (
      j,
      omega (arith, first, past),
      omega (arith, same, inside),
      sym (offset_again m (position_in m k) z c (stands_at m k c low))
          ∙ ap (λ (s : ℕ). offset_of m s (z % m.unit)) stripe ∙ ap (offset_of m p.stripe) same,
    )

-- the stripe of such a cell
pub cell_there : (m : RawMap) (p : Piece) (k j : ℕ) → IsChecked m → group_with m k ≡ group_of m p.stripe →
    IsWithin m.unit p → j < p.count → stripe_at m (position_in m k) (offset_of m p.stripe (p.column + j)) ≡ p.stripe
cell_there m p k j c group within low =
    (place m p.stripe (p.column + j) (k / replicas m) c (omega (arith, within, low)) group).0

-- each cell in a stripe below `high` is in a planned piece
pub all_planned : (m : RawMap) (k z high : ℕ) → IsChecked m → k < m.comps → stripe_at m (position_in m k) z < high →
    (p : Piece) × In p (pieces_in m (group_with m k) high) × HasColumn m p (column_of_cell m k z)
unfolding pieces_in
all_planned m k z high c low below =
    let s : ℕ = stripe_at m (position_in m k) z in
    let inside : z % m.unit < m.unit = mod_below z m.unit c.some_unit in
    let r = from_has m.unit (stripe_at m (position_in m k) z) 0 ((m.unit + (MAX_PIECE - 1)) / MAX_PIECE) (z % m.unit)
    (omega arith) inside (omega (arith, inside)) in
    let at : offset_of_column m (column_of_cell m k z) ≡ z % m.unit = cell_offset m k z c in (
      r.0,
      in_filter (λ (q : Piece). group_of m q.stripe == group_with m k) r.0 (pieces_along m.unit 0 high)
          (along_in m.unit 0 high (stripe_at m (position_in m k) z) (omega arith) (omega (arith, below)) r.0 r.1)
          (eq-eqb (group_of m r.0.stripe) (group_with m k) (ap (group_of m) r.2 ∙ group_here m k z c low)),
      record {
        stripe = cell_stripe m k z c ∙ sym r.2;
        first = omega (arith, at, r.3);
        past = omega (arith, at, r.4);
      },
    )
