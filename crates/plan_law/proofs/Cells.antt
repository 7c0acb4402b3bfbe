-- The columns and the places of cells.
use Rattle.std.proofs.Common.{◌≡◌, ℕ, ◌+◌, ◌*◌, ◌/◌, ◌%◌, ◌<◌, refl, sym, ap, ◌⊎◌, true, false, inl, inr, ◌∙◌, arith}
use Rattle.std.proofs.lemmas.Bool.{cases_lt, lt-ltb, le-ltb}
use Rattle.std.proofs.lemmas.Nat.{div-add-mod', div_below, div-mul-add, mod-mul-add}
use Rattle.data_map.specs.declared.check.RawMap.{RawMap}
use Rattle.data_map.specs.Check.{IsChecked}
use Rattle.data_map.specs.Striping.{replicas, positions, group_width, parities, data_units, stripe_of, column_of, group_of}
use Rattle.data_map.specs.Striping.{offset_of, position_of}
use Rattle.data_map.specs.Inverse.{LiesAt, stripe_at, unit_at, byte_at}
use Rattle.data_map.proofs.Striping.{group_again, row_again, turned_again, unit_below, column_below, byte_stripe, byte_column}
use Rattle.data_map.proofs.Inverse.{group_there, place_there, is_byte}
use Rattle.data_map.proofs.Shape.{whole_positions}
use Rattle.stripe_plan.specs.Touched.{unit_start}
use Rattle.plan_law.specs.FileLayout.{has_parity, column_at, column_of_cell}
use Rattle.plan_law.specs.Layouts.{ColumnsAreStripes}

-- ---- positions of components

-- a component stands at a position that there is
pub stands_at : (m : RawMap) (k : ℕ) → IsChecked m → k < m.comps → k / replicas m < positions m
stands_at m k c below = div_below k (replicas m) (positions m) (omega arith) (omega (arith, below, whole_positions m c))

-- its offsets belong to a unit of a stripe, which has them
pub position_again : (m : RawMap) (p z : ℕ) → IsChecked m → p < positions m → position_of m (stripe_at m p z) (unit_at m p z) ≡ p
position_again m p z c below =
    ap (λ x. x + group_of m (stripe_at m p z) * group_width m)
    (turned_again m (stripe_at m p z) (p % group_width m) (place_there m p c))
    ∙ ap (λ g. p % group_width m + g * group_width m) (group_again m (p / group_width m) (z / m.unit) c (group_there m p c below))
    ∙ omega (arith, div-add-mod' p (group_width m))

pub offset_again : (m : RawMap) (p z : ℕ) → IsChecked m → p < positions m → offset_of m (stripe_at m p z) (z % m.unit) ≡ z
offset_again m p z c below =
    ap (λ r. r * m.unit + z % m.unit) (row_again m (p / group_width m) (z / m.unit) c (group_there m p c below))
    ∙ div-add-mod' z m.unit

pub unit_inside : (m : RawMap) (p z : ℕ) → IsChecked m → unit_at m p z < group_width m
unit_inside m p z c = unit_below m (stripe_at m p z) (p % group_width m) (place_there m p c)

-- the byte of a unit of data lies there
pub lies_there : (m : RawMap) (p z : ℕ) → IsChecked m → p < positions m → unit_at m p z < data_units m →
    LiesAt m (byte_at m p z) p z
lies_there m p z c below holds = (is_byte m p z (byte_at m p z) c below holds).0 refl

-- ---- columns

-- two digits are told apart
pub digits_apart : (u a b s t : ℕ) → b < u → t < u → a * u + b ≡ s * u + t → (a ≡ s) × (b ≡ t)
digits_apart u a b s t bl tl e = (
  sym (div-mul-add a u b bl) ∙ ap (λ x. x / u) e ∙ div-mul-add s u t tl,
  sym (mod-mul-add a u b bl) ∙ ap (λ x. x % u) e
      ∙ mod-mul-add s u t tl,
)

-- a map has parity, or none
pub with_parity : (m : RawMap) → (0 < parities m) ⊎ (parities m ≡ 0)
with_parity m = elim (cases_lt 0 (parities m)) [ inl some ↦ inl some | inr few ↦ inr (omega (arith, few)) ]

pub is_coded : (m : RawMap) → 0 < parities m → has_parity m ≡ true
is_coded m some = lt-ltb 0 (parities m) some

pub is_plain : (m : RawMap) → parities m ≡ 0 → has_parity m ≡ false
is_plain m none = le-ltb 0 (parities m) (omega (arith, none))

-- the column of a byte, with parity and without
pub col_coded : (m : RawMap) (l : ℕ) → 0 < parities m → column_at m l ≡ stripe_of m l * m.unit + column_of m l
col_coded m l some = rw (is_coded m some) refl

pub col_plain : (m : RawMap) (l : ℕ) → parities m ≡ 0 → column_at m l ≡ l
col_plain m l none = rw (is_plain m none) refl

pub cell_coded : (m : RawMap) (k z : ℕ) → 0 < parities m →
    column_of_cell m k z ≡ stripe_at m (k / replicas m) z * m.unit + z % m.unit
cell_coded m k z some = rw (is_coded m some) refl

pub cell_plain : (m : RawMap) (k z : ℕ) → parities m ≡ 0 → column_of_cell m k z ≡ byte_at m (k / replicas m) z
cell_plain m k z none = rw (is_plain m none) refl

pub columns_are_stripes : ColumnsAreStripes
columns_are_stripes m s b l c some bl = (
  λ e. digits_apart m.unit (stripe_of m l) (column_of m l) s b (column_below m l c) bl (sym (col_coded m l some) ∙ e),
  λ e. col_coded m l some ∙ ap (λ x. x * m.unit + column_of m l) e.0 ∙ ap (λ x. s * m.unit + x) e.1,
)

-- the column of a byte of a stripe's unit
pub byte_col : (m : RawMap) (s k b : ℕ) → 0 < parities m → k < data_units m → b < m.unit →
    column_at m (unit_start m s k + b) ≡ s * m.unit + b
byte_col m s k b some low bl =
    col_coded m (unit_start m s k + b) some ∙ ap (λ x. x * m.unit + column_of m (unit_start m s k + b))
    (byte_stripe m s k b low bl) ∙ ap (λ x. s * m.unit + x) (byte_column m s k b low bl)
