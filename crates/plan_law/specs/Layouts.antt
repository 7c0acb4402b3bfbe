-- What is claimed of the layout of each checked map.
use Rattle.std.specs.Prelude.{◌≡◌, ◌↔◌, ℕ, ◌+◌, ◌*◌, ◌<◌, true}
use Rattle.data_map.specs.declared.check.RawMap.{RawMap}
use Rattle.data_map.specs.Check.{IsChecked}
use Rattle.data_map.specs.Striping.{parities, stripe_of, column_of}
use Rattle.data_map.specs.Inverse.{stripe_at}
use Rattle.fence_law.specs.Law.{IsCode}
use Rattle.stripe_plan.specs.declared.plan.Span.{Span}
use Rattle.stripe_plan.specs.Touched.{IsTouchedStripe}
use Rattle.plan_law.specs.FileLayout.{layout_of, position_in, column_at, column_of_cell, stripe_of_column}
use Rattle.plan_law.specs.Writes.{touches_column}

-- The layout of each checked map is a code.
abbrev pub LayoutsAreCodes : Type 0
LayoutsAreCodes = (m : RawMap) (tag : ℕ) → IsChecked m → IsCode (layout_of m tag)

-- With parity a column has the bytes of one stripe that have one offset in its units, and no others.
abbrev pub ColumnsAreStripes : Type 0
ColumnsAreStripes =
    (m : RawMap) (s b l : ℕ) → IsChecked m → 0 < parities m → b < m.unit →
    (column_at m l ≡ s * m.unit + b) ↔ ((stripe_of m l ≡ s) × (column_of m l ≡ b))

-- The column of a byte is of the byte's stripe, that of a cell of the cell's; and a touched column is of a touched
-- stripe.
abbrev pub ColumnsHaveStripes : Type 0
ColumnsHaveStripes =
    (m : RawMap) → IsChecked m → ((l : ℕ) → stripe_of_column m (column_at m l) ≡ stripe_of m l) ×
    ((k z : ℕ) → stripe_of_column m (column_of_cell m k z) ≡ stripe_at m (position_in m k) z) ×
    ((r : Span) (x : ℕ) → touches_column m r x ≡ true → IsTouchedStripe m r (stripe_of_column m x))
