-- The cells of a stripe, in the layout of its file: their columns and their words.
use Rattle.std.proofs.Common.{◌≡◌, ℕ, ◌%◌, ◌<◌, ap, ◌∙◌}
use Rattle.std.proofs.lemmas.Nat.{mod-mul-add}
use Rattle.data_map.specs.declared.check.RawMap.{RawMap}
use Rattle.data_map.specs.Check.{IsChecked}
use Rattle.data_map.specs.Striping.{group_width, position_of, offset_of, row_of}
use Rattle.data_map.specs.Inverse.{stripe_at, unit_at}
use Rattle.data_map.proofs.Striping.{unit_found}
use Rattle.stripe_plan.specs.Laws.{word_of}
use Rattle.plan_law.specs.FileLayout.{position_in, stripe_of_column, column_of_cell, word_in}
use Rattle.plan_law.specs.Layouts.{ColumnsHaveStripes}

-- component k stands at the position of unit c of stripe s
abbrev pub IsAt : RawMap → (s c k : ℕ) → Type 0
IsAt m s c k = position_in m k ≡ position_of m s c

stripe_here : (m : RawMap) (s c b k : ℕ) → IsChecked m → c < group_width m → b < m.unit → IsAt m s c k →
    stripe_at m (position_in m k) (offset_of m s b) ≡ s
stripe_here m s c b k ch cl bl at = ap (λ p. stripe_at m p (offset_of m s b)) at ∙ (unit_found m s c b ch cl bl).0

unit_here : (m : RawMap) (s c b k : ℕ) → IsChecked m → c < group_width m → b < m.unit → IsAt m s c k →
    unit_at m (position_in m k) (offset_of m s b) ≡ c
unit_here m s c b k ch cl bl at = ap (λ p. unit_at m p (offset_of m s b)) at ∙ (unit_found m s c b ch cl bl).1

offset_here : (m : RawMap) (s b : ℕ) → b < m.unit → offset_of m s b % m.unit ≡ b
offset_here m s b bl = mod-mul-add (row_of m s) m.unit b bl

pub column_here : (m : RawMap) (s c b k : ℕ) → ColumnsHaveStripes → IsChecked m → c < group_width m → b < m.unit →
    IsAt m s c k → stripe_of_column m (column_of_cell m k (offset_of m s b)) ≡ s
column_here m s c b k columns ch cl bl at = (columns m ch).1 k (offset_of m s b) ∙ stripe_here m s c b k ch cl bl at

pub word_here : (m : RawMap) (s c b k : ℕ) (d : ℕ → ℕ) → IsChecked m → c < group_width m → b < m.unit → IsAt m s c k →
    word_in m k (offset_of m s b) d ≡ word_of m d s b c
word_here m s c b k d ch cl bl at =
    ap (λ t. word_of m d t (offset_of m s b % m.unit) (unit_at m (position_in m k) (offset_of m s b)))
    (stripe_here m s c b k ch cl bl at)
    ∙ ap (λ r. word_of m d s r (unit_at m (position_in m k) (offset_of m s b))) (offset_here m s b bl)
    ∙ ap (λ u. word_of m d s b u) (unit_here m s c b k ch cl bl at)
