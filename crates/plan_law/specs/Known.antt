-- What is known of a column by the cells that are there.
use Rattle.std.specs.Prelude.{◌≡◌, ◌⊎◌, ℕ, ◌<◌, ◌≤◌, Bool, true, false, List, length, slice_index}
use Rattle.std.specs.List.{Contains}
use Rattle.parity_code.specs.Decoding.{ArePositions, decoded}
use Rattle.data_map.specs.declared.check.RawMap.{RawMap}
use Rattle.data_map.specs.Check.{IsChecked}
use Rattle.data_map.specs.Striping.{parities, group_width, data_units, stripe_of}
use Rattle.data_map.specs.Inverse.{stripe_at}
use Rattle.fence_law.specs.State.{State}
use Rattle.fence_law.specs.Columns.{AreBytes, Stood}
use Rattle.stripe_plan.specs.Lost.{among, is_short}
use Rattle.stripe_plan.specs.Laws.{word_of}
use Rattle.plan_law.specs.FileLayout.{layout_of, position_in, column_at, column_of_cell, word_in}

-- Data that have the same words in each cell of a byte's column whose component isn't out have the same byte there, where
-- no more positions are out than there is parity.
abbrev pub ColumnsAreKnown : Type 0
ColumnsAreKnown =
    (m : RawMap) (out : List ℕ) (l : ℕ) (d e : ℕ → ℕ) → IsChecked m → is_short m out (stripe_of m l) ≡ false →
    AreBytes d → AreBytes e →
    ((k z : ℕ) → k < m.comps → column_of_cell m k z ≡ column_at m l → among k out ≡ false →
    word_in m k z d ≡ word_in m k z e) → d l ≡ e l

-- So they have the same word in each cell of a column.
abbrev pub WordsAreKnown : Type 0
WordsAreKnown =
    (m : RawMap) (out : List ℕ) (k z : ℕ) (d e : ℕ → ℕ) → IsChecked m → k < m.comps →
    is_short m out (stripe_at m (position_in m k) z) ≡ false → AreBytes d → AreBytes e →
    ((f y : ℕ) → f < m.comps → column_of_cell m f y ≡ column_of_cell m k z → among f out ≡ false →
    word_in m f y d ≡ word_in m f y e) → word_in m k z d ≡ word_in m k z e

-- A replica of component k isn't gone; or all that is gone is out, and no more positions of the group of the cell at
-- offset z of component k are out than there is parity.
abbrev pub HasSource : RawMap → (gone : ℕ → Bool) → (out : List ℕ) → (k z : ℕ) → Type 0
HasSource m gone out k z =
    ((f : ℕ) × (f < m.comps) × (position_in m f ≡ position_in m k) × (gone f ≡ false)) ⊎
    (((f : ℕ) → f < m.comps → gone f ≡ true → among f out ≡ true) ×
    (is_short m out (stripe_at m (position_in m k) z) ≡ false))

-- All data that agree with what there was of a cell's column when the job's phase began have one word for the cell, where
-- it has such a source: what the machine asks of a rebuild.
abbrev pub RebuildsAreKnown : Type 0
RebuildsAreKnown =
    (m : RawMap) (tag : ℕ) (b : State) (out : List ℕ) (k z : ℕ) (d e : ℕ → ℕ) → IsChecked m →
    b.layout ≡ layout_of m tag → k < m.comps → HasSource m b.gone out k z → AreBytes d → AreBytes e →
    Stood b (b.layout.cell_col k z) d → Stood b (b.layout.cell_col k z) e →
    b.layout.word k z d ≡ b.layout.word k z e

-- A column that has the words of some data but for lost units, of which there are no more than there is parity, is
-- decoded to all their words.
abbrev pub DecodedAreWords : Type 0
DecodedAreWords =
    (m : RawMap) (s b : ℕ) (d : ℕ → ℕ) (lost col : List ℕ) → IsChecked m → AreBytes d →
    ArePositions (group_width m) lost → length lost ≤ parities m → length col ≡ group_width m →
    ((c : ℕ) → c < group_width m → ¬ Contains lost c → slice_index col c ≡ word_of m d s b c) →
    (c : ℕ) → slice_index (decoded (data_units m) lost col) c ≡ word_of m d s b c
