-- What is claimed of the bytes that a write sends.
use Rattle.std.specs.Prelude.{◌≡◌, ℕ, ◌%◌, ◌<◌, ◌≤◌, Bool, true, false, List, length, None}
use Rattle.std.specs.List.{All}
use Rattle.data_map.specs.declared.check.RawMap.{RawMap}
use Rattle.data_map.specs.Check.{IsChecked}
use Rattle.data_map.specs.Striping.{parities}
use Rattle.data_map.specs.Inverse.{stripe_at, unit_at}
use Rattle.fence_law.specs.Columns.{AreBytes}
use Rattle.stripe_plan.specs.declared.plan.Span.{Span}
use Rattle.stripe_plan.specs.declared.plan.Column.{Column}
use Rattle.stripe_plan.specs.declared.plan.Aim.TheVariants.{Gathers}
use Rattle.stripe_plan.specs.Touched.{end_of, stripes}
use Rattle.stripe_plan.specs.Lost.{among, unwritable}
use Rattle.stripe_plan.specs.Words.{word_at}
use Rattle.stripe_plan.specs.Plans.{stores}
use Rattle.stripe_plan.specs.Laws.{IsFetched}
use Rattle.plan_law.specs.FileLayout.{position_in, column_of_cell}
use Rattle.plan_law.specs.Writes.{IsCarried, IsRightStore, touches_cell, hits_cell, word_after}
use Rattle.plan_law.specs.Got.{Fits}

-- A write may scatter: it has as many bytes as its range, no touched stripe lacks more positions than it has parity, and
-- with parity all is got that its gather asks.
pub record MayScatter (m : RawMap) (r : Span) (bytes : List ℕ) (got : List Column) (out : List ℕ) : Type 0 where
  pub checked : IsChecked m
  pub long : length bytes ≡ r.length
  pub can : unwritable m out (stripes m r) ≡ None
  pub fetched : 0 < parities m → IsFetched Gathers m r got out

-- What the plan of such a write makes for a byte of a component that it changes, whether the component is out or not, is
-- what stands there after the write, whichever data there were that fit what was got of that column: of a whole stripe,
-- of old data and old parity that change, and of data that are decoded.
abbrev pub PayloadsAreRight : Type 0
PayloadsAreRight =
    (m : RawMap) (r : Span) (bytes : List ℕ) (got : List Column) (out : List ℕ) → MayScatter m r bytes got out →
    (k z : ℕ) (d : ℕ → ℕ) → k < m.comps → touches_cell m r k z ≡ true → AreBytes d →
    Fits m got (column_of_cell m k z) d →
    word_at m r bytes got out (stripe_at m (position_in m k) z) (z % m.unit) (unit_at m (position_in m k) z)
    ≡ word_after m r bytes k z d

-- All data that fit what was got of a column give one word after the write to each cell that is hit, also to one that
-- isn't sent since its component timed out.
abbrev pub WrittenWordsAreKnown : Type 0
WrittenWordsAreKnown =
    (m : RawMap) (r : Span) (bytes : List ℕ) (got : List Column) (out : List ℕ) (left : ℕ → Bool) →
    MayScatter m r bytes got out → (k z : ℕ) → hits_cell m r left k z ≡ true → (d e : ℕ → ℕ) → AreBytes d → AreBytes e →
    Fits m got (column_of_cell m k z) d → Fits m got (column_of_cell m k z) e →
    word_after m r bytes k z d ≡ word_after m r bytes k z e

-- Each WRITE of a scatter is right, and each byte that the write changes is carried to each component that isn't out.
abbrev pub StoresAreRight : Type 0
StoresAreRight =
    (m : RawMap) (r : Span) (bytes : List ℕ) (got : List Column) (out : List ℕ) → MayScatter m r bytes got out →
    All (IsRightStore m r bytes got out) (stores m r bytes got out) ×
    ((k z : ℕ) → k < m.comps → among k out ≡ false → touches_cell m r k z ≡ true →
    IsCarried (stores m r bytes got out) k z)

-- Where no stripe of a range, as of one that was granted, lacks more positions than it has parity, none does of a range
-- in it.
abbrev pub WritableWithin : Type 0
WritableWithin =
    (m : RawMap) (out : List ℕ) (r q : Span) → IsChecked m → r.offset ≤ q.offset → end_of q ≤ end_of r →
    unwritable m out (stripes m r) ≡ None → unwritable m out (stripes m q) ≡ None
