-- What the server writes of a piece, a run of columns of one stripe, is what stands there of the data whose rows it read.
use Rattle.std.specs.Prelude.{◌≡◌, ℕ, ◌+◌, ◌/◌, ◌<◌, ◌≤◌, List, length, slice_index, Some}
use Rattle.std.specs.List.{Contains}
use Rattle.data_map.specs.declared.check.RawMap.{RawMap}
use Rattle.data_map.specs.Check.{IsChecked}
use Rattle.data_map.specs.Striping.{group_width, parities, data_units, group_of, position_of, offset_of}
use Rattle.server_rules.specs.declared.files.Component.{Component}
use Rattle.server_rules.specs.declared.jobs.Heard.{Heard}
use Rattle.server_rules.specs.Standing.{replica}
use Rattle.server_rules.specs.Columns.{row_at, row_from, unit_rows, unit_with, wanted}
use Rattle.server_rules.specs.Decoding.{lost_units, restored}
use Rattle.stripe_plan.specs.Touched.{unit_start}
use Rattle.stripe_plan.specs.Laws.{word_of}
use Rattle.fence_law.specs.Columns.{AreBytes}
use Rattle.plan_law.specs.FileLayout.{position_in, word_in}

-- the group of stripe s has component k
abbrev pub HasComponent : RawMap → (s k : ℕ) → Type 0
HasComponent m s k = position_in m k / group_width m ≡ group_of m s

-- these bytes are the words of component k for the data d, from column first of stripe s on
abbrev pub AreWords : RawMap → (s first count k : ℕ) → (d : ℕ → ℕ) → List ℕ → Type 0
AreWords m s first count k d bytes =
    (j : ℕ) → first + j < m.unit → j < count → slice_index bytes j ≡ word_in m k (offset_of m s (first + j)) d

-- A repair: where the row of each unit of data, as it was read from the first present replica of its position, or zeros
-- where there is none, has the bytes of e, the row that is wanted of each component of the group has the words of e.
abbrev pub RepairsWriteWords : Type 0
RepairsWriteWords =
    (m : RawMap) (cs : List Component) (heard : List Heard) (s first count : ℕ) (e : ℕ → ℕ) → IsChecked m →
    ((c j : ℕ) → c < data_units m → j < count →
    slice_index (row_at heard (replica m cs (position_of m s c)) count) j ≡ e (unit_start m s c + (first + j))) →
    (k : ℕ) → HasComponent m s k →
    AreWords m s first count k e (wanted m (unit_rows m cs s heard count) (unit_with m s k) count)

-- A rebuild of a component whose position has a present replica: where the row of the first such replica has its words of
-- d, that row has the component's.
abbrev pub RebuildsCopyWords : Type 0
RebuildsCopyWords =
    (m : RawMap) (cs : List Component) (heard : List Heard) (s first count : ℕ) (d : ℕ → ℕ) (k f : ℕ) →
    replica m cs (position_in m k) ≡ Some f → AreWords m s first count f d (row_from heard f count) →
    AreWords m s first count k d (row_from heard f count)

-- A rebuild that decodes: where the row of each unit that isn't lost has the words of d, and no more units are lost than
-- there is parity, what is restored of each component of the group has them.
abbrev pub RebuildsWriteWords : Type 0
RebuildsWriteWords =
    (m : RawMap) (cs : List Component) (heard : List Heard) (s first count : ℕ) (d : ℕ → ℕ) → IsChecked m → AreBytes d →
    length (lost_units m cs s) ≤ parities m →
    ((c j : ℕ) → c < group_width m → ¬ Contains (lost_units m cs s) c → j < count →
    slice_index (row_at heard (replica m cs (position_of m s c)) count) j ≡ word_of m d s (first + j) c) →
    (k : ℕ) → HasComponent m s k →
    AreWords m s first count k d (restored m (lost_units m cs s) (unit_rows m cs s heard count) (unit_with m s k) count)
