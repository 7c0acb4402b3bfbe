-- What the guards of the server's events need besides what the machine has of what is kept.
use Rattle.std.specs.Prelude.{◌≡◌, ℕ, true}
use Rattle.data_map.specs.Check.{IsChecked}
use Rattle.data_map.specs.declared.check.RawMap.{RawMap}
use Rattle.world_history.specs.ServerNames.{Kept}
use Rattle.fence_law.specs.State.{State}
use Rattle.fence_law.specs.Columns.{Short}
use Rattle.plan_law.specs.FileLayout.{layout_of}
use Rattle.plan_law.specs.Standing.{column_stands}

-- A column of which each position has a replica that isn't lost isn't short.
abbrev pub StandingColumnsAreNotShort : Type 0
StandingColumnsAreNotShort =
    (m : RawMap) (tag : ℕ) (s : State) → IsChecked m → s.layout ≡ layout_of m tag → (x : ℕ) →
    column_stands m s.lost x ≡ true → Short s x → ⊥

-- The file's map can be used, and the machine has its layout.
pub record HasLayout (s : State) (k : Kept) : Type 0 where
  pub checked : IsChecked k.map
  pub tag : ℕ
  pub layout : s.layout ≡ layout_of k.map tag
