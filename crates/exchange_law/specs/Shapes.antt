-- The components of files, by number.
use Rattle.std.specs.Prelude.{◌≡◌, ◌≤◌, ℕ, length, Some}
use Rattle.world_history.specs.ServerNames.{File, Kept}
use Rattle.world_history.specs.State.{World}
use Rattle.server_rules.specs.declared.limits.TheConstants.{MAX_FILE_COMPONENTS}
use Rattle.server_rules.specs.Files.{file_at}
use Rattle.history_law.specs.HistoryMoments.{IsReached}

-- a file has a component for each that its map has, and no more than a file may have
pub record HasShape (f : Kept) : Type 0 where
  pub components : length f.components ≡ f.map.comps
  pub few : f.map.comps ≤ MAX_FILE_COMPONENTS

-- so it is of each file, at each moment
abbrev pub FilesHaveShape : Type 0
FilesHaveShape = (w : World) → IsReached w → (n : ℕ) (f : File) → file_at w.server.files n ≡ Some f → HasShape f.kept
