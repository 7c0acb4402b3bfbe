-- When a moment that is looked at shows what disturbs the columns of a machine, and which of it is left.
use Rattle.std.specs.Prelude.{◌≡◌, ℕ, true, length, slice_get, Some}
use Rattle.server_rules.specs.Files.{file_at}
use Rattle.world_history.specs.ServerNames.{File, Component}
use Rattle.world_history.specs.ReadLog.{Logged}
use Rattle.world_history.specs.Stripes.{Moment, is_lost, is_unfinished, is_left}
use Rattle.fence_law.specs.State.{State}
use Rattle.fence_law.specs.Columns.{Disturbed, Torn}
use Rattle.file_simulation.specs.Showing.{Pairs, IsPair, HasMark}

-- The moment has this file; what the machine has as lost is lost there, and what disturbs a column has its mark.
pub record IsWatched (s : State) (m : Moment) (f : File) (pairs : Pairs) : Type 0 where
  pub there : file_at m.server.files f.kept.number ≡ Some f
  pub long : length f.kept.components ≡ f.kept.map.comps
  pub lost : (k : ℕ) (at : Component) → slice_get f.kept.components k ≡ Some at → s.lost k ≡ true → is_lost m at ≡ true
  pub marks : (x : ℕ) (d : Disturbed s x) → HasMark s m f pairs d.0 x

-- entry i of the moment's log is unfinished, and left
pub record IsLeftThere (m : Moment) (f : File) (i : ℕ) : Type 0 where
  pub entry : Logged
  pub found : slice_get m.log.entries i ≡ Some entry
  pub unfinished : is_unfinished entry ≡ true
  pub left : is_left m f entry ≡ true

-- so is each that tears a column with parity
abbrev pub AreLeft : State → Moment → File → Pairs → Type 0
AreLeft s m f pairs =
    (x i : ℕ) (t : Torn s x) → s.layout.coded x ≡ true → IsPair pairs i t.0 → IsLeftThere m f i
