-- What is read of the drives off the lines of a history.
use Rattle.std.specs.Prelude.{◌≡◌, ℕ, List}
use Rattle.scenario_text.specs.declared.line.Line.{Line}
use Rattle.world_history.specs.State.{World, at_number}
use Rattle.world_history.specs.ReadDrives.{drive_after}
use Rattle.world_history.specs.History.{StandsFor}

-- the drives that are read off a history are those of each world that stands for it
abbrev pub DrivesAreRead : Type 0
DrivesAreRead = (w : World) (h : List Line) → StandsFor w h → (d : ℕ) → drive_after h d ≡ at_number w.drives d
