-- Which moves of a calm history keep a run of a file's machine calm.
use Rattle.std.specs.Prelude.{◌≡◌, ℕ, List, take, Some}
use Rattle.scenario_text.specs.declared.line.Line.{Line}
use Rattle.world_history.specs.ServerNames.{File}
use Rattle.world_history.specs.State.{World}
use Rattle.world_history.specs.Sending.{Move}
use Rattle.fence_law.specs.Machine.{Lawful as IsLawfulRun}
use Rattle.fence_law.specs.State.{State}
use Rattle.file_simulation.specs.ClientEvents.{Going, going_in}
use Rattle.file_simulation.specs.Events.{joined, events_of}
use Rattle.file_simulation.specs.Showing.{IsRun}
use Rattle.relation_law.specs.Steps.{Follows, behind, owed}

-- A move of a client takes a run of the machine to one, up to each line of the move whose events can happen.
abbrev pub ClientsKeepRuns : Type 0
ClientsKeepRuns =
    (w : World) (h : List Line) (m : Move) (count : ℕ) (f g : File) (s : State) → (k : Follows w h m count f g s) → (j : Going) →
    going_in w m.action ≡ Some j → IsLawfulRun s (joined (take count (events_of s w (owed k.related) f m))) →
    IsRun (behind k.related m count)
