-- No client's WRITE comes any more behind a whole move, where no grant of the file's tag was issued yet.
use Rattle.std.specs.Prelude.{List}
use Rattle.scenario_text.specs.declared.line.Line.{Line}
use Rattle.world_history.specs.ServerNames.{File}
use Rattle.world_history.specs.State.{World}
use Rattle.world_history.specs.Sending.{Move, move}
use Rattle.fence_law.specs.State.{State}
use Rattle.file_simulation.specs.Jobs.{AreQuiet}
use Rattle.relation_law.specs.Steps.{FollowsWhole, whole_behind, ComponentsGoOn, SentGoesOn, KeptGoesOn}

-- So it is where the move keeps what the machine has of the components, of what was sent, and of what the server keeps.
abbrev pub QuietFollows : Type 0
QuietFollows =
    ComponentsGoOn → SentGoesOn → KeptGoesOn → (w : World) (h : List Line) (m : Move) (f g : File) (s : State) →
    (k : FollowsWhole w h m f g s) → AreQuiet (whole_behind k) (move w m).world g
