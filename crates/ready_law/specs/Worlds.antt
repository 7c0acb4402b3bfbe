-- The scene that is read off the lines of a history, and that of a world that stands for it.
use Rattle.std.specs.Prelude.{◌≡◌, List}
use Rattle.scenario_text.specs.declared.line.Line.{Line}
use Rattle.world_history.specs.State.{World}
use Rattle.world_history.specs.History.{StandsFor}
use Rattle.history_law.specs.Read.{AreWritten}
use Rattle.ready_law.specs.Ready.{scene_of}
use Rattle.ready_law.specs.Answered.{scene_in}

-- The scene that is read off a history is that of each world that stands for it: a call is ready by the lines exactly where
-- it is by the world.
abbrev pub ScenesAreRead : Type 0
ScenesAreRead = (w : World) (h : List Line) → StandsFor w h → AreWritten h → scene_in h ≡ scene_of w h
