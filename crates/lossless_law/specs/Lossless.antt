-- Histories in which nothing is lost: no drive fails or is declared, and no line tells that a component becomes missing.
use Rattle.std.specs.Prelude.{◌≡◌, true, List}
use Rattle.std.specs.List.{AllByRecursion}
use Rattle.scenario_text.specs.declared.event.Event.TheVariants as event
use Rattle.scenario_text.specs.declared.line.Note.TheVariants as note
use Rattle.scenario_text.specs.declared.line.Line.{Line}
use Rattle.scenario_text.specs.declared.line.Line.TheVariants as line
use Rattle.world_history.specs.State.{World}
use Rattle.world_history.specs.Calm.{calm}
use Rattle.world_history.specs.History.{StandsFor}
use Rattle.history_law.specs.Read.{AreWritten}

-- no drive fails by the line, and none is declared
abbrev pub KeepsDrives : Line → Type 0
KeepsDrives (line.Event (event.Fail d)) = ⊥
KeepsDrives (line.Event (event.Declare d)) = ⊥
KeepsDrives l = Unit {0}

-- the line doesn't tell that a component is missing for want of space, or by a client's report
abbrev pub TellsNoLoss : Line → Type 0
TellsNoLoss (line.Note f (note.NoSpace k)) = ⊥
TellsNoLoss (line.Note f (note.Reported k)) = ⊥
TellsNoLoss l = Unit {0}

-- both are so of the line
pub record IsLossless (l : Line) : Type 0 where
  pub drives : KeepsDrives l
  pub told : TellsNoLoss l

-- Where it is so of each line, no stripe is short at any moment, so the history is calm.
abbrev pub LosslessIsCalm : Type 0
LosslessIsCalm =
    (w : World) (h : List Line) → StandsFor w h → AreWritten h → AllByRecursion IsLossless h → calm h ≡ true
