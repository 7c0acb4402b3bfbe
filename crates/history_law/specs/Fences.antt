-- What holds of fences as far as nothing is forged, whoever asks for what.
use Rattle.std.specs.Prelude.{List}
use Rattle.scenario_text.specs.declared.line.Line.{Line}
use Rattle.world_history.specs.State.{World}
use Rattle.world_history.specs.History.{StandsFor}
use Rattle.history_law.specs.Read.{AreWritten}
use Rattle.history_law.specs.Fenced.{FencesLast}

-- In each whole history, of each note that a fence is over: if nothing is forged up to the end of the note's step, the file is so
-- behind it, by the server and the drives that are read off the lines; and from there on, whatever is forged then, no command
-- of an earlier tag is performed on the object of any component of the file that isn't missing there.
abbrev pub UnforgedAreFenced : Type 0
UnforgedAreFenced = (w : World) (h : List Line) → StandsFor w h → AreWritten h → FencesLast h
