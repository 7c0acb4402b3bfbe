-- Which files the lines of a step show anew.
use Rattle.std.specs.Prelude.{ℕ, Bool, false, ◌==◌, ◌&&◌, List}
use Rattle.scenario_text.specs.declared.event.Event.TheVariants as event
use Rattle.scenario_text.specs.declared.line.Note.TheVariants as note
use Rattle.scenario_text.specs.declared.line.Line.{Line}
use Rattle.scenario_text.specs.declared.line.Line.TheVariants as line
use Rattle.world_history.specs.ServerNames.{File}
use Rattle.component_law.specs.Words.{is_there}

-- file n, at a line: it is made, or a component of it was rebuilt; a declaration shows every file that is kept
abbrev pub shows_file : (known : Bool) → (behind : List File) → (n : ℕ) → Line → Bool
shows_file known behind n (line.Event (event.File f m tag)) = (f == n) && is_there behind n
shows_file known behind n (line.Event (event.ZonedFile f m tag)) = (f == n) && is_there behind n
shows_file known behind n (line.Event (event.Declare d)) = known && is_there behind n
shows_file known behind n (line.Note f (note.Rebuilt k d)) = (f == n) && is_there behind n
shows_file known behind n l = false
