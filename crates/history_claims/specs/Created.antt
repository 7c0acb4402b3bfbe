-- On which drives the components of a file are made, in the words of the lines.
use Rattle.std.specs.Prelude.{◌≡◌, ℕ, Bool, true, false, List, [], ◌∷◌, ◌++◌, map, Option, Some, None}
use Rattle.scenario_text.specs.declared.event.Event.{Event}
use Rattle.scenario_text.specs.declared.event.Event.TheVariants as event
use Rattle.scenario_text.specs.declared.event.FileMap.{FileMap}
use Rattle.scenario_text.specs.declared.line.Line.{Line}
use Rattle.scenario_text.specs.declared.line.Line.TheVariants as line
use Rattle.world_history.specs.ServerNames.{File, Component}
use Rattle.world_history.specs.State.{World}
use Rattle.world_history.specs.Book.{placed_in, book_of}
use Rattle.world_history.specs.History.{StandsFor}
use Rattle.history_law.specs.Read.{AreWritten}
use Rattle.history_law.specs.StepEnds.{BeginNone, BeginNext}

-- the drives to which CREATEs go are those of the file's components, in order; where there is no file, there are none
abbrev pub ArePlaced : List ℕ → Option File → Type 0
ArePlaced ds None = ds ≡ []
ArePlaced ds (Some f) = ds ≡ map (λ (at : Component). at.drive) f.kept.components

-- So it is of the CREATEs among the further lines of the event's step, and of the file as the book has it behind them.
pub record CreatesIts (before : List Line) (l : Line) (after : List Line) (number : ℕ) : Type 0 where
  pub rest : List Line
  pub more : List Line
  pub cut : after ≡ rest ++ more
  pub of_step : BeginNone rest
  pub ends : BeginNext more
  pub placed : ArePlaced (placed_in rest) (book_of (before ++ l ∷ rest) number)

-- the event that makes a file, which is spread over zones or not
abbrev pub file_event : (file : ℕ) → FileMap → (tag : ℕ) → (zoned : Bool) → Event
file_event f m tag true = event.ZonedFile f m tag
file_event f m tag false = event.File f m tag

-- of each event that makes a file which isn't there
abbrev pub FilesAreCreated : List Line → Type 0
FilesAreCreated h =
    (before after : List Line) (number : ℕ) (m : FileMap) (tag : ℕ) (zoned : Bool)
    → h ≡ before ++ line.Event (file_event number m tag zoned) ∷ after → book_of before number ≡ None
    → CreatesIts before (line.Event (file_event number m tag zoned)) after number

-- in each whole history whose events a text may have
abbrev pub EachFileIsCreated : Type 0
EachFileIsCreated = (w : World) (h : List Line) → StandsFor w h → AreWritten h → FilesAreCreated h
