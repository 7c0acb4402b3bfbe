-- What a repair leaves short: stripes that it counted, and that are short behind its step.
use Rattle.std.specs.Prelude.{◌≡◌, ◌++◌, ℕ, true, List, [], ◌∷◌, Some}
use Rattle.data_map.specs.Striping.{group_of}
use Rattle.server_rules.specs.Laws.{In}
use Rattle.server_rules.specs.Standing.{is_short}
use Rattle.scenario_text.specs.declared.line.Note.TheVariants as note
use Rattle.scenario_text.specs.declared.line.Line.{Line}
use Rattle.scenario_text.specs.declared.line.Line.TheVariants as line
use Rattle.world_history.specs.ServerNames.{File, Kept, Mended}
use Rattle.world_history.specs.Book.{book_of}
use Rattle.world_history.specs.Stripes.{is_worked}
use Rattle.world_history.specs.History.{Lawful}
use Rattle.history_law.specs.Read.{AreWritten}
use Rattle.history_law.specs.Safe.{AtEachLine}
use Rattle.file_simulation.specs.Claim.{EndsRepair}

-- Each stripe that the repair left short it counted, and a position of it has no present replica, by the file as the book has it.
pub record LeftShort (f : Kept) (r : Mended) : Type 0 where
  pub counted : (s : ℕ) → In s r.short → is_worked s r.worked ≡ true
  pub short : (s : ℕ) → In s r.short → is_short f.map f.components (group_of f.map s) ≡ true

-- So it is of the repair that the last step of some lines ends, by the book behind them.
abbrev pub LeavesShort : List Line → (file : ℕ) → Type 0
LeavesShort h file = (r : Mended) (f : File) → EndsRepair h file r → book_of h file ≡ Some f → LeftShort f.kept r

-- and right behind each note that a repair is over, if the events up to there are such as a text has them
abbrev pub LeftShortAt : List Line → Line → Type 0
LeftShortAt before (line.Note file (note.Repaired stripes short)) =
    AreWritten (before ++ line.Note file (note.Repaired stripes short) ∷ []) →
    LeavesShort (before ++ line.Note file (note.Repaired stripes short) ∷ []) file
LeftShortAt before l = Unit {0}

-- so it is of each line of a lawful history
abbrev pub RepairsLeaveShort : Type 0
RepairsLeaveShort = (h : List Line) → Lawful h → AtEachLine LeftShortAt h
