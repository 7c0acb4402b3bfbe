-- A job that runs waits for something.
use Rattle.std.specs.Prelude.{◌≡◌, ℕ, List, Some}
use Rattle.server_rules.specs.Laws.{Rests}
use Rattle.scenario_text.specs.declared.line.Line.{Line}
use Rattle.world_history.specs.ServerNames.{File}
use Rattle.world_history.specs.Book.{book_of}

-- the job of each file, if one runs, awaits some command
abbrev pub JobsWait : List Line → Type 0
JobsWait h = (file : ℕ) (f : File) → book_of h file ≡ Some f → Rests f.job

-- so it is of any lines
abbrev pub EachJobWaits : Type 0
EachJobWaits = (h : List Line) → JobsWait h
