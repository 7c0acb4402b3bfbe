-- On which drives the components of files stand, in every history.
use Rattle.std.specs.Prelude.{ℕ, List, Option, Some, None}
use Rattle.scenario_text.specs.declared.line.Line.{Line}
use Rattle.world_history.specs.ServerNames.{File}
use Rattle.world_history.specs.Book.{book_of}
use Rattle.world_history.specs.History.{Lawful}
use Rattle.history_law.specs.Safe.{AtEachMoment}
use Rattle.component_law.specs.Naming.{AreNamed}
use Rattle.component_law.specs.Sound.{IsAimed}
use Rattle.component_law.specs.Apart.{AreApart}

-- The components of a file, present or missing, stand on different drives. Where a rebuild makes a missing one anew, it
-- does so on a drive on which none of them stands or last stood.
abbrev pub StandApart : Option File → Type 0
StandApart None = Unit {0}
StandApart (Some f) = AreApart f.kept.components × IsAimed f

-- so do those of each file's book
abbrev pub AreComponentsApart : List Line → Type 0
AreComponentsApart h = (file : ℕ) → StandApart (book_of h file)

-- at each moment of a lawful history, where lines can name the drives and files that its events make
abbrev pub ComponentsStandApart : Type 0
ComponentsStandApart = (h : List Line) → Lawful h → AreNamed h → AtEachMoment AreComponentsApart h
