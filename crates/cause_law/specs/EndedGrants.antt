-- How the grants that fences ended go on, until a repair of their stripes is over.
use Rattle.std.specs.Prelude.{◌≡◌, ◌⊎◌, ◌+◌, ℕ, true, List, [], ◌∷◌, ◌++◌, Option, Some, None}
use Rattle.server_rules.specs.History.{Input}
use Rattle.server_rules.specs.Laws.{In}
use Rattle.scenario_text.specs.declared.line.Note.TheVariants.{Repaired}
use Rattle.scenario_text.specs.declared.line.Line.{Line}
use Rattle.scenario_text.specs.declared.line.Line.TheVariants as line
use Rattle.world_history.specs.ServerNames.{File}
use Rattle.world_history.specs.Book.{book_of}
use Rattle.world_history.specs.State.{World}
use Rattle.world_history.specs.History.{StandsFor}
use Rattle.history_law.specs.Fencing.{is_fencing}
use Rattle.history_law.specs.Read.{AreWritten}
use Rattle.cause_law.specs.Steps.{AtInputs}

-- one of these lines tells that a repair of the file is over
abbrev pub RepairOver : (file : ℕ) → List Line → Type 0
RepairOver n ls = (stripes left : ℕ) × In (line.Note n (Repaired stripes left)) ls

-- a fence of the file is open behind the step, or one is over in it
abbrev pub IsUnderFence : (before behind : File) → Type 0
IsUnderFence before behind = (is_fencing behind.job ≡ true) ⊎ (behind.kept.tag ≡ before.kept.tag + 1)

-- In a step with these lines: there is no such file, or it is made, and nothing is ended; a repair of it is over, and takes all;
-- a fence of it is open or over, so the live grants are ended too; or those that were ended stay so. (Where a fence was open
-- before the step no grant was live.)
pub data EndedGoOn (lines : List Line) (file : ℕ) : (before behind : Option File) → Type 0 where
  Absent : EndedGoOn lines file None None
  Made : (g : File) → g.kept.ended ≡ [] → EndedGoOn lines file None (Some g)
  Taken : (f g : File) → RepairOver file lines → g.kept.ended ≡ [] → EndedGoOn lines file (Some f) (Some g)
  Grows : (f g : File) → (RepairOver file lines → ⊥) → IsUnderFence f g → g.kept.ended ≡ f.kept.ended ++ f.kept.grants
      → EndedGoOn lines file (Some f) (Some g)
  Stays : (f g : File) → (RepairOver file lines → ⊥) → (IsUnderFence f g → ⊥) → g.kept.ended ≡ f.kept.ended
      → EndedGoOn lines file (Some f) (Some g)

-- so it is of each file behind these lines of the step
abbrev pub EndedGo : (before : List Line) → Line → Input → (rest : List Line) → Type 0
EndedGo before l i rest =
    (file : ℕ) → EndedGoOn rest file (book_of before file) (book_of (before ++ l ∷ rest) file)

abbrev pub EndedHaveCauses : List Line → Type 0
EndedHaveCauses h = AtInputs EndedGo h

-- in each whole history whose events a text may have
abbrev pub EachEndedHasItsCause : Type 0
EachEndedHasItsCause = (w : World) (h : List Line) → StandsFor w h → AreWritten h → EndedHaveCauses h
