-- How what an audit has found goes on, from step to step.
use Rattle.std.specs.Prelude.{◌≡◌, ℕ, false, true, List, ◌∷◌, ◌++◌, Option, Some, None}
use Rattle.server_rules.specs.History.{Input}
use Rattle.scenario_text.specs.declared.line.Line.{Line}
use Rattle.world_history.specs.ServerNames.{Server, File, Kept, Job, Lengths, Checks, Piece, Tally}
use Rattle.world_history.specs.Book.{server_after, book_of}
use Rattle.world_history.specs.State.{World}
use Rattle.world_history.specs.History.{StandsFor}
use Rattle.history_law.specs.Read.{AreWritten}
use Rattle.component_law.specs.Components.{is_lacking}
use Rattle.cause_law.specs.Steps.{AtInputs}
use Rattle.history_claims.specs.Notes.{found_first, all_pieces, Through, GoesThrough}

-- the job audits, has these pieces left, of which it reads the first, and has found this
abbrev pub HasFound : Option Job → List Piece → Tally → Type 0
HasFound None left found = ⊥
HasFound (Some j) left found = j.work ≡ Checks left found

-- a component is lost in the step
pub record LosesOne (f : File) (g : Kept) : Type 0 where
  pub component : ℕ
  pub stood : is_lacking f.kept.components component ≡ false
  pub lacks : is_lacking g.components component ≡ true

-- Why it has them left, and has found this, behind a step: it did before; or by a reply; or since a component was lost, and its
-- piece begins again, or no further length is awaited.
pub data FoundGoes (s : Server) (i : Input) (f : File) (g : Kept) (left : List Piece) (found : Tally) : Type 0 where
  AsBefore : HasFound f.job left found → FoundGoes s i f g left found
  ByReply : GoesThrough s i f g left found → FoundGoes s i f g left found
  ByLoss : LosesOne f g → (todo : List Piece) (t : Tally) → HasFound f.job todo t → Through g todo t left found
      → FoundGoes s i f g left found
  ByLast : LosesOne f g → (j : Job) → f.job ≡ Some j → j.work ≡ Lengths
      → Through g (all_pieces g) (found_first j.heard) left found → FoundGoes s i f g left found

-- so it is of each file behind these lines of the step
abbrev pub FoundsGo : (before : List Line) → Line → Input → (rest : List Line) → Type 0
FoundsGo before l i rest =
    (file : ℕ) (g : File) (left : List Piece) (found : Tally) → book_of (before ++ l ∷ rest) file ≡ Some g
    → HasFound g.job left found
    → (f : File) × (book_of before file ≡ Some f) × FoundGoes (server_after before) i f g.kept left found

abbrev pub FoundsHaveCauses : List Line → Type 0
FoundsHaveCauses h = AtInputs FoundsGo h

-- in each whole history whose events a text may have
abbrev pub EachFoundHasItsCause : Type 0
EachFoundHasItsCause = (w : World) (h : List Line) → StandsFor w h → AreWritten h → FoundsHaveCauses h
