-- When the tag of a file changes: exactly in a step that tells that a fence of it is over.
use Rattle.std.specs.Prelude.{◌≡◌, ◌+◌, ℕ, List, [], ◌∷◌, ◌++◌, Option, Some, None}
use Rattle.server_rules.specs.History.{Input}
use Rattle.scenario_text.specs.declared.line.Line.{Line}
use Rattle.world_history.specs.ServerNames.{File}
use Rattle.world_history.specs.Book.{book_of}
use Rattle.world_history.specs.State.{World}
use Rattle.world_history.specs.History.{StandsFor}
use Rattle.history_law.specs.Read.{AreWritten}
use Rattle.component_law.specs.FenceTags.{tags_told, IsMakingWith}
use Rattle.cause_law.specs.Steps.{AtInputs}

-- How the tag of a file goes on in a step with these lines: there is no such file; it is made, with the tag that it is to have;
-- no line tells that a fence of it is over, and the tag stays; or just one line does, with the next tag, which is the file's
-- behind it.
pub data TagGoes (i : Input) (lines : List Line) (file : ℕ) : (before behind : Option File) → Type 0 where
  Absent : tags_told file lines ≡ [] → TagGoes i lines file None None
  Made : (g : File) → IsMakingWith i file g.kept.tag → tags_told file lines ≡ [] → TagGoes i lines file None (Some g)
  Stays : (f g : File) → tags_told file lines ≡ [] → g.kept.tag ≡ f.kept.tag → TagGoes i lines file (Some f) (Some g)
  Raised : (f g : File) → tags_told file lines ≡ g.kept.tag ∷ [] → g.kept.tag ≡ f.kept.tag + 1
      → TagGoes i lines file (Some f) (Some g)

-- so it is of each file behind these lines of the step
abbrev pub TagsGo : (before : List Line) → Line → Input → (rest : List Line) → Type 0
TagsGo before l i rest =
    (file : ℕ) → TagGoes i rest file (book_of before file) (book_of (before ++ l ∷ rest) file)

abbrev pub TagsHaveCauses : List Line → Type 0
TagsHaveCauses h = AtInputs TagsGo h

-- in each whole history whose events a text may have
abbrev pub EachTagHasItsCause : Type 0
EachTagHasItsCause = (w : World) (h : List Line) → StandsFor w h → AreWritten h → TagsHaveCauses h
