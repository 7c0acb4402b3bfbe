-- What the note that a repair is over says of the repair that the last step of some lines ends.
use Rattle.std.specs.Prelude.{◌≡◌, ◌++◌, ℕ, List, [], ◌∷◌, length}
use Rattle.scenario_text.specs.declared.line.Line.{Line}
use Rattle.scenario_text.specs.declared.line.Line.TheVariants as line
use Rattle.scenario_text.specs.declared.line.Note.TheVariants as note
use Rattle.server_rules.specs.Grants.{merged, count_stripes}
use Rattle.world_history.specs.ServerNames.{File, Mended}
use Rattle.world_history.specs.History.{Lawful}
use Rattle.history_law.specs.Read.{AreWritten}
use Rattle.file_simulation.specs.Claim.{EndsRepair, IsBefore}

-- The last step of some lines ends a repair of the file. It counted the stripes of the grants that fences ended by the book before
-- it, or that were live, so many, and left so many of them short.
pub record EndsCounted (h : List Line) (file stripes short : ℕ) : Type 0 where
  pub repair : Mended
  pub ends : EndsRepair h file repair
  pub before : File
  pub there : IsBefore ends.earlier file before
  pub worked : repair.worked ≡ merged (before.kept.ended ++ before.kept.grants)
  pub counted : count_stripes repair.worked ≡ stripes
  pub left : length repair.short ≡ short

-- So it is right behind each note that a repair is over, with the numbers of the note.
abbrev pub RepairsAreCounted : Type 0
RepairsAreCounted =
    (before : List Line) (file stripes short : ℕ) →
    Lawful (before ++ line.Note file (note.Repaired stripes short) ∷ []) →
    AreWritten (before ++ line.Note file (note.Repaired stripes short) ∷ []) →
    EndsCounted (before ++ line.Note file (note.Repaired stripes short) ∷ []) file stripes short
