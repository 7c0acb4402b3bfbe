-- A moment is calm exactly where no stripe is harmed by what is kept.
use Rattle.std.specs.Prelude.{◌≡◌, ℕ, true, not, List, Some}
use Rattle.server_rules.specs.Files.{file_at}
use Rattle.server_rules.specs.Numbers.{among}
use Rattle.world_history.specs.ServerNames.{File, Kept}
use Rattle.world_history.specs.Stripes.{Moment, is_calm}
use Rattle.world_calm.specs.declared.marks.Marked.{Marked}
use Rattle.world_calm.specs.Marking.{is_left, any_harmed}
use Rattle.world_calm.specs.Seeing.{CalmState, KeptOf}
use Rattle.component_law.specs.Words.{Each, is_there}
use Rattle.calm_law.specs.Files.{KeepsFiles}
use Rattle.calm_law.specs.Logs.{KeepsLog}
use Rattle.calm_law.specs.Marks.{KeepsMarks, HaveMaps}

-- the files of a moment have the grants that the server keeps of them
abbrev pub HaveGrants : (there now : List File) → KeptOf → Type 0
HaveGrants there now kept =
    (n : ℕ) (f : File) → is_there there n ≡ true → file_at now n ≡ Some f
    → (k : Kept) × (kept n ≡ Some k) × (k.grants ≡ f.kept.grants)

-- of each mark it is kept whether its write is left
abbrev pub AreLeft : KeptOf → (stopped : List ℕ) → List Marked → Type 0
AreLeft kept stopped ms = Each (λ (m : Marked). m.left ≡ is_left stopped kept m) ms

-- What is kept stands for a moment: files, log and marks do, the same clients were stopped, and of each mark it is kept
-- whether its write is left.
pub record KeepsMoment (there : List File) (kept : KeptOf) (m : Moment) (c : CalmState) : Type 0 where
  pub files : KeepsFiles there m.server.files m.failed c.files
  pub maps : HaveMaps there m.server.files
  pub grants : HaveGrants there m.server.files kept
  pub stopped : (d : ℕ) → among d c.stopped ≡ among d m.stopped
  pub log : KeepsLog m.log c.log
  pub marks : KeepsMarks there c.log.entries m.marks c.marks
  pub left : AreLeft kept c.stopped c.marks

-- such a moment is calm exactly where nothing is harmed
abbrev pub CalmAlike : Type 0
CalmAlike =
    (there : List File) (kept : KeptOf) (m : Moment) (c : CalmState) → KeepsMoment there kept m c
    → is_calm m ≡ not (any_harmed c.files c.marks)
