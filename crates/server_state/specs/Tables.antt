-- The server's files, as the code has them: by number.
use Rattle.std.specs.Prelude.{ℕ, List, Option, ◌≡◌, map}
use Rattle.std.specs.List.{AllByRecursion}
use Rattle.std.specs.Ordering.{nat_cmp}
use Rattle.std.specs.BTreeMap.{is_at}
use Rattle.std.specs.Map.{lookup, remove_entry}
use Rattle.server_rules.specs.declared.files.File.{File}
use Rattle.file_jobs.specs.declared.job.FileState.{FileState}
use Rattle.file_jobs.specs.Steps.{file_of}
use Rattle.file_jobs.specs.Sound.{IsSoundFile}

abbrev pub Table : Type 0
Table = List (ℕ × FileState)

-- the files, as the rules have them
abbrev pub files_in : Table → List File
files_in t = map (λ e. file_of e.1) t

-- the file of a number
abbrev pub entry_at : Table → (number : ℕ) → Option FileState
entry_at t n = lookup (is_at (nat_cmp n)) t

-- the others than number n
abbrev pub without : (n : ℕ) → Table → Table
without n t = remove_entry (is_at (nat_cmp n)) t

-- a file stands at its number
pub record IsEntry (e : ℕ × FileState) : Type 0 where
  pub number : e.1.kept.number ≡ e.0
  pub sound : IsSoundFile e.1

-- all do
abbrev pub AreEntries : Table → Type 0
AreEntries t = AllByRecursion IsEntry t
