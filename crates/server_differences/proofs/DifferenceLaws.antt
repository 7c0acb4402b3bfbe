-- The entries of files, one file after the other.
use Rattle.std.specs.Prelude.{ℕ, List, ◌∷◌, ◌++◌, Option, ◌≡◌}
use Rattle.std.specs.Option.{option_map}
use Rattle.std.proofs.Common.{ap, sym, subst, ◌∙◌, append_assoc}
use Rattle.server_rules.specs.declared.files.File.{File}
use Rattle.server_rules.specs.Files.{file_at}
use Rattle.file_jobs.specs.declared.job.FileState.{FileState}
use Rattle.file_jobs.specs.Steps.{file_of}
use Rattle.server_state.specs.Tables.{AreEntries, Table, entry_at, files_in}
use Rattle.server_state.proofs.TableLaws.{file_at-files}
use Rattle.server_entries.specs.declared.entry.Entry.{Entry}
use Rattle.server_differences.specs.Differences.{files_entries}
use Rattle.server_differences.specs.FileDifferences.{file_entries}

-- as far as the files are gone through: those that are left, and the entries with theirs
pub record SoFar (old left : Table) (entries all : List Entry) : Type 0 where
  pub good : AreEntries left
  pub done : entries ++ files_entries (files_in old) (files_in left) ≡ all

-- one file more
pub file_more : (old rest : Table) (n : ℕ) (f : FileState) (was : Option FileState) (es more all : List Entry) → AreEntries old →
    SoFar old ((n, f) ∷ rest) es all → was ≡ entry_at old n → more ≡ es ++ file_entries (option_map file_of was) f.kept →
    SoFar old rest more all
file_more old rest n f was es more all o so found added =
    let others : List Entry = files_entries (files_in old) (files_in rest) in
    let at : file_at (files_in old) f.kept.number ≡ option_map file_of was =
    ap (λ (k : ℕ). file_at (files_in old) k) so.good.0.number ∙ file_at-files old n o ∙ ap (option_map file_of) (sym found) in
    let same : more ++ others ≡ es ++ (file_entries (option_map file_of was) f.kept ++ others) =
    ap (λ (xs : List Entry). xs ++ others) added ∙ append_assoc es (file_entries (option_map file_of was) f.kept) others in
    record {
      good = so.good.1;
      done = same ∙ ap (λ (w : Option File). es ++ (file_entries w f.kept ++ others)) (sym at) ∙ so.done;
    }
