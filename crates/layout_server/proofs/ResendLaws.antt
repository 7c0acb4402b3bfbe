-- What jobs wait for, once more.
use Rattle.std.specs.Prelude.{ℕ, List, [], ◌∷◌, ◌++◌, Some, None, ◌≡◌, refl}
use Rattle.std.proofs.Common.{ap, sym}
use Rattle.server_rules.specs.declared.files.File.{File}
use Rattle.server_rules.specs.declared.server.Server.{Server}
use Rattle.server_rules.specs.Files.{file_at, to_drives}
use Rattle.server_rules.specs.Messages.{awaited_by, resend}
use Rattle.file_jobs.specs.declared.job.FileState.{FileState}
use Rattle.server_state.specs.Tables.{Table, files_in, entry_at, AreEntries}
use Rattle.server_state.specs.FileRequests.{waited}
use Rattle.layout_server.specs.Resending.{resent, waited_of}
use Rattle.server_state.proofs.TableLaws.{file_there, no_file_there}

-- the rules say the same
pub all_resent : (s : Server) → resent s.drives s.files ≡ resend s
all_resent s = go s s.files
  where
    go : (s : Server) (fs : List File) → resent s.drives fs ≡ resend (record s { files = fs })
    go s [] = refl
    go s (f ∷ fs) = ap (λ os. to_drives s.drives (awaited_by f.job) ++ os) (go s fs)

-- what the job of the file that there is waits for
pub waited_there : (t : Table) (n : ℕ) (f : FileState) → AreEntries t → entry_at t n ≡ Some f →
    waited f.job ≡ waited_of (file_at (files_in t) n)
waited_there t n f a e = ap waited_of (sym (file_there t n f a e))

pub none_waited : (t : Table) (n : ℕ) → AreEntries t → entry_at t n ≡ None → None ≡ waited_of (file_at (files_in t) n)
none_waited t n a e = ap waited_of (sym (no_file_there t n a e))
