-- What jobs wait for, once more.
use Rattle.std.specs.Prelude.{ℕ, List, [], ◌∷◌, ◌++◌, Option, Some, None}
use Rattle.server_rules.specs.declared.files.File.{File}
use Rattle.server_rules.specs.declared.server.Drive.{Drive}
use Rattle.server_rules.specs.declared.server.Outgoing.{Outgoing}
use Rattle.server_rules.specs.Files.{to_drives}
use Rattle.server_rules.specs.Messages.{awaited_by}
use Rattle.server_state.specs.FileRequests.{waited}

-- what the jobs of these files wait for, as it is sent once more
abbrev pub resent : List Drive → List File → List Outgoing
resent ds [] = []
resent ds (f ∷ fs) = to_drives ds (awaited_by f.job) ++ resent ds fs

-- the lowest component that the job of a file waits for
abbrev pub waited_of : Option File → Option ℕ
waited_of None = None
waited_of (Some f) = waited f.job
