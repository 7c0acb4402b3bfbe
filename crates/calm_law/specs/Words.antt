-- What is kept of a file.
use Rattle.std.specs.Prelude.{◌≡◌, ℕ, List, Option, Some, None}
use Rattle.server_rules.specs.Files.{file_at}
use Rattle.world_history.specs.ServerNames.{File, Kept}
use Rattle.world_calm.specs.declared.files.SeenFile.{SeenFile}
use Rattle.world_calm.specs.Files.{seen_as}
use Rattle.world_calm.specs.Seeing.{KeptOf}

-- what is kept of a file's map and components
abbrev pub seen_in : Option File → Option SeenFile
seen_in None = None
seen_in (Some f) = Some (seen_as f.kept)

-- what the server keeps of it
abbrev pub kept_in : Option File → Option Kept
kept_in None = None
kept_in (Some f) = Some f.kept

-- of each of these files
abbrev pub IsKeptOf : List File → KeptOf → Type 0
IsKeptOf fs kept = (n : ℕ) → kept n ≡ kept_in (file_at fs n)
