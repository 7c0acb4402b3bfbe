-- The steps of a server that serves, one after the other.
use Rattle.std.specs.Prelude.{ℕ, List, [], ◌∷◌, false}
use Rattle.osd_lists.specs.declared.node.Node.{Node}
use Rattle.data_map.specs.declared.check.RawMap.{RawMap}
use Rattle.server_rules.specs.declared.server.Drive.{Drive}
use Rattle.server_rules.specs.declared.server.Server.{Server}
use Rattle.server_rules.specs.Envelopes.{on_bytes}
use Rattle.server_rules.specs.History.{unless_made}
use Rattle.server_rules.specs.Making.{add_drive, create_file, set_format}

-- what a server does in one step; `chosen` are the drives that the placer names
pub data ServerStep : Type 0 where
  -- bytes of a node are heard at a time
  Hears : (time : ℕ) → (chosen : List ℕ) → Node → (message : List ℕ) → ServerStep
  -- a file is made with this tag, whatever the zones
  Makes : (file : ℕ) → RawMap → (tag : ℕ) → (chosen : List ℕ) → ServerStep
  -- there is a further drive
  Adds : Drive → ServerStep
  -- fences are to leave files with this format at least
  Raises : (format : ℕ) → ServerStep

-- the server after one
abbrev pub after_step : Server → ServerStep → Server
after_step s (Hears time chosen from message) = (on_bytes s time chosen from message).state
after_step s (Makes file map tag chosen) = (unless_made s (create_file s file map tag false chosen)).state
after_step s (Adds d) = record s { drives = add_drive s.drives d }
after_step s (Raises format) = set_format s format

-- and after these
abbrev pub after_steps : Server → List ServerStep → Server
after_steps s [] = s
after_steps s (x ∷ xs) = after_steps (after_step s x) xs
