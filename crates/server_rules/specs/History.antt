-- What comes to a server, and the one function of all its steps.
use Rattle.std.specs.Prelude.{ℕ, Bool, List, [], ◌∷◌, Result, Ok, Err}
use Rattle.osd_lists.specs.declared.node.Node.{Node}
use Rattle.server_rules.specs.State.{Server, RawMap, Drive, OrderKind, Outgoing, Note, Refusal}
use Rattle.server_rules.specs.Files.{Step, still}
use Rattle.server_rules.specs.Making.{add_drive, set_format, create_file}
use Rattle.server_rules.specs.Zoning.{put_in_zone}
use Rattle.server_rules.specs.Messages.{Message, on_message, resend}
use Rattle.server_rules.specs.Orders.{ordered}
use Rattle.server_rules.specs.Openings.{crash, reopen}

-- what comes to a server
pub data Input : Type 0 where
  -- a message of a node, at a time of the server's clock
  Hears : (now : ℕ) → Node → Message → Input
  -- a file is to be made, with this tag, spread over zones or not
  Makes : (file : ℕ) → RawMap → (tag : ℕ) → (zoned : Bool) → Input
  -- an order that is given at the server
  Obeys : OrderKind → (target : ℕ) → Input
  -- there is a further drive
  Adds : Drive → Input
  -- a drive that is in no zone is put into one
  Zones : (drive zone : ℕ) → Input
  -- fences are to leave files with this format at least
  Formats : (format : ℕ) → Input
  -- what jobs wait for is sent once more
  Resends : Input
  -- the server stops, and keeps all but its jobs
  Crashes : Input
  -- a server that stopped goes on
  Opens : Input

-- the server changes, and sends nothing
abbrev pub changed : Server → Step
changed s = still s

-- the step of a file that is made; else nothing happens
abbrev pub unless_made : Server → Result Step Refusal → Step
unless_made s (Ok step) = step
unless_made s (Err r) = still s

-- `chosen` are the drives that the placer names, in the order in which it is asked
abbrev pub step : Server → (chosen : List ℕ) → Input → Step
step s chosen (Hears now from message) = on_message s now chosen from message
step s chosen (Makes n m tag zoned) = unless_made s (create_file s n m tag zoned chosen)
step s chosen (Obeys kind n) = (ordered s chosen kind n).step
step s chosen (Adds d) = changed (record s { drives = add_drive s.drives d })
step s chosen (Zones d zone) = changed (record s { drives = put_in_zone s.drives d zone })
step s chosen (Formats n) = changed (set_format s n)
step s chosen Resends = record (still s) { sends = resend s }
step s chosen Crashes = changed (crash s)
step s chosen Opens = reopen s

-- ---- one step after the other

-- an input, and the drives that the placer names
pub record Act : Type 0 where
  pub input : Input
  pub chosen : List ℕ

-- the server after these
abbrev pub state_after : Server → List Act → Server
state_after s [] = s
state_after s (a ∷ acts) = state_after (step s a.chosen a.input).state acts

-- what came, and what the server did
pub record Event : Type 0 where
  pub act : Act
  pub sends : List Outgoing
  pub notes : List Note
