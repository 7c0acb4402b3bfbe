-- The steps of a cluster, and where each may be.
use Rattle.std.specs.Prelude.{◌≡◌, ℕ, ◌<◌, true, false, List, [], ◌∷◌, slice_get, Some, None, Ok}
use Rattle.osd_lists.specs.declared.node.Node.{Node}
use Rattle.osd_lists.specs.declared.node.Node.TheVariants as node
use Rattle.scenario_text.specs.declared.names.TheConstants.{DRIVES, CLIENTS}
use Rattle.server_rules.specs.Files.{Step as ServerStep}
use Rattle.server_rules.specs.Making.{create_file}
use Rattle.server_rules.specs.Envelopes.{on_bytes}
use Rattle.world_history.specs.ServerNames.{Server, RawMap, Order, OrderKind, ToDeclare}
use Rattle.world_history.specs.ClientNames.{CallOp}
use Rattle.world_history.specs.declared.messages.Message.{Message}
use Rattle.world_history.specs.State.{at_number}
use Rattle.world_history.specs.Moves.{has_algorithm, knows_drive}
use Rattle.cluster_history.specs.State.{DriveHere, ClientHere, Cluster}

-- A step of one party. A message is named by its number in the order of sending, from 0; `chosen` are the drives that the
-- server's placer names.
pub data Step : Type 0 where
  -- the server learns of a drive, which has this key and capacity; and its format rises
  Knows : (drive : ℕ) (key : List ℕ) (capacity : ℕ) → Step
  Raises : (format : ℕ) → Step
  -- it makes a file
  Makes : (chosen : List ℕ) (file : ℕ) → RawMap → Step
  -- it takes a message at a time of its clock; or an order, whoever gave it; or bytes that change nothing
  Hears : (time : ℕ) (chosen : List ℕ) (message : ℕ) → Step
  Obeys : (time : ℕ) (chosen : List ℕ) → Order → Step
  Passes : (time : ℕ) (chosen : List ℕ) (from : Node) (bytes : List ℕ) → Step
  -- it sends again what its jobs wait for
  Resends : Step
  -- its process ends, and what is kept of it stays; and a further process goes on with that
  Crashes : Step
  Opens : Step
  -- a drive takes a message at a time of its clock, or any other bytes, from whomever
  Takes : (drive time message : ℕ) → Step
  IsHit : (drive time : ℕ) (bytes : List ℕ) → Step
  -- its process ends, and its store keeps all; a further process opens that; or the drive is lost for good
  Falls : (drive : ℕ) → Step
  Rises : (drive : ℕ) → Step
  IsLost : (drive : ℕ) → Step
  -- the first process of a client begins, with the request number 1
  Begins : (client : ℕ) → Step
  -- a client is called; it takes a message; a component doesn't answer it; it gives all grants back; it sends again what it
  -- waits for
  Calls : (client : ℕ) → CallOp → Step
  Learns : (client message : ℕ) → Step
  Misses : (client component : ℕ) → Step
  Leaves : (client : ℕ) → Step
  SendsAgain : (client : ℕ) → Step
  -- no process will go on with it
  Ends : (client : ℕ) → Step

-- ---- where a step may be

-- the drive is there, its process is up, and it isn't lost
pub record IsUp (k : Cluster) (drive : ℕ) : Type 0 where
  pub here : DriveHere
  pub found : at_number k.drives drive ≡ Some here
  pub up : here.up ≡ true
  pub kept : here.lost ≡ false

-- no process of it is up, and it isn't lost
pub record IsDown (k : Cluster) (drive : ℕ) : Type 0 where
  pub here : DriveHere
  pub found : at_number k.drives drive ≡ Some here
  pub down : here.up ≡ false
  pub kept : here.lost ≡ false

-- it is there and isn't lost
pub record IsKept (k : Cluster) (drive : ℕ) : Type 0 where
  pub here : DriveHere
  pub found : at_number k.drives drive ≡ Some here
  pub kept : here.lost ≡ false

-- it is lost
pub record IsGone (k : Cluster) (drive : ℕ) : Type 0 where
  pub here : DriveHere
  pub found : at_number k.drives drive ≡ Some here
  pub gone : here.lost ≡ true

-- the client is there, and wasn't left
pub record IsLive (k : Cluster) (client : ℕ) : Type 0 where
  pub here : ClientHere
  pub found : at_number k.clients client ≡ Some here
  pub live : here.left ≡ false

-- the message was sent, and to this party
pub record WasSentTo (k : Cluster) (number : ℕ) (to : Node) : Type 0 where
  pub message : Message
  pub there : slice_get k.sent number ≡ Some message
  pub receiver : message.to ≡ to

-- the number names a drive, and it is new
pub record IsNewDrive (k : Cluster) (drive : ℕ) : Type 0 where
  pub named : drive < DRIVES
  pub absent : at_number k.drives drive ≡ None
  pub unknown : knows_drive k.server drive ≡ false

-- the number names a client, and no process of it ever began
pub record IsNewClient (k : Cluster) (client : ℕ) : Type 0 where
  pub named : client < CLIENTS
  pub absent : at_number k.clients client ≡ None

-- the file can be made
pub record CanMake (s : Server) (chosen : List ℕ) (file : ℕ) (m : RawMap) : Type 0 where
  pub algorithm : has_algorithm m ≡ true
  pub step : ServerStep
  pub made : create_file s file m 1 false chosen ≡ Ok step

-- bytes leave the server as it is, and it notes nothing of them
pub record ChangesNothing (s : Server) (time : ℕ) (chosen : List ℕ) (from : Node) (bytes : List ℕ) : Type 0 where
  pub state : (on_bytes s time chosen from bytes).state ≡ s
  pub notes : (on_bytes s time chosen from bytes).notes ≡ []

-- a drive that is declared, and that the server knows, is lost
abbrev pub IsTrueOrder : Cluster → OrderKind → (target : ℕ) → Type 0
IsTrueOrder k ToDeclare d = knows_drive k.server d ≡ true → IsGone k d
IsTrueOrder k kind target = Unit {0}

-- the client has no call
abbrev pub IsIdle : Cluster → (client : ℕ) → Type 0
IsIdle k c = (l : IsLive k c) × (l.here.state.call ≡ None)

-- What has to be where a step is. Of who sent what reaches a party it says: whatever a client takes, and whatever the server
-- takes in `Hears`, was sent to it.
abbrev pub May : Cluster → Step → Type 0
May k (Knows d key capacity) = (k.up ≡ true) × IsNewDrive k d
May k (Raises format) = k.up ≡ true
May k (Makes chosen f m) = (k.up ≡ true) × CanMake k.server chosen f m
May k (Hears time chosen n) = (k.up ≡ true) × WasSentTo k n node.Server
May k (Obeys time chosen o) = (k.up ≡ true) × IsTrueOrder k o.order o.target
May k (Passes time chosen from bytes) = (k.up ≡ true) × ChangesNothing k.server time chosen from bytes
May k Resends = k.up ≡ true
May k Crashes = k.up ≡ true
May k Opens = k.up ≡ false
May k (Takes d time n) = IsUp k d × WasSentTo k n (node.Drive d)
May k (IsHit d time bytes) = IsUp k d
May k (Falls d) = IsUp k d
May k (Rises d) = IsDown k d
May k (IsLost d) = IsKept k d
May k (Begins c) = IsNewClient k c
May k (Calls c op) = IsLive k c
May k (Learns c n) = IsLive k c × WasSentTo k n (node.Client c)
May k (Misses c component) = IsLive k c
May k (Leaves c) = IsIdle k c
May k (SendsAgain c) = IsLive k c
May k (Ends c) = IsLive k c
