-- A cluster between two steps: its parties, and what their steps gave to send.
use Rattle.std.specs.Prelude.{ℕ, Bool, true, List, []}
use Rattle.osd_drive.specs.State.{DriveState}
use Rattle.server_rules.specs.Making.{new_server}
use Rattle.world_history.specs.ServerNames.{Server}
use Rattle.world_history.specs.ClientNames.{Client}
use Rattle.world_history.specs.declared.messages.Message.{Message}
use Rattle.world_history.specs.State.{with_number, and_number}

-- a drive as its rules have it, whether a process of it is up, and whether it is lost for good
pub record DriveHere : Type 0 where
  pub state : DriveState
  pub up : Bool
  pub lost : Bool

-- a client as its rules have it, and whether it was left: then no process goes on with it
pub record ClientHere : Type 0 where
  pub state : Client
  pub left : Bool

-- Drives and clients by number, the server and whether a process of it is up, and all messages that steps gave to send, in
-- order. A message is sent when a party's rules give it, and not only when it goes out: what never goes out is lost.
pub record Cluster : Type 0 where
  pub drives : List (ℕ × DriveHere)
  pub clients : List (ℕ × ClientHere)
  pub server : Server
  pub up : Bool
  pub sent : List Message

-- nobody is there but a server that knows nothing
abbrev pub empty_cluster : Cluster
empty_cluster = record { drives = []; clients = []; server = new_server []; up = true; sent = [] }

-- ---- changes of one party, and further parties

abbrev pub with_drive : Cluster → (drive : ℕ) → DriveHere → Cluster
with_drive k d h = record k { drives = with_number k.drives d h }

abbrev pub and_drive : Cluster → (drive : ℕ) → DriveHere → Cluster
and_drive k d h = record k { drives = and_number k.drives d h }

abbrev pub with_client : Cluster → (client : ℕ) → ClientHere → Cluster
with_client k c h = record k { clients = with_number k.clients c h }

abbrev pub and_client : Cluster → (client : ℕ) → ClientHere → Cluster
and_client k c h = record k { clients = and_number k.clients c h }
