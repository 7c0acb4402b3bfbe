-- The world: its parties, and the messages between them.
use Rattle.std.specs.Prelude.{ℕ, Bool, false, List, [], Option}
use Rattle.std.specs.Ordering.{nat_cmp}
use Rattle.std.specs.BTreeMap.{is_at, insert_entry}
use Rattle.std.specs.Map.{lookup, set_value, remove_entry}
use Rattle.osd_drive.specs.State.{DriveState}
use Rattle.world_history.specs.ServerNames.{Server}
use Rattle.server_rules.specs.Making.{new_server}
use Rattle.world_history.specs.ClientNames.{Client}
pub use Rattle.world_history.specs.declared.messages.Body.{Body}
pub use Rattle.world_history.specs.declared.messages.Body.TheVariants.{Command as OfCommand, Reply as OfReply, Envelope as OfEnvelope}
pub use Rattle.world_history.specs.declared.messages.Message.{Message}
pub use Rattle.world_history.specs.declared.messages.Posted.{Posted}
pub use Rattle.world_history.specs.declared.messages.Sent.{Sent}

-- ---- parties

-- a drive of the world; one that failed has lost its objects and is deaf. One that is stored can crash: then it is down, and
-- deaf, and keeps all that it has
pub record DriveAt : Type 0 where
  pub state : DriveState
  pub clock : ℕ
  pub failed : Bool
  pub stored : Bool
  pub down : Bool

-- a client of the world; one that was stopped is deaf, and `wrote` says that a WRITE of its pending call was sent
pub record ClientAt : Type 0 where
  pub state : Client
  pub stopped : Bool
  pub wrote : Bool

-- what stands under a number, in a list by rising numbers
abbrev pub at_number : {X : Type 0} → List (ℕ × X) → (number : ℕ) → Option X
at_number xs number = lookup (is_at (nat_cmp number)) xs

-- this in the place of what stands under that number
abbrev pub with_number : {X : Type 0} → List (ℕ × X) → (number : ℕ) → X → List (ℕ × X)
with_number xs number x = set_value (is_at (nat_cmp number)) xs x

-- the same list, and this under a new number
abbrev pub and_number : {X : Type 0} → List (ℕ × X) → (number : ℕ) → X → List (ℕ × X)
and_number xs number x = insert_entry nat_cmp xs number x

-- what stands under a number is taken out
abbrev pub without_number : {X : Type 0} → List (ℕ × X) → (number : ℕ) → List (ℕ × X)
without_number xs number = remove_entry (is_at (nat_cmp number)) xs

-- ---- the world

-- what was sent, by number from 0, and the bytes that are kept of it and of the log's writes
pub record Network : Type 0 where
  pub messages : List Posted
  pub kept : ℕ

-- drives and clients by number, the server and its clock, the network, and whether the server is down: then it is deaf
pub record World : Type 0 where
  pub drives : List (ℕ × DriveAt)
  pub clients : List (ℕ × ClientAt)
  pub server : Server
  pub clock : ℕ
  pub network : Network
  pub down : Bool

-- nothing was made and nothing was sent
abbrev pub empty_world : World
empty_world = record {
  drives = [];
  clients = [];
  server = new_server [];
  clock = 0;
  network = record { messages = []; kept = 0 };
  down = false;
}

-- ---- changes of one party, and further parties

abbrev pub with_drive : World → (drive : ℕ) → DriveAt → World
with_drive w d a = record w { drives = with_number w.drives d a }

abbrev pub with_client : World → (client : ℕ) → ClientAt → World
with_client w c a = record w { clients = with_number w.clients c a }

abbrev pub and_drive : World → (drive : ℕ) → DriveAt → World
and_drive w d a = record w { drives = and_number w.drives d a }

abbrev pub and_client : World → (client : ℕ) → ClientAt → World
and_client w c a = record w { clients = and_number w.clients c a }

abbrev pub with_server : World → Server → World
with_server w s = record w { server = s }

-- the server is down from now on, or no longer
abbrev pub with_down : World → Bool → World
with_down w down = record w { down = down }
