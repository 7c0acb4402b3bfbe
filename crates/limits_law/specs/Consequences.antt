-- What the limits have to leave room for.
use Rattle.std.specs.Prelude.{◌≡◌, ◌≤◌, ◌<◌, ◌+◌, ◌*◌, ◌^◌, ℕ}
use Rattle.client_rules.specs.declared.limits.TheConstants as client
use Rattle.server_rules.specs.declared.limits.TheConstants as server
use Rattle.osd_drive.specs.declared.limits.TheConstants as drive
use Rattle.osd_objects.specs.declared.lanes.TheConstants as objects
use Rattle.osd_commands.specs.declared.commands.TheConstants as command
use Rattle.data_map.specs.declared.ranges.TheConstants as file
use Rattle.data_map.specs.declared.check.TheConstants as map
use Rattle.layout_types.specs.declared.parts.TheConstants as structures
use Rattle.osd_bytes.specs.declared.records.TheConstants as wire
use Rattle.osd_bytes.specs.declared.lines.TheConstants as text
use Rattle.gate_log.specs.declared.entry.TheConstants as log
use Rattle.scenario_text.specs.declared.names.TheConstants as names
use Rattle.world_history.specs.declared.limits.TheConstants as world

-- how many bytes a line has at most beside the digits of the bytes that it spells
abbrev pub WORDS : ℕ
WORDS = 1000

-- a file on its drives
pub record FilesFit : Type 0 where
  -- a component is no longer than its file, and a row of units begins below its end
  pub ends : drive.MAX_END ≡ file.MAX_FILE_SIZE + map.MAX_STRIPE_UNIT
  -- each component is on a drive of its own
  pub drives : server.MAX_FILE_COMPONENTS ≤ names.DRIVES
  pub maps : server.MAX_FILE_COMPONENTS ≤ map.MAX_COMPONENTS
  -- a layout lists them
  pub listed : server.MAX_FILE_COMPONENTS ≤ structures.MAX_MEMBERS
  -- the bytes of a call go to a drive in one command
  pub calls : client.MAX_CALL ≤ drive.MAX_LENGTH

-- what a drive takes fits a record of a connection and of its store, and a scenario can say it
pub record MessagesFit : Type 0 where
  pub commands : command.BLOCK + drive.MAX_LENGTH ≤ wire.MAX_RECORD
  pub kept : command.BLOCK + drive.MAX_LENGTH ≤ log.MAX_BODY
  -- a write is a line of two digits a byte
  pub lines : 2 * client.MAX_CALL + WORDS ≤ text.MAX_LINE

-- no number is used up before what it counts
pub record NumbersSuffice : Type 0 where
  -- the clients and the server have each a lane in an object
  pub lanes : (server.MAX_CLIENT + 1) + 1 ≤ objects.MAX_LANES
  -- a client asks for a new grant before its nonces end
  pub nonces : client.MAX_COUNT < client.NONCES
  -- each message keeps a byte, so there are fewer of them than numbers of 32 bits
  pub messages : world.MAX_KEPT < 2 ^ 31
