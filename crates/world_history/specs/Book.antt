-- The server and the book of a file, read off the lines: its part of the state to which the steps of the lines lead.
use Rattle.std.specs.Prelude.{ℕ, Bool, true, false, List, [], ◌∷◌, Option, Some, None, Result, Ok, Err, slice_get, flat_map, if◌then◌else◌}
use Rattle.std.specs.List.{fold}
use Rattle.data_map.specs.declared.check.RawMap.{RawMap}
use Rattle.osd_commands.specs.declared.commands.Command.{Command}
use Rattle.osd_commands.specs.declared.commands.CommandErr.{CommandErr}
use Rattle.osd_commands.specs.Commands as commands
use Rattle.osd_drive.specs.Table.{is_create}
use Rattle.world_history.specs.ServerNames.{Server, File, Grant, Awaited, ToRecall, ToRevoke, ToDeclare, ToRebuild, ToAudit}
use Rattle.server_rules.specs.Files.{Step as ServerStep, file_at}
use Rattle.server_rules.specs.Making.{new_server}
use Rattle.server_rules.specs.Messages.{Message, awaited_by}
use Rattle.server_rules.specs.Envelopes.{message_in}
use Rattle.server_rules.specs.History.{Input, Hears, Makes, Obeys, Adds, Zones, Formats, Crashes, Opens, step}
use Rattle.scenario_text.specs.declared.event.Event.{Event}
use Rattle.scenario_text.specs.declared.event.Event.TheVariants as event
use Rattle.scenario_text.specs.declared.event.Machine.TheVariants as machine
use Rattle.scenario_text.specs.declared.line.Delivery.TheVariants as delivery
use Rattle.scenario_text.specs.declared.line.Party.{Party}
use Rattle.scenario_text.specs.declared.line.Party.TheVariants as party
use Rattle.scenario_text.specs.declared.line.Line.{Line}
use Rattle.scenario_text.specs.declared.line.Line.TheVariants as line
use Rattle.world_history.specs.Spelled.{node_of}
use Rattle.world_history.specs.Moves.{raw_of, has_algorithm, known_drive}
use Rattle.world_history.specs.State.{Sent}
use Rattle.world_history.specs.Reading.{Step, sent_after, steps_of}

-- ---- on which drives objects are made

-- the drive of a message that is a CREATE
abbrev pub created_by : (drive : ℕ) → Result Command CommandErr → List ℕ
created_by d (Ok c) = if is_create c.action then d ∷ [] else []
created_by d (Err e) = []

-- of a message of the server to a drive
abbrev pub created_at : Party → Party → (bytes : List ℕ) → List ℕ
created_at party.Server (party.Drive d) bytes = created_by d (commands.reading bytes)
created_at from to bytes = []

abbrev pub created_in : Line → List ℕ
created_in (line.Message number from to bytes) = created_at from to bytes
created_in l = []

-- the drives of the CREATEs among the lines of a step: those that the placer named
abbrev pub placed_in : List Line → List ℕ
placed_in rest = flat_map created_in rest

-- ---- what comes to the server

-- the server, its clock, and the messages so far
pub record ServerSeen : Type 0 where
  pub server : Server
  pub clock : ℕ
  pub sent : List Sent

-- a message that is for it
abbrev pub heard_from : (now : ℕ) → Party → Option Message → Option Input
heard_from now from None = None
heard_from now from (Some m) = Some (Hears now (node_of from) m)

abbrev pub heard_for : (now : ℕ) → Sent → Party → Option Input
heard_for now s party.Server = heard_from now s.from (message_in (node_of s.from) s.bytes)
heard_for now s to = None

abbrev pub heard : (now : ℕ) → Option Sent → Option Input
heard now None = None
heard now (Some s) = heard_for now s s.to

-- a file whose map has no parity algorithm isn't made
abbrev pub made_of : (file : ℕ) → RawMap → (tag : ℕ) → (zoned : Bool) → Option Input
made_of f m tag zoned = if has_algorithm m then Some (Makes f m tag zoned) else None

-- an event that gives it something to do
abbrev pub input_of : Event → Option Input
input_of (event.Drive d key capacity) = Some (Adds (known_drive d key capacity))
input_of (event.Disk d key capacity) = Some (Adds (known_drive d key capacity))
input_of (event.File f m tag) = made_of f (raw_of m) tag false
input_of (event.ZonedFile f m tag) = made_of f (raw_of m) tag true
input_of (event.Zone d zone) = Some (Zones d zone)
input_of (event.Format format) = Some (Formats format)
input_of (event.Recall f) = Some (Obeys ToRecall f)
input_of (event.Revoke f) = Some (Obeys ToRevoke f)
input_of (event.Rebuild f) = Some (Obeys ToRebuild f)
input_of (event.Audit f) = Some (Obeys ToAudit f)
input_of (event.Declare d) = Some (Obeys ToDeclare d)
input_of (event.Crash machine.Server) = Some Crashes
input_of (event.Reopen machine.Server) = Some Opens
input_of e = None

-- what comes to it at a line; where a delivery is deaf, nothing does
abbrev pub input_at : ServerSeen → Line → Option Input
input_at s (line.Event e) = input_of e
input_at s (line.Delivered number delivery.Deaf) = None
input_at s (line.Delivered number received) = heard s.clock (slice_get s.sent number)
input_at s l = None

-- ---- what it does

-- what a step of a history is to the server, if anything
abbrev pub step_by : Server → (placed : List ℕ) → Option Input → Option ServerStep
step_by s placed None = None
step_by s placed (Some i) = Some (step s placed i)

abbrev pub server_step : ServerSeen → Step → Option ServerStep
server_step s t = step_by s.server (placed_in t.rest) (input_at s t.head)

-- the server behind it
abbrev pub server_behind : Server → Option ServerStep → Server
server_behind s None = s
server_behind s (Some did) = did.state

-- its clock
abbrev pub clock_after : (clock : ℕ) → Line → ℕ
clock_after clock (line.Event (event.Clock machine.Server time)) = time
clock_after clock l = clock

abbrev pub sees_server : ServerSeen → Step → ServerSeen
sees_server s t = record {
  server = server_behind s.server (server_step s t);
  clock = clock_after s.clock t.head;
  sent = fold sent_after s.sent (t.head ∷ t.rest);
}

abbrev pub server_at_first : ServerSeen
server_at_first = record { server = new_server []; clock = 0; sent = [] }

abbrev pub server_seen : List Line → ServerSeen
server_seen h = fold sees_server server_at_first (steps_of h)

-- the server after a history
abbrev pub server_after : List Line → Server
server_after h = (server_seen h).server

-- ---- the book of a file

-- the file, as the server has it after a history: its tag, size, `high`, components, grants, phase and job
abbrev pub book_of : List Line → (file : ℕ) → Option File
book_of h f = file_at (server_after h).files f

-- its live grants
abbrev pub live_in : Option File → List Grant
live_in None = []
live_in (Some f) = f.kept.grants

-- the commands that its job awaits
abbrev pub awaited_in : Option File → List Awaited
awaited_in None = []
awaited_in (Some f) = awaited_by f.job
