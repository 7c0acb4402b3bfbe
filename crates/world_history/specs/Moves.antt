-- The moves of a world: each is one action of one party.
use Rattle.std.specs.Prelude.{ℕ, Bool, false, true, nat_eq, nat_le, ◌&&◌, List, [], ◌∷◌, Option, Some, None, Result, Ok, Err, is_some, slice_get, slice_set, if◌then◌else◌}
use Rattle.std.specs.List.{list_any}
use Rattle.data_map.specs.declared.check.RawMap.{RawMap}
use Rattle.data_map.specs.declared.check.TheConstants.{RAID_0, RAID_PQ}
use Rattle.osd_commands.specs.Commands as commands
use Rattle.world_history.specs.ServerNames as server_rules
use Rattle.server_rules.specs.Files.{Step as ServerStep}
use Rattle.server_rules.specs.Making.{create_file}
use Rattle.server_rules.specs.History as server_input
use Rattle.world_history.specs.ClientNames as client_rules
use Rattle.client_rules.specs.Messages.{Step as ClientStep}
use Rattle.client_rules.specs.Steps.{new_client, calls}
use Rattle.client_rules.specs.History as client_input
use Rattle.scenario_text.specs.declared.event.FileMap.{FileMap}
use Rattle.scenario_text.specs.declared.event.Call.{Call}
use Rattle.scenario_text.specs.declared.event.Call.TheVariants as call
use Rattle.scenario_text.specs.declared.event.Sender.TheVariants as sender
use Rattle.scenario_text.specs.declared.event.Machine.TheVariants as machine
use Rattle.scenario_text.specs.declared.event.Event.{Event}
use Rattle.scenario_text.specs.declared.event.Event.TheVariants as event
use Rattle.scenario_text.specs.declared.line.Outcome.TheVariants as outcome
use Rattle.scenario_text.specs.declared.line.Ending.TheVariants as ending
use Rattle.scenario_text.specs.declared.line.Refusal.TheVariants as refusal
use Rattle.scenario_text.specs.declared.line.Note.TheVariants as note
use Rattle.scenario_text.specs.declared.line.MapFault.TheVariants as map_fault
use Rattle.scenario_text.specs.declared.line.Line.{Line}
use Rattle.scenario_text.specs.declared.line.Line.TheVariants as line
use Rattle.world_history.specs.State.{Posted, DriveAt, ClientAt, World, at_number, with_drive, and_drive, and_client, with_client, with_down}
use Rattle.world_history.specs.Told.{kind_of, told_refusal, told_file_refusal}
use Rattle.world_history.specs.Drives.{Judged, judges, made_drive, raised, at_time, fallen, crashed, reopened}
use Rattle.world_history.specs.Handed.{Post, Handed, serves, server_did, client_goes, client_did, pending_op, handed}

-- ---- what an action does

-- the world then, the lines that are told, and what is sent behind them
pub record Act : Type 0 where
  pub world : World
  pub told : List Line
  pub posts : List Post

-- the world changes, and nothing is told
abbrev pub changed : World → Act
changed w = record { world = w; told = []; posts = [] }

-- what a party does, as an action
abbrev pub acted : Handed → Act
acted h = record { world = h.world; told = h.told; posts = h.posts }

-- a line of its own stands first
abbrev pub behind : Line → Handed → Act
behind l h = record { world = h.world; told = l ∷ h.told; posts = h.posts }

-- only a line is told
abbrev pub tells : World → Line → Act
tells w l = record { world = w; told = l ∷ []; posts = [] }

-- ---- a delivery

-- this in the place of message `number`
abbrev pub with_message : World → (number : ℕ) → Posted → World
with_message w number p = record w { network = record w.network { messages = slice_set w.network.messages number p } }

-- message `number` was delivered
abbrev pub marked : World → (number : ℕ) → Posted → World
marked w number p = with_message w number (record p { delivered = true })

-- its line tells what became of it
abbrev pub told_delivered : (number : ℕ) → Handed → Act
told_delivered number h = behind (line.Delivered number h.receipt) h

-- a message that was sent comes to its receiver
abbrev pub delivers_found : World → (chosen : List ℕ) → (number : ℕ) → Option Posted → Act
delivers_found w chosen number None = changed w
delivers_found w chosen number (Some p) = told_delivered number (handed (marked w number p) chosen p.message)

-- message `number` is delivered
unfoldable pub delivers : World → (chosen : List ℕ) → (number : ℕ) → Act
delivers w chosen number = delivers_found w chosen number (slice_get w.network.messages number)

-- message `number` is left out when messages are settled
abbrev pub drops_found : World → (number : ℕ) → Option Posted → World
drops_found w number None = w
drops_found w number (Some p) = with_message w number (record p { dropped = true })

-- ---- a client

-- a client that there is does something, else nothing happens
abbrev pub by_client : World → (ClientAt → Act) → Option ClientAt → Act
by_client w does None = changed w
by_client w does (Some a) = does a

abbrev pub at_client : World → (client : ℕ) → (ClientAt → Act) → Act
at_client w c does = by_client w does (at_number w.clients c)

-- the call of an event, as the rules name it
abbrev pub op_of : Call → client_rules.CallOp
op_of (call.Write file offset bytes) = client_rules.Write file offset bytes
op_of (call.Read file offset count) = client_rules.Read file offset count

-- a call that is refused has its line; any other is a step
abbrev pub called : World → (client : ℕ) → ClientAt → client_rules.CallOp → Result ClientStep client_rules.CallErr → Act
called w c a op (Err e) = tells w (line.Refused c (told_refusal e))
called w c a op (Ok s) = acted (client_did w c a (client_input.Calls op) s)

-- a client is called
unfoldable pub calls_at : World → (client : ℕ) → client_rules.CallOp → Act
calls_at w c op = at_client w c (λ a. called w c a op (calls a.state op))

-- a component times out at a client
unfoldable pub times_out : World → (client component : ℕ) → Act
times_out w c k = at_client w c (λ a. behind (line.TimedOut c k) (client_goes w c a (client_input.TimesOut k)))

-- an idle client returns its grants; one with a pending call is busy
unfoldable pub leaves : World → (client : ℕ) → Act
leaves w c = at_client w c (λ a.
    if is_some a.state.call then tells w (line.Refused c refusal.Busy)
    else acted (client_goes w c a client_input.Leaves))

-- a client sends again what it waits for
unfoldable pub resends : World → (client : ℕ) → Act
resends w c = at_client w c (λ a. acted (client_goes w c a client_input.Resends))

-- the call of a client is still pending when its event ends
abbrev pub pends_as : World → (client : ℕ) → Option client_rules.CallOp → Act
pends_as w c None = changed w
pends_as w c (Some op) = tells w (line.Ended c (outcome.Failed (kind_of op) ending.Pending))

unfoldable pub pends : World → (client : ℕ) → Act
pends w c = at_client w c (λ a. pends_as w c (pending_op a.state))

-- ---- the server

-- the map of an event, as the rules name it
abbrev pub raw_of : FileMap → RawMap
raw_of m = record {
  comps = m.components;
  unit = m.unit;
  width = m.width;
  depth = m.depth;
  mirrors = m.mirrors;
  algorithm = m.algorithm;
}

-- a file that is refused has a note; any other is a step
abbrev pub made_file : World → (file : ℕ) → Result ServerStep server_rules.Refusal → Act
made_file w f (Err e) = tells w (line.Note f (told_file_refusal e))
made_file w f (Ok s) = acted (server_did w s)

-- a map names a parity algorithm
abbrev pub has_algorithm : RawMap → Bool
has_algorithm m = nat_le RAID_0 m.algorithm && nat_le m.algorithm RAID_PQ

-- a file is made, on the drives that the placer names. The text of a scenario has no map without a parity algorithm; one
-- that had none would be told as one whose groups have no width
unfoldable pub makes : World → (chosen : List ℕ) → (file : ℕ) → RawMap → (tag : ℕ) → (zoned : Bool) → Act
makes w chosen f m tag zoned =
    if has_algorithm m then made_file w f (create_file w.server f m tag zoned chosen)
    else tells w (line.Note f (note.BadMap map_fault.Width))

-- the server is given something to do
unfoldable pub gives : World → (chosen : List ℕ) → server_input.Input → Act
gives w chosen i = acted (serves w chosen i)

-- ---- a drive

-- a drive that there is becomes another, else nothing happens
abbrev pub by_drive : World → (drive : ℕ) → (DriveAt → DriveAt) → Option DriveAt → World
by_drive w d becomes None = w
by_drive w d becomes (Some a) = with_drive w d (becomes a)

abbrev pub at_drive : World → (drive : ℕ) → (DriveAt → DriveAt) → World
at_drive w d becomes = by_drive w d becomes (at_number w.drives d)

-- injected bytes are judged; the reply goes nowhere
abbrev pub judged_at : World → (drive : ℕ) → Judged → Act
judged_at w d j = tells (with_drive w d j.drive) (line.Judged d j.verdict)

abbrev pub injects_at : World → (drive : ℕ) → (bytes : List ℕ) → Option DriveAt → Act
injects_at w d bytes None = changed w
injects_at w d bytes (Some a) = judged_at w d (judges a (commands.reading bytes))

unfoldable pub injects : World → (drive : ℕ) → (bytes : List ℕ) → Act
injects w d bytes = injects_at w d bytes (at_number w.drives d)

-- a drive as the server knows it
abbrev pub known_drive : (drive : ℕ) → (key : List ℕ) → (capacity : ℕ) → server_rules.Drive
known_drive d key capacity = record { number = d; key = key; capacity = capacity; online = true; zone = None }

-- the server knows a drive of that number
abbrev pub knows_drive : server_rules.Server → (drive : ℕ) → Bool
knows_drive s d = list_any (λ x. nat_eq x.number d) s.drives

-- a drive is made, and the server knows it from then on
abbrev pub adds_drive : World → (drive : ℕ) → (key : List ℕ) → (capacity : ℕ) → (stored : Bool) → Act
adds_drive w d key capacity stored =
    if knows_drive w.server d then changed (and_drive w d (made_drive d key capacity stored))
    else gives (and_drive w d (made_drive d key capacity stored)) [] (server_input.Adds (known_drive d key capacity))

-- a client is deaf from now on
abbrev pub stops : World → (client : ℕ) → Option ClientAt → World
stops w c None = w
stops w c (Some a) = with_client w c (record a { stopped = true })

-- a client is made, whose first request has number 1
abbrev pub adds_client : World → (client : ℕ) → World
adds_client w c = and_client w c (record { state = new_client c 1; stopped = false; wrote = false })

-- ---- what an event begins with

unfoldable pub begins : World → (chosen : List ℕ) → Event → Act
begins w chosen (event.Drive d key capacity) = adds_drive w d key capacity false
begins w chosen (event.Disk d key capacity) = adds_drive w d key capacity true
begins w chosen (event.Client c) = changed (adds_client w c)
begins w chosen (event.File f m tag) = makes w chosen f (raw_of m) tag false
begins w chosen (event.ZonedFile f m tag) = makes w chosen f (raw_of m) tag true
begins w chosen (event.Zone d zone) = gives w chosen (server_input.Zones d zone)
begins w chosen (event.Least d format) = changed (at_drive w d (λ a. raised a format))
begins w chosen (event.Format format) = gives w chosen (server_input.Formats format)
begins w chosen (event.Do c x) = calls_at w c (op_of x)
begins w chosen (event.Call c x) = calls_at w c (op_of x)
begins w chosen (event.Deliver number) = delivers w chosen number
begins w chosen (event.DropMessage number) = changed (drops_found w number (slice_get w.network.messages number))
begins w chosen event.Settle = changed w
begins w chosen (event.Resend (sender.Client c)) = resends w c
begins w chosen (event.Resend sender.Server) = gives w chosen server_input.Resends
begins w chosen (event.Timeout c component) = times_out w c component
begins w chosen (event.Leave c) = leaves w c
begins w chosen (event.Inject d bytes) = injects w d bytes
begins w chosen (event.Clock (machine.Drive d) time) = changed (at_drive w d (λ a. at_time a time))
begins w chosen (event.Clock machine.Server time) = changed (record w { clock = time })
begins w chosen (event.Recall f) = gives w chosen (server_input.Obeys server_rules.ToRecall f)
begins w chosen (event.Revoke f) = gives w chosen (server_input.Obeys server_rules.ToRevoke f)
begins w chosen (event.Rebuild f) = gives w chosen (server_input.Obeys server_rules.ToRebuild f)
begins w chosen (event.Audit f) = gives w chosen (server_input.Obeys server_rules.ToAudit f)
begins w chosen (event.Declare d) = gives w chosen (server_input.Obeys server_rules.ToDeclare d)
begins w chosen (event.Stop c) = changed (stops w c (at_number w.clients c))
begins w chosen (event.Fail d) = changed (at_drive w d fallen)
begins w chosen (event.Crash (machine.Drive d)) = changed (at_drive w d crashed)
begins w chosen (event.Crash machine.Server) = gives (with_down w true) chosen server_input.Crashes
begins w chosen (event.Reopen (machine.Drive d)) = changed (at_drive w d reopened)
begins w chosen (event.Reopen machine.Server) = gives (with_down w false) chosen server_input.Opens

-- ---- moves

-- an action of one party
pub data Action : Type 0 where
  -- what an event begins with
  Opens : Event → Action
  -- a message is delivered
  Delivers : (message : ℕ) → Action
  -- a component times out at a client
  TimesOut : (client component : ℕ) → Action
  -- a call is left pending
  Pends : (client : ℕ) → Action

-- the action up to its sending; `chosen` are the drives that the placer names, of which the server takes only
-- what it may
abbrev pub acts : World → (chosen : List ℕ) → Action → Act
acts w chosen (Opens e) = begins w chosen e
acts w chosen (Delivers number) = delivers w chosen number
acts w chosen (TimesOut c component) = times_out w c component
acts w chosen (Pends c) = pends w c
