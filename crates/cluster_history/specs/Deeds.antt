-- What each step comes to, by the rules of its party: the cluster then, and the lines that tell of it.
use Rattle.std.specs.Prelude.{ℕ, Bool, true, false, ◌+◌, ◌&&◌, not, List, [], ◌∷◌, ◌++◌, length, map, filter, slice_get, flat_map, Option, Some, None, is_some, Result, Ok, Err, if◌then◌else◌}
use Rattle.std.specs.List.{filter_map, range_with_len}
use Rattle.osd_lists.specs.declared.node.Node.{Node}
use Rattle.osd_lists.specs.declared.node.Node.TheVariants as node
use Rattle.osd_commands.specs.declared.commands.Command.{Command}
use Rattle.osd_commands.specs.declared.commands.CommandErr.{CommandErr}
use Rattle.osd_commands.specs.Commands as commands
use Rattle.osd_drive.specs.State.{DriveState, new_drive}
use Rattle.osd_drive.specs.Effects.{reply_to_reading, after_reading}
use Rattle.osd_objects.specs.Store.{empty_store}
use Rattle.server_rules.specs.Files.{Step as ServerStep, file_at}
use Rattle.server_rules.specs.Making.{add_drive, create_file}
use Rattle.server_rules.specs.Messages.{counters_have_room}
use Rattle.server_rules.specs.Orders.{ordered}
use Rattle.server_rules.specs.Envelopes as server_bytes
use Rattle.server_rules.specs.History as server
use Rattle.client_rules.specs.Messages.{Step as ClientStep, Message as ClientMessage}
use Rattle.client_rules.specs.Steps.{calls, new_client}
use Rattle.client_rules.specs.Envelopes as client_bytes
use Rattle.client_rules.specs.History as client_input
use Rattle.scenario_text.specs.declared.event.Call.{Call}
use Rattle.scenario_text.specs.declared.event.Call.TheVariants as call
use Rattle.scenario_text.specs.declared.event.FileMap.{FileMap}
use Rattle.scenario_text.specs.declared.event.Event.{Event}
use Rattle.scenario_text.specs.declared.event.Event.TheVariants as event
use Rattle.scenario_text.specs.declared.event.Machine.TheVariants as machine
use Rattle.scenario_text.specs.declared.event.Sender.TheVariants as sender
use Rattle.scenario_text.specs.declared.line.Delivery.TheVariants as delivery
use Rattle.scenario_text.specs.declared.line.Line.{Line}
use Rattle.scenario_text.specs.declared.line.Line.TheVariants as line
use Rattle.scenario_text.specs.declared.names.TheConstants.{DRIVES}
use Rattle.world_history.specs.ServerNames.{Server, RawMap, Order, OrderKind, ToRecall, ToRevoke, ToDeclare, ToRebuild, ToAudit, Outgoing as ServerSends, Refusal}
use Rattle.world_history.specs.ClientNames.{CallOp, CallErr, Outgoing as ClientSends}
use Rattle.world_history.specs.ClientNames as client_rules
use Rattle.world_history.specs.declared.messages.Message.{Message}
use Rattle.world_history.specs.declared.messages.Body.TheVariants.{Reply as OfReply}
use Rattle.world_history.specs.State.{at_number}
use Rattle.world_history.specs.Spelled.{spelled}
use Rattle.world_history.specs.Names.{is_named, known_note_line}
use Rattle.world_history.specs.Told.{told_refusal}
use Rattle.world_history.specs.Drives.{verdict_on, command_in, first_key}
use Rattle.world_history.specs.Handed.{server_body, client_body, ended_by, op_in, for_client}
use Rattle.world_history.specs.Moves.{known_drive, knows_drive}
use Rattle.world_history.specs.Sending.{sent_line}
use Rattle.cluster_history.specs.State.{DriveHere, ClientHere, Cluster, with_drive, and_drive, with_client, and_client}
use Rattle.cluster_history.specs.Steps.{Step, Knows, Raises, Makes, Hears, Obeys, Passes, Resends, Crashes, Opens, Takes, IsHit, Falls, Rises, IsLost, Begins, Calls, Learns, Misses, Leaves, SendsAgain, Ends}

-- ---- what a step comes to

-- the cluster but for what is sent, the lines that tell of it, the messages that it gives to send, and lines behind those
pub record Deed : Type 0 where
  pub cluster : Cluster
  pub lines : List Line
  pub gives : List Message
  pub behind : List Line

-- nothing happens
abbrev pub rests : Cluster → Deed
rests k = record { cluster = k; lines = []; gives = []; behind = [] }

-- an event alone
abbrev pub changes : Cluster → Event → Deed
changes k e = record { cluster = k; lines = line.Event e ∷ []; gives = []; behind = [] }

-- only messages for parties that there can be: nobody could take any other
abbrev pub for_somebody : List Message → List Message
for_somebody ms = filter (λ (m : Message). is_named m.to) ms

-- ---- the server

abbrev pub server_message : ServerSends → Message
server_message o = record { from = node.Server; to = server_bytes.receiver o; body = server_body o }

-- a step of it, behind these lines: its notes are told, and then its messages go
abbrev pub served : Cluster → List Line → ServerStep → Deed
served k lines s = record {
  cluster = record k { server = s.state };
  lines = lines ++ filter_map known_note_line s.notes;
  gives = for_somebody (map server_message s.sends);
  behind = [];
}

-- a message comes to it
abbrev pub hears : Cluster → (time : ℕ) → (chosen : List ℕ) → (number : ℕ) → Option Message → Deed
hears k time chosen n None = rests k
hears k time chosen n (Some m) =
    served k (line.Event (event.Clock machine.Server time) ∷ line.Event (event.Deliver n) ∷ line.Delivered n delivery.Taken ∷ [])
    (server_bytes.on_bytes k.server time chosen m.from (spelled m.body))

-- the event of an order
abbrev pub order_event : OrderKind → (target : ℕ) → Event
order_event ToRecall f = event.Recall f
order_event ToRevoke f = event.Revoke f
order_event ToDeclare d = event.Declare d
order_event ToRebuild f = event.Rebuild f
order_event ToAudit f = event.Audit f

-- the server has what an order is for
abbrev pub has_target : Server → OrderKind → (target : ℕ) → Bool
has_target s ToDeclare d = knows_drive s d
has_target s kind f = is_some (file_at s.files f)

-- it carries an order out where its counters have room and it has the target; else nothing happens. The answer goes back to
-- whoever gave the order, and is no message between parties
abbrev pub obeys : Cluster → (time : ℕ) → (chosen : List ℕ) → Order → Deed
obeys k time chosen o =
    if counters_have_room k.server && has_target k.server o.order o.target then
    served k (line.Event (event.Clock machine.Server time) ∷ line.Event (order_event o.order o.target) ∷ [])
    (ordered k.server chosen o.order o.target).step
    else rests k

-- the map of a file, as an event has it
abbrev pub map_of : RawMap → FileMap
map_of m = record {
  components = m.comps;
  unit = m.unit;
  width = m.width;
  depth = m.depth;
  mirrors = m.mirrors;
  algorithm = m.algorithm;
}

-- a drive whose process is up, and that isn't lost
abbrev pub is_up_here : Option DriveHere → Bool
is_up_here None = false
is_up_here (Some h) = h.up && not h.lost

-- the numbers of those that are, rising
unfoldable pub up_drives : Cluster → List ℕ
up_drives k = filter (λ d. is_up_here (at_number k.drives d)) (range_with_len 0 DRIVES)

abbrev pub falls : (drive : ℕ) → Line
falls d = line.Event (event.Crash (machine.Drive d))

-- and in the opposite order each is opened again
abbrev pub all_rise : (drives : List ℕ) → List Line
all_rise [] = []
all_rise (d ∷ ds) = all_rise ds ++ line.Event (event.Reopen (machine.Drive d)) ∷ []

-- nobody hears these messages
unfoldable pub unheard : (number : ℕ) → List Message → List Line
unheard n [] = []
unheard n (m ∷ ms) = line.Delivered n delivery.Deaf ∷ unheard (n + 1) ms

-- A file is made. The event delivers its messages at once, one after the other, which no cluster does. So all drives that are
-- up are deaf meanwhile, and keep all that they have: each message comes to its drive when the drive takes it.
abbrev pub makes : Cluster → (file : ℕ) → RawMap → Result ServerStep Refusal → Deed
makes k f m (Err e) = rests k
makes k f m (Ok s) = record {
  cluster = record k { server = s.state };
  lines = map falls (up_drives k) ++ line.Event (event.File f (map_of m) 1) ∷ filter_map known_note_line s.notes;
  gives = for_somebody (map server_message s.sends);
  behind = unheard (length k.sent) (for_somebody (map server_message s.sends)) ++ all_rise (up_drives k);
}

-- ---- a drive

-- a new one, with the key that it shares with the server
abbrev pub fresh_drive : (drive : ℕ) → (key : List ℕ) → (capacity : ℕ) → DriveHere
fresh_drive d key capacity = record { state = new_drive d (first_key key ∷ []) capacity; up = true; lost = false }

-- it judges what it reads, at a time, and performs it where nothing stands against it
abbrev pub drive_behind : DriveHere → (time : ℕ) → Result Command CommandErr → DriveHere
drive_behind h time reading = record h { state = after_reading h.state time reading }

-- and replies to who sent the message
abbrev pub reply_of : (drive : ℕ) → DriveHere → (time : ℕ) → Message → Message
reply_of d h time m = record {
  from = node.Drive d;
  to = m.from;
  body = OfReply (reply_to_reading h.state time (command_in m.body));
}

abbrev pub takes_found : Cluster → (drive time number : ℕ) → Option DriveHere → Option Message → Deed
takes_found k d time n (Some h) (Some m) = record {
  cluster = with_drive k d (drive_behind h time (command_in m.body));
  lines =
      line.Event (event.Clock (machine.Drive d) time) ∷
      line.Event (event.Deliver n) ∷
      line.Delivered n (delivery.Judged (verdict_on h.state time (command_in m.body))) ∷
      [];
  gives = reply_of d h time m ∷ [];
  behind = [];
}
takes_found k d time n h m = rests k

-- other bytes come to it: the reply goes to no party
abbrev pub hit_found : Cluster → (drive time : ℕ) → (bytes : List ℕ) → Option DriveHere → Deed
hit_found k d time bytes None = rests k
hit_found k d time bytes (Some h) = record {
  cluster = with_drive k d (drive_behind h time (commands.reading bytes));
  lines =
      line.Event (event.Clock (machine.Drive d) time) ∷
      line.Event (event.Inject d bytes) ∷
      line.Judged d (verdict_on h.state time (commands.reading bytes)) ∷
      [];
  gives = [];
  behind = [];
}

-- an event makes something else of it
abbrev pub turned : Cluster → (drive : ℕ) → (DriveHere → DriveHere) → Event → Option DriveHere → Deed
turned k d becomes e None = rests k
turned k d becomes e (Some h) = changes (with_drive k d (becomes h)) e

abbrev pub fallen : DriveHere → DriveHere
fallen h = record h { up = false }

abbrev pub risen : DriveHere → DriveHere
risen h = record h { up = true }

-- all that it had is gone
abbrev pub lost : DriveHere → DriveHere
lost h = record h { state = record h.state { store = empty_store h.state.store.capacity }; lost = true }

-- ---- a client

abbrev pub client_message : (client : ℕ) → ClientSends → Message
client_message c o = record { from = node.Client c; to = client_bytes.receiver o; body = client_body o }

-- what comes to it is a step, behind these lines: how its call ended is told, and then its messages go
abbrev pub went : Cluster → (client : ℕ) → ClientHere → client_input.Input → List Line → ClientStep → Deed
went k c h i lines s = record {
  cluster = with_client k c (record h { state = s.client });
  lines = lines ++ ended_by c (op_in h.state i) s.outcome;
  gives = for_somebody (map (client_message c) s.sends);
  behind = [];
}

abbrev pub goes : Cluster → (client : ℕ) → ClientHere → client_input.Input → List Line → Deed
goes k c h i lines = went k c h i lines (client_input.step h.state i)

-- a call as an event has it
abbrev pub call_of : CallOp → Call
call_of (client_rules.Write file offset bytes) = call.Write file offset bytes
call_of (client_rules.Read file offset count) = call.Read file offset count

-- a call that is refused has its line; any other is a step
abbrev pub called : Cluster → (client : ℕ) → ClientHere → CallOp → Result ClientStep CallErr → Deed
called k c h op (Err e) = record {
  cluster = k;
  lines = line.Event (event.Call c (call_of op)) ∷ line.Refused c (told_refusal e) ∷ [];
  gives = [];
  behind = [];
}
called k c h op (Ok s) = went k c h (client_input.Calls op) (line.Event (event.Call c (call_of op)) ∷ []) s

-- a message that it can't read changes nothing
abbrev pub learnt : Cluster → (client number : ℕ) → ClientHere → (from : Node) → Option ClientMessage → Deed
learnt k c n h from None = record {
  cluster = k;
  lines = line.Event (event.Deliver n) ∷ line.Delivered n delivery.Taken ∷ [];
  gives = [];
  behind = [];
}
learnt k c n h from (Some m) =
    goes k c h (client_input.Hears from m) (line.Event (event.Deliver n) ∷ line.Delivered n delivery.Taken ∷ [])

abbrev pub learns_found : Cluster → (client number : ℕ) → ClientHere → Option Message → Deed
learns_found k c n h None = rests k
learns_found k c n h (Some m) = learnt k c n h m.from (for_client m)

-- a client that there is does something
abbrev pub at_client : Cluster → (ClientHere → Deed) → Option ClientHere → Deed
at_client k does None = rests k
at_client k does (Some h) = does h
