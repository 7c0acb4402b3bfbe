-- What a party does in a move: the world then, what it tells, and what it sends.
use Rattle.std.specs.Prelude.{ℕ, Bool, false, ◌||◌, ◌&&◌, not, List, [], ◌∷◌, length, map, filter, Option, Some, None, option_map, if◌then◌else◌}
use Rattle.std.specs.List.{list_any, filter_map}
use Rattle.osd_lists.specs.declared.node.Node.{Node}
use Rattle.osd_lists.specs.declared.node.Node.TheVariants as node
use Rattle.layout_ops.specs.declared.envelope.Envelope.TheVariants as envelope
use Rattle.osd_drive.specs.Table.{is_write}
use Rattle.world_history.specs.ServerNames as server_rules
use Rattle.server_rules.specs.Files.{Step as ServerStep}
use Rattle.server_rules.specs.Messages.{Message as ServerMessage}
use Rattle.server_rules.specs.Envelopes as server_bytes
use Rattle.server_rules.specs.History.{Input as ServerInput, Hears as ServerHears, step as server_step}
use Rattle.world_history.specs.ClientNames as client_rules
use Rattle.client_rules.specs.Calls.{bytes_of}
use Rattle.client_rules.specs.Messages.{Message as ClientMessage, Step as ClientStep}
use Rattle.client_rules.specs.Envelopes as client_bytes
use Rattle.client_rules.specs.History.{Input as ClientInput, Calls, Hears, step as client_step}
use Rattle.scenario_text.specs.declared.line.Delivery.{Delivery}
use Rattle.scenario_text.specs.declared.line.Delivery.TheVariants as delivery
use Rattle.scenario_text.specs.declared.line.Line.{Line}
use Rattle.scenario_text.specs.declared.line.Line.TheVariants as line
use Rattle.world_history.specs.State.{Body, OfCommand, OfReply, OfEnvelope, Message, DriveAt, ClientAt, World, at_number, with_drive, with_client, with_server}
use Rattle.scenario_text.specs.declared.line.Outcome.{Outcome}
use Rattle.world_history.specs.Spelled.{spelled}
use Rattle.world_history.specs.Told.{kind_of}
use Rattle.world_history.specs.Names.{is_named, known_outcome, known_note_line}
use Rattle.world_history.specs.Drives.{Judged, command_in, judges, is_deaf}

-- ---- what is sent

-- a message, and how many data bytes the log keeps of the write that begins with it
pub record Post : Type 0 where
  pub message : Message
  pub logged : ℕ

-- a line can name who it is for; no other message is sent
abbrev pub is_addressed : Post → Bool
is_addressed p = is_named p.message.to

-- a message that begins no write
abbrev pub plain : (from to : Node) → Body → Post
plain from to body = record { message = record { from = from; to = to; body = body }; logged = 0 }

-- ---- what a party does

-- the world then, what became of a message that it was handed, what it tells, and what it sends in order
pub record Handed : Type 0 where
  pub world : World
  pub receipt : Delivery
  pub told : List Line
  pub posts : List Post

-- nothing happens
abbrev pub quiet : World → Delivery → Handed
quiet w receipt = record { world = w; receipt = receipt; told = []; posts = [] }

-- ---- a drive

-- it judges a message and replies to who sent it
abbrev pub drive_replies : World → (drive : ℕ) → (from : Node) → Judged → Handed
drive_replies w d from j = record {
  world = with_drive w d j.drive;
  receipt = delivery.Judged j.verdict;
  told = [];
  posts = plain (node.Drive d) from (OfReply j.reply) ∷ [];
}

-- a drive that failed or is down is deaf
abbrev pub drive_hears : World → (drive : ℕ) → Message → Option DriveAt → Handed
drive_hears w d m None = quiet w delivery.Deaf
drive_hears w d m (Some a) =
    if is_deaf a then quiet w delivery.Deaf else drive_replies w d m.from (judges a (command_in m.body))

-- ---- the server

-- as what it sends a message
abbrev pub server_body : server_rules.Outgoing → Body
server_body (server_rules.ToDrive d c) = OfCommand c
server_body (server_rules.Recalls r) = OfEnvelope (envelope.Recall r)
server_body (server_rules.Answers a) = OfEnvelope (envelope.Answer a)
server_body (server_rules.AnswersOrder a) = OfEnvelope (envelope.OrderAnswer a)

-- and to whom
abbrev pub server_post : server_rules.Outgoing → Post
server_post o = plain node.Server (server_bytes.receiver o) (server_body o)

-- a step of the server
abbrev pub server_did : World → ServerStep → Handed
server_did w s = record {
  world = with_server w s.state;
  receipt = delivery.Taken;
  told = filter_map known_note_line s.notes;
  posts = filter is_addressed (map server_post s.sends);
}

-- what comes to it, with the drives that the placer names
abbrev pub serves : World → (chosen : List ℕ) → ServerInput → Handed
serves w chosen i = server_did w (server_step w.server chosen i)

-- what it reads in the bytes of a message
abbrev pub for_server : Message → Option ServerMessage
for_server m = server_bytes.message_in m.from (spelled m.body)

-- what isn't for it changes nothing
abbrev pub server_takes : World → (chosen : List ℕ) → (from : Node) → Option ServerMessage → Handed
server_takes w chosen from None = quiet w delivery.Taken
server_takes w chosen from (Some m) = serves w chosen (ServerHears w.clock from m)

-- a server that is down is deaf
abbrev pub server_hears : World → (chosen : List ℕ) → Message → Handed
server_hears w chosen m = if w.down then quiet w delivery.Deaf else server_takes w chosen m.from (for_server m)

-- ---- a client

-- a WRITE
abbrev pub is_write_out : client_rules.Outgoing → Bool
is_write_out (client_rules.ToDrive d c) = is_write c.action
is_write_out o = false

-- as what it sends a message
abbrev pub client_body : client_rules.Outgoing → Body
client_body (client_rules.AnswersRecall a) = OfEnvelope (envelope.RecallAnswer a)
client_body (client_rules.Asks r) = OfEnvelope (envelope.Request r)
client_body (client_rules.ToDrive d c) = OfCommand c

-- a message that begins a write of so many data bytes
abbrev pub client_post : (client : ℕ) → (logged : ℕ) → client_rules.Outgoing → Post
client_post c logged o = record (plain (node.Client c) (client_bytes.receiver o) (client_body o)) { logged = logged }

-- several: the first WRITE of a call begins its write
abbrev pub client_posts : (client : ℕ) → (wrote : Bool) → (logged : ℕ) → List client_rules.Outgoing → List Post
client_posts c wrote logged [] = []
client_posts c wrote logged (o ∷ os) =
    client_post c (if is_write_out o && not wrote then logged else 0) o
    ∷ client_posts c (wrote || is_write_out o) logged os

-- the call that is pending
abbrev pub pending_op : client_rules.Client → Option client_rules.CallOp
pending_op c = option_map (λ (call : client_rules.Call). call.op) c.call

-- the call that a step is about: the one that comes, else the one that is pending
abbrev pub op_in : client_rules.Client → ClientInput → Option client_rules.CallOp
op_in c (Calls op) = Some op
op_in c i = pending_op c

-- a WRITE of that call was sent before
abbrev pub wrote_in : ClientAt → ClientInput → Bool
wrote_in a (Calls op) = false
wrote_in a i = a.wrote

-- the data of the call
abbrev pub data_in : Option client_rules.CallOp → ℕ
data_in None = 0
data_in (Some op) = length (bytes_of op)

-- the line of an end that can be told
abbrev pub end_line : (client : ℕ) → Option Outcome → List Line
end_line c None = []
end_line c (Some o) = line.Ended c o ∷ []

-- how the call ended, as a line
abbrev pub ended_by : (client : ℕ) → Option client_rules.CallOp → Option client_rules.Outcome → List Line
ended_by c (Some op) (Some o) = end_line c (known_outcome (kind_of op) o)
ended_by c op o = []

-- a step of a client
abbrev pub client_did : World → (client : ℕ) → ClientAt → ClientInput → ClientStep → Handed
client_did w c a i s = record {
  world = with_client w c (record a { state = s.client; wrote = wrote_in a i || list_any is_write_out s.sends });
  receipt = delivery.Taken;
  told = ended_by c (op_in a.state i) s.outcome;
  posts = filter is_addressed (client_posts c (wrote_in a i) (data_in (op_in a.state i)) s.sends);
}

-- what comes to it
abbrev pub client_goes : World → (client : ℕ) → ClientAt → ClientInput → Handed
client_goes w c a i = client_did w c a i (client_step a.state i)

-- what it reads in the bytes of a message
abbrev pub for_client : Message → Option ClientMessage
for_client m = client_bytes.message_in m.from (spelled m.body)

-- what isn't for it changes nothing
abbrev pub client_takes : World → (client : ℕ) → ClientAt → (from : Node) → Option ClientMessage → Handed
client_takes w c a from None = quiet w delivery.Taken
client_takes w c a from (Some m) = client_goes w c a (Hears from m)

-- a client that was stopped is deaf
abbrev pub client_hears : World → (client : ℕ) → Message → Option ClientAt → Handed
client_hears w c m None = quiet w delivery.Deaf
client_hears w c m (Some a) = if a.stopped then quiet w delivery.Deaf else client_takes w c a m.from (for_client m)

-- ---- whoever it is for

abbrev pub handed_to : World → (chosen : List ℕ) → Message → Node → Handed
handed_to w chosen m node.Server = server_hears w chosen m
handed_to w chosen m (node.Drive d) = drive_hears w d m (at_number w.drives d)
handed_to w chosen m (node.Client c) = client_hears w c m (at_number w.clients c)

-- a message comes to its receiver
abbrev pub handed : World → (chosen : List ℕ) → Message → Handed
handed w chosen m = handed_to w chosen m m.to
