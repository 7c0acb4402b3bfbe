-- What each move is: a step of the server, of a client or of a drive, with all that it tells and sends.
use Rattle.std.specs.List.{cons_option, filter_map}
use Rattle.std.proofs.Common.{◌≡◌, ◌⊎◌, ◌&&◌, ℕ, Bool, true, false, List, [], ◌∷◌, ◌++◌, Some, map, filter, nat_lt, slice_get, refl, sym, ap, inl, inr, zero, suc}
use Rattle.osd_lists.specs.declared.node.Node.{Node}
use Rattle.osd_lists.specs.declared.node.Node.TheVariants as node
use Rattle.server_rules.specs.Laws.{In}
use Rattle.server_rules.specs.Envelopes as server_bytes
use Rattle.server_rules.specs.History as server_input
use Rattle.server_rules.specs.History.{step as server_step}
use Rattle.client_rules.specs.Envelopes as client_bytes
use Rattle.client_rules.specs.Steps.{new_client}
use Rattle.client_rules.specs.History as client_input
use Rattle.client_rules.specs.History.{step as client_step}
use Rattle.scenario_text.specs.declared.event.Event.TheVariants as event
use Rattle.scenario_text.specs.declared.names.TheConstants.{FILES}
use Rattle.scenario_text.specs.declared.line.Delivery.TheVariants as delivery
use Rattle.scenario_text.specs.declared.line.Ending.TheVariants.{Refused}
use Rattle.scenario_text.specs.declared.line.Outcome.TheVariants.{Failed}
use Rattle.scenario_text.specs.declared.line.Line.{Line}
use Rattle.scenario_text.specs.declared.line.Line.TheVariants as line
use Rattle.world_history.specs.ServerNames as server_rules
use Rattle.world_history.specs.declared.messages.Body.TheVariants.{Reply as OfReply}
use Rattle.world_history.specs.declared.messages.Message.{Message}
use Rattle.world_history.specs.declared.messages.Posted.{Posted}
use Rattle.world_history.specs.State.{DriveAt, ClientAt, World, at_number}
use Rattle.world_history.specs.Spelled.{spelled}
use Rattle.world_history.specs.Names.{where_known, note_line, is_tellable_note, known_note_line}
use Rattle.world_history.specs.Drives.{judges, command_in, is_deaf}
use Rattle.world_history.specs.Handed.{Post, is_addressed, plain, server_post, client_posts, ended_by, op_in}
use Rattle.world_history.specs.Moves.{Act, Action, Opens, Delivers}
use Rattle.world_history.specs.Sending.{fresh}
use Rattle.history_law.specs.Said.{said, posted}

-- ---- messages

-- those of a network, without their marks
abbrev pub bodies : List Posted → List Message
bodies ps = said ps

abbrev pub sent_by : World → List Message
sent_by w = bodies w.network.messages

pub bodies_more : (xs : List Posted) (ps : List Post) → bodies (xs ++ map fresh ps) ≡ bodies xs ++ posted ps
bodies_more [] [] = refl
bodies_more [] (p ∷ ps) = ap (λ (l : List Message). p.message ∷ l) (bodies_more [] ps)
bodies_more (x ∷ xs) ps = ap (λ (l : List Message). x.message ∷ l) (bodies_more xs ps)

pub body_in : (xs : List Posted) (n : ℕ) (p : Posted) → slice_get xs n ≡ Some p → In p.message (bodies xs)
body_in [] n p found = absurd (cc found)
body_in (x ∷ xs) zero p found =
    let it : p ≡ x = cc (sym found) in inl (ap (λ (y : Posted). y.message) it)
body_in (x ∷ xs) (suc n) p found = inr (body_in xs n p found)

-- ---- lines

-- a line that tells of no refusal of a drive
abbrev pub IsNoRefusal : Line → Type 0
IsNoRefusal (line.Ended c (Failed kind (Refused d v))) = ⊥
IsNoRefusal l = Unit {0}

abbrev pub AreNoRefusals : List Line → Type 0
AreNoRefusals [] = Unit {0}
AreNoRefusals (l ∷ ls) = IsNoRefusal l × AreNoRefusals ls

note_told : (known : Bool) (n : server_rules.Note) (ls : List Line) → AreNoRefusals ls
    → AreNoRefusals (cons_option (where_known known (note_line n)) ls)
note_told true n ls s = (tt, s)
note_told false n ls s = s

pub notes_told : (ns : List server_rules.Note) → AreNoRefusals (filter_map known_note_line ns)
notes_told [] = tt
notes_told (n ∷ ns) = note_told (nat_lt n.file FILES && is_tellable_note n.kind) n (filter_map known_note_line ns)
    (notes_told ns)

-- ---- what a party does

-- every client stays as it is
abbrev pub AreSame : World → World → Type 0
AreSame w v = (c : ℕ) → at_number v.clients c ≡ at_number w.clients c

-- one of them becomes another
pub record Becomes (w v : World) (client : ℕ) (now : ClientAt) : Type 0 where
  pub there : at_number v.clients client ≡ Some now
  pub others : (c : ℕ) → (c ≡ client → ⊥) → at_number v.clients c ≡ at_number w.clients c

-- a message to this party was sent
pub record WasPosted (w : World) (from to : Node) (bytes : List ℕ) : Type 0 where
  pub message : Message
  pub there : In message (sent_by w)
  pub sender : message.from ≡ from
  pub receiver : message.to ≡ to
  pub bytes_are : spelled message.body ≡ bytes

-- what a client hears was sent to it
abbrev pub ComesTo : World → (client : ℕ) → client_input.Input → Type 0
ComesTo w c (client_input.Hears from m) =
    (bytes : List ℕ) × WasPosted w from (node.Client c) bytes × (client_bytes.message_in from bytes ≡ Some m)
ComesTo w c i = Unit {0}

-- so is what the server hears
abbrev pub ComesToServer : World → server_input.Input → Type 0
ComesToServer w (server_input.Hears now from m) =
    (bytes : List ℕ) × WasPosted w from node.Server bytes × (server_bytes.message_in from bytes ≡ Some m)
ComesToServer w i = Unit {0}

-- a client that isn't stopped hears
abbrev pub IsAwake : ClientAt → client_input.Input → Type 0
IsAwake a (client_input.Hears from m) = a.stopped ≡ false
IsAwake a i = Unit {0}

pub record ServerDoes (w : World) (a : Act) : Type 0 where
  pub input : server_input.Input
  pub chosen : List ℕ
  pub comes : ComesToServer w input
  pub server : a.world.server ≡ (server_step w.server chosen input).state
  pub clients : AreSame w a.world
  pub told : AreNoRefusals a.told
  pub posts : a.posts ≡ filter is_addressed (map server_post (server_step w.server chosen input).sends)

pub record ClientDoes (w : World) (a : Act) : Type 0 where
  pub client : ℕ
  pub caller : ClientAt
  pub found : at_number w.clients client ≡ Some caller
  pub input : client_input.Input
  pub comes : ComesTo w client input
  pub awake : IsAwake caller input
  pub server : a.world.server ≡ w.server
  pub now : ClientAt
  pub becomes : Becomes w a.world client now
  pub state : now.state ≡ (client_step caller.state input).client
  pub stopped : now.stopped ≡ caller.stopped
  pub front : List Line
  pub quiet : AreNoRefusals front
  pub told : a.told ≡ front ++ ended_by client (op_in caller.state input) (client_step caller.state input).outcome
  pub wrote : Bool
  pub logged : ℕ
  pub posts : a.posts ≡ filter is_addressed (client_posts client wrote logged (client_step caller.state input).sends)

-- a drive that hears judges what comes to it, and replies
pub record DriveDoes (w : World) (action : Action) (a : Act) : Type 0 where
  pub number : ℕ
  pub delivers : (action ≡ Delivers number) ⊎ (action ≡ Opens (event.Deliver number))
  pub message : Posted
  pub found : slice_get w.network.messages number ≡ Some message
  pub drive : ℕ
  pub receiver : message.message.to ≡ node.Drive drive
  pub device : DriveAt
  pub stands : at_number w.drives drive ≡ Some device
  pub hears : is_deaf device ≡ false
  pub server : a.world.server ≡ w.server
  pub clients : AreSame w a.world
  pub told : a.told
      ≡ line.Delivered number (delivery.Judged (judges device (command_in message.message.body)).verdict) ∷ []
  pub posts : a.posts
      ≡ plain (node.Drive drive) message.message.from (OfReply (judges device (command_in message.message.body)).reply)
      ∷ []

-- a client is made
pub record ClientMade (w : World) (action : Action) (a : Act) : Type 0 where
  pub client : ℕ
  pub opens : action ≡ Opens (event.Client client)
  pub server : a.world.server ≡ w.server
  pub now : ClientAt
  pub becomes : Becomes w a.world client now
  pub state : now.state ≡ new_client client 1
  pub told : AreNoRefusals a.told
  pub posts : a.posts ≡ []

-- a client is stopped
pub record ClientStops (w : World) (a : Act) : Type 0 where
  pub client : ℕ
  pub caller : ClientAt
  pub found : at_number w.clients client ≡ Some caller
  pub server : a.world.server ≡ w.server
  pub now : ClientAt
  pub becomes : Becomes w a.world client now
  pub state : now.state ≡ caller.state
  pub stopped : now.stopped ≡ true
  pub told : AreNoRefusals a.told
  pub posts : a.posts ≡ []

-- nothing that the server or a client would know of
pub record NothingDone (w : World) (a : Act) : Type 0 where
  pub server : a.world.server ≡ w.server
  pub clients : AreSame w a.world
  pub told : AreNoRefusals a.told
  pub posts : a.posts ≡ []

pub data Turn (w : World) (action : Action) (a : Act) : Type 0 where
  ByServer : ServerDoes w a → Turn w action a
  ByClient : ClientDoes w a → Turn w action a
  ByDrive : DriveDoes w action a → Turn w action a
  Makes : ClientMade w action a → Turn w action a
  Stops : ClientStops w a → Turn w action a
  Rests : NothingDone w a → Turn w action a

-- no message is lost, whatever is marked
pub record IsTurn (w : World) (action : Action) (a : Act) : Type 0 where
  pub messages : sent_by a.world ≡ sent_by w
  pub turn : Turn w action a
