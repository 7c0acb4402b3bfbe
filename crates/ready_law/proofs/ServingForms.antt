-- What the server does with a request that is delivered, in the words of the steps of a ready call.
use Rattle.std.specs.Prelude.{◌≡◌, ◌≢◌, ◌+◌, ℕ, false, List, [], ◌∷◌, ◌++◌, slice_get, Some}
use Rattle.std.specs.List.{filter_map}
use Rattle.osd_lists.specs.declared.node.Node.TheVariants as node
use Rattle.layout_ops.specs.declared.envelope.Envelope.TheVariants as envelope
use Rattle.scenario_text.specs.declared.line.Delivery.{Delivery}
use Rattle.scenario_text.specs.declared.line.Delivery.TheVariants as delivery
use Rattle.scenario_text.specs.declared.line.Line.TheVariants as line
use Rattle.server_rules.specs.Answers.{recall_of}
use Rattle.server_rules.specs.Files.{file_at}
use Rattle.server_rules.specs.Laws.{last_of}
use Rattle.server_rules.specs.Slots.{slot_of}
use Rattle.world_history.specs.ClientNames.{Request}
use Rattle.world_history.specs.ServerNames.{File, Grant, Note, Answer, Recall}
use Rattle.world_history.specs.declared.messages.Body.TheVariants.{Envelope as OfEnvelope}
use Rattle.world_history.specs.declared.messages.Message.{Message}
use Rattle.world_history.specs.declared.messages.Posted.{Posted}
use Rattle.world_history.specs.State.{World}
use Rattle.world_history.specs.Names.{known_note_line}
use Rattle.world_history.specs.Moves.{Act}
use Rattle.world_history.specs.History.{OneEventMore}
use Rattle.history_law.specs.Grants.{GrantsAreSafe}
use Rattle.history_law.specs.Said.{posted}
use Rattle.exchange_law.specs.Counters.{CountersStayLow, ServerIsCounted}
use Rattle.exchange_law.specs.InStep.{ClientsAreInStep}
use Rattle.cause_law.proofs.Sends.{request_message, answer_message, outstanding_of}

-- ---- a request that comes

-- the laws of histories by which the server takes a request
pub record RequestLaws : Type 0 where
  pub low : CountersStayLow
  pub counted : ServerIsCounted
  pub in_step : ClientsAreInStep
  pub safe : GrantsAreSafe
  pub more : OneEventMore

-- Message `number` is the request whose answer client c awaits, the server is up and hasn't served it yet, and there is the
-- file that it is about.
pub record Comes (w : World) (c : ℕ) (q : Request) (f : File) (number : ℕ) : Type 0 where
  pub posted : Posted
  pub found : slice_get w.network.messages number ≡ Some posted
  pub message : posted.message ≡ request_message c q
  pub outstanding : outstanding_of w c ≡ Some q
  pub next : last_of (slot_of w.server.slots c) + 1 ≡ q.sequence
  pub up : w.down ≡ false
  pub file : file_at w.server.files q.file ≡ Some f

-- ---- what it comes to

-- the file behind it, whose grants are recalled, how many numbers for grants are used, and the answer
pub record Carried : Type 0 where
  pub left : File
  pub recalled : List Grant
  pub numbers : ℕ
  pub answer : Answer

-- the message of a recall
abbrev pub recall_message : Recall → Message
recall_message r = record { from = node.Server; to = node.Client r.client; body = OfEnvelope (envelope.Recall r) }

-- those of several grants, with rising numbers
abbrev pub recall_messages : (count : ℕ) → List Grant → List Message
recall_messages n [] = []
recall_messages n (g ∷ gs) = recall_message (recall_of g n) ∷ recall_messages (n + 1) gs

-- The delivery of request q of client c, as message `number`, does this: the recalls are sent and then the answer, and nothing
-- else. The client's slot keeps the answer. Of the server's files, slots, drives and format, and of the world's parties, all
-- else stays.
pub record Serves (w : World) (c : ℕ) (q : Request) (number : ℕ) (x : Carried) (a : Act) : Type 0 where
  pub posts : posted a.posts ≡ recall_messages w.server.next_recall x.recalled ++ answer_message c x.answer ∷ []
  pub notes : List Note
  pub told : a.told ≡ line.Delivered number delivery.Taken ∷ filter_map known_note_line notes
  pub file : file_at a.world.server.files q.file ≡ Some x.left
  pub others : (n : ℕ) → n ≢ q.file → file_at a.world.server.files n ≡ file_at w.server.files n
  pub slot : slot_of a.world.server.slots c ≡ Some (record { client = c; last = q.sequence; kept = x.answer })
  pub slots : (d : ℕ) → d ≢ c → slot_of a.world.server.slots d ≡ slot_of w.server.slots d
  pub known : a.world.server.drives ≡ w.server.drives
  pub format : a.world.server.format ≡ w.server.format
  pub next_grant : a.world.server.next_grant ≡ w.server.next_grant + x.numbers
  pub clients : a.world.clients ≡ w.clients
  pub drives : a.world.drives ≡ w.drives
  pub clock : a.world.clock ≡ w.clock
  pub down : a.world.down ≡ w.down

-- ---- a message that is nothing to the server

-- the delivery of message `number` changes no party, and nothing is sent
pub record IsNothing (w : World) (number : ℕ) (a : Act) : Type 0 where
  pub posts : posted a.posts ≡ []
  pub receipt : Delivery
  pub told : a.told ≡ line.Delivered number receipt ∷ []
  pub server : a.world.server ≡ w.server
  pub clients : a.world.clients ≡ w.clients
  pub drives : a.world.drives ≡ w.drives
  pub clock : a.world.clock ≡ w.clock
  pub down : a.world.down ≡ w.down
