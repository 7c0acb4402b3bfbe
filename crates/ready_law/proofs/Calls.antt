-- A ready call, the moments of its event, and the next move there.
use Rattle.std.proofs.Common.{◌≡◌, ◌+◌, ℕ, List, ◌++◌, length, slice_get, Option, Some}
use Rattle.osd_lists.specs.declared.node.Node.TheVariants as node
use Rattle.layout_ops.specs.declared.envelope.Envelope.TheVariants as envelope
use Rattle.scenario_text.specs.declared.event.Call.{Call as EventCall}
use Rattle.scenario_text.specs.declared.event.Event.TheVariants as event
use Rattle.scenario_text.specs.declared.line.Line.{Line}
use Rattle.client_rules.specs.Calls.{file_of}
use Rattle.world_history.specs.ClientNames.{CallOp, Held, Request, Answer}
use Rattle.world_history.specs.ServerNames.{Kept, Grant}
use Rattle.world_history.specs.declared.messages.Body.TheVariants.{Envelope as OfEnvelope}
use Rattle.world_history.specs.declared.messages.Message.{Message}
use Rattle.world_history.specs.declared.messages.Posted.{Posted}
use Rattle.world_history.specs.State.{World}
use Rattle.world_history.specs.Moves.{Delivers, TimesOut, op_of, acts}
use Rattle.world_history.specs.Sending.{Move, move}
use Rattle.world_history.specs.History.{StandsFor}
use Rattle.exchange_law.specs.Doing.{posted}
use Rattle.cause_law.specs.Queue.{queue}
use Rattle.ready_law.specs.Ready.{Scene, scene_of, IsReady, held_by, opposed, wanted, lost_of}
use Rattle.ready_law.specs.Fair.{IsFair}

-- ---- a ready call

-- a call that is ready where its event begins
pub record ReadyCall : Type 0 where
  pub world : World
  pub history : List Line
  pub stands : StandsFor world history
  pub client : ℕ
  pub its : EventCall
  pub ready : IsReady (scene_of world history) client (op_of its)

abbrev pub scene_at : ReadyCall → Scene
scene_at s = scene_of s.world s.history

abbrev pub op_at : ReadyCall → CallOp
op_at s = op_of s.its

-- its file, by number, and as the server keeps it
abbrev pub file_at_call : ReadyCall → ℕ
file_at_call s = file_of (op_at s)

abbrev pub kept_at : ReadyCall → Kept
kept_at s = s.ready.file.kept

-- the grant that its client holds there
abbrev pub own_at : ReadyCall → Option Held
own_at s = held_by s.ready.caller (file_at_call s)

-- the grant that it would ask for, and those that conflict with that one
abbrev pub wanted_at : ReadyCall → Grant
wanted_at s = wanted (scene_at s) (kept_at s) s.client (op_at s)

abbrev pub opposed_at : ReadyCall → List Grant
opposed_at s = opposed (scene_at s) (kept_at s) s.client (own_at s) (op_at s)

-- the components that are lost
abbrev pub lost_at : ReadyCall → List ℕ
lost_at s = lost_of (scene_at s) (kept_at s)

-- how many messages were sent before
abbrev pub first_at : ReadyCall → ℕ
first_at s = length s.world.network.messages

-- those of the event that aren't delivered yet, in order
abbrev pub queue_at : ReadyCall → World → List Message
queue_at s w = queue (first_at s) w

-- ---- moments of its event

-- a fair moment of the call's event, behind its opening move or before
pub record IsIn (s : ReadyCall) (w : World) (h : List Line) : Type 0 where
  pub fair : IsFair w h
  pub begins : fair.moment.before ≡ s.world
  pub behind : fair.moment.history ≡ s.history
  pub event_is : fair.moment.event ≡ event.Do s.client s.its

-- ---- the next move

-- The move delivers the first message of the queue, and `rest` are the others.
pub record DeliversHead (s : ReadyCall) (w : World) (m : Move) (x : Message) (rest : List Message) : Type 0 where
  pub number : ℕ
  pub action_is : m.action ≡ Delivers number
  pub posted_as : Posted
  pub found : slice_get w.network.messages number ≡ Some posted_as
  pub message_is : posted_as.message ≡ x
  pub queue_is : queue_at s (move w m).world ≡ rest ++ posted (acts w m.chosen m.action).posts
  pub count_is : length (move w m).world.network.messages
      ≡ length w.network.messages + length (acts w m.chosen m.action).posts

-- The move tells the client that a component timed out; nothing is in the queue.
pub record TellsTimeout (s : ReadyCall) (w : World) (m : Move) (k : ℕ) : Type 0 where
  pub action_is : m.action ≡ TimesOut s.client k
  pub queue_is : queue_at s (move w m).world ≡ posted (acts w m.chosen m.action).posts
  pub count_is : length (move w m).world.network.messages
      ≡ length w.network.messages + length (acts w m.chosen m.action).posts

-- ---- messages

-- a request on its way to the server
abbrev pub request_message : Request → Message
request_message q = record { from = node.Client q.client; to = node.Server; body = OfEnvelope (envelope.Request q) }

-- an answer on its way to its client
abbrev pub answer_message : Answer → Message
answer_message a = record { from = node.Server; to = node.Client a.client; body = OfEnvelope (envelope.Answer a) }
