-- The nonces of a client's commands, and the grants that it takes: none comes twice.
use Rattle.std.specs.Prelude.{◌≡◌, ℕ, ◌<◌, List, map, Some, Ok}
use Rattle.osd_lists.specs.declared.node.Node.TheVariants as node
use Rattle.osd_commands.specs.declared.commands.Command.{Command}
use Rattle.layout_ops.specs.declared.messages.Answer.{Answer}
use Rattle.server_rules.specs.Laws.{In}
use Rattle.client_rules.specs.declared.calls.CallOp.{CallOp}
use Rattle.client_rules.specs.declared.grants.Held.{Held}
use Rattle.client_rules.specs.Commands.{nonce_at}
use Rattle.client_rules.specs.Grants.{held_of}
use Rattle.client_rules.specs.Layouts.{taken}
use Rattle.client_rules.specs.Messages.{Answers, TakesAnswer, takes}
use Rattle.scenario_text.specs.declared.line.Line.{Line}
use Rattle.world_history.specs.declared.messages.Body.TheVariants.{Command as OfCommand}
use Rattle.world_history.specs.declared.messages.Message.{Message}
use Rattle.world_history.specs.declared.messages.Posted.{Posted}
use Rattle.world_history.specs.State.{ClientAt, World, at_number}
use Rattle.world_history.specs.Handed.{for_client}
use Rattle.history_law.specs.BookMoments.{IsMoment}
use Rattle.exchange_law.specs.Awaited.{AreFewerThanNonces}

-- what was sent, whatever became of it
abbrev pub messages_of : World → List Message
messages_of w = map (λ (p : Posted). p.message) w.network.messages

-- among the messages the client sent this command
pub record HasSent (w : World) (client : ℕ) (m : Message) (x : Command) : Type 0 where
  pub there : In m (messages_of w)
  pub sender : m.from ≡ node.Client client
  pub body : m.body ≡ OfCommand x

-- at each moment with few messages, commands of a client that have one nonce are one message, sent once more perhaps
abbrev pub CommandsDiffer : Type 0
CommandsDiffer =
    (w : World) (h : List Line) → IsMoment w h → AreFewerThanNonces h → (c : ℕ) (m n : Message) (x y : Command) →
    HasSent w c m x → HasSent w c n y → x.nonce ≡ y.nonce → m ≡ n

-- ---- grants

-- the client takes the grant from a message of the server, were this delivered now
pub record CanTake (w : World) (client : ℕ) (a : ClientAt) (g : Held) : Type 0 where
  pub message : Message
  pub sent : In message (messages_of w)
  pub sender : message.from ≡ node.Server
  pub receiver : message.to ≡ node.Client client
  pub answer : Answer
  pub read : for_client message ≡ Some (Answers answer)
  pub takes : takes a.state node.Server (Answers answer) ≡ Some (TakesAnswer answer)
  pub op : CallOp
  pub grant : taken answer op ≡ Ok g

-- it is later than each grant that the client holds, and than each under which it sent a command
pub record IsLater (w : World) (client : ℕ) (a : ClientAt) (g : Held) : Type 0 where
  pub held : (file : ℕ) (j : Held) → held_of a.state.held file ≡ Some j → j.number < g.number
  pub sent : (m : Message) (x : Command) → HasSent w client m x → x.nonce < nonce_at g 0

-- so it is at each moment with few messages
abbrev pub GrantsAreLater : Type 0
GrantsAreLater =
    (w : World) (h : List Line) → IsMoment w h → AreFewerThanNonces h → (c : ℕ) (a : ClientAt) → at_number w.clients c ≡ Some a →
    (g : Held) → CanTake w c a g → IsLater w c a g
