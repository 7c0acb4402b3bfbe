-- What is asked of the grants that clients take: each is new to its objects.
use Rattle.std.specs.Prelude.{◌≡◌, ◌<◌, ℕ, ◌+◌, ◌++◌, List, map, Some, Ok}
use Rattle.osd_lists.specs.declared.node.Node.TheVariants as node
use Rattle.layout_ops.specs.declared.messages.Answer.{Answer}
use Rattle.osd_commands.specs.declared.commands.Command.{Command}
use Rattle.server_rules.specs.Laws.{In}
use Rattle.client_rules.specs.Grants.{held_of}
use Rattle.client_rules.specs.Commands.{nonce_at}
use Rattle.client_rules.specs.Layouts.{taken}
use Rattle.client_rules.specs.Messages.{Answers, TakesAnswer, takes}
use Rattle.scenario_text.specs.declared.line.Line.{Line}
use Rattle.world_history.specs.ClientNames.{CallOp, Held}
use Rattle.world_history.specs.declared.messages.Message.{Message}
use Rattle.world_history.specs.declared.messages.Posted.{Posted}
use Rattle.world_history.specs.State.{ClientAt, World, at_number}
use Rattle.world_history.specs.Handed.{for_client, pending_op}
use Rattle.history_law.specs.BookMoments.{IsMoment}
use Rattle.exchange_law.specs.Sent.{HasSent, IsBacked, Names}

-- A grant is new to its objects: the client sent none of them a command whose nonce isn't below the grant's first; no
-- grant of another file that it holds names one of them; and no two of its components have one object.
pub record IsNew (w : World) (client : ℕ) (held : List Held) (h : Held) : Type 0 where
  pub later : (d k : ℕ) (x : Command) → HasSent w client d x → IsBacked x → Names h k x.object →
      x.nonce < nonce_at h (h.count + 1)
  pub apart : (file : ℕ) (j : Held) → held_of held file ≡ Some j → (file ≡ h.file → ⊥) →
      (k i object : ℕ) → Names h k object → Names j i object → ⊥
  pub single : (k i object : ℕ) → Names h k object → Names h i object → k ≡ i

-- the client takes the grant from a message of the server
pub record CanTake (w : World) (client : ℕ) (a : ClientAt) (h : Held) : Type 0 where
  pub message : Message
  pub sent : In message (map (λ (p : Posted). p.message) w.network.messages)
  pub sender : message.from ≡ node.Server
  pub receiver : message.to ≡ node.Client client
  pub answer : Answer
  pub read : for_client message ≡ Some (Answers answer)
  pub takes : takes a.state node.Server (Answers answer) ≡ Some (TakesAnswer answer)
  pub op : CallOp
  pub asks : pending_op a.state ≡ Some op
  pub grant : taken answer op ≡ Ok h

-- so it is of each grant that a client can take, at each moment up to the end of these lines
abbrev pub GrantsAreNew : List Line → Type 0
GrantsAreNew h =
    (w : World) (before after : List Line) → h ≡ before ++ after → IsMoment w before →
    (c : ℕ) (a : ClientAt) → at_number w.clients c ≡ Some a → (g : Held) → CanTake w c a g → IsNew w c a.state.held g
