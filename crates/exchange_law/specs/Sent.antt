-- The commands that clients sent to drives, as the messages of a world have them, and the objects of a grant.
use Rattle.std.specs.Prelude.{◌≡◌, ℕ, ◌<◌, ◌^◌, map, Some}
use Rattle.osd_lists.specs.declared.node.Node.TheVariants as node
use Rattle.osd_commands.specs.declared.commands.Command.{Command}
use Rattle.server_rules.specs.Laws.{In}
use Rattle.client_rules.specs.Commands.{credential_of, no_capability}
use Rattle.client_rules.specs.Requests.{object_of}
use Rattle.client_rules.specs.Messages.{awaited_of}
use Rattle.client_rules.specs.declared.calls.Awaited.{Awaited}
use Rattle.world_history.specs.ClientNames.{Held}
use Rattle.world_history.specs.declared.messages.Body.TheVariants.{Command as OfCommand}
use Rattle.world_history.specs.declared.messages.Message.{Message}
use Rattle.world_history.specs.declared.messages.Posted.{Posted}
use Rattle.world_history.specs.State.{ClientAt, World, at_number}

-- a client's message to a drive, which is this command
abbrev pub message_of : (client drive : ℕ) → Command → Message
message_of c d x = record { from = node.Client c; to = node.Drive d; body = OfCommand x }

-- the client sent it
abbrev pub HasSent : World → (client drive : ℕ) → Command → Type 0
HasSent w c d x = In (message_of c d x) (map (λ (p : Posted). p.message) w.network.messages)

-- it carries a capability; one without it is performed nowhere
abbrev pub IsBacked : Command → Type 0
IsBacked x = x.capability ≡ no_capability → ⊥

-- component k of a grant has this object, and a capability for it
abbrev pub Names : Held → (k object : ℕ) → Type 0
Names h k object =
    ((credential_of h k).capability ≡ no_capability → ⊥) × ((object_of h k).oid_object_id ≡ object)

-- a command's object and nonce fit their places
pub record HasPlaces (x : Command) : Type 0 where
  pub object : x.object < 2 ^ 64
  pub nonce : x.nonce < 2 ^ 64

-- so do those of each command that a client sent or awaits
pub record CommandsFit (w : World) : Type 0 where
  pub sent : (c d : ℕ) (x : Command) → HasSent w c d x → HasPlaces x
  pub awaited : (c : ℕ) (a : ClientAt) → at_number w.clients c ≡ Some a → (x : Awaited) →
      In x (awaited_of a.state.call) → HasPlaces x.command
