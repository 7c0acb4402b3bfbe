-- What was sent, and what comes to a party.
use Rattle.std.specs.Prelude.{◌≡◌, ℕ, List, map, slice_get, Some}
use Rattle.osd_lists.specs.declared.node.Node.{Node}
use Rattle.osd_lists.specs.declared.node.Node.TheVariants as node
use Rattle.server_rules.specs.History.{Input as ServerInput, Hears as ServerHears}
use Rattle.client_rules.specs.History.{Input, Hears}
use Rattle.world_history.specs.declared.messages.Message.{Message}
use Rattle.world_history.specs.declared.messages.Posted.{Posted}
use Rattle.world_history.specs.State.{World}
use Rattle.world_history.specs.Handed.{Post, for_server, for_client}

-- the messages, whatever became of them
abbrev pub said : List Posted → List Message
said ps = map (λ (p : Posted). p.message) ps

-- and those that an action sends
abbrev pub posted : List Post → List Message
posted ps = map (λ (p : Post). p.message) ps

-- the same world, with other marks on its messages
abbrev pub with_marks : World → List Posted → World
with_marks w ms = record w { network = record w.network { messages = ms } }

-- a message that was sent comes to this party
pub record IsDelivered (w : World) (to : Node) : Type 0 where
  pub number : ℕ
  pub posted : Posted
  pub there : slice_get w.network.messages number ≡ Some posted
  pub receiver : posted.message.to ≡ to

-- what the server hears it reads in such a message, at its clock
abbrev pub IsHeardByServer : World → ServerInput → Type 0
IsHeardByServer w (ServerHears now from m) =
    (d : IsDelivered w node.Server) × (now ≡ w.clock) × (from ≡ d.posted.message.from)
    × (for_server d.posted.message ≡ Some m)
IsHeardByServer w i = Unit {0}

-- and so does client c
abbrev pub IsHeardByClient : World → (c : ℕ) → Input → Type 0
IsHeardByClient w c (Hears from m) =
    (d : IsDelivered w (node.Client c)) × (from ≡ d.posted.message.from) × (for_client d.posted.message ≡ Some m)
IsHeardByClient w c i = Unit {0}
