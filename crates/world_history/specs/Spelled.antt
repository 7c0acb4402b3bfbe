-- Messages as bytes, and parties as lines name them.
use Rattle.std.specs.Prelude.{ℕ, List, length}
use Rattle.osd_lists.specs.declared.node.Node.{Node}
use Rattle.osd_lists.specs.declared.node.Node.TheVariants as node
use Rattle.layout_ops.specs.Spelling.{envelope_item}
use Rattle.osd_commands.specs.Commands as commands
use Rattle.osd_commands.specs.Replies as replies
use Rattle.scenario_text.specs.declared.line.Party.{Party}
use Rattle.scenario_text.specs.declared.line.Party.TheVariants as party
use Rattle.world_history.specs.State.{Body, OfCommand, OfReply, OfEnvelope, Message}

-- the bytes that spell a body
abbrev pub spelled : Body → List ℕ
spelled (OfCommand c) = commands.spelling c
spelled (OfReply r) = replies.spelling r
spelled (OfEnvelope e) = envelope_item e

-- how many bytes a message has
abbrev pub size : Message → ℕ
size m = length (spelled m.body)

-- a party as a line names it
abbrev pub party_of : Node → Party
party_of node.Server = party.Server
party_of (node.Drive d) = party.Drive d
party_of (node.Client c) = party.Client c

-- and as the rules name it
abbrev pub node_of : Party → Node
node_of party.Server = node.Server
node_of (party.Drive d) = node.Drive d
node_of (party.Client c) = node.Client c
