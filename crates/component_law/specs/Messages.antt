-- The messages between the parties.
use Rattle.std.specs.Prelude.{List, map}
use Rattle.world_history.specs.declared.messages.Sent.{Sent}
use Rattle.world_history.specs.State.{World}
use Rattle.world_history.specs.Laws.{shown}

-- the messages of a world, as lines show them
abbrev pub messages_of : World → List Sent
messages_of w = map shown w.network.messages
