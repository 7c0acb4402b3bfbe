-- What the code keeps of a world, and that it shows one.
use Rattle.std.specs.Prelude.{◌≡◌, ◌≤◌, Bool, ℕ, List, [], length}
use Rattle.world_history.specs.declared.messages.Sent.{Sent}
use Rattle.world_history.specs.ServerNames.{Mended}
use Rattle.world_history.specs.State.{World}
use Rattle.world_network.specs.Network.{NonePending}
use Rattle.world_network.specs.Shows.{Shows as ShowsNetwork}
use Rattle.world_watch.specs.State.{WatchState}
use Rattle.layout_world.specs.declared.parties.Parties.{Parties}

-- the parties and every message between them, what the last line and the summary need, and whether no event may follow
pub record WorldState : Type 0 where
  pub parties : Parties
  pub watch : WatchState
  pub over : Bool

-- none of the messages from one number on and below another, which were all sent, is pending
pub record Settled (first end : ℕ) (messages : List Sent) : Type 0 where
  pub from : first ≤ end
  pub sent : end ≤ length messages
  pub none : NonePending first end messages

-- these parties and messages are those of a world; no message below `settled` is pending; and these are the repairs that
-- the server ended in its last step, until they are taken
pub record ShowsWith (ended : List Mended) (p : Parties) (w : World) : Type 0 where
  pub drives : p.drives ≡ w.drives
  pub clients : p.clients ≡ w.clients
  pub server : p.server.state ≡ w.server
  pub clock : p.clock ≡ w.clock
  pub down : p.down ≡ w.down
  pub network : ShowsNetwork p.network w.network
  pub settled : Settled 0 p.settled p.network.messages
  pub mended : p.server.mended ≡ ended

-- all were taken
abbrev pub Shows : Parties → World → Type 0
Shows p w = ShowsWith [] p w
