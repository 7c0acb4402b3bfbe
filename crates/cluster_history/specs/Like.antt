-- The world to which a history of a cluster leads: it has each party as the cluster has it, and the same messages.
use Rattle.std.specs.Prelude.{◌≡◌, ℕ, true, not, List, [], ◌∷◌, map}
use Rattle.scenario_text.specs.declared.line.Line.{Line}
use Rattle.world_history.specs.State.{World, DriveAt, ClientAt}
use Rattle.world_history.specs.History.{StandsFor}
use Rattle.history_law.specs.Said.{said}
use Rattle.cluster_history.specs.State.{DriveHere, ClientHere, Cluster}

-- ---- a world as a cluster

-- a drive of the world: one that has failed is lost
abbrev pub drive_of : DriveAt → DriveHere
drive_of a = record { state = a.state; up = not a.down; lost = a.failed }

-- a client of it: one that was stopped was left
abbrev pub client_of : ClientAt → ClientHere
client_of a = record { state = a.state; left = a.stopped }

-- the same numbers, and f of what stands under each
abbrev pub each_as : {X Y : Type 0} → (X → Y) → List (ℕ × X) → List (ℕ × Y)
each_as f xs = map (λ e. (e.0, f e.1)) xs

-- the clocks, and what became of messages, are no part of it
abbrev pub cluster_of : World → Cluster
cluster_of w = record {
  drives = each_as drive_of w.drives;
  clients = each_as client_of w.clients;
  server = w.server;
  up = not w.down;
  sent = said w.network.messages;
}

-- ---- the same

-- each drive keeps what it has over a crash
abbrev pub AreStored : List (ℕ × DriveAt) → Type 0
AreStored [] = Unit {0}
AreStored (e ∷ ds) = (e.1.stored ≡ true) × AreStored ds

-- the world is as this cluster
pub record IsLike (k : Cluster) (w : World) : Type 0 where
  pub same : cluster_of w ≡ k
  pub stored : AreStored w.drives

-- a history leads to a world that is as this cluster
pub record LeadsTo (h : List Line) (k : Cluster) : Type 0 where
  pub world : World
  pub stands : StandsFor world h
  pub like : IsLike k world
