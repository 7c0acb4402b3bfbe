-- What the command of a server with a store leaves, and why it stops.
use Rattle.std.specs.Prelude.{◌≡◌, ◌⊎◌, ℕ}
use Rattle.cluster_text.specs.declared.cluster.Cluster.{Cluster}
use Rattle.cluster_text.specs.declared.cluster.Reader.TheVariants.{Server as ServerReads}
use Rattle.cluster_text.specs.declared.stop.CommandStop.{CommandStop}
use Rattle.cluster_text.specs.Inputs.{GivesCluster, StopsCluster}
use Rattle.cluster_text.specs.Lines.{PutsLine}
use Rattle.cluster_text.specs.Outside.{Streams}
use Rattle.cluster_text.specs.Peers.{StopsSettling}
use Rattle.osd_bytes.specs.Asking.{Ends}
use Rattle.osd_bytes.specs.Connections.{Standing}
use Rattle.osd_disk.specs.declared.disk.Disk.{Ghosts as DiskGhosts}
use Rattle.drive_command.specs.declared.stored_stop.StoredStop.{StoredStop}
use Rattle.drive_command.specs.StoredEnds.{ForCause, StopsBefore, stored_stop_line}
use Rattle.server_command.specs.Ends.{IsSettledAs}
use Rattle.stored_server.specs.Service.{ServesFrom, StopsFrom}

-- the links weren't settled
abbrev pub Unsettled : (before now : Ends) → CommandStop → Type 0
Unsettled before now cause =
    StopsSettling before.faults now.faults cause × (now.told ≡ before.told) × (now.times ≡ before.times)

-- the text describes a cluster, and its server has served all connections from its journal
pub record ServesStoredAs {D : Type 0} (s : DiskGhosts D) (connections : ℕ) (in_before in_now : Streams) (before now : Ends)
    (standing : Standing) (disk left : D) : Type 0 where
  pub cluster : Cluster
  pub gives : GivesCluster ServerReads in_before.left in_now.left cluster
  pub settled : IsSettledAs cluster standing
  pub serves : ServesFrom s connections cluster before now in_before.taken in_now.taken disk left

-- the text isn't taken, and nobody was asked for anything
abbrev pub LacksCluster : (in_before in_now : Streams) → (before now : Ends) → CommandStop → Type 0
LacksCluster in_before in_now before now cause =
    StopsCluster ServerReads in_before.left in_now.left in_before.reads_failed in_now.reads_failed cause × (now ≡ before)

-- the text describes a cluster, and its server wasn't settled or hasn't served all
pub record StopsInCluster {D : Type 0} (s : DiskGhosts D) (connections : ℕ) (in_before in_now : Streams) (before now : Ends)
    (standing : Standing) (disk left : D) (stop : StoredStop) : Type 0 where
  pub cluster : Cluster
  pub gives : GivesCluster ServerReads in_before.left in_now.left cluster
  pub why : StopsBefore in_before.taken in_now.taken disk left (ForCause (Unsettled before now) stop)
      ⊎ (IsSettledAs cluster standing
      × StopsFrom s connections cluster before now in_before.taken in_now.taken in_before.writes_failed in_now.writes_failed disk
      left stop)

-- why not all connections were served
abbrev pub StopsStoredServer : {D : Type 0} → DiskGhosts D → (connections : ℕ) → (in_before in_now : Streams)
    → (before now : Ends) → Standing → (disk left : D) → StoredStop → Type 0
StopsStoredServer s connections in_before in_now before now standing disk left stop =
    StopsBefore in_before.taken in_now.taken disk left (ForCause (LacksCluster in_before in_now before now) stop)
    ⊎ StopsInCluster s connections in_before in_now before now standing disk left stop

-- the same, and then the line that tells why
pub record EndsStored {D : Type 0} (s : DiskGhosts D) (connections : ℕ) (in_before in_now : Streams) (before now : Ends)
    (standing : Standing) (disk left : D) (stop : StoredStop) : Type 0 where
  pub told : Streams
  pub stops : StopsStoredServer s connections in_before told before now standing disk left stop
  pub input : (in_now.left ≡ told.left) × (in_now.reads_failed ≡ told.reads_failed)
  pub line : PutsLine told.taken in_now.taken told.writes_failed in_now.writes_failed (stored_stop_line stop)
