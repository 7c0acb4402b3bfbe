-- What the command of a drive leaves, and why it stops.
use Rattle.std.specs.Prelude.{◌≡◌, ◌⊎◌, ℕ, nat_eq, List, Option, Some, None}
use Rattle.std.specs.List.{find}
use Rattle.osd_bytes.specs.Causes.{Rose}
use Rattle.cluster_text.specs.declared.cluster.Cluster.{Cluster}
use Rattle.cluster_text.specs.declared.cluster.ClusterDrive.{ClusterDrive}
use Rattle.cluster_text.specs.declared.cluster.Reader.TheVariants.{Drive}
use Rattle.cluster_text.specs.declared.errors.ClusterKind.TheVariants.{Missing}
use Rattle.cluster_text.specs.Inputs.{GivesCluster, StopsCluster}
use Rattle.cluster_text.specs.Lines.{PutsLine, stop_line}
use Rattle.cluster_text.specs.Outside.{Streams}
use Rattle.cluster_text.specs.declared.stop.CommandStop.{CommandStop}
use Rattle.cluster_text.specs.declared.stop.CommandStop.TheVariants.{BadCluster, LinkFault}
use Rattle.osd_drive.specs.State.{DriveState}
use Rattle.drive_command.specs.Own.{core_in}
use Rattle.drive_command.specs.StoredEnds.{ForCause}
use Rattle.drive_command.specs.declared.stored_stop.StoredStop.{StoredStop}
use Rattle.drive_command.specs.declared.stored_stop.StoredStop.TheVariants.{Command}
use Rattle.drive_loop.specs.Service.{Ends, Serves, StopsServing}
use Rattle.port_loop.specs.Steps.{Step}

-- ---- as the drive of a cluster

-- the cluster has a drive of this number, and the ports listen at its address
abbrev pub ListensAs : (number : ℕ) → Cluster → (listens : Option (List ℕ)) → Type 0
ListensAs number cluster listens =
    (d : ClusterDrive) × (find (λ d. nat_eq d.number number) cluster.drives ≡ Some d) × (listens ≡ Some d.address)

-- the ports listen where they did, or there
abbrev pub MayListenAs : (number : ℕ) → Cluster → (before now : Option (List ℕ)) → Type 0
MayListenAs number cluster before now = (now ≡ before) ⊎ ListensAs number cluster now

-- the ports listen as a drive of the cluster, and of that, before it has objects, this is so
abbrev pub OfDrive : (number : ℕ) → Cluster → (listens : Option (List ℕ)) → (DriveState → Type 0) → Type 0
OfDrive number cluster listens So =
    ListensAs number cluster listens × (first : DriveState) × (core_in number cluster ≡ Some first) × So first

-- the cluster has no such drive with its key
abbrev pub LacksDrive : (number : ℕ) → Cluster → CommandStop → Type 0
LacksDrive number cluster (BadCluster kind) = (kind ≡ Missing) × (core_in number cluster ≡ None)
LacksDrive number cluster other = ⊥

-- the ports couldn't listen, and nothing else happened
abbrev pub IsDeaf : (before now : Ends) → CommandStop → Type 0
IsDeaf before now LinkFault =
    Rose before.faults now.faults × (now.told ≡ before.told) × (now.noted ≡ before.noted) × (now.times ≡ before.times)
IsDeaf before now other = ⊥

-- why a drive stops in a cluster: before it listens, and then so much is left alone, or while it serves
abbrev pub StopsIn : (number : ℕ) → Cluster → (before now : Ends) → (listens : Option (List ℕ)) → (Alone : Type 0)
    → (So : DriveState → Type 0) → StoredStop → Type 0
StopsIn number cluster before now listens Alone So stop =
    (ForCause (LacksDrive number cluster) stop × Alone) ⊎ (ForCause (IsDeaf before now) stop × Alone)
    ⊎ OfDrive number cluster listens So

-- ---- the command

-- the text describes a cluster for which this is so
abbrev pub InCluster : (number : ℕ) → (in_before in_now : Streams) → (Cluster → Type 0) → Type 0
InCluster number in_before in_now So = (c : Cluster) × GivesCluster (Drive number) in_before.left in_now.left c × So c

-- the ports listen where they did, or as the drive of the cluster that the text describes
abbrev pub MayListenAsText : (number : ℕ) → (in_before in_now : Option (List ℕ)) → (before now : Option (List ℕ)) → Type 0
MayListenAsText number in_before in_now before now =
    (now ≡ before) ⊎ ((c : Cluster) × GivesCluster (Drive number) in_before in_now c × ListensAs number c now)

-- the text isn't taken, and nobody was asked for anything
abbrev pub LacksCluster : (number : ℕ) → (in_before in_now : Streams) → (before now : Ends) → CommandStop → Type 0
LacksCluster number in_before in_now before now cause =
    StopsCluster (Drive number) in_before.left in_now.left in_before.reads_failed in_now.reads_failed cause × (now ≡ before)

-- the same of a drive of the cluster that a text describes, which has it
abbrev pub StopsAs : (number : ℕ) → (in_before in_now : Streams) → (before now : Ends) → (listens : Option (List ℕ))
    → (Alone : Type 0) → (So : DriveState → Type 0) → StoredStop → Type 0
StopsAs number in_before in_now before now listens Alone So stop =
    (ForCause (LacksCluster number in_before in_now before now) stop × Alone)
    ⊎ InCluster number in_before in_now (λ c.
    (ForCause (IsDeaf before now) stop × Alone) ⊎ OfDrive number c listens So)

-- and then the line that tells why
pub record TellsStop (Stops : (told : Streams) → Type 0) (in_now : Streams) (text : List ℕ) : Type 0 where
  pub told : Streams
  pub stops : Stops told
  pub input : (in_now.left ≡ told.left) × (in_now.reads_failed ≡ told.reads_failed)
  pub line : PutsLine told.taken in_now.taken told.writes_failed in_now.writes_failed text

-- ---- of a drive in memory alone

-- it has served all connections
abbrev pub HasServed : (connections : ℕ) → (before now : Ends) → (taken_before taken : Option (List ℕ)) → (first : DriveState)
    → Type 0
HasServed connections before now taken_before taken first =
    (last : DriveState) × (steps : List Step) × Serves connections first last before now taken_before taken steps

-- or it has stopped
abbrev pub HasStopped : (connections : ℕ) → (before now : Ends) → (taken_before taken : Option (List ℕ))
    → (failed_before failed : ℕ) → CommandStop → (first : DriveState) → Type 0
HasStopped connections before now taken_before taken failed_before failed stop first =
    (last : DriveState) × (steps : List Step)
    × StopsServing connections first last before now taken_before taken failed_before failed steps stop

-- the text describes a cluster, and its drive of this number has served all connections
abbrev pub ServesAs : (number connections : ℕ) → (in_before in_now : Streams) → (before now : Ends)
    → (listens : Option (List ℕ)) → Type 0
ServesAs number connections in_before in_now before now listens =
    InCluster number in_before in_now (λ c.
    OfDrive number c listens (HasServed connections before now in_before.taken in_now.taken))

-- why it hasn't
abbrev pub StopsDrive : (number connections : ℕ) → (in_before in_now : Streams) → (before now : Ends)
    → (listens : Option (List ℕ)) → CommandStop → Type 0
StopsDrive number connections in_before in_now before now listens stop =
    StopsAs number in_before in_now before now listens (in_now.taken ≡ in_before.taken)
    (HasStopped connections before now in_before.taken in_now.taken in_before.writes_failed in_now.writes_failed stop)
    (Command stop)

-- the same, and then the line that tells why
abbrev pub EndsDrive : (number connections : ℕ) → (in_before in_now : Streams) → (before now : Ends)
    → (listens : Option (List ℕ)) → CommandStop → Type 0
EndsDrive number connections in_before in_now before now listens stop =
    TellsStop (λ told. StopsDrive number connections in_before told before now listens stop) in_now (stop_line stop)
