-- Why the command of a drive stops, in the cluster that the text describes.
use Rattle.std.proofs.Common.{◌≡◌, ◌∙◌, ℕ, List, Option, Some, ap, inl, inr, sym, subst}
use Rattle.std.specs.Prelude.{nat_eq}
use Rattle.std.specs.List.{find}
use Rattle.cluster_text.specs.declared.cluster.Cluster.{Cluster}
use Rattle.cluster_text.specs.declared.cluster.ClusterDrive.{ClusterDrive}
use Rattle.cluster_text.specs.declared.cluster.Reader.TheVariants.{Drive}
use Rattle.cluster_text.specs.Inputs.{GivesCluster}
use Rattle.cluster_text.specs.Outside.{Streams}
use Rattle.cluster_text.specs.declared.stop.CommandStop.TheVariants.{BadCluster, ReadFault, WriteFault, Memory, Full, LinkFault}
use Rattle.osd_disk.specs.declared.disk.Disk.{Ghosts as DiskGhosts}
use Rattle.osd_drive.specs.State.{DriveState}
use Rattle.drive_command.specs.Own.{core_in}
use Rattle.drive_command.specs.StoredEnds.{ForCause}
use Rattle.drive_command.specs.StoredStops.{IsTold, no_memory}
use Rattle.drive_command.specs.declared.stored_stop.StoredStop.{StoredStop}
use Rattle.drive_command.specs.declared.stored_stop.StoredStop.TheVariants.{Command, DiskFault, BadStore}
use Rattle.drive_command.proofs.Described.{described}
use Rattle.drive_loop.specs.Ends.{LacksDrive, ListensAs, OfDrive, StopsAs, StopsIn}
use Rattle.drive_loop.specs.Service.{Ends}
use Rattle.drive_loop.specs.StoredEnds.{StopsStored}

-- the ports were told to listen at the drive's address, and still do
pub listens-as : (number : ℕ) (cluster : Cluster) (d : ClusterDrive) (address : List ℕ) (mid now : Option (List ℕ))
    → find (λ e. nat_eq e.number number) cluster.drives ≡ Some d → address ≡ d.address → mid ≡ Some address → now ≡ mid
    → ListensAs number cluster now
listens-as number cluster d address mid now found at is kept =
    (d, found, kept ∙ is ∙ ap (λ (a : List ℕ). Some a) at)

-- they listen, which is all that happened before
pub of-drive : (number : ℕ) (cluster : Cluster) (listens : Option (List ℕ)) (first : DriveState) (before settled : Ends)
    (So : Ends → DriveState → Type 0) → settled ≡ before → ListensAs number cluster listens
    → core_in number cluster ≡ Some first → So settled first → OfDrive number cluster listens (So before)
of-drive number cluster listens first before settled So same at own x =
    (at, first, own, subst (λ (e : Ends). So e first) same x)

-- the cluster that a text describes has the drive
never-lacks : (number : ℕ) (in_before in_now : Streams) (c : Cluster) (stop : StoredStop)
    → GivesCluster (Drive number) in_before.left in_now.left c → ForCause (LacksDrive number c) stop → ⊥
never-lacks number in_before in_now c (Command (BadCluster kind)) gives lacks = described number gives.text c gives.is lacks.1
never-lacks number in_before in_now c (Command ReadFault) gives lacks = lacks
never-lacks number in_before in_now c (Command WriteFault) gives lacks = lacks
never-lacks number in_before in_now c (Command Memory) gives lacks = lacks
never-lacks number in_before in_now c (Command Full) gives lacks = lacks
never-lacks number in_before in_now c (Command LinkFault) gives lacks = lacks
never-lacks number in_before in_now c DiskFault gives lacks = lacks
never-lacks number in_before in_now c (BadStore at) gives lacks = lacks

pub stopped-as : (number : ℕ) (in_before in_now : Streams) (before now : Ends) (listens : Option (List ℕ)) (Alone : Type 0)
    (So : DriveState → Type 0) (stop : StoredStop) (c : Cluster)
    → GivesCluster (Drive number) in_before.left in_now.left c → StopsIn number c before now listens Alone So stop
    → StopsAs number in_before in_now before now listens Alone So stop
stopped-as number in_before in_now before now listens Alone So stop c gives (inl lacks) =
    absurd (never-lacks number in_before in_now c stop gives lacks.0)
stopped-as number in_before in_now before now listens Alone So stop c gives (inr (inl deaf)) = inr (c, gives, inl deaf)
stopped-as number in_before in_now before now listens Alone So stop c gives (inr (inr serving)) =
    inr (c, gives, inr serving)

-- ---- of a drive with a store

module _ {D : Type 0} (s : DiskGhosts D) (number connections : ℕ) (in_before in_now : Streams) (before now : Ends)
    (listens : Option (List ℕ)) (disk left : D) where
  -- there was no memory for the line of a place: nothing else happened
  without-line : (at : ℕ) → StopsStored s number connections in_before in_now before now listens disk left (BadStore at)
      → StopsStored s number connections in_before in_now before now listens disk left no_memory
  without-line at (inl x) = absurd x.0
  without-line at (inr (c, gives, inl x)) = absurd x.0
  without-line at (inr (c, gives, inr (listening, first, own, x))) =
      inr (
        c,
        gives,
        inr (
          listening,
          first,
          own,
          record { drive = x.drive; last = x.last; steps = x.steps; why = inl x.why.0; stays = x.stays },
        ),
      )

  pub told-as : (stop told : StoredStop) → IsTold stop told
      → StopsStored s number connections in_before in_now before now listens disk left stop
      → StopsStored s number connections in_before in_now before now listens disk left told
  told-as stop told (inl same) x =
      subst (λ (e : StoredStop). StopsStored s number connections in_before in_now before now listens disk left e) (sym same) x
  told-as stop told (inr (none, at, is)) x =
      subst (λ (e : StoredStop). StopsStored s number connections in_before in_now before now listens disk left e) (sym none)
      (without-line at
      (subst (λ (e : StoredStop). StopsStored s number connections in_before in_now before now listens disk left e) is x))
