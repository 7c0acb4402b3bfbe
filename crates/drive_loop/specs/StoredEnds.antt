-- What the command of a drive with a store leaves, and why it stops.
use Rattle.std.specs.Prelude.{◌≡◌, ℕ, List, Option}
use Rattle.cluster_text.specs.Outside.{Streams}
use Rattle.osd_disk.specs.declared.disk.Disk.{Ghosts as DiskGhosts}
use Rattle.drive_command.specs.declared.stored_stop.StoredStop.{StoredStop}
use Rattle.drive_command.specs.StoredEnds.{stored_stop_line}
use Rattle.drive_loop.specs.Ends.{InCluster, OfDrive, StopsAs, TellsStop}
use Rattle.drive_loop.specs.Service.{Ends}
use Rattle.drive_loop.specs.StoredService.{ServesFrom, StopsFrom}

-- nothing was told, and the disk is as it was given
abbrev pub IsAlone : {D : Type 0} → (taken_before taken : Option (List ℕ)) → (disk left : D) → Type 0
IsAlone taken_before taken disk left = (taken ≡ taken_before) × (left ≡ disk)

-- the text describes a cluster, and its drive of this number has served all connections from its store
abbrev pub ServesStoredAs : {D : Type 0} → DiskGhosts D → (number connections : ℕ) → (in_before in_now : Streams)
    → (before now : Ends) → (listens : Option (List ℕ)) → (disk left : D) → Type 0
ServesStoredAs s number connections in_before in_now before now listens disk left =
    InCluster number in_before in_now (λ c.
    OfDrive number c listens (ServesFrom s connections before now in_before.taken in_now.taken disk left))

-- why it hasn't
abbrev pub StopsStored : {D : Type 0} → DiskGhosts D → (number connections : ℕ) → (in_before in_now : Streams)
    → (before now : Ends) → (listens : Option (List ℕ)) → (disk left : D) → StoredStop → Type 0
StopsStored s number connections in_before in_now before now listens disk left stop =
    StopsAs number in_before in_now before now listens (IsAlone in_before.taken in_now.taken disk left)
    (StopsFrom s connections before now in_before.taken in_now.taken in_before.writes_failed in_now.writes_failed disk left stop)
    stop

-- the same, and then the line that tells why
abbrev pub EndsStored : {D : Type 0} → DiskGhosts D → (number connections : ℕ) → (in_before in_now : Streams)
    → (before now : Ends) → (listens : Option (List ℕ)) → (disk left : D) → StoredStop → Type 0
EndsStored s number connections in_before in_now before now listens disk left stop =
    TellsStop (λ told. StopsStored s number connections in_before told before now listens disk left stop) in_now
    (stored_stop_line stop)
