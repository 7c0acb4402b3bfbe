-- What the commands of a drive and of a server with a store do, and what the others leave of the disk.
use Rattle.std.specs.Prelude.{◌≡◌, ◌⊎◌, Option, Some, None}
use Rattle.command_words.specs.declared.stored_words.StoredDriveWords.{StoredDriveWords}
use Rattle.command_words.specs.declared.stored_words.StoredServerWords.{StoredServerWords}
use Rattle.drive_command.specs.declared.stored_stop.StoredStop.{StoredStop}
use Rattle.drive_loop.specs.StoredEnds.{EndsStored, ServesStoredAs}
use Rattle.stored_server.specs.Ends as server
use Rattle.osd_disk.specs.declared.disk.Disk.{Ghosts as DiskGhosts}
use Rattle.pnfs_run.specs.declared.party.Party.{Party}
use Rattle.pnfs_run.specs.declared.party.Party.TheVariants.{Drive, StoredDrive, Server, StoredServer, Client}
use Rattle.pnfs_run.specs.declared.status.Status.{Status}
use Rattle.pnfs_run.specs.declared.status.Status.TheVariants.{Done, BadWords}
use Rattle.pnfs_run.specs.Exit.{by_stored}
use Rattle.pnfs_run.specs.Ends.{Ends, drive_ends, server_ends, streams_of}
use Rattle.pnfs_run.specs.Network.{HasServersAddresses, ListensAsDrive}

-- the drive serves all connections from its store, or stops
abbrev pub StoredDriveEnds : {D : Type 0} → DiskGhosts D → (disk left : D) → StoredDriveWords → (before now : Ends) → Status →
    Type 0
StoredDriveEnds s disk left w before now status =
    ListensAsDrive w.drive.number before now
    × (((status ≡ Done)
    × ServesStoredAs s w.drive.number w.drive.connections (streams_of before) (streams_of now) (drive_ends before)
    (drive_ends now) now.ports.listens disk left)
    ⊎ ((why : StoredStop) × (status ≡ by_stored why)
    × EndsStored s w.drive.number w.drive.connections (streams_of before) (streams_of now) (drive_ends before)
    (drive_ends now) now.ports.listens disk left why))

-- the server serves all connections from its journal, or stops
abbrev pub StoredServerEnds : {D : Type 0} → DiskGhosts D → (disk left : D) → StoredServerWords → (before now : Ends) → Status →
    Type 0
StoredServerEnds s disk left w before now status =
    HasServersAddresses before now
    × (((status ≡ Done)
    × server.ServesStoredAs s w.server.connections (streams_of before) (streams_of now) (server_ends before)
    (server_ends now) now.standing disk left)
    ⊎ ((why : StoredStop) × (status ≡ by_stored why)
    × server.EndsStored s w.server.connections (streams_of before) (streams_of now) (server_ends before)
    (server_ends now) now.standing disk left why))

-- where words are refused, the disk is as it was given
abbrev pub LeavesDisk : {D : Type 0} → (disk left : D) → Status → Type 0
LeavesDisk disk left status = status ≡ BadWords → left ≡ disk

-- and so it is after a command without a store
abbrev pub KeepsDisk : {D : Type 0} → Option Party → (disk left : D) → Status → Type 0
KeepsDisk None disk left status = left ≡ disk
KeepsDisk (Some Drive) disk left status = left ≡ disk
KeepsDisk (Some StoredDrive) disk left status = LeavesDisk disk left status
KeepsDisk (Some Server) disk left status = left ≡ disk
KeepsDisk (Some StoredServer) disk left status = LeavesDisk disk left status
KeepsDisk (Some Client) disk left status = left ≡ disk
