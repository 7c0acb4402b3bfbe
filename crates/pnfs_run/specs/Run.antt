-- What a run of the program promises, by its words.
use Rattle.std.specs.Prelude.{◌≡◌, ◌⊎◌, List, Option, Some, None, IsNone}
use Rattle.clap.specs.Walk.{Text}
use Rattle.command_words.specs.declared.words.WordsErr.TheVariants.{Bad}
use Rattle.command_words.specs.Options.{client_options, drive_options, server_options}
use Rattle.command_words.specs.Asked.{Refuses, client_gives, drive_gives, server_gives}
use Rattle.command_words.specs.StoredAsked.{stored_drive_gives, stored_drive_options, stored_server_gives, stored_server_options}
use Rattle.osd_disk.specs.declared.disk.Disk.{Ghosts as DiskGhosts}
use Rattle.osd_replay.specs.declared.status.Status.{Status as ReplayStatus}
use Rattle.osd_replay.specs.Commands.{command_of}
use Rattle.osd_replay.specs.Run.{Promises as ReplayPromises}
use Rattle.pnfs_run.specs.declared.party.Party.{Party}
use Rattle.pnfs_run.specs.declared.party.Party.TheVariants.{Drive, StoredDrive, Server, StoredServer, Client}
use Rattle.pnfs_run.specs.declared.status.Status.{Status}
use Rattle.pnfs_run.specs.declared.status.Status.TheVariants.{BadWords, Memory}
use Rattle.pnfs_run.specs.Exit.{by_replay}
use Rattle.pnfs_run.specs.Ends.{AsksNobody, Ends, replay_ends}
use Rattle.pnfs_run.specs.Network.{ClientEnds, DriveEnds, Runs, ServerEnds}
use Rattle.pnfs_run.specs.Stored.{StoredDriveEnds, StoredServerEnds}

-- a command without a network asks nobody
abbrev pub RunsAlone : List Text → (before now : Ends) → Status → Type 0
RunsAlone words before now status =
    AsksNobody before now
    × (how : ReplayStatus) × (status ≡ by_replay how)
    × ReplayPromises (command_of words) (replay_ends before) (replay_ends now) how

abbrev pub Promises : {D : Type 0} → DiskGhosts D → (disk left : D) → Option Party → List Text → (before now : Ends) → Status →
    Type 0
Promises s disk left None words before now status = RunsAlone words before now status
Promises s disk left (Some Drive) words before now status = Runs drive_options drive_gives DriveEnds words before now status
Promises s disk left (Some StoredDrive) words before now status =
    Runs stored_drive_options stored_drive_gives (StoredDriveEnds s disk left) words before now status
Promises s disk left (Some Server) words before now status = Runs server_options server_gives ServerEnds words before now status
Promises s disk left (Some StoredServer) words before now status =
    Runs stored_server_options stored_server_gives (StoredServerEnds s disk left) words before now status
Promises s disk left (Some Client) words before now status = Runs client_options client_gives ClientEnds words before now status

-- the words are those of no command
abbrev pub AreBad : Option Party → List Text → Type 0
AreBad None words = IsNone (command_of words)
AreBad (Some Drive) words = Refuses drive_options drive_gives words Bad
AreBad (Some StoredDrive) words = Refuses stored_drive_options stored_drive_gives words Bad
AreBad (Some Server) words = Refuses server_options server_gives words Bad
AreBad (Some StoredServer) words = Refuses stored_server_options stored_server_gives words Bad
AreBad (Some Client) words = Refuses client_options client_gives words Bad

-- a run ends so exactly where they are, unless there is no memory to read them
pub record JudgesWords (Bad : Type 0) (status : Status) : Type 0 where
  pub bad : status ≡ BadWords → Bad
  pub only : Bad → (status ≡ BadWords) ⊎ (status ≡ Memory)
