-- What the commands over a network do.
use Rattle.std.specs.Prelude.{◌≡◌, ◌⊎◌, ℕ, List, Option}
use Rattle.clap.specs.Walk.{Text}
use Rattle.clap.specs.Simple.{App}
use Rattle.cluster_text.specs.Lines.{PutsLine, stop_line}
use Rattle.cluster_text.specs.declared.stop.CommandStop.{CommandStop}
use Rattle.cluster_text.specs.declared.stop.CommandStop.TheVariants as stop
use Rattle.command_words.specs.declared.words.ClientWords.{ClientWords}
use Rattle.command_words.specs.declared.words.DriveWords.{DriveWords}
use Rattle.command_words.specs.declared.words.ServerWords.{ServerWords}
use Rattle.command_words.specs.declared.words.WordsErr.{WordsErr}
use Rattle.command_words.specs.declared.words.WordsErr.TheVariants.{Bad, Memory as NoMemory}
use Rattle.command_words.specs.Asked.{Asks, Refuses}
use Rattle.client_command.specs.declared.work_ends.ClientEnd.{ClientEnd}
use Rattle.client_command.specs.Ends.{EndsClient, WorksAs}
use Rattle.drive_loop.specs.Ends as drive
use Rattle.server_command.specs.Ends as server
use Rattle.osd_replay.specs.Errors.{words_error}
use Rattle.pnfs_run.specs.declared.status.Status.{Status}
use Rattle.pnfs_run.specs.declared.status.Status.TheVariants.{Done, BadWords, Memory}
use Rattle.pnfs_run.specs.Exit.{by_client, by_stop}
use Rattle.pnfs_run.specs.Ends.{AsksNobody, Ends, LeavesInput, LeavesLinks, LeavesPorts, drive_ends, links_of, server_ends}
use Rattle.pnfs_run.specs.Ends.{streams_of}

-- ---- what the words ask for

-- the ports listen where they did, or as the drive of the cluster that the text describes; the links are left alone
abbrev pub ListensAsDrive : (number : ℕ) → (before now : Ends) → Type 0
ListensAsDrive number before now =
    LeavesLinks before now × drive.MayListenAsText number before.left now.left before.ports.listens now.ports.listens

-- a drive serves all connections, or stops
abbrev pub DriveEnds : DriveWords → (before now : Ends) → Status → Type 0
DriveEnds w before now status =
    ListensAsDrive w.number before now
    × (((status ≡ Done)
    × drive.ServesAs w.number w.connections (streams_of before) (streams_of now) (drive_ends before) (drive_ends now)
    now.ports.listens)
    ⊎ ((why : CommandStop) × (status ≡ by_stop why)
    × drive.EndsDrive w.number w.connections (streams_of before) (streams_of now) (drive_ends before) (drive_ends now)
    now.ports.listens why))

-- the links have the addresses that they had, or those of the server of the cluster that the text describes; the ports are left
-- alone
abbrev pub HasServersAddresses : (before now : Ends) → Type 0
HasServersAddresses before now =
    LeavesPorts before now × server.SettlesAsText before.left now.left before.standing now.standing

-- a server serves all connections, or stops
abbrev pub ServerEnds : ServerWords → (before now : Ends) → Status → Type 0
ServerEnds w before now status =
    HasServersAddresses before now
    × (((status ≡ Done)
    × server.ServesAs w.connections (streams_of before) (streams_of now) (server_ends before) (server_ends now) now.standing)
    ⊎ ((why : CommandStop) × (status ≡ by_stop why)
    × server.EndsServer w.connections (streams_of before) (streams_of now) (server_ends before) (server_ends now) now.standing
    why))

-- a client's work is done or refused, or it stops; it asks for no time, and leaves the ports alone
abbrev pub ClientEnds : ClientWords → (before now : Ends) → Status → Type 0
ClientEnds w before now status =
    (now.times ≡ before.times) × LeavesPorts before now
    × (((end : ClientEnd) × (status ≡ by_client end)
    × WorksAs w (streams_of before) (streams_of now) (links_of before) (links_of now) now.standing end)
    ⊎ ((why : CommandStop) × (status ≡ by_stop why)
    × EndsClient w (streams_of before) (streams_of now) (links_of before) (links_of now) now.standing why))

-- ---- words

-- nothing happens but the line that says so
pub record RefusesWords (line : List ℕ) (before now : Ends) : Type 0 where
  pub put : PutsLine before.taken now.taken before.writes_failed now.writes_failed line
  pub input : LeavesInput before now
  pub nobody : AsksNobody before now

-- what is told of words that weren't read
abbrev pub TellsWords : WordsErr → (before now : Option (List ℕ)) → (failed_before failed : ℕ) → Status → Type 0
TellsWords Bad before now failed_before failed status =
    (status ≡ BadWords) × PutsLine before now failed_before failed words_error
TellsWords NoMemory before now failed_before failed status =
    (status ≡ Memory) × PutsLine before now failed_before failed (stop_line stop.Memory)

-- the words are refused, or what they ask for is done; there may be no memory to read them
abbrev pub Runs : {W : Type 0} → App → (List Text → Option W → Type 0) → (W → (before now : Ends) → Status → Type 0)
    → List Text → (before now : Ends) → Status → Type 0
Runs options gives Does words before now BadWords = Refuses options gives words Bad × RefusesWords words_error before now
Runs {W} options gives Does words before now Memory =
    RefusesWords (stop_line stop.Memory) before now
    ⊎ ((asked : W) × Asks options gives words asked × Does asked before now Memory)
Runs {W} options gives Does words before now status =
    (asked : W) × Asks options gives words asked × Does asked before now status
