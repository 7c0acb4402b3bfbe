-- Why serving doesn't begin.
use Rattle.std.specs.Prelude.{◌≡◌, ◌⊎◌, true, List, IsTrue, Option}
use Rattle.osd_bytes.specs.Connections.{Traffic}
use Rattle.cluster_text.specs.declared.cluster.Cluster.{Cluster}
use Rattle.drive_command.specs.declared.stored_stop.StoredStop.{StoredStop}
use Rattle.drive_command.specs.declared.stored_stop.StoredStop.TheVariants.{BadStore}
use Rattle.drive_command.specs.StoredStops.{no_memory}
use Rattle.osd_disk.specs.declared.disk.Disk.{Ghosts as DiskGhosts}
use Rattle.server_rules.specs.declared.notes.Note.{Note}
use Rattle.server_rules.specs.declared.server.Server.{Server}
use Rattle.server_rules.specs.Openings.{crash}
use Rattle.server_state.specs.declared.step.Step.{Step}
use Rattle.server_command.specs.Notes.{TellsSome}
use Rattle.server_journal.specs.declared.made.MadeObject.{MadeObject}
use Rattle.server_journal.specs.Journals.{IsJournalWith}
use Rattle.stored_server.specs.declared.beginning.TheConstants.{CLUSTER_PLACE}
use Rattle.stored_server.specs.Differences.{difference_lines, is_of_another}
use Rattle.stored_server.specs.Opened.{BeginsWith, StopsOpening}

-- The journal is another cluster's. It was opened, and stands for the server with which serving would have begun; nothing was
-- told.
pub record IsAnothers {D : Type 0} (s : DiskGhosts D) (cluster : Cluster) (disk left : D) (told now : Option Traffic)
    (stop : StoredStop) : Type 0 where
  pub begun : Server
  pub own : List MadeObject
  pub noted : List Note
  pub step : Step
  pub begins : IsTrue (s.tells disk) → BeginsWith (s.seen disk) begun own step
  pub other : is_of_another cluster.drives begun.drives ≡ true
  pub stands : IsTrue (s.tells disk) → IsJournalWith (crash begun) own noted (s.seen left)
  pub place : stop ≡ BadStore CLUSTER_PLACE
  pub silent : now ≡ told

-- there was no memory for telling what differs, or that the journal is another cluster's
pub record CutsBeginning {D : Type 0} (s : DiskGhosts D) (cluster : Cluster) (disk : D) (told now : Option Traffic)
    (stop : StoredStop) : Type 0 where
  pub begun : Server
  pub own : List MadeObject
  pub step : Step
  pub begins : IsTrue (s.tells disk) → BeginsWith (s.seen disk) begun own step
  pub cause : stop ≡ no_memory
  pub some : TellsSome (difference_lines cluster begun) told now

-- the journal can't be made or opened, or it is another cluster's, or there was no memory
abbrev pub StopsBeginning : {D : Type 0} → DiskGhosts D → Cluster → (disk left : D) → (told now : Option Traffic) → StoredStop
    → Type 0
StopsBeginning s cluster disk left told now stop =
    (StopsOpening s disk left stop × (now ≡ told))
    ⊎ IsAnothers s cluster disk left told now stop
    ⊎ CutsBeginning s cluster disk told now stop
