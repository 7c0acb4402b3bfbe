-- What a server does that serves from the journal on a disk, and what stays there.
use Rattle.std.specs.Prelude.{◌≡◌, ◌⊎◌, ◌≤◌, ℕ, false, List, [], ◌++◌, length, IsTrue, Option}
use Rattle.osd_bytes.specs.Asking.{Ends}
use Rattle.osd_bytes.specs.Causes.{Rose}
use Rattle.osd_bytes.specs.Connections.{after_notes}
use Rattle.osd_disk.specs.Crashes.{LeavesOnly, Only}
use Rattle.osd_disk.specs.declared.disk.Disk.{Ghosts as DiskGhosts}
use Rattle.cluster_text.specs.declared.cluster.Cluster.{Cluster}
use Rattle.drive_command.specs.declared.stored_stop.StoredStop.{StoredStop}
use Rattle.drive_command.specs.declared.stored_stop.StoredStop.TheVariants as stored
use Rattle.server_rules.specs.declared.server.Server.{Server}
use Rattle.server_state.specs.declared.step.Step.{Step}
use Rattle.server_command.specs.Ends.{Serves, StopsCore}
use Rattle.server_command.specs.Kept.{StandsForSome, StandsSince}
use Rattle.server_command.specs.Steps.{ServerStep, after_steps}
use Rattle.server_command.specs.declared.server_stop.ServerStop.{ServerStop}
use Rattle.server_command.specs.declared.server_stop.ServerStop.TheVariants.{Command, DiskFault}
use Rattle.server_journal.specs.Opening.{IsOfOpening}
use Rattle.server_journal.specs.declared.made.MadeObject.{MadeObject}
use Rattle.stored_server.specs.StoredServer.{StandsFor, is_among}
use Rattle.stored_server.specs.Beginning.{StopsBeginning}
use Rattle.stored_server.specs.Differences.{difference_lines, is_of_another}
use Rattle.stored_server.specs.Opened.{BeginsWith, LeavesOpenable}
use Rattle.stored_server.specs.Preparing.{Prepares, StopsPreparing}

-- ---- what stays on the disk

-- From the moment on at which the journal was open, a crash leaves one of the server as `StandsSince` says: with all that was
-- done
-- to its end till then.
pub record StaysSince {D : Type 0} (s : DiskGhosts D) (begun : Server) (done cut_off : List ServerStep) (left : D) : Type 0 where
  pub began : ℕ
  pub is_past : began ≤ s.moment left
  pub stands : StandsSince StandsFor (s.left_since left) (s.moment left) begun done cut_off began

-- what a crash leaves at any moment of a run: what it might have left before, or what comes of the opening, or a journal of the
-- server after some of these steps
abbrev pub IsOfRun : {D : Type 0} → DiskGhosts D → (disk : D) → (begun : Server) → List ServerStep → List ℕ → Type 0
IsOfRun s disk begun steps c = s.may_leave disk c ⊎ IsOfOpening (s.seen disk) c ⊎ StandsForSome StandsFor begun steps c

-- so it is at every moment, but while a journal is made on an empty disk
abbrev pub LeavesRun : {D : Type 0} → DiskGhosts D → (disk left : D) → (begun : Server) → List ServerStep → Type 0
LeavesRun s disk left begun steps =
    (s.seen disk ≡ []) ⊎ LeavesOnly s.moment s.left_since disk left (IsOfRun s disk begun steps)

-- ---- serving from a disk

-- what the text has otherwise than the server with which serving began was told
abbrev pub once_told : Cluster → (begun : Server) → Ends → Ends
once_told cluster begun before = record before { told = after_notes (difference_lines cluster begun) before.told }

-- The server began from its journal, which is this cluster's, and what differs was told. It was prepared and has served all
-- connections with these steps, each of which the disk has from the step's end on. At the end the disk has the server as it then
-- is, and a crash leaves that.
pub record ServesFrom {D : Type 0} (s : DiskGhosts D) (connections : ℕ) (cluster : Cluster) (before now : Ends)
    (taken_before taken : Option (List ℕ)) (disk left : D) : Type 0 where
  pub begun : Server
  pub own : List MadeObject
  pub step : Step
  pub begins : IsTrue (s.tells disk) → BeginsWith (s.seen disk) begun own step
  pub of_cluster : is_of_another cluster.drives begun.drives ≡ false
  pub made : Server
  pub prepared : List ServerStep
  pub between : Ends
  pub prepares : Prepares (is_among own) cluster begun step [] (once_told cluster begun before) made prepared between
  pub last : Server
  pub done : List ServerStep
  pub serves : Serves connections made last prepared done between now taken_before taken
  pub all : last ≡ after_steps begun done
  pub any_moment : IsTrue (s.tells disk) → LeavesRun s disk left begun done
  pub stays : IsTrue (s.tells disk) → StaysSince s begun done [] left
  pub stands : IsTrue (s.tells disk) → StandsFor last (s.seen left)
  pub durable : IsTrue (s.tells disk) → Only (s.seen left) (s.may_leave left)
  -- no call of the disk failed
  pub same : s.faults left ≡ s.faults disk

-- ---- why it stops

-- why the command stops if its server does
abbrev pub stored_stop_of : ServerStop → StoredStop
stored_stop_of (Command cause) = stored.Command cause
stored_stop_of DiskFault = stored.DiskFault

-- behind its opening, and behind which steps: before it told that it listens, or while it served
abbrev pub StopsBehind : (connections : ℕ) → Cluster → (begun : Server) → (own : List MadeObject) → Step → (before now : Ends)
    → (taken_before taken : Option (List ℕ)) → (failed_before failed : ℕ) → ServerStop → (served unserved : List ServerStep)
    → Type 0
StopsBehind connections cluster begun own step before now taken_before taken failed_before failed cause served unserved =
    ((taken ≡ taken_before)
    × (last : Server) × StopsPreparing (is_among own) cluster begun step [] before last now cause served unserved)
    ⊎ ((made : Server) × (prepared : List ServerStep) × (between : Ends)
    × Prepares (is_among own) cluster begun step [] before made prepared between
    × (last : Server)
    × StopsCore connections made last prepared served unserved between now taken_before taken failed_before failed cause)

-- The server began from its journal, which is this cluster's, what differs was told, and it stopped. The disk has each step that
-- was served, and so each that gave what was put, from the step's end on; and the one behind them, if it was done to its end.
pub record BreaksOff {D : Type 0} (s : DiskGhosts D) (connections : ℕ) (cluster : Cluster) (before now : Ends)
    (taken_before taken : Option (List ℕ)) (failed_before failed : ℕ) (disk left : D) (stop : StoredStop) : Type 0 where
  pub begun : Server
  pub own : List MadeObject
  pub step : Step
  pub begins : IsTrue (s.tells disk) → BeginsWith (s.seen disk) begun own step
  pub of_cluster : is_of_another cluster.drives begun.drives ≡ false
  pub cause : ServerStop
  pub is : stop ≡ stored_stop_of cause
  pub served : List ServerStep
  pub unserved : List ServerStep
  pub why : StopsBehind connections cluster begun own step (once_told cluster begun before) now taken_before taken failed_before
      failed cause served unserved
  pub rose : cause ≡ DiskFault → Rose (s.faults disk) (s.faults left)
  pub handled : List ServerStep
  pub cut_off : List ServerStep
  pub are : unserved ≡ handled ++ cut_off
  pub few : length cut_off ≤ 1
  pub any_moment : IsTrue (s.tells disk) → LeavesRun s disk left begun (served ++ unserved)
  pub stays : IsTrue (s.tells disk) → StaysSince s begun (served ++ handled) cut_off left

-- serving didn't begin: nobody was asked for anything
pub record StaysShut {D : Type 0} (s : DiskGhosts D) (cluster : Cluster) (before now : Ends)
    (taken_before taken : Option (List ℕ)) (disk left : D) (stop : StoredStop) : Type 0 where
  pub why : StopsBeginning s cluster disk left before.told now.told stop
  pub faults : now.faults ≡ before.faults
  pub times : now.times ≡ before.times
  pub silent : taken ≡ taken_before
  pub stays : IsTrue (s.tells disk) → LeavesOpenable s disk left

-- why the server hasn't served all connections
abbrev pub StopsFrom : {D : Type 0} → DiskGhosts D → (connections : ℕ) → Cluster → (before now : Ends)
    → (taken_before taken : Option (List ℕ)) → (failed_before failed : ℕ) → (disk left : D) → StoredStop → Type 0
StopsFrom s connections cluster before now taken_before taken failed_before failed disk left stop =
    StaysShut s cluster before now taken_before taken disk left stop
    ⊎ BreaksOff s connections cluster before now taken_before taken failed_before failed disk left stop
