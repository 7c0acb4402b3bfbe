-- The state of each drive, read off the lines.
use Rattle.std.specs.Prelude.{ℕ, false, true, ◌==◌, List, [], Option, Some, None, option_map, slice_get, if◌then◌else◌}
use Rattle.std.specs.List.{fold}
use Rattle.osd_commands.specs.Commands as commands
use Rattle.scenario_text.specs.declared.event.Event.{Event}
use Rattle.scenario_text.specs.declared.event.Event.TheVariants as event
use Rattle.scenario_text.specs.declared.event.Machine.{Machine}
use Rattle.scenario_text.specs.declared.event.Machine.TheVariants as machine
use Rattle.scenario_text.specs.declared.line.Line.{Line}
use Rattle.scenario_text.specs.declared.line.Line.TheVariants as line
use Rattle.world_history.specs.State.{DriveAt, Sent}
use Rattle.world_history.specs.Drives.{judges, made_drive, raised, at_time, fallen, crashed, reopened, is_deaf}
use Rattle.world_history.specs.Reading.{sent_after, is_drive}

-- drive d, the messages so far, and the bytes that were injected last
pub record DriveSeen : Type 0 where
  pub sent : List Sent
  pub injected : List ℕ
  pub drive : Option DriveAt

-- the drive after bytes came to it; one that failed or is down is deaf
abbrev pub hears_bytes : (bytes : List ℕ) → DriveAt → DriveAt
hears_bytes bytes a = if is_deaf a then a else (judges a (commands.reading bytes)).drive

-- it takes a message that is for it
abbrev pub hears_sent : (d : ℕ) → Option DriveAt → Option Sent → Option DriveAt
hears_sent d a None = a
hears_sent d a (Some m) = if is_drive d m.to then option_map (hears_bytes m.bytes) a else a

-- a change of drive k concerns d where it is d
abbrev pub where_it_is : (k d : ℕ) → (DriveAt → DriveAt) → Option DriveAt → Option DriveAt
where_it_is k d becomes a = if k == d then option_map becomes a else a

-- a clock is set
abbrev pub clock_set : (d : ℕ) → Machine → (time : ℕ) → Option DriveAt → Option DriveAt
clock_set d (machine.Drive k) time a = where_it_is k d (λ x. at_time x time) a
clock_set d machine.Server time a = a

-- a drive crashes or is opened again
abbrev pub drive_restarted : (d : ℕ) → Machine → (DriveAt → DriveAt) → Option DriveAt → Option DriveAt
drive_restarted d (machine.Drive k) becomes a = where_it_is k d becomes a
drive_restarted d machine.Server becomes a = a

-- the drive after an event
abbrev pub drive_after_event : (d : ℕ) → Option DriveAt → Event → Option DriveAt
drive_after_event d a (event.Drive k key capacity) = if k == d then Some (made_drive k key capacity false) else a
drive_after_event d a (event.Disk k key capacity) = if k == d then Some (made_drive k key capacity true) else a
drive_after_event d a (event.Least k format) = where_it_is k d (λ x. raised x format) a
drive_after_event d a (event.Clock which time) = clock_set d which time a
drive_after_event d a (event.Fail k) = where_it_is k d fallen a
drive_after_event d a (event.Crash which) = drive_restarted d which crashed a
drive_after_event d a (event.Reopen which) = drive_restarted d which reopened a
drive_after_event d a e = a

-- the bytes that an event injects
abbrev pub injected_by : List ℕ → Event → List ℕ
injected_by before (event.Inject k bytes) = bytes
injected_by before e = before

-- the drive after a line
abbrev pub drive_after_line : (d : ℕ) → DriveSeen → Line → Option DriveAt
drive_after_line d s (line.Event e) = drive_after_event d s.drive e
drive_after_line d s (line.Delivered number delivery) = hears_sent d s.drive (slice_get s.sent number)
drive_after_line d s (line.Judged k verdict) = where_it_is k d (hears_bytes s.injected) s.drive
drive_after_line d s l = s.drive

abbrev pub injected_after : List ℕ → Line → List ℕ
injected_after before (line.Event e) = injected_by before e
injected_after before l = before

abbrev pub sees_drive : (d : ℕ) → DriveSeen → Line → DriveSeen
sees_drive d s l = record {
  sent = sent_after s.sent l;
  injected = injected_after s.injected l;
  drive = drive_after_line d s l;
}

abbrev pub drive_seen : (d : ℕ) → List Line → DriveSeen
drive_seen d h = fold (sees_drive d) (record { sent = []; injected = []; drive = None }) h

-- drive d after a history
abbrev pub drive_after : List Line → (d : ℕ) → Option DriveAt
drive_after h d = (drive_seen d h).drive
