-- A drive that is there stays there, and lines that were written are so in front and behind.
use Rattle.std.proofs.Common.{◌≡◌, ◌==◌, ℕ, ◌++◌, ◌∷◌, [], List, Bool, true, false, Option, Some, None, is_some, slice_get, option_map, fold, refl, if◌then◌else◌}
use Rattle.scenario_text.specs.declared.event.Event.{Event}
use Rattle.scenario_text.specs.declared.event.Event.TheVariants as event
use Rattle.scenario_text.specs.declared.event.Machine.TheVariants as machine
use Rattle.scenario_text.specs.declared.line.Line.{Line}
use Rattle.scenario_text.specs.declared.line.Line.TheVariants as line
use Rattle.world_history.specs.declared.messages.Sent.{Sent}
use Rattle.world_history.specs.State.{DriveAt}
use Rattle.world_history.specs.Reading.{is_drive}
use Rattle.world_history.specs.ReadDrives.{DriveSeen, sees_drive, hears_bytes, hears_sent, where_it_is, drive_after_event, drive_after_line}
use Rattle.history_law.specs.Read.{AreWritten}

-- ---- drives

mapped : (o : Option DriveAt) (f : DriveAt → DriveAt) → is_some o ≡ true → is_some (option_map f o) ≡ true
mapped None f h = h
mapped (Some a) f h = refl

either_drive : (b : Bool) (o p : Option DriveAt) → is_some o ≡ true → is_some p ≡ true
    → is_some (if b then o else p) ≡ true
either_drive true o p h i = h
either_drive false o p h i = i

changed : (k d : ℕ) (f : DriveAt → DriveAt) (o : Option DriveAt) → is_some o ≡ true
    → is_some (where_it_is k d f o) ≡ true
changed k d f o h = either_drive (k == d) (option_map f o) o (mapped o f h) h

by_event : (d : ℕ) (o : Option DriveAt) (e : Event) → is_some o ≡ true → is_some (drive_after_event d o e) ≡ true
by_event d o (event.Drive k key capacity) h = either_drive (k == d) _ o refl h
by_event d o (event.Disk k key capacity) h = either_drive (k == d) _ o refl h
by_event d o (event.Least k format) h = changed k d _ o h
by_event d o (event.Clock (machine.Drive k) time) h = changed k d _ o h
by_event d o (event.Clock machine.Server time) h = h
by_event d o (event.Fail k) h = changed k d _ o h
by_event d o (event.Crash (machine.Drive k)) h = changed k d _ o h
by_event d o (event.Crash machine.Server) h = h
by_event d o (event.Reopen (machine.Drive k)) h = changed k d _ o h
by_event d o (event.Reopen machine.Server) h = h
by_event d o e h = h

by_message : (d : ℕ) (o : Option DriveAt) (s : Option Sent) → is_some o ≡ true → is_some (hears_sent d o s) ≡ true
by_message d o None h = h
by_message d o (Some s) h =
    either_drive (is_drive d s.to) (option_map (hears_bytes s.bytes) o) o (mapped o (hears_bytes s.bytes) h) h

by_line : (d : ℕ) (s : DriveSeen) (l : Line) → is_some s.drive ≡ true → is_some (drive_after_line d s l) ≡ true
by_line d s (line.Event e) h = by_event d s.drive e h
by_line d s (line.Delivered number delivery) h = by_message d s.drive (slice_get s.sent number) h
by_line d s (line.Judged k verdict) h = changed k d (hears_bytes s.injected) s.drive h
by_line d s l h = h

pub drive_stays : (d : ℕ) (s : DriveSeen) (ls : List Line) → is_some s.drive ≡ true
    → is_some (fold (sees_drive d) s ls).drive ≡ true
drive_stays d s [] h = h
drive_stays d s (l ∷ ls) h = drive_stays d (sees_drive d s l) ls (by_line d s l h)

-- ---- lines

pub written_front : (xs ys : List Line) → AreWritten (xs ++ ys) → AreWritten xs
written_front [] ys h = tt
written_front (x ∷ xs) ys h = (h.0, written_front xs ys h.1)

pub written_behind : (xs ys : List Line) → AreWritten (xs ++ ys) → AreWritten ys
written_behind [] ys h = h
written_behind (x ∷ xs) ys h = written_behind xs ys h.1
