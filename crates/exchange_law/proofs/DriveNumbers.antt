-- A drive that is read off the lines has the number that it was made with.
use Rattle.std.proofs.Common.{◌≡◌, ◌==◌, ℕ, List, [], ◌∷◌, Bool, true, false, Option, Some, None, Result, Ok, Err, option_map, fold, slice_get, refl, subst, ◌∙◌, inl, inr, arith, if◌then◌else◌}
use Rattle.std.proofs.lemmas.Bool.{cases_Bool}
use Rattle.std.proofs.lemmas.Bool.Decides.{nat_tests}
use Rattle.osd_commands.specs.declared.commands.Command.{Command}
use Rattle.osd_commands.specs.declared.commands.CommandErr.{CommandErr}
use Rattle.osd_commands.specs.Commands as commands
use Rattle.osd_drive.specs.declared.verdict.Verdict.{Verdict}
use Rattle.osd_drive.specs.declared.verdict.Verdict.TheVariants as drive
use Rattle.osd_drive.specs.State.{DriveState}
use Rattle.osd_drive.specs.Table.{first_fault}
use Rattle.osd_drive.specs.Effects.{state_by, after_reading}
use Rattle.scenario_text.specs.declared.event.Event.{Event}
use Rattle.scenario_text.specs.declared.event.Event.TheVariants as event
use Rattle.scenario_text.specs.declared.event.Machine.{Machine}
use Rattle.scenario_text.specs.declared.event.Machine.TheVariants as machine
use Rattle.scenario_text.specs.declared.line.Line.{Line}
use Rattle.scenario_text.specs.declared.line.Line.TheVariants as line
use Rattle.world_history.specs.declared.messages.Sent.{Sent}
use Rattle.world_history.specs.State.{DriveAt}
use Rattle.world_history.specs.Drives.{judges, made_drive, raised, at_time, fallen, crashed, reopened, is_deaf}
use Rattle.world_history.specs.Reading.{is_drive}
use Rattle.world_history.specs.ReadDrives.{DriveSeen, hears_bytes, hears_sent, where_it_is, clock_set, drive_restarted, drive_after_event, drive_after_line, sees_drive, drive_after}

-- ---- judging

by_verdict : (v : Verdict) (d : DriveState) (c : Command) → (state_by v d c).number ≡ d.number
by_verdict drive.Perform d c = refl
by_verdict v d c = refl

by_reading : (d : DriveState) (now : ℕ) (r : Result Command CommandErr) → (after_reading d now r).number ≡ d.number
by_reading d now (Ok c) = by_verdict (first_fault d now c) d c
by_reading d now (Err e) = refl

judged_number : (a : DriveAt) (r : Result Command CommandErr) → (judges a r).drive.state.number ≡ a.state.number
unfolding judges
judged_number a r = by_reading a.state a.clock r

heard_number : (bytes : List ℕ) (a : DriveAt) (b : Bool)
    → (if b then a else (judges a (commands.reading bytes)).drive).state.number ≡ a.state.number
heard_number bytes a true = refl
heard_number bytes a false = judged_number a (commands.reading bytes)

-- ---- lines

abbrev pub HasNumber : (d : ℕ) → Option DriveAt → Type 0
HasNumber d None = Unit {0}
HasNumber d (Some a) = a.state.number ≡ d

module _ (d : ℕ) where
  either_number : (b : Bool) (x y : Option DriveAt) → HasNumber d x → HasNumber d y → HasNumber d (if b then x else y)
  either_number true x y k l = k
  either_number false x y k l = l

  mapped_number : (f : DriveAt → DriveAt) → ((a : DriveAt) → (f a).state.number ≡ a.state.number)
      → (o : Option DriveAt) → HasNumber d o → HasNumber d (option_map f o)
  mapped_number f same None k = tt
  mapped_number f same (Some a) k = same a ∙ k

  sent_number : (o : Option DriveAt) (m : Option Sent) → HasNumber d o → HasNumber d (hears_sent d o m)
  sent_number o None k = k
  sent_number o (Some m) k =
      either_number (is_drive d m.to) _ _
      (mapped_number (hears_bytes m.bytes) (λ a. heard_number m.bytes a (is_deaf a)) o k) k

  changed_number : (n : ℕ) (f : DriveAt → DriveAt) → ((a : DriveAt) → (f a).state.number ≡ a.state.number)
      → (o : Option DriveAt) → HasNumber d o → HasNumber d (where_it_is n d f o)
  changed_number n f same o k = either_number (n == d) _ _ (mapped_number f same o k) k

  clock_number : (which : Machine) (time : ℕ) (o : Option DriveAt) → HasNumber d o
      → HasNumber d (clock_set d which time o)
  clock_number (machine.Drive n) time o k = changed_number n (λ a. at_time a time) (λ a. refl) o k
  clock_number machine.Server time o k = k

  restart_number : (which : Machine) (f : DriveAt → DriveAt) → ((a : DriveAt) → (f a).state.number ≡ a.state.number)
      → (o : Option DriveAt) → HasNumber d o → HasNumber d (drive_restarted d which f o)
  restart_number (machine.Drive n) f same o k = changed_number n f same o k
  restart_number machine.Server f same o k = k

  made_number : (n : ℕ) (key : List ℕ) (capacity : ℕ) (stored : Bool) (o : Option DriveAt) → HasNumber d o
      → HasNumber d (if n == d then Some (made_drive n key capacity stored) else o)
  made_number n key capacity stored o k = elim (cases_Bool (n == d)) [
    | inl it ↦ rw it (equal n d it)
    | inr other ↦ rw other k
  ]
    where
      equal : (a b : ℕ) → (a == b) ≡ true → a ≡ b
      equal a b e = grind (arith, nat_tests, e)

  event_number : (o : Option DriveAt) (e : Event) → HasNumber d o → HasNumber d (drive_after_event d o e)
  event_number o (event.Drive n key capacity) k = made_number n key capacity false o k
  event_number o (event.Disk n key capacity) k = made_number n key capacity true o k
  event_number o (event.Least n format) k = changed_number n (λ a. raised a format) (λ a. refl) o k
  event_number o (event.Clock which time) k = clock_number which time o k
  event_number o (event.Fail n) k = changed_number n fallen (λ a. refl) o k
  event_number o (event.Crash which) k = restart_number which crashed (λ a. refl) o k
  event_number o (event.Reopen which) k = restart_number which reopened (λ a. refl) o k
  event_number o e k = k

  line_number : (s : DriveSeen) (l : Line) → HasNumber d s.drive → HasNumber d (drive_after_line d s l)
  line_number s (line.Event e) k = event_number s.drive e k
  line_number s (line.Delivered n delivery) k = sent_number s.drive (slice_get s.sent n) k
  line_number s (line.Judged n verdict) k =
      changed_number n (hears_bytes s.injected) (λ a. heard_number s.injected a (is_deaf a)) s.drive k
  line_number s l k = k

  lines_number : (s : DriveSeen) (h : List Line) → HasNumber d s.drive → HasNumber d (fold (sees_drive d) s h).drive
  lines_number s [] k = k
  lines_number s (l ∷ h) k = lines_number (sees_drive d s l) h (line_number s l k)

pub drive_number : (h : List Line) (d : ℕ) (a : DriveAt) → drive_after h d ≡ Some a → a.state.number ≡ d
drive_number h d a is =
    subst (HasNumber d) is (lines_number d (record { sent = []; injected = []; drive = None }) h tt)
