-- What a drive does whose ports listen, and the lines that it puts before and after.
use Rattle.std.specs.Prelude.{◌≡◌, ◌⊎◌, ℕ, List, [], ◌++◌, take, Option, None}
use Rattle.std.specs.Io.KnownBytes.{Appends}
use Rattle.osd_bytes.specs.Causes.{Rose}
use Rattle.osd_bytes.specs.declared.clock.Clock.{Ghosts as ClockGhosts}
use Rattle.cluster_text.specs.Lines.{listening_line, served_line}
use Rattle.cluster_text.specs.declared.stop.CommandStop.{CommandStop}
use Rattle.cluster_text.specs.declared.stop.CommandStop.TheVariants.{WriteFault, Memory, LinkFault}
use Rattle.osd_drive.specs.State.{DriveState}
use Rattle.drive_command.specs.Records.{Handled, after_all}
use Rattle.drive_command.specs.GoesOn.{HasHandled}
use Rattle.drive_command.specs.declared.device_server.DeviceServer.{Ghosts}
use Rattle.drive_command.specs.declared.stored_stop.StoredStop.{StoredStop}
use Rattle.drive_command.specs.declared.stored_stop.StoredStop.TheVariants.{Command, DiskFault, BadStore}
use Rattle.drive_loop.specs.Serving.{AreHandled, IsCutOff, IsOver, IsServed, Seen, records_in}
use Rattle.port_loop.specs.Steps.{Step}
use Rattle.port_loop.specs.declared.notes.Notes.{Ghosts as NotesGhosts}
use Rattle.port_loop.specs.declared.ports.Happening.{Happening}
use Rattle.port_loop.specs.declared.ports.Ports.{Ghosts as PortsGhosts}

-- what is known of the ports, how many of their calls failed, the lines that were told, and the times
pub record Ends : Type 0 where
  pub told : Option (List Happening)
  pub faults : ℕ
  pub noted : Option (List (List ℕ))
  pub times : Option (List ℕ)

abbrev pub ends_of : Option (List Happening) → ℕ → Option (List (List ℕ)) → Option (List ℕ) → Ends
ends_of told faults noted times = record { told = told; faults = faults; noted = noted; times = times }

abbrev pub network_at : {A B E : Type 0} → PortsGhosts A → NotesGhosts B → ClockGhosts E → (ports : A) → (notes : B) → (clock : E)
    → Ends
network_at p n c ports notes clock = ends_of (p.told ports) (p.faults ports) (n.noted notes) (c.times clock)

-- if a refusal was told last in this second
abbrev pub seen_in : Ends → (last : Option ℕ) → Seen
seen_in e last = record { told = e.told; noted = e.noted; last = last; times = e.times }

-- ---- without the lines

-- by these steps all that came was served, from before any refusal was told
abbrev pub ServesBy : (old new : DriveState) → (before now : Ends) → List Step → Type 0
ServesBy old new before now steps =
    (new ≡ after_all old (records_in steps))
    × (last : Option ℕ) × IsServed old (seen_in before None) (seen_in now last) steps

-- or serving was cut off after them
abbrev pub CutsBy : (old new : DriveState) → (before now : Ends) → List Step → Type 0
CutsBy old new before now steps =
    (new ≡ after_all old (records_in steps))
    × (last : Option ℕ) × IsCutOff old (seen_in before None) (seen_in now last) steps

-- ---- with the lines

-- all that came was served until so many connections were over, and both lines went out
pub record Serves (connections : ℕ) (old new : DriveState) (before now : Ends) (taken_before taken : Option (List ℕ))
    (steps : List Step) : Type 0 where
  pub served : ServesBy old new before now steps
  pub over : IsOver connections steps
  pub told : Appends taken_before taken (listening_line ++ served_line connections)

-- a part of the first line went out and nothing was waited for, or a part of the second after all was served
abbrev pub CutsLine : (connections : ℕ) → (old new : DriveState) → (before now : Ends)
    → (taken_before taken : Option (List ℕ)) → List Step → Type 0
CutsLine connections old new before now taken_before taken steps =
    ((new ≡ old) × (now ≡ before) × (steps ≡ []) × (upto : ℕ) × Appends taken_before taken (take upto listening_line))
    ⊎ (ServesBy old new before now steps × IsOver connections steps
    × (upto : ℕ) × Appends taken_before taken (listening_line ++ take upto (served_line connections)))

-- nothing was told or waited for, and no record was handled
abbrev pub HasNotBegun : (old new : DriveState) → (before now : Ends) → (taken_before taken : Option (List ℕ)) → List Step
    → Type 0
HasNotBegun old new before now taken_before taken steps =
    (new ≡ old) × (now ≡ before) × (taken ≡ taken_before) × (steps ≡ [])

-- it hasn't begun; or the first line went out, and serving was cut off
abbrev pub CutsServing : (old new : DriveState) → (before now : Ends) → (taken_before taken : Option (List ℕ)) → List Step
    → Type 0
CutsServing old new before now taken_before taken steps =
    HasNotBegun old new before now taken_before taken steps
    ⊎ (Appends taken_before taken listening_line × CutsBy old new before now steps)

-- the first line went out, and after all that came was served the ports failed
pub record LosesPorts (old new : DriveState) (before now : Ends) (taken_before taken : Option (List ℕ)) (steps : List Step)
    : Type 0 where
  pub told : Appends taken_before taken listening_line
  pub served : ServesBy old new before now steps
  pub rose : Rose before.faults now.faults

-- why not all was served and told, and by which steps what was
abbrev pub StopsServing : (connections : ℕ) → (old new : DriveState) → (before now : Ends)
    → (taken_before taken : Option (List ℕ)) → (failed_before failed : ℕ) → List Step → CommandStop → Type 0
StopsServing connections old new before now taken_before taken failed_before failed steps WriteFault =
    CutsLine connections old new before now taken_before taken steps × Rose failed_before failed
StopsServing connections old new before now taken_before taken failed_before failed steps LinkFault =
    LosesPorts old new before now taken_before taken steps
StopsServing connections old new before now taken_before taken failed_before failed steps Memory =
    CutsServing old new before now taken_before taken steps
StopsServing connections old new before now taken_before taken failed_before failed steps other = ⊥

-- for such a cause, or the disk failed while it served
abbrev pub StopsKept : (connections : ℕ) → (old new : DriveState) → (before now : Ends) → (taken_before taken : Option (List ℕ))
    → (failed_before failed : ℕ) → (faults_before faults : ℕ) → List Step → StoredStop → Type 0
StopsKept connections old new before now taken_before taken failed_before failed faults_before faults steps (Command stop) =
    StopsServing connections old new before now taken_before taken failed_before failed steps stop
StopsKept connections old new before now taken_before taken failed_before failed faults_before faults steps DiskFault =
    CutsServing old new before now taken_before taken steps × Rose faults_before faults
StopsKept connections old new before now taken_before taken failed_before failed faults_before faults steps (BadStore at) = ⊥

-- the same of a device server, and which records it handled, of which the last may have been cut off
pub record StopsServer {H : Type 0} (s : Ghosts H) (connections : ℕ) (old new : H) (before now : Ends)
    (taken_before taken : Option (List ℕ)) (failed_before failed : ℕ) (stop : StoredStop) : Type 0 where
  pub steps : List Step
  pub handled : List Handled
  pub cut_off : List Handled
  pub records : AreHandled steps handled cut_off
  pub carries : HasHandled s handled cut_off old new
  pub why : StopsKept connections (s.drive old) (s.drive new) before now taken_before taken failed_before failed (s.faults old)
      (s.faults new) steps stop
