-- What a drive does with the records of many connections.
use Rattle.std.specs.Prelude.{◌≡◌, ◌⊎◌, ℕ, Bool, true, if◌then◌else◌, List, [], ◌∷◌, ◌++◌, map, Option, Result, Ok, Err}
use Rattle.osd_bytes.specs.Clocks.{TellsTime}
use Rattle.osd_bytes.specs.Inboxes.{Told}
use Rattle.osd_drive.specs.Effects.{drive_after}
use Rattle.osd_drive.specs.State.{DriveState}
use Rattle.drive_command.specs.Records.{Handled, after_all, handled_at, last_after, lines_of, notes_of, reply_bytes}
use Rattle.drive_command.specs.GoesOn.{HasHandled, WentOn}
use Rattle.drive_command.specs.declared.device_server.DeviceServer.{Ghosts}
use Rattle.drive_command.specs.declared.serve_err.DriveServeErr.{DriveServeErr}
use Rattle.drive_command.specs.declared.serve_err.DriveServeErr.TheVariants.{LinkFault, DiskFault, Memory}
use Rattle.drive_loop.specs.declared.drive_handler.DriveHandler.{DriveHandler}
use Rattle.drive_loop.specs.declared.serving.TheConstants.{MOST_TURNS}
use Rattle.port_loop.specs.Ports.{after_notes, over_in}
use Rattle.port_loop.specs.Serving.{AddsAll}
use Rattle.port_loop.specs.Steps.{Follows, Handled as Taking, IsFrontOnEach, Lawful, Settled, Step, handled_in, happened, waits_in}
use Rattle.port_loop.specs.Steps.Step.{Handles}
use Rattle.port_loop.specs.declared.notes.Notes.{Ghosts as NotesGhosts}
use Rattle.port_loop.specs.declared.ports.Happening.{Happening}
use Rattle.port_loop.specs.declared.serving.LoopErr.{LoopErr}
use Rattle.port_loop.specs.declared.serving.LoopErr.TheVariants.{PortFault, HandlerFault, Memory as NoMemory}

-- why serving stops then
abbrev pub serve_err_of : LoopErr → DriveServeErr
serve_err_of PortFault = LinkFault
serve_err_of HandlerFault = DiskFault
serve_err_of NoMemory = Memory

-- what is known of the connections, of the lines that were told, of the second of the newest one, and of the times
pub record Seen : Type 0 where
  pub told : Option (List Happening)
  pub noted : Option (List (List ℕ))
  pub last : Option ℕ
  pub times : Option (List ℕ)

abbrev pub seen_at : {H N : Type 0} → NotesGhosts N → DriveHandler H N → Option (List Happening) → Option (List ℕ) → Seen
seen_at n handler told times = record { told = told; noted = n.noted handler.notes; last = handler.last; times = times }

-- ---- the records of the steps

abbrev pub record_of : Taking → Handled
record_of h = handled_at h.time h.message

-- in the order in which they were taken and handled
abbrev pub records_in : List Step → List Handled
records_in steps = map record_of (handled_in steps)

-- These steps of the loop are lawful, from a drive on, and what the ports tell are those. What was put on each connection are
-- the replies to its records, in order, as far as that went.
pub record GoesBy (drive : DriveState) (before now : Seen) (steps : List Step) : Type 0 where
  pub told : AddsAll (happened steps) before.told now.told
  pub lawful : Lawful reply_bytes drive_after drive steps
  pub fronts : IsFrontOnEach reply_bytes drive_after drive steps

-- each record was handled at the next time of the clock, and the refusals among them were told, one a second at most
pub record Tells (drive : DriveState) (before now : Seen) (handled : List Handled) : Type 0 where
  pub times : Told before.times (map (λ h. h.time) handled) now.times
  pub noted : now.noted ≡ after_notes (notes_of drive before.last handled) before.noted
  pub last : now.last ≡ last_after drive before.last handled

-- After some steps the next record of all that were taken was being handled, at the next time of the clock, and that broke off.
-- It was handled, as the last step, or not; and told or not.
pub record BreaksAt (drive : DriveState) (before now : Seen) (steps : List Step) : Type 0 where
  pub older : List Step
  pub mid : Seen
  pub tells : Tells drive before mid (records_in older)
  pub next : Taking
  pub follows : Follows reply_bytes drive_after drive (Handles next) older
  pub time : TellsTime mid.times now.times next.time
  pub is_handled : Bool
  pub are : steps ≡ (if is_handled then Handles next ∷ older else older)
  pub noted : (now.noted ≡ mid.noted) ⊎ ((is_handled ≡ true) × (now.noted
      ≡ after_notes (lines_of (after_all drive (records_in older)) mid.last (record_of next)) mid.noted))

-- ---- ends

-- all that came is served: each record was handled to its end, and an open connection owes nothing unless it is full
pub record IsServed (drive : DriveState) (before now : Seen) (steps : List Step) : Type 0 where
  pub goes : GoesBy drive before now steps
  pub settled : Settled reply_bytes drive_after drive steps
  pub tells : Tells drive before now (records_in steps)

-- and these are the records of the device server
abbrev pub ServesMany : {H : Type 0} → Ghosts H → (old new : H) → (before now : Seen) → List Step → Type 0
ServesMany s old new before now steps =
    IsServed (s.drive old) before now steps × WentOn s (records_in steps) old new

-- serving was cut off, perhaps in the middle of a record
pub record IsCutOff (drive : DriveState) (before now : Seen) (steps : List Step) : Type 0 where
  pub goes : GoesBy drive before now steps
  pub tells : Tells drive before now (records_in steps) ⊎ BreaksAt drive before now steps

-- the last thing that happened is that a record was handled, so nothing was put since
abbrev pub EndsInRecord : List Step → Type 0
EndsInRecord steps = (last : Taking) × (older : List Step) × (steps ≡ Handles last ∷ older)

-- the records of these steps are those that it handled, of which the last may have been cut off
pub record AreHandled (steps : List Step) (handled cut_off : List Handled) : Type 0 where
  pub are : records_in steps ≡ handled ++ cut_off
  pub unput : (cut_off ≡ []) ⊎ EndsInRecord steps

-- and these are the records of the device server
pub record CutsMany {H : Type 0} (s : Ghosts H) (old new : H) (before now : Seen) (steps : List Step) : Type 0 where
  pub cuts : IsCutOff (s.drive old) before now steps
  pub handled : List Handled
  pub cut_off : List Handled
  pub records : AreHandled steps handled cut_off
  pub carries : HasHandled s handled cut_off old new

-- so many connections are over, or what happens next was waited for as often as may be
abbrev pub IsOver : (connections : ℕ) → List Step → Type 0
IsOver connections steps = (over_in (happened steps) ≡ connections) ⊎ (waits_in steps ≡ MOST_TURNS)

-- How serving ends: when so many connections are over or the drive has waited for so long, if the ports failed, or in the middle
-- of it.
abbrev pub EndsMany : {H : Type 0} → Ghosts H → (connections : ℕ) → (old new : H) → (before now : Seen)
    → Result (Unit {0}) DriveServeErr → Type 0
EndsMany s connections old new before now (Ok done) =
    (steps : List Step) × ServesMany s old new before now steps × IsOver connections steps
EndsMany s connections old new before now (Err LinkFault) =
    (steps : List Step) × ServesMany s old new before now steps
EndsMany s connections old new before now (Err DiskFault) =
    (steps : List Step) × CutsMany s old new before now steps
EndsMany s connections old new before now (Err Memory) =
    (steps : List Step) × CutsMany s old new before now steps
