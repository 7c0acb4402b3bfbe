-- What a drive does with one record.
use Rattle.std.specs.Prelude.{◌≡◌, ◌⊎◌, ℕ, Bool, true, if◌then◌else◌, List, [], ◌∷◌, ◌++◌}
use Rattle.drive_command.specs.Records.{Handled, handled_at, last_of, lines_of}
use Rattle.drive_command.specs.GoesOn.{HasHandled, WentOn}
use Rattle.drive_command.specs.declared.device_server.DeviceServer.{Ghosts as DriveGhosts}
use Rattle.drive_command.specs.declared.device_server.HandleErr.{HandleErr}
use Rattle.drive_command.specs.declared.device_server.HandleErr.TheVariants.{DiskFault, Memory}
use Rattle.drive_loop.specs.declared.drive_handler.DriveHandler.{DriveHandler}
use Rattle.port_loop.specs.Ports.{after_notes}
use Rattle.port_loop.specs.declared.handler.HandlerErr.{HandlerErr}
use Rattle.port_loop.specs.declared.handler.HandlerErr.TheVariants.{Failed, Memory as NoMemory}
use Rattle.port_loop.specs.declared.notes.Notes.{Ghosts as NotesGhosts}

-- why a record isn't answered then
abbrev pub handler_err_of : HandleErr → HandlerErr
handler_err_of DiskFault = Failed
handler_err_of Memory = NoMemory

-- it is handled to its end, and told if it is refused
pub record AnswersOne {H N : Type 0} (s : DriveGhosts H) (n : NotesGhosts N) (time : ℕ) (message : List ℕ)
    (old new : DriveHandler H N) : Type 0 where
  pub went : WentOn s (handled_at time message ∷ []) old.server new.server
  pub noted : n.noted new.notes
      ≡ after_notes (lines_of (s.drive old.server) old.last (handled_at time message)) (n.noted old.notes)
  pub last : new.last ≡ last_of (s.drive old.server) old.last (handled_at time message)

-- The disk failed or memory was missing. The record was handled to its end or cut off, or not handled at all. What is told of it
-- was told or not.
pub record BreaksOne {H N : Type 0} (s : DriveGhosts H) (n : NotesGhosts N) (time : ℕ) (message : List ℕ) (is_handled : Bool)
    (old new : DriveHandler H N) : Type 0 where
  pub handled : List Handled
  pub cut_off : List Handled
  pub are : handled ++ cut_off ≡ (if is_handled then handled_at time message ∷ [] else [])
  pub carries : HasHandled s handled cut_off old.server new.server
  pub noted : (n.noted new.notes ≡ n.noted old.notes) ⊎ ((is_handled ≡ true) × (n.noted new.notes
      ≡ after_notes (lines_of (s.drive old.server) old.last (handled_at time message)) (n.noted old.notes)))
