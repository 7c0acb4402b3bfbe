-- The records that a drive handled.
use Rattle.std.specs.Prelude.{ℕ, List, [], ◌∷◌, ◌++◌, Option}
use Rattle.osd_commands.specs.Replies.{spelling}
use Rattle.osd_drive.specs.State.{DriveState}
use Rattle.osd_drive.specs.Effects.{reply_to, drive_after}
use Rattle.drive_command.specs.Refusals.{last_told, lines_told}

-- a record, and when it was handled
pub record Handled : Type 0 where
  pub time : ℕ
  pub message : List ℕ

abbrev pub handled_at : (time : ℕ) → (message : List ℕ) → Handled
handled_at time message = record { time = time; message = message }

-- the drive after these
abbrev pub after_all : DriveState → List Handled → DriveState
after_all d [] = d
after_all d (h ∷ hs) = after_all (drive_after d h.time h.message) hs

-- the reply to a record, spelled
abbrev pub reply_bytes : DriveState → (time : ℕ) → (message : List ℕ) → List ℕ
reply_bytes d time message = spelling (reply_to d time message)

-- the lines that are told of one of these, and the second of the newest line then
abbrev pub lines_of : DriveState → (last : Option ℕ) → Handled → List (List ℕ)
lines_of d last h = lines_told d.number last h.time (reply_to d h.time h.message)

abbrev pub last_of : DriveState → (last : Option ℕ) → Handled → Option ℕ
last_of d last h = last_told last h.time (reply_to d h.time h.message)

-- the lines that are told of all these, in order
abbrev pub notes_of : DriveState → (last : Option ℕ) → List Handled → List (List ℕ)
notes_of d last [] = []
notes_of d last (h ∷ hs) = lines_of d last h ++ notes_of (drive_after d h.time h.message) (last_of d last h) hs

-- the second of the newest line after them
abbrev pub last_after : DriveState → (last : Option ℕ) → List Handled → Option ℕ
last_after d last [] = last
last_after d last (h ∷ hs) = last_after (drive_after d h.time h.message) (last_of d last h) hs
