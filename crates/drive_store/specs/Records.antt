-- What the records of a store say: the drive that they lead to.
use Rattle.std.specs.Prelude.{◌≡◌, ℕ, List, [], ◌∷◌, Bool, true, false, max, if◌then◌else◌, nat_eq, nat_le, Option, Some, None, Result, Ok, Err}
use Rattle.osd_commands.specs.declared.actions.Action.{Action}
use Rattle.osd_commands.specs.declared.actions.Action.TheVariants.{Create, Read, Write, GetAttr, SetAttr, SetTag}
use Rattle.osd_commands.specs.declared.commands.Command.{Command}
use Rattle.osd_commands.specs.declared.commands.CommandErr.{CommandErr}
use Rattle.osd_commands.specs.Commands.{reading}
use Rattle.osd_objects.specs.declared.attributes.TheConstants.{FIRST_USER_ATTRIBUTE}
use Rattle.osd_drive.specs.declared.verdict.Verdict.{Verdict}
use Rattle.osd_drive.specs.declared.verdict.Verdict.TheVariants.{Perform}
use Rattle.osd_drive.specs.State.{DriveState}
use Rattle.osd_drive.specs.Table.{late_fault, first_fault}
use Rattle.osd_drive.specs.Effects.{performed}
use Rattle.drive_store.specs.declared.record.TheConstants.{SECOND_FORMAT}

-- ---- one record

-- an action changes an object; a SET ATTR only if it names a user's attribute
abbrev pub is_change_of : Action → (attribute : ℕ) → Bool
is_change_of Create attribute = true
is_change_of Read attribute = false
is_change_of Write attribute = true
is_change_of GetAttr attribute = false
is_change_of SetAttr attribute = nat_le FIRST_USER_ATTRIBUTE attribute
is_change_of SetTag attribute = true

abbrev pub is_change : Command → Bool
is_change c = is_change_of c.action c.attribute

-- a drive after a command, if no row on the object stands against it
abbrev pub where_performed : Verdict → DriveState → Option DriveState
where_performed Perform d = Some d
where_performed v d = None

-- a drive after a change, whatever its capability says; none if it isn't one, or a row on the object applies
abbrev pub after_change : DriveState → Command → Option DriveState
after_change d c = if is_change c then where_performed (late_fault d c) (performed d c) else None

abbrev pub after_reading : DriveState → Result Command CommandErr → Option DriveState
after_reading d (Ok c) = after_change d c
after_reading d (Err e) = None

-- the record of a least format that was raised
abbrev pub is_raise : List ℕ → Bool
is_raise (format ∷ []) = nat_eq format SECOND_FORMAT
is_raise other = false

-- a drive after a record: a raised least format, or the bytes of a change; none if it is neither
unfoldable pub after_record : DriveState → List ℕ → Option DriveState
after_record d bytes =
    if is_raise bytes then Some (record d { least = max d.least SECOND_FORMAT }) else after_reading d (reading bytes)

-- ---- all records

abbrev pub after_record_of : Option DriveState → List ℕ → Option DriveState
after_record_of None bytes = None
after_record_of (Some d) bytes = after_record d bytes

-- a drive after these records, the first of them first; none from one on that is no record
abbrev pub replayed : Option DriveState → List (List ℕ) → Option DriveState
replayed d [] = d
replayed d (bytes ∷ records) = replayed (after_record_of d bytes) records

-- ---- a command that comes

-- it is performed at this time, and changes an object
pub record IsChange (d : DriveState) (now : ℕ) (message : List ℕ) (c : Command) : Type 0 where
  pub spelled : reading message ≡ Ok c
  pub change : is_change c ≡ true
  pub verdict : first_fault d now c ≡ Perform

-- there is such a command
abbrev pub Changes : (d : DriveState) → (now : ℕ) → (message : List ℕ) → Type 0
Changes d now message = (c : Command) × IsChange d now message c

-- ---- a least format that is raised

abbrev pub raised : DriveState → (format : ℕ) → DriveState
raised d format = record d { least = max d.least format }
