-- What parties tell, in the words of the transcript.
use Rattle.std.specs.Prelude.{ℕ, ◌==◌, if◌then◌else◌}
use Rattle.data_map.specs.declared.check.MapErr.{MapErr}
use Rattle.data_map.specs.declared.check.MapErr.TheVariants as map_err
use Rattle.osd_drive.specs.declared.verdict.Verdict.{Verdict}
use Rattle.osd_drive.specs.declared.verdict.Verdict.TheVariants as drive
use Rattle.world_history.specs.ServerNames as server_rules
use Rattle.world_history.specs.ClientNames as client_rules
use Rattle.scenario_text.specs.declared.line.Verdict.{Verdict as ToldVerdict}
use Rattle.scenario_text.specs.declared.line.Verdict.TheVariants as verdict
use Rattle.scenario_text.specs.declared.line.CallKind.{CallKind}
use Rattle.scenario_text.specs.declared.line.CallKind.TheVariants as kind
use Rattle.scenario_text.specs.declared.line.LayoutFault.{LayoutFault}
use Rattle.scenario_text.specs.declared.line.LayoutFault.TheVariants as fault
use Rattle.scenario_text.specs.declared.line.Ending.TheVariants as ending
use Rattle.scenario_text.specs.declared.line.Outcome.{Outcome}
use Rattle.scenario_text.specs.declared.line.Outcome.TheVariants as outcome
use Rattle.scenario_text.specs.declared.line.Refusal.{Refusal}
use Rattle.scenario_text.specs.declared.line.Refusal.TheVariants as refusal
use Rattle.scenario_text.specs.declared.line.MapFault.{MapFault}
use Rattle.scenario_text.specs.declared.line.MapFault.TheVariants as map_fault
use Rattle.scenario_text.specs.declared.line.Note.{Note}
use Rattle.scenario_text.specs.declared.line.Note.TheVariants as note

-- ---- verdicts

-- what a drive makes of a command
abbrev pub told_verdict : Verdict → ToldVerdict
told_verdict drive.Perform = verdict.Perform
told_verdict drive.OldFormat = verdict.OldFormat
told_verdict drive.NoKey = verdict.NoKey
told_verdict drive.CheckValue = verdict.CheckValue
told_verdict drive.Expired = verdict.Expired
told_verdict drive.Rights = verdict.Rights
told_verdict drive.WrongObject = verdict.WrongObject
told_verdict drive.Range = verdict.Range
told_verdict drive.NoObject = verdict.NoObject
told_verdict drive.Exists = verdict.Exists
told_verdict (drive.Tag current) = verdict.Tag current
told_verdict drive.Limit = verdict.Limit
told_verdict (drive.NoSpace free) = verdict.NoSpace free
told_verdict drive.LaneFull = verdict.LaneFull
told_verdict (drive.Stale last) = verdict.Stale last
told_verdict drive.AttrFull = verdict.AttrFull
told_verdict drive.Again = verdict.Again

-- the verdict that a reply carries as a number, with its detail; no other number is a refusal
unfoldable pub verdict_with : (number detail : ℕ) → ToldVerdict
verdict_with number detail =
    if number == 1 then verdict.NoKey
    else if number == 2 then verdict.CheckValue
    else if number == 3 then verdict.Expired
    else if number == 4 then verdict.Rights
    else if number == 5 then verdict.WrongObject
    else if number == 6 then verdict.Range
    else if number == 7 then verdict.NoObject
    else if number == 8 then verdict.Exists
    else if number == 9 then verdict.Tag detail
    else if number == 10 then verdict.Limit
    else if number == 11 then verdict.NoSpace detail
    else if number == 12 then verdict.LaneFull
    else if number == 13 then verdict.Stale detail
    else if number == 14 then verdict.AttrFull
    else if number == 16 then verdict.Format
    else if number == 17 then verdict.OldFormat
    else if number == 15 then verdict.Again
    else verdict.Perform

-- ---- calls

-- what a call does
abbrev pub kind_of : client_rules.CallOp → CallKind
kind_of (client_rules.Write file offset bytes) = kind.Write
kind_of (client_rules.Read file offset count) = kind.Read

-- why a layout isn't used
abbrev pub told_why : client_rules.Why → LayoutFault
told_why client_rules.Unreadable = fault.Unreadable
told_why client_rules.Index = fault.Index
told_why client_rules.Partial = fault.Partial
told_why client_rules.Secured = fault.Ssv
told_why client_rules.BadMap = fault.Map
told_why client_rules.BadCredential = fault.Credential

-- how a call ended
abbrev pub told_outcome : CallKind → client_rules.Outcome → Outcome
told_outcome k (client_rules.WriteOk count) = outcome.WriteOk count
told_outcome k (client_rules.ReadOk bytes) = outcome.ReadOk bytes
told_outcome k client_rules.NoFile = outcome.Failed k ending.NoFile
told_outcome k (client_rules.HeldBy c) = outcome.Failed k (ending.Held c)
told_outcome k (client_rules.Fencing component) = outcome.Failed k (ending.Fencing component)
told_outcome k (client_rules.Degraded component) = outcome.Failed k (ending.Degraded component)
told_outcome k client_rules.Spent = outcome.Failed k ending.Spent
told_outcome k (client_rules.Status status detail) = outcome.Failed k (ending.Status status detail)
told_outcome k (client_rules.Refused d number detail) = outcome.Failed k (ending.Refused d (verdict_with number detail))
told_outcome k (client_rules.Silent component) = outcome.Failed k (ending.Silent component)
told_outcome k (client_rules.Lost positions) = outcome.Failed k (ending.Lost positions)
told_outcome k (client_rules.BadLayout why) = outcome.Failed k (ending.BadLayout (told_why why))

-- why a call isn't taken; the rules know no want of memory
abbrev pub told_refusal : client_rules.CallErr → Refusal
told_refusal client_rules.BadRange = refusal.BadRange
told_refusal client_rules.SlotSpent = refusal.SlotSpent
told_refusal e = refusal.Busy

-- ---- notes

-- a note of the server
abbrev pub told_note : server_rules.NoteKind → Note
told_note server_rules.Ready = note.Ready
told_note (server_rules.Fenced tag) = note.Fenced tag
told_note (server_rules.Repaired stripes short) = note.Repaired stripes short
told_note (server_rules.Rebuilt component d) = note.Rebuilt component d
told_note (server_rules.NoDrive component) = note.NoDrive component
told_note (server_rules.Lost component positions) = note.Lost component positions
told_note (server_rules.NoSpace component) = note.NoSpace component
told_note (server_rules.Audit stripes short bad bytes) = note.Audited stripes short bad bytes
told_note (server_rules.Busy component) = note.Busy component
told_note server_rules.Spent = note.Spent
told_note (server_rules.Reported component) = note.Reported component

-- why numbers are no map
abbrev pub told_map_err : MapErr → MapFault
told_map_err map_err.Unit = map_fault.Unit
told_map_err map_err.TooMany = map_fault.TooMany
told_map_err map_err.TooFew = map_fault.TooFew
told_map_err map_err.Multiple = map_fault.Multiple
told_map_err map_err.Width = map_fault.Width
told_map_err map_err.Depth = map_fault.Depth

-- why a file isn't made
abbrev pub told_file_refusal : server_rules.Refusal → Note
told_file_refusal server_rules.FileExists = note.Exists
told_file_refusal (server_rules.BadMap e) = note.BadMap (told_map_err e)
told_file_refusal (server_rules.TooFewDrives online) = note.TooFew online
told_file_refusal (server_rules.NoSpread online) = note.NoSpread online
