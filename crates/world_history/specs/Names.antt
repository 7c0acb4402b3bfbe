-- The words for what a line can name: drives, clients and files below their counts, and tags of 32 bits.
use Rattle.std.specs.Prelude.{ℕ, Bool, true, ◌==◌, ◌&&◌, ◌^◌, nat_lt, Option, Some, None, if◌then◌else◌}
use Rattle.osd_lists.specs.declared.node.Node.{Node}
use Rattle.osd_lists.specs.declared.node.Node.TheVariants as node
use Rattle.scenario_text.specs.declared.names.TheConstants.{DRIVES, CLIENTS, FILES}
use Rattle.scenario_text.specs.declared.line.Party.{Party}
use Rattle.scenario_text.specs.declared.line.CallKind.{CallKind}
use Rattle.scenario_text.specs.declared.line.Verdict.{Verdict}
use Rattle.scenario_text.specs.declared.line.Ending.{Ending}
use Rattle.scenario_text.specs.declared.line.Ending.TheVariants as ending
use Rattle.scenario_text.specs.declared.line.Outcome.{Outcome as ToldOutcome}
use Rattle.scenario_text.specs.declared.line.Note.{Note as ToldNote}
use Rattle.scenario_text.specs.declared.line.Line.{Line}
use Rattle.scenario_text.specs.declared.line.Line.TheVariants as line
use Rattle.world_history.specs.ClientNames.{Outcome, HeldBy, Refused}
use Rattle.world_history.specs.ServerNames.{Note, NoteKind, Rebuilt}
use Rattle.world_history.specs.Spelled.{party_of}
use Rattle.world_history.specs.Told.{verdict_with, told_outcome, told_note}

-- there is a word only where the test holds
abbrev pub where_known : {X : Type 0} → Bool → X → Option X
where_known known x = if known then Some x else None

-- ---- parties

-- a line can name the party
abbrev pub is_named : Node → Bool
is_named node.Server = true
is_named (node.Drive d) = nat_lt d DRIVES
is_named (node.Client c) = nat_lt c CLIENTS

abbrev pub named_party : Node → Option Party
named_party n = where_known (is_named n) (party_of n)

-- ---- verdicts and outcomes

-- a tag has 32 bits
abbrev pub has_tag : (number detail : ℕ) → Bool
has_tag number detail = if number == 9 then nat_lt detail (2 ^ 32) else true

abbrev pub known_verdict : (number detail : ℕ) → Option Verdict
known_verdict number detail = where_known (has_tag number detail) (verdict_with number detail)

-- a drive that a line can name, and its verdict
abbrev pub known_refusal : (drive number detail : ℕ) → Option Ending
known_refusal d number detail =
    where_known (nat_lt d DRIVES && has_tag number detail) (ending.Refused d (verdict_with number detail))

-- a line can tell the outcome
abbrev pub is_tellable : Outcome → Bool
is_tellable (HeldBy c) = nat_lt c CLIENTS
is_tellable (Refused d number detail) = nat_lt d DRIVES && has_tag number detail
is_tellable o = true

abbrev pub known_outcome : CallKind → Outcome → Option ToldOutcome
known_outcome k o = where_known (is_tellable o) (told_outcome k o)

-- ---- notes

-- a line can tell the note
abbrev pub is_tellable_note : NoteKind → Bool
is_tellable_note (Rebuilt component d) = nat_lt d DRIVES
is_tellable_note n = true

abbrev pub known_note : NoteKind → Option ToldNote
known_note n = where_known (is_tellable_note n) (told_note n)

-- a note as a line
abbrev pub note_line : Note → Line
note_line n = line.Note n.file (told_note n.kind)

abbrev pub known_note_line : Note → Option Line
known_note_line n = where_known (nat_lt n.file FILES && is_tellable_note n.kind) (note_line n)
