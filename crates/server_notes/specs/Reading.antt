-- Remarks as they are read, field by field: the first refusal from the left decides.
use Rattle.std.specs.Prelude.{◌≡◌, ℕ, List, if◌then◌else◌, nat_eq, Option, Some, None, Result, Ok, Err}
use Rattle.xdr_codec.specs.Reading.{Rest, ◌>>=◌}
use Rattle.layout_types.specs.declared.err.LayoutErr.{LayoutErr}
use Rattle.layout_types.specs.declared.err.LayoutErr.TheVariants.{BadEnum}
use Rattle.layout_types.specs.Grammar.{u32_part, u64_part, list_part, whole}
use Rattle.server_rules.specs.declared.notes.Note.{Note}
use Rattle.server_rules.specs.declared.notes.NoteKind.{NoteKind}
use Rattle.server_rules.specs.declared.notes.NoteKind.TheVariants.{Repaired, NoDrive, Lost, Audit}
use Rattle.server_notes.specs.declared.remark.Remark.{Remark}
use Rattle.server_notes.specs.declared.remark.Remark.TheVariants.{Asks, Dealt}
use Rattle.server_notes.specs.declared.remark.TheConstants.{NOTED}
use Rattle.server_notes.specs.Spelling.{RemarkFits, remark_item}

-- ---- what a kind announces

unfoldable pub repaired_in : Rest → Result (NoteKind × Rest) LayoutErr
repaired_in i = do
  stripes ← u64_part i
  short ← u64_part stripes.1
  Ok (Repaired stripes.0 short.0, short.1)

unfoldable pub no_drive_in : Rest → Result (NoteKind × Rest) LayoutErr
no_drive_in i = do
  component ← u32_part i
  Ok (NoDrive component.0, component.1)

unfoldable pub lost_in : Rest → Result (NoteKind × Rest) LayoutErr
lost_in i = do
  component ← u32_part i
  positions ← list_part u32_part component.1
  Ok (Lost component.0 positions.0, positions.1)

unfoldable pub audit_in : Rest → Result (NoteKind × Rest) LayoutErr
audit_in i = do
  stripes ← u64_part i
  short ← u64_part stripes.1
  bad ← u64_part short.1
  bytes ← u64_part bad.1
  Ok (Audit stripes.0 short.0 bad.0 bytes.0, bytes.1)

unfoldable pub note_in : (at kind : ℕ) → Rest → Result (NoteKind × Rest) LayoutErr
note_in at kind i =
    if nat_eq kind 1 then repaired_in i
    else if nat_eq kind 2 then no_drive_in i
    else if nat_eq kind 3 then lost_in i
    else if nat_eq kind 4 then audit_in i
    else Err (BadEnum at kind)

-- ---- remarks

-- a note of this file
abbrev pub asks_of : (file : ℕ) → NoteKind × Rest → Result (Remark × Rest) LayoutErr
asks_of file k = Ok (Asks (record { file = file; kind = k.0 }), k.1)

-- the file, and then 0 or a note's kind and what it announces
unfoldable pub behind_first : Rest → Result (Remark × Rest) LayoutErr
behind_first i = do
  file ← u32_part i
  kind ← u32_part file.1
  if nat_eq kind.0 0 then Ok (Dealt file.0, kind.1) else (note_in file.1.at kind.0 kind.1 >>= asks_of file.0)

unfoldable pub remark_part : Rest → Result (Remark × Rest) LayoutErr
remark_part i = do
  first ← u32_part i
  if nat_eq first.0 NOTED then behind_first first.1 else Err (BadEnum i.at first.0)

abbrev pub if_read : Result Remark LayoutErr → Option Remark
if_read (Ok r) = Some r
if_read (Err e) = None

-- the remark that the body of a record tells, if it tells one
abbrev pub remark_in : List ℕ → Option Remark
remark_in bytes = if_read (whole remark_part bytes)

-- what is spelled is read again
abbrev pub ReadAgain : Type 0
ReadAgain = (r : Remark) → RemarkFits r → remark_in (remark_item r) ≡ Some r
