-- Entries and records as they are read, field by field: the first refusal from the left decides.
use Rattle.std.specs.Prelude.{ℕ, List, if◌then◌else◌, nat_eq, Result, Ok, Err}
use Rattle.osd_capability.specs.declared.keys.TheConstants.{DRIVE_KEY_BYTES}
use Rattle.xdr_codec.specs.Reading.{Rest, ◌>>=◌, opaque_in}
use Rattle.layout_types.specs.declared.err.LayoutErr.{LayoutErr}
use Rattle.layout_types.specs.declared.err.LayoutErr.TheVariants.{BadEnum}
use Rattle.layout_types.specs.Grammar.{lifted, u32_part, u64_part, bool_part, fixed_part, list_part}
use Rattle.layout_types.specs.Reading.{map_in}
use Rattle.server_entries.specs.State.{DriveEntry, Placed, FileEntry, Counters, SlotEntry, FileChange, Size, FenceStarted, Fenced, Repaired, Missing, Present, Ready, Format, Zoned, Entry, Grant}
use Rattle.server_entries.specs.declared.entry.Entry.TheVariants as entry
use Rattle.server_entries.specs.declared.fields.TheConstants.{MAX_ANSWER}
use Rattle.server_entries.specs.declared.record.Record.{Record}

-- ---- the fields of an entry

-- an answer is within its largest length
unfoldable pub answer_part : Rest → Result (List ℕ × Rest) LayoutErr
answer_part i = lifted (opaque_in MAX_ANSWER i)

unfoldable pub drive_in : Rest → Result (DriveEntry × Rest) LayoutErr
drive_in i = do
  number ← u32_part i
  key ← fixed_part DRIVE_KEY_BYTES number.1
  capacity ← u64_part key.1
  online ← bool_part capacity.1
  Ok (
    record { number = number.0; key = key.0; capacity = capacity.0; online = online.0 },
    online.1,
  )

unfoldable pub placed_in : Rest → Result (Placed × Rest) LayoutErr
placed_in i = do
  drive ← u32_part i
  object ← u64_part drive.1
  Ok (record { drive = drive.0; object = object.0 }, object.1)

unfoldable pub file_in : Rest → Result (FileEntry × Rest) LayoutErr
file_in i = do
  file ← u32_part i
  map ← map_in file.1
  tag ← u32_part map.1
  format ← u32_part tag.1
  components ← list_part placed_in format.1
  Ok (
    record { file = file.0; map = map.0; tag = tag.0; format = format.0; components = components.0 },
    components.1,
  )

unfoldable pub grant_in : Rest → Result (Grant × Rest) LayoutErr
grant_in i = do
  number ← u32_part i
  client ← u32_part number.1
  file ← u32_part client.1
  rw_flag ← bool_part file.1
  extending ← bool_part rw_flag.1
  first ← u64_part extending.1
  end ← u64_part first.1
  expiry ← u64_part end.1
  Ok (
    record {
      number = number.0;
      client = client.0;
      file = file.0;
      rw = rw_flag.0;
      extending = extending.0;
      first = first.0;
      end = end.0;
      expiry = expiry.0;
    },
    expiry.1,
  )

unfoldable pub counters_in : Rest → Result (Counters × Rest) LayoutErr
counters_in i = do
  grant ← u32_part i
  object ← u64_part grant.1
  nonce ← u64_part object.1
  recall ← u64_part nonce.1
  Ok (
    record { next_grant = grant.0; next_object = object.0; next_nonce = nonce.0; next_recall = recall.0 },
    recall.1,
  )

unfoldable pub slot_in : Rest → Result (SlotEntry × Rest) LayoutErr
slot_in i = do
  client ← u32_part i
  sequence ← u32_part client.1
  answer ← answer_part sequence.1
  Ok (record { client = client.0; sequence = sequence.0; answer = answer.0 }, answer.1)

unfoldable pub zone_in : Rest → Result (Entry × Rest) LayoutErr
zone_in i = do
  drive ← u32_part i
  zone ← u32_part drive.1
  Ok (entry.Zone drive.0 zone.0, zone.1)

-- ---- changes of a file

unfoldable pub size_in : Rest → Result (Entry × Rest) LayoutErr
size_in i = do
  file ← u32_part i
  size ← u64_part file.1
  Ok (entry.Change file.0 (Size size.0), size.1)

unfoldable pub fenced_in : Rest → Result (Entry × Rest) LayoutErr
fenced_in i = do
  file ← u32_part i
  tag ← u32_part file.1
  format ← u32_part tag.1
  Ok (entry.Change file.0 (Fenced tag.0 format.0), format.1)

unfoldable pub missing_in : Rest → Result (Entry × Rest) LayoutErr
missing_in i = do
  file ← u32_part i
  component ← u32_part file.1
  Ok (entry.Change file.0 (Missing component.0), component.1)

unfoldable pub present_in : Rest → Result (Entry × Rest) LayoutErr
present_in i = do
  file ← u32_part i
  component ← u32_part file.1
  drive ← u32_part component.1
  object ← u64_part drive.1
  Ok (entry.Change file.0 (Present component.0 drive.0 object.0), object.1)

unfoldable pub format_in : Rest → Result (Entry × Rest) LayoutErr
format_in i = do
  file ← u32_part i
  format ← u32_part file.1
  Ok (entry.Change file.0 (Format format.0), format.1)

-- the file alone is announced
unfoldable pub only_in : FileChange → Rest → Result (Entry × Rest) LayoutErr
only_in change i = do
  file ← u32_part i
  Ok (entry.Change file.0 change, file.1)

-- what a kind announces, where it is one of a change
unfoldable pub change_in : (at kind : ℕ) → Rest → Result (Entry × Rest) LayoutErr
change_in at kind i =
    if nat_eq kind 5 then size_in i
    else if nat_eq kind 6 then only_in FenceStarted i
    else if nat_eq kind 7 then fenced_in i
    else if nat_eq kind 8 then only_in Repaired i
    else if nat_eq kind 9 then missing_in i
    else if nat_eq kind 10 then present_in i
    else if nat_eq kind 14 then only_in Ready i
    else if nat_eq kind 15 then format_in i
    else if nat_eq kind 17 then only_in Zoned i
    else Err (BadEnum at kind)

-- ---- entries and records

-- what a kind announces
unfoldable pub behind_kind : (at kind : ℕ) → Rest → Result (Entry × Rest) LayoutErr
behind_kind at kind i =
    if nat_eq kind 1 then (drive_in i >>= λ v. Ok (entry.Drive v.0, v.1))
    else if nat_eq kind 2 then (file_in i >>= λ v. Ok (entry.File v.0, v.1))
    else if nat_eq kind 3 then (grant_in i >>= λ v. Ok (entry.Grant v.0, v.1))
    else if nat_eq kind 4 then (u32_part i >>= λ v. Ok (entry.Return v.0, v.1))
    else if nat_eq kind 11 then (counters_in i >>= λ v. Ok (entry.Counters v.0, v.1))
    else if nat_eq kind 12 then (slot_in i >>= λ v. Ok (entry.Slot v.0, v.1))
    else if nat_eq kind 13 then (u32_part i >>= λ v. Ok (entry.Format v.0, v.1))
    else if nat_eq kind 16 then zone_in i
    else change_in at kind i

unfoldable pub entry_in : Rest → Result (Entry × Rest) LayoutErr
entry_in i = do
  kind ← u32_part i
  behind_kind i.at kind.0 kind.1

unfoldable pub record_in : Rest → Result (Record × Rest) LayoutErr
record_in i = do
  entries ← list_part entry_in i
  Ok (record { entries = entries.0 }, entries.1)
