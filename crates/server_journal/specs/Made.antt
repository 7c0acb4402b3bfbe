-- The objects that drives have made for a server: records that tell of them, beside those of the server's steps.
use Rattle.std.specs.Prelude.{ℕ, List, Option, Some, None, ◌++◌, ◌==◌, length, slice_range, if◌then◌else◌}
use Rattle.std.specs.Int.{w32, w64, from_be_bytes, to_be_bytes}
use Rattle.std.specs.List.{filter_map}
use Rattle.server_journal.specs.declared.made.MadeObject.{MadeObject}
use Rattle.server_journal.specs.declared.made.TheConstants.{MADE, MADE_SIZE}

-- the body of a record that tells of one: a number that no list of entries has, its drive and its number
unfoldable pub made_item : MadeObject → List ℕ
made_item m = to_be_bytes w32 MADE ++ (to_be_bytes w32 m.drive ++ to_be_bytes w64 m.object)

-- the object that a body tells of, if it tells of one
unfoldable pub made_in : List ℕ → Option MadeObject
made_in bytes =
    if length bytes == MADE_SIZE
    then (if from_be_bytes w32 (slice_range bytes 0 4) == MADE
    then Some (record {
      drive = from_be_bytes w32 (slice_range bytes 4 8);
      object = from_be_bytes w64 (slice_range bytes 8 16);
    })
    else None)
    else None

-- those that these records tell of, the first of them first
abbrev pub made_by : List (List ℕ) → List MadeObject
made_by records = filter_map made_in records
