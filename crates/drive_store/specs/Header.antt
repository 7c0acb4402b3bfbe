-- The bytes in front of a store.
use Rattle.std.specs.Prelude.{ℕ, List, ◌++◌}
use Rattle.std.specs.Int.{w32, w64, to_be_bytes}
use Rattle.drive_store.specs.declared.header.TheConstants.{MAGIC, VERSION}

-- that it is one, the number of its drive and the capacity
unfoldable pub header_of : (number capacity : ℕ) → List ℕ
header_of number capacity =
    to_be_bytes w32 MAGIC ++ (to_be_bytes w32 VERSION ++ (to_be_bytes w64 number ++ to_be_bytes w64 capacity))
