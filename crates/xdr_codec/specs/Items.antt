-- The items of XDR (RFC 4506), as they are spelled.
use Rattle.std.specs.Prelude.{ℕ, ℤ, ◌+◌, ◌-◌, ◌*◌, ◌/◌, List, ◌++◌, length, replicate, Bool, true, false}
use Rattle.std.specs.Int.{w32, w64, to_be_bytes, cast_unsigned}

-- a length with the bytes that fill its last four
abbrev pub padded : ℕ → ℕ
padded n = (n + 3) / 4 * 4

unfoldable pub u32_item : ℕ → List ℕ
u32_item n = to_be_bytes w32 n

unfoldable pub u64_item : ℕ → List ℕ
u64_item n = to_be_bytes w64 n

-- two's complement
unfoldable pub i64_item : ℤ → List ℕ
i64_item z = u64_item (cast_unsigned w64 z)

abbrev pub bool_item : Bool → List ℕ
bool_item false = u32_item 0
bool_item true = u32_item 1

-- bytes of a length that is known, and zeros up to a multiple of four
unfoldable pub fixed_item : List ℕ → List ℕ
fixed_item bytes = bytes ++ replicate (padded (length bytes) - length bytes) 0

-- bytes behind their length
unfoldable pub opaque_item : List ℕ → List ℕ
opaque_item bytes = u32_item (length bytes) ++ fixed_item bytes
