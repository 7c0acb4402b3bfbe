-- CRC-32 (RFC 1952, section 8), bit by bit.
use Rattle.std.specs.Prelude.{ℕ, zero, suc, ◌/◌, ◌%◌, nat_eq, if◌then◌else◌, bit_xor, List, [], ◌∷◌}
use Rattle.gate_log.specs.declared.checksum.TheConstants.{ALL_ONES, POLYNOMIAL}

-- the register after one bit: the lowest bit falls out, and the polynomial is added if it was 1
unfoldable pub after_bit : ℕ → ℕ
after_bit r = if nat_eq (r % 2) 1 then bit_xor (r / 2) POLYNOMIAL else r / 2

-- after so many bits
unfoldable pub after_bits : (count : ℕ) → ℕ → ℕ
after_bits zero r = r
after_bits (suc n) r = after_bits n (after_bit r)

-- after these bytes, each of which is added to the register before its eight bits
unfoldable pub after_bytes : ℕ → List ℕ → ℕ
after_bytes r [] = r
after_bytes r (byte ∷ bytes) = after_bytes (after_bits 8 (bit_xor r byte)) bytes

-- the checksum: the register begins with all its bits set, and all of them are turned at the end
unfoldable pub crc_32 : List ℕ → ℕ
crc_32 bytes = bit_xor (after_bytes ALL_ONES bytes) ALL_ONES
