-- One byte more than an input may have.
use Rattle.std.proofs.Common.{◌≡◌, ◌≤◌, ◌+◌, ◌-◌, ◌++◌, ℕ, List, length, take, arith}
use Rattle.std.proofs.lemmas.List.{length-append, length-take, length-take-le}
use Rattle.osd_bytes.specs.declared.lines.TheConstants.{MAX_INPUT, MAX_READ}

pub passes : (bytes buf : List ℕ) (count : ℕ) → length bytes ≤ MAX_INPUT → count ≤ length buf →
    count ≡ MAX_INPUT - length bytes + 1 → length (bytes ++ take count buf) ≡ MAX_INPUT + 1
passes bytes buf count limit within is =
    omega (arith, length-append bytes (take count buf), length-take-le count buf within, limit, within, is)

-- no more come than one byte too many
pub within : (bytes buf : List ℕ) (count : ℕ) → length bytes ≤ MAX_INPUT → count ≤ MAX_INPUT - length bytes + 1 →
    length (bytes ++ take count buf) ≤ MAX_READ
within bytes buf count limit room = omega (arith, length-append bytes (take count buf), length-take count buf, limit, room)
