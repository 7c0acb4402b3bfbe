-- The numbers of a header.
use Rattle.std.proofs.Common.{◌≡◌, ◌<◌, ◌^◌, ℕ, List, [], ◌∷◌, true, eqb, refl}
use Rattle.std.specs.Cmp.Lexicographic.{pointwise}
use Rattle.std.proofs.lemmas.Bool.{eq-eqb}
use Rattle.std.specs.Prelude.{slice_range}
use Rattle.std.specs.Int.{w64, from_be_bytes}
use Rattle.std.proofs.lemmas.Nat.{from_be_bytes-to_be_bytes_8}
use Rattle.drive_store.specs.Header.{header_of}

pub number_in : (number capacity : ℕ) → number < 2 ^ 64 →
    from_be_bytes w64 (slice_range (header_of number capacity) 8 16) ≡ number
unfolding header_of
number_in number capacity fits = from_be_bytes-to_be_bytes_8 number fits

pub capacity_in : (number capacity : ℕ) → capacity < 2 ^ 64 →
    from_be_bytes w64 (slice_range (header_of number capacity) 16 24) ≡ capacity
unfolding header_of
capacity_in number capacity fits = from_be_bytes-to_be_bytes_8 capacity fits

-- the same bytes compare alike
pub alike : (bytes : List ℕ) → pointwise eqb bytes bytes ≡ true
alike [] = refl
alike (b ∷ bytes) = rw (eq-eqb b b refl, alike bytes) refl
