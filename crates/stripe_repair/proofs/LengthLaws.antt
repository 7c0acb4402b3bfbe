-- The lengths that replies carry.
use Rattle.std.specs.Prelude.{ℕ, List, [], ◌∷◌, ◌≤◌, ◌==◌, ◌&&◌, nat_le, length}
use Rattle.std.specs.Int.{w64, from_be_bytes}
use Rattle.std.specs.List.{All}
use Rattle.std.proofs.Common.{arith, inl, inr}
use Rattle.std.proofs.lemmas.Bool.{cases_Bool}
use Rattle.std.proofs.lemmas.Bool.Decides.{nat_tests}
use Rattle.std.proofs.lemmas.List.{length-map}
use Rattle.std.proofs.lemmas.List.Elements.{All-nil, All-cons}
use Rattle.data_map.specs.declared.check.TheConstants.{MAX_COMPONENTS}
use Rattle.server_rules.specs.declared.limits.TheConstants.{MAX_OBJECT_LENGTH}
use Rattle.server_rules.specs.declared.jobs.Heard.{Heard}
use Rattle.server_rules.specs.declared.jobs.Measured.{Measured}
use Rattle.server_rules.specs.Audit.{length_in, lengths_of}
use Rattle.stripe_repair.specs.Lengths.{AreLengths}

length_low : (bytes : List ℕ) → length_in bytes ≤ MAX_OBJECT_LENGTH
unfolding length_in
length_low bytes = elim (cases_Bool ((length bytes == 8) && nat_le (from_be_bytes w64 bytes) MAX_OBJECT_LENGTH)) [
  | inl t ↦ rw t (grind (arith, nat_tests, t))
  | inr f ↦ rw f (omega arith)
]

all_low : (heard : List Heard) → All (λ (m : Measured). m.length ≤ MAX_OBJECT_LENGTH) (lengths_of heard)
all_low [] = All-nil (λ (m : Measured). m.length ≤ MAX_OBJECT_LENGTH)
all_low (h ∷ hs) =
    All-cons (λ (m : Measured). m.length ≤ MAX_OBJECT_LENGTH) (record { component = h.component; length = length_in h.payload })
    (lengths_of hs) (length_low h.payload) (all_low hs)

pub are_lengths : (heard : List Heard) → length heard ≤ MAX_COMPONENTS → AreLengths (lengths_of heard)
are_lengths heard few = record {
  few = rw (length-map {B = Measured} heard (λ (h : Heard). record { component = h.component; length = length_in h.payload }))
      few;
  low = all_low heard;
}
