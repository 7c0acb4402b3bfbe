-- What a column's parity lacks, by which lost bytes come back.
use Rattle.std.specs.Prelude.{◌≡◌, ℕ, ◌+◌, ◌<◌, List, length, take, bit_xor, slice_index, nat_lt, nat_le, if◌then◌else◌}
use Rattle.std.specs.List.{All}
use Rattle.gf256.specs.Field.{two_to}
use Rattle.parity_code.specs.Parity.{p_of, q_of}

-- the sum of P and of the data, which is 0 in a codeword
abbrev pub p_syndrome : ℕ → List ℕ → ℕ
p_syndrome units col = bit_xor (p_of (take units col)) (slice_index col units)

-- the sum of Q and of the data's multiples, which is 0 in a codeword that has Q
abbrev pub q_syndrome : ℕ → List ℕ → ℕ
q_syndrome units col = bit_xor (q_of (take units col)) (slice_index col (units + 1))

-- how often position j counts in the first syndrome, and in the second
abbrev pub p_weight : ℕ → ℕ → ℕ
p_weight units j = if nat_le j units then 1 else 0

abbrev pub q_weight : ℕ → ℕ → ℕ
q_weight units j = if nat_lt j units then two_to j else (if nat_le j units then 0 else 1)

-- no syndrome is left of a column: of the first, and where it has Q, of the second
pub record HasNoSyndrome (units : ℕ) (col : List ℕ) : Type 0 where
  pub p : p_syndrome units col ≡ 0
  pub q : units + 1 < length col → q_syndrome units col ≡ 0

-- the same of a column of bytes
pub record IsWhole (units : ℕ) (col : List ℕ) : Type 0 where
  pub bytes : All (λ d. d < 256) col
  pub p : p_syndrome units col ≡ 0
  pub q : units + 1 < length col → q_syndrome units col ≡ 0
