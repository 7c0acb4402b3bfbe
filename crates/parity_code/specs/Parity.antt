-- The parity of a column, which is one byte of each row.
use Rattle.std.specs.Prelude.{ℕ, ◌+◌, List, [], ◌∷◌, map, bit_xor, slice_index}
use Rattle.gf256.specs.Field.{product, two_to}

-- byte k of each row
abbrev pub column : List (List ℕ) → ℕ → List ℕ
column rows k = map (λ row. slice_index row k) rows

-- P, the sum of the data
abbrev pub p_of : List ℕ → ℕ
p_of [] = 0
p_of (d ∷ ds) = bit_xor d (p_of ds)

-- the sum of 2^i times the data, where i counts from the first number on
abbrev pub q_from : ℕ → List ℕ → ℕ
q_from i [] = 0
q_from i (d ∷ ds) = bit_xor (product (two_to i) d) (q_from (i + 1) ds)

-- Q
abbrev pub q_of : List ℕ → ℕ
q_of ds = q_from 0 ds
