-- The parity of one column after a write.
use Rattle.std.specs.Prelude.{ℕ, zero, suc, ◌+◌, bit_xor, List, [], ◌∷◌, Option, Some, None}
use Rattle.gf256.specs.Field.{product, two_to}
use Rattle.parity_code.specs.Parity.{p_of, q_of}

-- the data with the new bytes put in where there are any
abbrev pub overlaid : List (Option ℕ) → List ℕ → List ℕ
overlaid [] ds = ds
overlaid (n ∷ ns) [] = []
overlaid (None ∷ ns) (d ∷ ds) = d ∷ overlaid ns ds
overlaid (Some v ∷ ns) (d ∷ ds) = v ∷ overlaid ns ds

-- P is row 0 of the parity, Q row 1
abbrev pub parity_of : (row : ℕ) → List ℕ → ℕ
parity_of zero ds = p_of ds
parity_of (suc i) ds = q_of ds

-- P and Q as the byte of one unit changes
abbrev pub p_exchanged : (x old new : ℕ) → ℕ
p_exchanged x old new = bit_xor (bit_xor x old) new

abbrev pub q_exchanged : (c x old new : ℕ) → ℕ
q_exchanged c x old new = bit_xor (bit_xor x (product (two_to c) old)) (product (two_to c) new)

-- P as the data change: each changed byte's old and new value go in
abbrev pub p_changed : List (Option ℕ) → List ℕ → ℕ → ℕ
p_changed [] olds p = p
p_changed (n ∷ ns) [] p = p
p_changed (None ∷ ns) (o ∷ os) p = p_changed ns os p
p_changed (Some v ∷ ns) (o ∷ os) p = p_changed ns os (p_exchanged p o v)

-- Q likewise, with multiples by the unit's number, which counts from i
abbrev pub q_changed : (i : ℕ) → List (Option ℕ) → List ℕ → ℕ → ℕ
q_changed i [] olds q = q
q_changed i (n ∷ ns) [] q = q
q_changed i (None ∷ ns) (o ∷ os) q = q_changed (i + 1) ns os q
q_changed i (Some v ∷ ns) (o ∷ os) q = q_changed (i + 1) ns os (q_exchanged i q o v)

-- P or Q as the data change
abbrev pub parity_changed : (row : ℕ) → List (Option ℕ) → List ℕ → ℕ → ℕ
parity_changed zero news olds p = p_changed news olds p
parity_changed (suc i) news olds q = q_changed 0 news olds q
