-- The syndromes of a column of which one byte is replaced.
use Rattle.std.proofs.Common.{◌≡◌, ℕ, zero, suc, ◌+◌, ◌<◌, ◌≤◌, Bool, cond, List, [], ◌∷◌, length, get_or, take, set, refl, sym, ap, ◌∙◌, arith, inl, inr}
use Rattle.std.specs.Prelude.{bit_xor}
use Rattle.std.specs.Int.Bits.{xor_assoc, xor_zero_r, xor_zero_l}
use Rattle.std.proofs.lemmas.Nat.{xor_comm, xor_of_8}
use Rattle.std.proofs.lemmas.Bool.{cases_lt, lt-ltb, le-ltb, le-leb, lt-leb}
use Rattle.std.proofs.lemmas.List.{length-take-le, get_or-set_other, take-set-le, get_or_past}
use Rattle.std.proofs.lemmas.List.Elements.{All-take}
use Rattle.std.proofs.lemmas.Grind.{get_or-set_at}
use Rattle.std.proofs.Math.Seq.{take-set-lt}
use Rattle.gf256.specs.Field.{product, two_to}
use Rattle.gf256.proofs.Computed.{one_product}
use Rattle.gf256.proofs.Product.{product_zero, zero_product}
use Rattle.gf256.proofs.Laws.{two_to_lt}
use Rattle.parity_code.specs.Parity.{p_of, q_from, q_of}
use Rattle.parity_code.proofs.ParityLaws.{AreBytes, p_of_lt, q_from_lt}
use Rattle.parity_code.specs.Syndromes.{p_syndrome, q_syndrome, p_weight, q_weight}

-- the last of three summands, moved out
pub xor_right_comm : (a b c : ℕ) → bit_xor (bit_xor a b) c ≡ bit_xor (bit_xor a c) b
xor_right_comm a b c = xor_assoc a b c ∙ ap (bit_xor a) (xor_comm b c) ∙ sym (xor_assoc a c b)

pub p_of_set : (ds : List ℕ) (i v : ℕ) → i < length ds → p_of (set ds i v) ≡ bit_xor (p_of (set ds i 0)) v
p_of_set [] i v lt = absurd (omega arith)
p_of_set (d ∷ ds) zero v lt = rw (xor_zero_l (p_of ds)) (xor_comm v (p_of ds))
p_of_set (d ∷ ds) (suc i) v lt = ap (bit_xor d) (p_of_set ds i v (omega arith)) ∙ sym (xor_assoc d (p_of (set ds i 0)) v)

pub q_from_set : (n : ℕ) (ds : List ℕ) (i v : ℕ) → i < length ds →
    q_from n (set ds i v) ≡ bit_xor (q_from n (set ds i 0)) (product (two_to (n + i)) v)
q_from_set n [] i v lt = absurd (omega arith)
q_from_set n (d ∷ ds) zero v lt =
    let e : n + 0 ≡ n = omega arith in
    rw (e, product_zero (two_to n), xor_zero_l (q_from (n + 1) ds)) (xor_comm (product (two_to n) v) (q_from (n + 1) ds))
q_from_set n (d ∷ ds) (suc i) v lt =
    let e : n + 1 + i ≡ n + suc i = omega arith in
    ap (bit_xor (product (two_to n) d)) (rw e at (q_from_set (n + 1) ds i v (omega arith)))
    ∙ sym (xor_assoc (product (two_to n) d) (q_from (n + 1) (set ds i 0)) (product (two_to (n + suc i)) v))

pub p_weight_below : (units j : ℕ) → j ≤ units → p_weight units j ≡ 1
p_weight_below units j le = ap (λ (b : Bool). cond b 1 0) (le-leb j units le)

pub p_weight_above : (units j : ℕ) → units < j → p_weight units j ≡ 0
p_weight_above units j lt = ap (λ (b : Bool). cond b 1 0) (lt-leb j units lt)

pub q_weight_below : (units j : ℕ) → j < units → q_weight units j ≡ two_to j
q_weight_below units j lt = rw (lt-ltb j units lt) refl

pub q_weight_at : (units j : ℕ) → j ≡ units → q_weight units j ≡ 0
q_weight_at units j e = rw (le-ltb j units (omega arith), le-leb j units (omega arith)) refl

pub q_weight_above : (units j : ℕ) → units < j → q_weight units j ≡ 1
q_weight_above units j lt = rw (le-ltb j units (omega arith), lt-leb j units lt) refl

pub p_weight_lt : (units j : ℕ) → p_weight units j < 256
p_weight_lt units j =
    elim (cases_lt units j) [
      | inl above ↦ rw (p_weight_above units j above) (omega arith)
      | inr below ↦ rw (p_weight_below units j below)
          (omega arith)
    ]

pub q_weight_lt : (units j : ℕ) → q_weight units j < 256
q_weight_lt units j = elim (cases_lt j units) [
  | inl below ↦ rw (q_weight_below units j below) (two_to_lt j)
  | inr le ↦ elim (cases_lt units j) [
    | inl above ↦ rw (q_weight_above units j above) (omega arith)
    | inr same ↦ rw (q_weight_at units j (omega arith)) (omega arith)
  ]
]

-- the first syndrome, by the byte at j
pub p_syndrome_set : (units j v : ℕ) (col : List ℕ) → j < length col → units < length col → v < 256
    → p_syndrome units (set col j v) ≡ bit_xor (p_syndrome units (set col j 0)) (product (p_weight units j) v)
p_syndrome_set units j v col lt room byte = elim (cases_lt j units) [
  | inl below ↦
      rw (
        p_weight_below units j (omega arith),
        one_product v byte,
        take-set-lt units col j v below,
        take-set-lt units col j 0 below,
        get_or-set_other col j units v 0 (λ e. omega arith),
        get_or-set_other col j units 0 0 (λ e. omega arith),
        p_of_set (take units col) j v (omega (arith, length-take-le units col)),
      )
      (xor_right_comm (p_of (set (take units col) j 0)) v (get_or col units 0))
  | inr le ↦ elim (cases_lt units j) [
    | inl above ↦
        rw (
          p_weight_above units j above,
          zero_product v,
          take-set-le units col j v le,
          take-set-le units col j 0 le,
          get_or-set_other col j units v 0 (λ e. omega arith),
          get_or-set_other col j units 0 0 (λ e. omega arith),
        )
        (sym (xor_zero_r (bit_xor (p_of (take units col)) (get_or col units 0))))
    | inr same ↦
        rw (
          p_weight_below units j (omega arith),
          one_product v byte,
          take-set-le units col j v le,
          take-set-le units col j 0 le,
          get_or-set_at col j units v 0 (omega arith) lt,
          get_or-set_at col j units 0 0 (omega arith) lt,
        )
        (ap (λ (p : ℕ). bit_xor p v) (sym (xor_zero_r (p_of (take units col)))))
  ]
]

-- the second, where the column has Q
pub q_syndrome_set : (units j v : ℕ) (col : List ℕ) → j < length col → length col ≡ units + 2 → v < 256
    → q_syndrome units (set col j v) ≡ bit_xor (q_syndrome units (set col j 0)) (product (q_weight units j) v)
q_syndrome_set units j v col lt long byte = elim (cases_lt j units) [
  | inl below ↦
      let e : 0 + j ≡ j = omega arith in
      rw (
        q_weight_below units j below,
        take-set-lt units col j v below,
        take-set-lt units col j 0 below,
        get_or-set_other col j (units + 1) v 0 (λ e. omega arith),
        get_or-set_other col j (units + 1) 0 0 (λ e. omega arith),
        q_from_set 0 (take units col) j v (omega (arith, length-take-le units col)),
        e,
      )
      (xor_right_comm (q_of (set (take units col) j 0)) (product (two_to j) v) (get_or col (units + 1) 0))
  | inr le ↦ elim (cases_lt units j) [
    | inl above ↦
        rw (
          q_weight_above units j above,
          one_product v byte,
          take-set-le units col j v le,
          take-set-le units col j 0 le,
          get_or-set_at col j (units + 1) v 0 (omega arith) lt,
          get_or-set_at col j (units + 1) 0 0 (omega arith) lt,
        )
        (ap (λ (p : ℕ). bit_xor p v) (sym (xor_zero_r (q_of (take units col)))))
    | inr same ↦
        rw (
          q_weight_at units j (omega arith),
          zero_product v,
          take-set-le units col j v le,
          take-set-le units col j 0 le,
          get_or-set_other col j (units + 1) v 0 (λ e. omega arith),
          get_or-set_other col j (units + 1) 0 0 (λ e. omega arith),
        )
        (sym (xor_zero_r (bit_xor (q_of (take units col)) (get_or col (units + 1) 0))))
  ]
]

-- a column of bytes has only bytes, and 0 beyond its end
pub any_byte : (col : List ℕ) (k : ℕ) → AreBytes col → get_or col k 0 < 256
any_byte col k bytes =
    elim (cases_lt k (length col)) [ inl there ↦ bytes k 0 there | inr past ↦ rw (get_or_past col k 0 past) (omega arith) ]

pub p_syndrome_lt : (units : ℕ) (col : List ℕ) → AreBytes col → p_syndrome units col < 256
p_syndrome_lt units col bytes =
    xor_of_8 (p_of (take units col)) (get_or col units 0)
    (p_of_lt (take units col) (All-take (λ (d : ℕ). d < 256) units col bytes)) (any_byte col units bytes)

pub q_syndrome_lt : (units : ℕ) (col : List ℕ) → AreBytes col → q_syndrome units col < 256
q_syndrome_lt units col bytes =
    xor_of_8 (q_of (take units col)) (get_or col (units + 1) 0) (q_from_lt 0 (take units col)) (any_byte col (units + 1) bytes)
