-- Parity of data of which one byte is replaced.
use Rattle.std.proofs.Common.{◌≡◌, ℕ, ◌+◌, ◌<◌, List, length, get_or, set, sym, ap, ◌∙◌, arith}
use Rattle.std.specs.Prelude.{bit_xor}
use Rattle.std.proofs.lemmas.List.{set-get_or}
use Rattle.std.proofs.lemmas.Simd.{length-zip2, get_or-zip2}
use Rattle.gf256.specs.Field.{product, two_to, added, summed}
use Rattle.parity_code.specs.Parity.{p_of, q_of}
use Rattle.parity_code.proofs.SyndromeLaws.{p_of_set, q_from_set}
use Rattle.parity_code.proofs.RestoreLaws.{xor_move}

p_replaced : (ds : List ℕ) (i o v : ℕ) → i < length ds → get_or ds i 0 ≡ o → p_of (set ds i v) ≡ bit_xor (bit_xor (p_of ds) o) v
p_replaced ds i o v lt e =
    let whole : bit_xor (p_of (set ds i 0)) o ≡ p_of ds =
    rw e at (sym (p_of_set ds i (get_or ds i 0) lt) ∙ ap p_of (set-get_or ds i 0)) in
    p_of_set ds i v lt ∙ ap (λ (n : ℕ). bit_xor n v) (xor_move (p_of (set ds i 0)) o (p_of ds) whole)

q_replaced : (ds : List ℕ) (i o v : ℕ) → i < length ds → get_or ds i 0 ≡ o →
    q_of (set ds i v) ≡ bit_xor (bit_xor (q_of ds) (product (two_to i) o)) (product (two_to i) v)
q_replaced ds i o v lt e =
    let same : 0 + i ≡ i = omega arith in
    let whole : bit_xor (q_of (set ds i 0)) (product (two_to i) o) ≡ q_of ds =
    rw (same, e) at (sym (q_from_set 0 ds i (get_or ds i 0) lt) ∙ ap q_of (set-get_or ds i 0)) in
    rw same at (q_from_set 0 ds i v lt)
    ∙ ap (λ (n : ℕ). bit_xor n (product (two_to i) v)) (xor_move (q_of (set ds i 0)) (product (two_to i) o) (q_of ds) whole)

summed_at : (xs ys zs : List ℕ) (k : ℕ) → zs ≡ summed xs ys → length xs ≡ length ys → k < length xs →
    (get_or zs k 0 ≡ bit_xor (get_or xs k 0) (get_or ys k 0)) × (length zs ≡ length xs)
summed_at xs ys zs k e same lt = rw e (get_or-zip2 bit_xor xs ys k 0 0 0 lt (omega arith), length-zip2 bit_xor xs ys same)

added_at : (c : ℕ) (xs ys zs : List ℕ) (k : ℕ) → zs ≡ added c xs ys → length xs ≡ length ys → k < length xs →
    (get_or zs k 0 ≡ bit_xor (get_or xs k 0) (product c (get_or ys k 0))) × (length zs ≡ length xs)
added_at c xs ys zs k e same lt =
    rw e (
      get_or-zip2 (λ (o s : ℕ). bit_xor o (product c s)) xs ys k 0 0 0 lt (omega arith),
      length-zip2 (λ (o s : ℕ). bit_xor o (product c s)) xs ys same,
    )

-- P to which the old data and the new were added is that of the new data
pub p_follows : (p old new mid end : List ℕ) → length p ≡ length old → length new ≡ length old → mid ≡ summed p old →
    end ≡ summed mid new
    → (k i : ℕ) (units : List ℕ) → k < length old → i < length units → get_or units i 0 ≡ get_or old k 0 →
    get_or p k 0 ≡ p_of units → get_or end k 0 ≡ p_of (set units i (get_or new k 0))
p_follows p old new mid end p_long new_long is_mid is_end k i units lt i_lt is_old is_p =
    let first = summed_at p old mid k is_mid p_long (omega arith) in
    let second = summed_at mid new end k is_end (omega (arith, first.1)) (omega (arith, first.1)) in
    second.0 ∙ rw (first.0, is_p) (sym (p_replaced units i (get_or old k 0) (get_or new k 0) i_lt is_old))

-- and Q
pub q_follows : (q old new mid end : List ℕ) → length q ≡ length old → length new ≡ length old
    → (k i : ℕ) (units : List ℕ) → mid ≡ added (two_to i) q old → end ≡ added (two_to i) mid new → k < length old →
    i < length units → get_or units i 0 ≡ get_or old k 0 → get_or q k 0 ≡ q_of units
    → get_or end k 0 ≡ q_of (set units i (get_or new k 0))
q_follows q old new mid end q_long new_long k i units is_mid is_end lt i_lt is_old is_q =
    let first = added_at (two_to i) q old mid k is_mid q_long (omega arith) in
    let second = added_at (two_to i) mid new end k is_end (omega (arith, first.1)) (omega (arith, first.1)) in
    second.0 ∙ rw (first.0, is_q) (sym (q_replaced units i (get_or old k 0) (get_or new k 0) i_lt is_old))
