-- P and Q, byte by byte of their columns.
use Rattle.std.proofs.Common.{◌≡◌, ℕ, suc, ◌+◌, ◌-◌, ◌<◌, ◌≤◌, List, [], ◌∷◌, length, get_or, drop, sym, ap, ◌∙◌, arith}
use Rattle.std.specs.Prelude.{bit_xor}
use Rattle.std.specs.List.{All}
use Rattle.std.specs.Int.Bits.{xor_zero_r}
use Rattle.std.proofs.lemmas.Nat.{xor_comm, xor_of_8}
use Rattle.std.proofs.lemmas.List.{drop_all}
use Rattle.std.proofs.lemmas.List.Elements.{All-cons}
use Rattle.std.proofs.Math.Seq.{drop-cons}
use Rattle.gf256.specs.Field.{product, two_to}
use Rattle.gf256.proofs.Computed.{one_product}
use Rattle.gf256.proofs.Product.{product-xor, product_lt, product_zero}
use Rattle.gf256.proofs.Laws.{product_assoc, two_to_lt, two_to_zero, two_to_add}
use Rattle.parity_code.specs.Parity.{p_of, q_from, q_of}

-- each number of the list is a byte
abbrev pub AreBytes : List ℕ → Type 0
AreBytes ds = All (λ d. d < 256) ds

pub head_byte : (d : ℕ) (ds : List ℕ) → AreBytes (d ∷ ds) → d < 256
head_byte d ds h = h 0 0 (omega arith)

pub tail_bytes : (d : ℕ) (ds : List ℕ) → AreBytes (d ∷ ds) → AreBytes ds
tail_bytes d ds h = λ k e lt. h (suc k) e (omega arith)

pub p_of_lt : (ds : List ℕ) → AreBytes ds → p_of ds < 256
p_of_lt [] h = omega arith
p_of_lt (d ∷ ds) h = xor_of_8 d (p_of ds) (head_byte d ds h) (p_of_lt ds (tail_bytes d ds h))

pub q_from_lt : (i : ℕ) (ds : List ℕ) → q_from i ds < 256
q_from_lt i [] = omega arith
q_from_lt i (d ∷ ds) =
    xor_of_8 (product (two_to i) d) (q_from (i + 1) ds) (product_lt (two_to i) d (two_to_lt i)) (q_from_lt (i + 1) ds)

two_to_one : two_to 1 ≡ 2
unfolding two_to
two_to_one = one_product 2 (omega arith)

-- 2 times a power is the next
next_power : (i d : ℕ) → d < 256 → product (two_to (i + 1)) d ≡ product 2 (product (two_to i) d)
next_power i d lt =
    let e : i + 1 ≡ 1 + i = omega arith in
    rw (e, ← two_to_add 1 i) (rw two_to_one (product_assoc 2 (two_to i) d (omega arith) (two_to_lt i)))

-- Q of the same data one place on
q_shifted : (i : ℕ) (ds : List ℕ) → AreBytes ds → q_from (i + 1) ds ≡ product 2 (q_from i ds)
q_shifted i [] h = sym (product_zero 2)
q_shifted i (d ∷ ds) h =
    rw (next_power i d (head_byte d ds h), q_shifted (i + 1) ds (tail_bytes d ds h))
    (sym (product-xor 2 (product (two_to i) d) (q_from (i + 1) ds)))

-- Q by doubling
pub q_of-cons : (d : ℕ) (ds : List ℕ) → AreBytes (d ∷ ds) → q_of (d ∷ ds) ≡ bit_xor (product 2 (q_of ds)) d
q_of-cons d ds h =
    rw (two_to_zero, one_product d (head_byte d ds h))
    (ap (bit_xor d) (q_shifted 0 ds (tail_bytes d ds h)) ∙ xor_comm d (product 2 (q_of ds)))

next_drop : (col : List ℕ) (i : ℕ) → 0 < i → i ≤ length col → drop (i - 1) col ≡ get_or col (i - 1) 0 ∷ drop i col
next_drop col i pos le =
    let e : suc (i - 1) ≡ i = omega arith in
    rw e at (drop-cons col (i - 1) 0 (omega arith))

-- one more byte in front of those that were summed
pub p_next : (col : List ℕ) (i d p p' : ℕ) → 0 < i → i ≤ length col → d ≡ get_or col (i - 1) 0 → p ≡ p_of (drop i col) →
    p' ≡ bit_xor d p → p' ≡ p_of (drop (i - 1) col)
p_next col i d p p' pos le is_d is_p is = rw (next_drop col i pos le) (rw (is_d, is_p) at is)

pub bytes_next : (col : List ℕ) (i d : ℕ) → 0 < i → i ≤ length col → d ≡ get_or col (i - 1) 0 → d < 256 → AreBytes (drop i col) →
    AreBytes (drop (i - 1) col)
bytes_next col i d pos le is_d lt rest =
    rw (next_drop col i pos le) (All-cons (λ (b : ℕ). b < 256) (get_or col (i - 1) 0) (drop i col) (rw is_d at lt) rest)

pub q_next : (col : List ℕ) (i d q q' : ℕ) → 0 < i → i ≤ length col → d ≡ get_or col (i - 1) 0 → AreBytes (drop (i - 1) col) →
    q ≡ q_of (drop i col) → q' ≡ bit_xor (product 2 q) d → q' ≡ q_of (drop (i - 1) col)
q_next col i d q q' pos le is_d bytes is_q is =
    let cons = next_drop col i pos le in
    is ∙ rw (is_d, is_q) (sym (q_of-cons (get_or col (i - 1) 0) (drop i col) (rw cons at bytes))) ∙ ap q_of (sym cons)

-- the last byte alone
last_alone : (col : List ℕ) (i : ℕ) → i + 1 ≡ length col → drop i col ≡ get_or col i 0 ∷ []
last_alone col i e =
    let s : suc i ≡ length col = omega arith in
    drop-cons col i 0 (omega arith) ∙ ap (λ (rest : List ℕ). get_or col i 0 ∷ rest) (drop_all (suc i) col (omega arith))

pub p_last : (col : List ℕ) (i d : ℕ) → i + 1 ≡ length col → d ≡ get_or col i 0 → d ≡ p_of (drop i col)
p_last col i d e is_d = is_d ∙ rw (last_alone col i e) (sym (xor_zero_r (get_or col i 0)))

pub q_last : (col : List ℕ) (i d : ℕ) → i + 1 ≡ length col → d ≡ get_or col i 0 → d < 256 → d ≡ q_of (drop i col)
q_last col i d e is_d lt =
    let byte : get_or col i 0 < 256 = rw is_d at lt in
    is_d ∙ rw (last_alone col i e, two_to_zero, one_product (get_or col i 0) byte) (sym (xor_zero_r (get_or col i 0)))

pub bytes_last : (col : List ℕ) (i d : ℕ) → i + 1 ≡ length col → d ≡ get_or col i 0 → d < 256 → AreBytes (drop i col)
bytes_last col i d e is_d lt =
    rw (last_alone col i e) (All-cons (λ (b : ℕ). b < 256) (get_or col i 0) [] (rw is_d at lt) (λ k x none. absurd (omega arith)))
