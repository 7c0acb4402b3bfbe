-- Parity that follows the data, column by column.
use Rattle.std.proofs.Common.{◌≡◌, ℕ, ◌+◌, List, [], ◌∷◌, length, take, refl, sym, ap, ◌∙◌, arith}
use Rattle.std.specs.Prelude.{Option, Some, None, bit_xor}
use Rattle.std.specs.Int.Bits.{xor_assoc, xor_self, xor_zero_l, xor_zero_r}
use Rattle.std.proofs.Math.Seq.{take-append_seam}
use Rattle.std.proofs.lemmas.List.{take_all}
use Rattle.gf256.specs.Field.{product, two_to}
use Rattle.parity_code.specs.declared.code.Code.{Code}
use Rattle.parity_code.specs.declared.code.Code.TheVariants.{Plain, Xor, PandQ}
use Rattle.parity_code.specs.Parity.{p_of, q_of, q_from}
use Rattle.parity_code.specs.Codeword.{codeword}
use Rattle.parity_code.proofs.SyndromeLaws.{xor_right_comm}
use Rattle.stripe_plan.specs.Parity.{overlaid, p_changed, q_changed}

-- the old bytes are the data's, where there are new ones
abbrev pub AreOld : List (Option ℕ) → List ℕ → List ℕ → Type 0
AreOld [] olds ds = Unit {0}
AreOld (n ∷ ns) [] ds = ⊥
AreOld (n ∷ ns) (o ∷ os) [] = ⊥
AreOld (None ∷ ns) (o ∷ os) (d ∷ ds) = AreOld ns os ds
AreOld (Some v ∷ ns) (o ∷ os) (d ∷ ds) = (o ≡ d) × AreOld ns os ds

-- each unit has a new byte
abbrev pub AllNew : List (Option ℕ) → Type 0
AllNew [] = Unit {0}
AllNew (None ∷ ns) = ⊥
AllNew (Some v ∷ ns) = AllNew ns

-- ---- parity as the data change

-- x + (d + p), with d taken out and v put in
exchange : (x d p v : ℕ) → bit_xor (bit_xor (bit_xor x (bit_xor d p)) d) v ≡ bit_xor (bit_xor x v) p
exchange x d p v =
    let out : bit_xor (bit_xor x (bit_xor d p)) d ≡ bit_xor x p =
    ap (λ (n : ℕ). bit_xor n d) (sym (xor_assoc x d p)) ∙ xor_right_comm (bit_xor x d) p d
    ∙ ap (λ (n : ℕ). bit_xor n p) (xor_assoc x d d ∙ ap (bit_xor x) (xor_self d) ∙ xor_zero_r x) in
    ap (λ (n : ℕ). bit_xor n v) out ∙ xor_right_comm x p v

p_follows : (x : ℕ) (news : List (Option ℕ)) (olds ds : List ℕ) → AreOld news olds ds →
    p_changed news olds (bit_xor x (p_of ds)) ≡ bit_xor x (p_of (overlaid news ds))
p_follows x [] olds ds e = refl
p_follows x (n ∷ ns) [] ds e = absurd e
p_follows x (n ∷ ns) (o ∷ os) [] e = absurd e
p_follows x (None ∷ ns) (o ∷ os) (d ∷ ds) e =
    ap (p_changed ns os) (sym (xor_assoc x d (p_of ds))) ∙ p_follows (bit_xor x d) ns os ds e
    ∙ xor_assoc x d (p_of (overlaid ns ds))
p_follows x (Some v ∷ ns) (o ∷ os) (d ∷ ds) e =
    ap (λ (a : ℕ). p_changed ns os (bit_xor (bit_xor (bit_xor x (bit_xor d (p_of ds))) a) v)) e.0
    ∙ ap (p_changed ns os) (exchange x d (p_of ds) v) ∙ p_follows (bit_xor x v) ns os ds e.1
    ∙ xor_assoc x v (p_of (overlaid ns ds))

q_follows : (i x : ℕ) (news : List (Option ℕ)) (olds ds : List ℕ) → AreOld news olds ds →
    q_changed i news olds (bit_xor x (q_from i ds)) ≡ bit_xor x (q_from i (overlaid news ds))
q_follows i x [] olds ds e = refl
q_follows i x (n ∷ ns) [] ds e = absurd e
q_follows i x (n ∷ ns) (o ∷ os) [] e = absurd e
q_follows i x (None ∷ ns) (o ∷ os) (d ∷ ds) e =
    ap (q_changed (i + 1) ns os) (sym (xor_assoc x (product (two_to i) d) (q_from (i + 1) ds)))
    ∙ q_follows (i + 1) (bit_xor x (product (two_to i) d)) ns os ds e
    ∙ xor_assoc x (product (two_to i) d) (q_from (i + 1) (overlaid ns ds))
q_follows i x (Some v ∷ ns) (o ∷ os) (d ∷ ds) e =
    ap (λ (a : ℕ). q_changed (i + 1) ns os
    (bit_xor (bit_xor (bit_xor x (bit_xor (product (two_to i) d) (q_from (i + 1) ds))) (product (two_to i) a))
    (product (two_to i) v))) e.0
    ∙ ap (q_changed (i + 1) ns os) (exchange x (product (two_to i) d) (q_from (i + 1) ds) (product (two_to i) v))
    ∙ q_follows (i + 1) (bit_xor x (product (two_to i) v)) ns os ds e.1
    ∙ xor_assoc x (product (two_to i) v) (q_from (i + 1) (overlaid ns ds))

pub delta_follows : (news : List (Option ℕ)) (olds ds : List ℕ) → AreOld news olds ds →
    (p_changed news olds (p_of ds) ≡ p_of (overlaid news ds)) × (q_changed 0 news olds (q_of ds) ≡ q_of (overlaid news ds))
delta_follows news olds ds e = (
  ap (p_changed news olds) (sym (xor_zero_l (p_of ds))) ∙ p_follows 0 news olds ds e ∙ xor_zero_l (p_of (overlaid news ds)),
  ap (q_changed 0 news olds) (sym (xor_zero_l (q_of ds))) ∙ q_follows 0 0 news olds ds e ∙ xor_zero_l (q_of (overlaid news ds)),
)

-- ---- whole stripes

-- of a whole stripe the old data don't count
pub whole_forgets : (news : List (Option ℕ)) (ds es : List ℕ) → AllNew news → length ds ≡ length news → length es ≡ length news →
    overlaid news ds ≡ overlaid news es
whole_forgets [] [] [] n l k = refl
whole_forgets [] (d ∷ ds) es n l k = absurd (omega (arith, l))
whole_forgets [] [] (d ∷ es) n l k = absurd (omega (arith, k))
whole_forgets (n ∷ ns) [] es a l k = absurd (omega (arith, l))
whole_forgets (n ∷ ns) (d ∷ ds) [] a l k = absurd (omega (arith, k))
whole_forgets (None ∷ ns) (d ∷ ds) (x ∷ es) a l k = absurd a
whole_forgets (Some v ∷ ns) (d ∷ ds) (x ∷ es) a l k =
    ap (λ (t : List ℕ). v ∷ t) (whole_forgets ns ds es a (omega (arith, l)) (omega (arith, k)))

-- ---- codewords begin with their data

pub data_first : (code : Code) (ds : List ℕ) → take (length ds) (codeword code ds) ≡ ds
data_first Plain ds = take_all (length ds) ds (omega arith)
data_first Xor ds = take-append_seam ds (p_of ds ∷ [])
data_first PandQ ds = take-append_seam ds (p_of ds ∷ (q_of ds ∷ []))
