-- Codewords that come back.
use Rattle.std.proofs.Common.{◌≡◌, ℕ, zero, suc, ◌+◌, ◌-◌, ◌<◌, ◌≤◌, List, [], ◌∷◌, ◌++◌, length, get_or, take, set, refl, sym, ap, ◌∙◌, append_assoc, arith}
use Rattle.std.specs.List.{All}
use Rattle.std.specs.List.Sorted.{IsStrictlyIncreasing}
use Rattle.std.specs.Int.Bits.{xor_self}
use Rattle.std.proofs.lemmas.List.{set-get_or, length-append, get_or-append-add, take_all}
use Rattle.std.proofs.lemmas.List.Elements.{All-push}
use Rattle.std.proofs.Math.Seq.{take-append_seam}
use Rattle.std.proofs.lemmas.Grind.{same_number_lists}
use Rattle.gf256.proofs.Sums.{xor-eq-zero}
use Rattle.parity_code.specs.declared.code.Code.{Code}
use Rattle.parity_code.specs.declared.code.Code.TheVariants.{Plain, Xor, PandQ}
use Rattle.parity_code.specs.Parity.{column, p_of, q_of}
use Rattle.parity_code.specs.Codeword.{count_of, codeword, width_of, AgreeOutside}
use Rattle.parity_code.specs.Syndromes.{IsWhole, HasNoSyndrome}
use Rattle.parity_code.specs.Decoding.{decoded}
use Rattle.parity_code.specs.Restored.{Restored}
use Rattle.parity_code.proofs.ParityLaws.{AreBytes, p_of_lt, q_from_lt}
use Rattle.parity_code.proofs.ColumnLaws.{length_column, same_count}
use Rattle.parity_code.proofs.CodeLaws.{set_last, set_last_two}

pub length_codeword : (code : Code) (ds : List ℕ) → length (codeword code ds) ≡ length ds + count_of code
length_codeword Plain ds = omega arith
length_codeword Xor ds = length-append ds (p_of ds ∷ [])
length_codeword PandQ ds = length-append ds (p_of ds ∷ (q_of ds ∷ []))

at_seam : (ds xs : List ℕ) → get_or (ds ++ xs) (length ds) 0 ≡ get_or xs 0 0
at_seam ds xs = let e : length ds + 0 ≡ length ds = omega arith in rw e at (get_or-append-add ds xs 0 0)

pub codeword_whole : (code : Code) (ds : List ℕ) → 0 < count_of code → AreBytes ds → IsWhole (length ds) (codeword code ds)
codeword_whole Plain ds some bytes = absurd (omega arith)
codeword_whole Xor ds some bytes = record {
  bytes = All-push (λ (d : ℕ). d < 256) ds (p_of ds) bytes (p_of_lt ds bytes);
  p = rw (take-append_seam ds (p_of ds ∷ []), at_seam ds (p_of ds ∷ [])) (xor_self (p_of ds));
  q = λ lt. absurd (omega (arith, length-append ds (p_of ds ∷ [])));
}
codeword_whole PandQ ds some bytes = record {
  bytes = rw (sym (append_assoc ds (p_of ds ∷ []) (q_of ds ∷ [])))
      (All-push (λ (d : ℕ). d < 256) (ds ++ (p_of ds ∷ [])) (q_of ds)
      (All-push (λ (d : ℕ). d < 256) ds (p_of ds) bytes (p_of_lt ds bytes)) (q_from_lt 0 ds));
  p = rw (take-append_seam ds (p_of ds ∷ (q_of ds ∷ [])), at_seam ds (p_of ds ∷ (q_of ds ∷ []))) (xor_self (p_of ds));
  q = λ lt. rw (take-append_seam ds (p_of ds ∷ (q_of ds ∷ [])), get_or-append-add ds (p_of ds ∷ (q_of ds ∷ [])) 1 0)
      (xor_self (q_of ds));
}

-- a stripe that was restored has its codewords again
pub back : (code : Code) (n : ℕ) (lost : List ℕ) (old new : List (List ℕ)) → Restored n lost old new →
    n + count_of code ≡ length old → 0 < count_of code
    → (k : ℕ) (ds : List ℕ) → k < width_of old → AreBytes ds → AgreeOutside lost (codeword code ds) (column old k) →
    column new k ≡ codeword code ds
back code n lost old new restored count some k ds lt bytes agree =
    let same : length ds ≡ n = omega (arith, length_codeword code ds, agree.long, length_column old k) in
    restored.whole k (codeword code ds) lt (rw same at (codeword_whole code ds some bytes)) agree

-- and every column is what the definition makes of it
pub decoded_by : (code : Code) (n : ℕ) (lost : List ℕ) (old new : List (List ℕ)) → Restored n lost old new →
    n + count_of code ≡ length old
    → (k : ℕ) → k < width_of old → column new k ≡ decoded (length old - count_of code) lost (column old k)
decoded_by code n lost old new restored count k lt = let same : length old - count_of code ≡ n = omega (arith, count) in
    rw same (restored.exact k lt)

pub decoded_none : (n : ℕ) (col : List ℕ) → decoded n [] col ≡ col
unfolding decoded
decoded_none n col = refl

-- columns that agree at each position are equal
pub none_lost : (xs ys : List ℕ) → AgreeOutside [] xs ys → ys ≡ xs
none_lost xs ys agree = same_number_lists ys xs (sym agree.long) (λ k lt. sym (agree.same k (λ w. absurd (omega (arith, w.1)))))

pub one_position : (xs : List ℕ) → length xs ≡ 1 → xs ≡ get_or xs 0 0 ∷ []
one_position [] e = absurd (omega arith)
one_position (x ∷ []) e = refl
one_position (x ∷ (y ∷ ys)) e = absurd (omega arith)

pub two_positions : (xs : List ℕ) → length xs ≡ 2 → xs ≡ get_or xs 0 0 ∷ (get_or xs 1 0 ∷ [])
two_positions [] e = absurd (omega arith)
two_positions (x ∷ []) e = absurd (omega arith)
two_positions (x ∷ (y ∷ [])) e = refl
two_positions (x ∷ (y ∷ (z ∷ zs))) e = absurd (omega arith)

-- rising positions are at least their index
rising_above : (xs : List ℕ) (k : ℕ) → IsStrictlyIncreasing xs → k < length xs → k ≤ get_or xs k 0
rising_above xs zero rising lt = omega arith
rising_above xs (suc k) rising lt =
    let s : k + 1 ≡ suc k = omega arith in
    let step : get_or xs k 0 < get_or xs (suc k) 0 = rw s at (rising k (omega arith)) in
    let before = rising_above xs k rising (omega arith) in
    omega (arith, before, step)

-- so there are at most n of them below n
pub rising_few : (n : ℕ) (xs : List ℕ) → IsStrictlyIncreasing xs → All (λ x. x < n) xs → length xs ≤ n
rising_few n xs rising below = elim_length (length xs) refl
  where
    elim_length : (m : ℕ) → length xs ≡ m → length xs ≤ n
    elim_length zero e = omega arith
    elim_length (suc m) e = omega (arith, rising_above xs m rising (omega arith), below m 0 (omega arith))

pub no_position : (xs : List ℕ) → length xs < 1 → xs ≡ []
no_position [] lt = refl
no_position (x ∷ xs) lt = absurd (omega arith)

pub count_most : (code : Code) → count_of code ≤ 2
count_most Plain = omega arith
count_most Xor = omega arith
count_most PandQ = omega arith

-- a column of which no syndrome is left is a codeword
pub codeword_by_syndromes : (code : Code) (n : ℕ) (col : List ℕ) → 0 < count_of code → length col ≡ n + count_of code →
    HasNoSyndrome n col → col ≡ codeword code (take n col)
codeword_by_syndromes Plain n col some long none = absurd (omega arith)
codeword_by_syndromes Xor n col some long none =
    sym (set-get_or col n 0) ∙ set_last n (get_or col n 0) col long
    ∙ ap (λ (p : ℕ). take n col ++ (p ∷ [])) (sym (xor-eq-zero (p_of (take n col)) (get_or col n 0) none.p))
codeword_by_syndromes PandQ n col some long none =
    let last : n + 1 < length col = omega arith in
    sym (ap (λ (c : List ℕ). set c (n + 1) (get_or col (n + 1) 0)) (set-get_or col n 0) ∙ set-get_or col (n + 1) 0)
    ∙ set_last_two n (get_or col n 0) (get_or col (n + 1) 0) col long
    ∙ rw (
      xor-eq-zero (p_of (take n col)) (get_or col n 0) none.p,
      xor-eq-zero (q_of (take n col)) (get_or col (n + 1) 0) (none.q last),
    ) refl

-- with as many rows lost as there are rows of parity
pub coded : (code : Code) (n : ℕ) (lost : List ℕ) (old new : List (List ℕ)) → Restored n lost old new →
    n + count_of code ≡ length old → 0 < count_of code → length lost ≡ count_of code
    → (k : ℕ) → k < width_of old → column new k ≡ codeword code (take (length old - count_of code) (column new k))
coded code n lost old new restored count some all k lt =
    let same : length old - count_of code ≡ n = omega arith in
    rw same (codeword_by_syndromes code n (column new k) some
    (length_column new k ∙ same_count old new restored.shape ∙ sym count) (restored.solved (omega arith) k lt))

pub coded_plain : (code : Code) (old : List (List ℕ)) (k : ℕ) → count_of code ≡ 0 →
    column old k ≡ codeword code (take (length old - count_of code) (column old k))
coded_plain Plain old k none = sym (take_all (length old - 0) (column old k) (omega (arith, length_column old k)))
coded_plain Xor old k none = absurd (omega arith)
coded_plain PandQ old k none = absurd (omega arith)
