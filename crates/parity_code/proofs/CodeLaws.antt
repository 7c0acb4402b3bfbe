-- Codewords by their parts.
use Rattle.std.proofs.Common.{◌≡◌, ℕ, zero, suc, ◌+◌, ◌<◌, ◌≤◌, List, [], ◌∷◌, ◌++◌, length, get_or, take, set, refl, ap, ◌∙◌, arith, inl, inr}
use Rattle.std.specs.Prelude.{slice_get}
use Rattle.std.proofs.lemmas.Bool.{cases_lt}
use Rattle.std.proofs.lemmas.List.{length-take-le, get_or-take}
use Rattle.std.proofs.Math.ListN.{get_or-append}
use Rattle.parity_code.specs.declared.code.Code.{Code}
use Rattle.parity_code.specs.declared.code.Code.TheVariants.{Plain, Xor, PandQ}
use Rattle.parity_code.specs.Parity.{column, p_of, q_of}
use Rattle.parity_code.specs.Codeword.{codeword}
use Rattle.parity_code.specs.Columns.{Stored, Become}
use Rattle.parity_code.proofs.ColumnLaws.{row_kept, length_column, become_one, become_two}

-- the last element of a list, replaced
pub set_last : (n p : ℕ) (col : List ℕ) → length col ≡ n + 1 → set col n p ≡ take n col ++ (p ∷ [])
set_last zero p [] e = absurd (omega arith)
set_last zero p (x ∷ []) e = refl
set_last zero p (x ∷ (y ∷ ys)) e = absurd (omega arith)
set_last (suc n) p [] e = absurd (omega arith)
set_last (suc n) p (x ∷ xs) e = ap (λ (ys : List ℕ). x ∷ ys) (set_last n p xs (omega arith))

-- the last two
pub set_last_two : (n p q : ℕ) (col : List ℕ) → length col ≡ n + 2 → set (set col n p) (n + 1) q ≡ take n col ++ (p ∷ (q ∷ []))
set_last_two zero p q [] e = absurd (omega arith)
set_last_two zero p q (x ∷ []) e = absurd (omega arith)
set_last_two zero p q (x ∷ (y ∷ [])) e = refl
set_last_two zero p q (x ∷ (y ∷ (z ∷ zs))) e = absurd (omega arith)
set_last_two (suc n) p q [] e = absurd (omega arith)
set_last_two (suc n) p q (x ∷ xs) e =
    let s : suc n + 1 ≡ suc (n + 1) = omega arith in
    rw s (ap (λ (ys : List ℕ). x ∷ ys) (set_last_two n p q xs (omega arith)))

-- a stripe whose P was stored
pub encoded_p : (units at n : ℕ) (f : ℕ → ℕ) (old new : List (List ℕ)) → length old ≡ units + 1 → Stored units at n f old new
    → ((k : ℕ) → k < n → f k ≡ p_of (take units (column old (at + k)))) →
    Become at n (λ col. codeword Xor (take units col)) old new
encoded_p units at n f old new long s is =
    become_one units at n f (λ col. codeword Xor (take units col)) old new s
    (λ k lt. set_last units (f k) (column old (at + k)) (length_column old (at + k) ∙ long)
    ∙ ap (λ (p : ℕ). take units (column old (at + k)) ++ (p ∷ [])) (is k lt))

-- a stripe whose P and Q were stored
pub encoded_both : (units at n : ℕ) (f h : ℕ → ℕ) (old mid new : List (List ℕ)) → length old ≡ units + 2 →
    Stored units at n f old mid → Stored (units + 1) at n h mid new
    → ((k : ℕ) → k < n → f k ≡ p_of (take units (column old (at + k)))) →
    ((k : ℕ) → k < n → h k ≡ q_of (take units (column old (at + k))))
    → Become at n (λ col. codeword PandQ (take units col)) old new
encoded_both units at n f h old mid new long s t is_p is_q =
    become_two units (units + 1) at n f h (λ col. codeword PandQ (take units col)) old mid new s t
    (λ k lt. set_last_two units (f k) (h k) (column old (at + k)) (length_column old (at + k) ∙ long)
    ∙ rw (is_p k lt, is_q k lt) refl)

-- a codeword begins with its data
codeword_begins : (code : Code) (ds : List ℕ) (j : ℕ) → j < length ds → get_or (codeword code ds) j 0 ≡ get_or ds j 0
codeword_begins Plain ds j lt = refl
codeword_begins Xor ds j lt = get_or-append ds (p_of ds ∷ []) 0 j lt
codeword_begins PandQ ds j lt = get_or-append ds (p_of ds ∷ (q_of ds ∷ [])) 0 j lt

-- the data rows stay
pub data_kept : (code : Code) (n m : ℕ) (old new : List (List ℕ)) → n ≤ length old →
    Become 0 m (λ col. codeword code (take n col)) old new → (j : ℕ) → j < n → slice_get new j ≡ slice_get old j
data_kept code n m old new le become j lt =
    row_kept old new j become.shape (λ k. elim (cases_lt k m) [
      | inl below ↦
          let same : 0 + k ≡ k = omega arith in
          let long : length (take n (column old k)) ≡ n = length-take-le n (column old k) (omega (arith, length_column old k)) in
          ap (λ (col : List ℕ). get_or col j 0) (rw same at (become.inside k below))
          ∙ codeword_begins code (take n (column old k)) j (omega arith) ∙ get_or-take n (column old k) j 0 lt
      | inr above ↦ ap (λ (col : List ℕ). get_or col j 0) (become.above k (omega arith))
    ])
