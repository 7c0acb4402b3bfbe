-- What was got of a column agrees with its codeword, but at the lost rows.
use Rattle.std.proofs.Common.{◌≡◌, ℕ, zero, suc, ◌+◌, ◌<◌, ◌≤◌, false, List, [], ◌∷◌, length, get_or, refl, sym, ap, ◌∙◌, arith, inl, inr, eq-eqb, ne_eqb}
use Rattle.std.specs.Prelude.{if◌then◌else◌, map}
use Rattle.std.specs.List.{All, range_with_len}
use Rattle.std.proofs.lemmas.Bool.{cases_Bool, cases_eq, cases_lt}
use Rattle.std.proofs.lemmas.List.{get_or_append_left, get_or_past}
use Rattle.data_map.specs.declared.check.RawMap.{RawMap}
use Rattle.data_map.specs.Check.{IsChecked}
use Rattle.data_map.specs.Striping.{group_width, data_units, parities, position_of}
use Rattle.parity_code.specs.declared.code.Code.{Code}
use Rattle.parity_code.specs.declared.code.Code.TheVariants.{Plain, Xor, PandQ}
use Rattle.parity_code.specs.Parity.{p_of, q_of}
use Rattle.parity_code.specs.Codeword.{count_of, codeword, AgreeOutside}
use Rattle.parity_code.proofs.DecodeLaws.{length_codeword, count_most}
use Rattle.stripe_plan.specs.declared.plan.Column.{Column}
use Rattle.stripe_plan.specs.Touched.{unit_start}
use Rattle.stripe_plan.specs.Lost.{is_out}
use Rattle.parity_code.specs.Decoding.{decoded}
use Rattle.stripe_plan.specs.Words.{code_of, got_at, known_from, lost_from, decoded_at}
use Rattle.stripe_plan.specs.Laws.{data_at, word_of, AreBytes}
use Rattle.parity_code.proofs.BackLaws.{AreLost, decoded_back}
use Rattle.stripe_plan.proofs.Counting.{lost_rises, are_lost, among_lost, contained}

-- ---- data

pub run_long : (f : ℕ → ℕ) (a n : ℕ) → length (map f (range_with_len a n)) ≡ n
run_long f a zero = refl
run_long f a (suc n) = ap suc (run_long f (a + 1) n)

pub data_long : (m : RawMap) (d : ℕ → ℕ) (s b : ℕ) → length (data_at m d s b) ≡ data_units m
data_long m d s b = run_long (λ (c : ℕ). d (unit_start m s c + b)) 0 (data_units m)

run_at : (f : ℕ → ℕ) (a n k z : ℕ) → k < n → get_or (map f (range_with_len a n)) k z ≡ f (a + k)
run_at f a zero k z lt = absurd (omega (arith, lt))
run_at f a (suc n) zero z lt = ap f (omega arith)
run_at f a (suc n) (suc k) z lt = run_at f (a + 1) n k z (omega (arith, lt)) ∙ ap f (omega arith)

pub data_bytes : (m : RawMap) (d : ℕ → ℕ) (s b : ℕ) → AreBytes d → All (λ v. v < 256) (data_at m d s b)
data_bytes m d s b bytes = all (λ (c : ℕ). d (unit_start m s c + b)) 0 (data_units m) (λ c. bytes (unit_start m s c + b))
  where
    all : (f : ℕ → ℕ) (a n : ℕ) → ((c : ℕ) → f c < 256) → All (λ v. v < 256) (map f (range_with_len a n))
    all f a n under = λ k z lt. rw (run_at f a n k z (omega (arith, lt, run_long f a n))) (under (a + k))

code_first : (code : Code) (ds : List ℕ) (c : ℕ) → c < length ds → get_or (codeword code ds) c 0 ≡ get_or ds c 0
code_first Plain ds c lt = refl
code_first Xor ds c lt = get_or_append_left ds (p_of ds ∷ []) 0 c lt
code_first PandQ ds c lt = get_or_append_left ds (p_of ds ∷ q_of ds ∷ []) 0 c lt

-- a data unit's word is the file's byte
pub word_is : (m : RawMap) (d : ℕ → ℕ) (s b c : ℕ) → c < data_units m → word_of m d s b c ≡ d (unit_start m s c + b)
word_is m d s b c lt =
    code_first (code_of m) (data_at m d s b) c (rw (data_long m d s b) lt)
    ∙ run_at (λ (c : ℕ). d (unit_start m s c + b)) 0 (data_units m) c 0 lt
    ∙ ap (λ (z : ℕ). d (unit_start m s z + b)) (omega arith)

pub code_count : (m : RawMap) → count_of (code_of m) ≡ parities m
code_count m = elim (cases_eq m.algorithm 1) [
  | inl one ↦ rw (eq-eqb m.algorithm 1 one) refl
  | inr more ↦ rw (ne_eqb m.algorithm 1 more) (elim (cases_eq m.algorithm 4) [
    | inl four ↦ rw (eq-eqb m.algorithm 4 four) refl
    | inr other ↦ rw (ne_eqb m.algorithm 4 other) refl
  ])
]

-- ---- what was got

known_long : (m : RawMap) (got : List Column) (out : List ℕ) (s b c n : ℕ) → length (known_from m got out s b c n) ≡ n
unfolding known_from
known_long m got out s b c zero = refl
known_long m got out s b c (suc n) = ap suc (known_long m got out s b (c + 1) n)

known_at : (m : RawMap) (got : List Column) (out : List ℕ) (s b c n k : ℕ) → k < n →
    get_or (known_from m got out s b c n) k 0 ≡ (if is_out m out (position_of m s (c + k)) then 0 else got_at m got s b (c + k))
unfolding known_from
known_at m got out s b c zero k lt = absurd (omega (arith, lt))
known_at m got out s b c (suc n) zero lt = let z : c + zero ≡ c = omega arith in rw z refl
known_at m got out s b c (suc n) (suc k) lt = let z : c + suc k ≡ c + 1 + k = omega arith in
    rw z (known_at m got out s b (c + 1) n k (omega (arith, lt)))

-- what was got of a column of these data, where each unit that isn't out was got
pub known_agrees : (m : RawMap) (got : List Column) (out : List ℕ) (d : ℕ → ℕ) (s b : ℕ) → IsChecked m →
    ((c : ℕ) → c < group_width m → is_out m out (position_of m s c) ≡ false → got_at m got s b c ≡ word_of m d s b c) →
    AgreeOutside (lost_from m out s 0 (group_width m)) (codeword (code_of m) (data_at m d s b))
    (known_from m got out s b 0 (group_width m))
known_agrees m got out d s b ch had =
    let cw = codeword (code_of m) (data_at m d s b) in
    let wide : length cw ≡ group_width m =
    length_codeword (code_of m) (data_at m d s b) ∙ omega (arith, data_long m d s b, code_count m, ch.some_data) in
    let known = known_long m got out s b 0 (group_width m) in
    record {
      long = wide ∙ sym known;
      same = λ k none. elim (cases_lt k (group_width m)) [
        | inl low ↦
            let zk : 0 + k ≡ k = omega arith in
            let left : get_or
            (known_from m got out s b 0 (group_width m)) k 0
            ≡ (if is_out m out (position_of m s k) then 0 else got_at m got s b k) =
            rw zk at (known_at m got out s b 0 (group_width m) k low) in
            elim (cases_Bool (is_out m out (position_of m s k))) [
              | inl gone ↦ absurd
                  (none (contained k (lost_from m out s 0 (group_width m))
                  (among_lost m out s 0 (group_width m) k (omega arith) (omega (arith, low)) ∙ gone)))
              | inr there ↦ sym (left ∙ rw there refl ∙ had k low there)
            ]
        | inr beyond ↦ get_or_past cw k 0 (omega (arith, beyond, wide))
            ∙ sym (get_or_past (known_from m got out s b 0 (group_width m)) k 0 (omega (arith, beyond, known)))
      ];
    }

-- and so the column comes back, where not more are out than there is parity
pub decoded_is : (m : RawMap) (got : List Column) (out : List ℕ) (d : ℕ → ℕ) (s b : ℕ) → IsChecked m → AreBytes d →
    ((c : ℕ) → c < group_width m → is_out m out (position_of m s c) ≡ false → got_at m got s b c ≡ word_of m d s b c) →
    length (lost_from m out s 0 (group_width m)) ≤ parities m → decoded_at m got out s b ≡ codeword (code_of m) (data_at m d s b)
unfolding decoded_at
decoded_is m got out d s b ch bytes had few =
    let long = data_long m d s b in
    let lost = lost_from m out s 0 (group_width m) in
    let end : 0 + group_width m ≡ length (data_at m d s b) + count_of (code_of m) =
    omega (arith, long, code_count m, ch.some_data) in
    let are : AreLost (code_of m) (length (data_at m d s b)) lost =
    are_lost (code_of m) (length (data_at m d s b)) lost (rw end at (lost_rises m out s 0 (group_width m)))
    (omega (arith, few, code_count m)) (count_most (code_of m)) in
    ap (λ (n : ℕ). decoded n lost (known_from m got out s b 0 (group_width m))) (sym long)
    ∙ decoded_back (code_of m) (data_at m d s b) lost (known_from m got out s b 0 (group_width m)) (data_bytes m d s b bytes)
    (omega (arith, long, ch.narrow)) are (known_agrees m got out d s b ch had)
