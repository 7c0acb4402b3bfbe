-- A write puts the words of the data with the new bytes, for all data that agree with what it gathered.
use Rattle.std.proofs.Common.{◌≡◌, ℕ, zero, suc, ◌+◌, ◌-◌, ◌*◌, ◌<◌, ◌≤◌, Bool, true, false, List, [], ◌∷◌, length, get_or, take, refl, sym, ap, ◌∙◌, arith, inl, inr}
use Rattle.std.specs.Prelude.{◌⊎◌, ◌%◌, if◌then◌else◌, nat_lt, min, max, map, replicate, Option, Some, None, slice_index, unwrap_or}
use Rattle.std.specs.List.{range_with_len}
use Rattle.std.proofs.lemmas.Bool.{cases_Bool, cases_eq, cases_lt, lt-ltb, le-ltb, le-leb, lt-leb}
use Rattle.std.proofs.lemmas.List.{get_or-append-add, length-replicate, nil_from_length}
use Rattle.data_map.specs.declared.check.RawMap.{RawMap}
use Rattle.data_map.specs.Check.{IsChecked}
use Rattle.data_map.specs.Striping.{stripe_of, stripe_length, group_width, group_of, data_units, parities, position_of, replicas}
use Rattle.data_map.proofs.Numbers.{two_digits}
use Rattle.parity_code.specs.declared.code.Code.{Code}
use Rattle.parity_code.specs.declared.code.Code.TheVariants.{Plain, Xor, PandQ}
use Rattle.parity_code.specs.Parity.{p_of, q_of}
use Rattle.parity_code.specs.Codeword.{count_of, codeword}
use Rattle.stripe_plan.specs.declared.plan.Span.{Span}
use Rattle.stripe_plan.specs.declared.plan.Column.{Column}
use Rattle.stripe_plan.specs.declared.plan.Aim.TheVariants.{Gathers}
use Rattle.stripe_plan.specs.Touched.{end_of, stripes, IsTouchedStripe, own, touches, unit_start, low, high, columns, columns_between, whole}
use Rattle.stripe_plan.specs.Lost.{among, source_from, source, is_out, positions_out, is_short, is_degraded, unwritable}
use Rattle.stripe_plan.specs.Asks.{own_columns, changed, gathered, needed}
use Rattle.stripe_plan.specs.Parity.{overlaid, parity_of, p_changed, q_changed, parity_changed}
use Rattle.stripe_plan.specs.Words.{code_of, got_at, known_from, lost_from, new_at, news_from, news_at, parity_at, word_at}
use Rattle.stripe_plan.specs.Laws.{data_at, word_of, AreBytes, over, IsWithin, IsFetched, Agrees}
use Rattle.stripe_plan.proofs.Changes.{AreOld, AllNew, data_first, delta_follows, whole_forgets}
use Rattle.stripe_plan.proofs.Counting.{counted, among_lost}
use Rattle.stripe_plan.proofs.Columning.{data_long, word_is, code_count, decoded_is}
use Rattle.stripe_plan.proofs.ReadLaws.{stripes_are}
use Rattle.std.proofs.lemmas.Nat.{mod_below}

-- ---- columns are of a unit

pub within_unit : (u low high b : ℕ) → 0 < u → IsWithin b (columns_between u low high) → b < u
unfolding columns_between
within_unit u low high b some w = elim (cases_lt (high - low) u) [
  | inl short ↦ elim (cases_lt (low % u) ((high - 1) % u + 1)) [
    | inl lt ↦ one (low % u) ((high - 1) % u + 1) (omega (arith, mod_below (high - 1) u some))
        (rw (lt-leb u (high - low) short, lt-ltb (low % u) ((high - 1) % u + 1) lt) at w)
    | inr le ↦ two ((high - 1) % u + 1) (low % u) (omega (arith, mod_below (high - 1) u some))
        (rw (lt-leb u (high - low) short, le-ltb (low % u) ((high - 1) % u + 1) le) at w)
  ]
  | inr long ↦ one 0 u (omega (arith, some)) (rw (le-leb u (high - low) long) at w)
]
  where
    one : (f e : ℕ) → e ≤ u → IsWithin b (record { first = f; end = e } ∷ []) → b < u
    one f e le (inl x) = omega (arith, le, x.1)
    one f e le (inr x) = absurd x

    two : (e f : ℕ) → e ≤ u → IsWithin b (record { first = 0; end = e } ∷ record { first = f; end = u } ∷ []) → b < u
    two e f le (inl x) = omega (arith, le, x.1)
    two e f le (inr (inl x)) = x.1
    two e f le (inr (inr x)) = absurd x

-- ---- the new bytes

-- a byte of the range that lies in the unit is new
pub new_some : (m : RawMap) (r : Span) (bytes : List ℕ) (s b c : ℕ) → b < m.unit → r.offset ≤ unit_start m s c + b →
    unit_start m s c + b < end_of r → new_at m r bytes s b c ≡ Some (slice_index bytes (unit_start m s c + b - r.offset))
unfolding new_at own
new_some m r bytes s b c bl from to =
    rw (
      le-leb (max r.offset (unit_start m s c) - unit_start m s c) b (omega (arith, from)),
      lt-ltb b (min (end_of r) (unit_start m s c + m.unit) - unit_start m s c) (omega (arith, to, bl)),
    ) refl

-- the byte of a column is the call's, or the old one
pub new_is : (m : RawMap) (r : Span) (bytes : List ℕ) (d : ℕ → ℕ) (s b c : ℕ) → b < m.unit →
    (((own m r s c).first ≤ b) × (b < (own m r s c).end) ×
    (new_at m r bytes s b c ≡ Some (over r bytes d (unit_start m s c + b))))
    ⊎ ((new_at m r bytes s b c ≡ None) × (over r bytes d (unit_start m s c + b) ≡ d (unit_start m s c + b)))
unfolding new_at own
new_is m r bytes d s b c bl = elim (cases_lt (unit_start m s c + b) r.offset) [
  | inl before ↦ inr (
    rw (lt-leb (max r.offset (unit_start m s c) - unit_start m s c) b (omega (arith, before))) refl,
    rw (lt-leb r.offset (unit_start m s c + b) before) refl,
  )
  | inr from ↦ elim (cases_lt (unit_start m s c + b) (end_of r)) [
    | inl to ↦ inl (
      omega (arith, from),
      omega (arith, to, bl),
      rw (
        le-leb (max r.offset (unit_start m s c) - unit_start m s c) b (omega (arith, from)),
        lt-ltb b (min (end_of r) (unit_start m s c + m.unit) - unit_start m s c) (omega (arith, to, bl)),
        le-leb r.offset (unit_start m s c + b) from,
        lt-ltb (unit_start m s c + b) (end_of r) to,
      ) refl,
    )
    | inr past ↦ inr (
      rw (
        le-leb (max r.offset (unit_start m s c) - unit_start m s c) b (omega (arith, from)),
        le-ltb b (min (end_of r) (unit_start m s c + m.unit) - unit_start m s c) (omega (arith, past)),
      ) refl,
      rw (le-leb r.offset (unit_start m s c + b) from, le-ltb (unit_start m s c + b) (end_of r) past) refl,
    )
  ]
]

-- so the data with the new bytes put in are those of the file after the write
pub overlaid_is : (m : RawMap) (r : Span) (bytes : List ℕ) (d : ℕ → ℕ) (s b c n : ℕ) → b < m.unit →
    overlaid (news_from m r bytes s b c n) (map (λ (k : ℕ). d (unit_start m s k + b)) (range_with_len c n)) ≡ map
    (λ (k : ℕ). over r bytes d (unit_start m s k + b)) (range_with_len c n)
unfolding news_from
overlaid_is m r bytes d s b c zero bl = refl
overlaid_is m r bytes d s b c (suc n) bl = elim (new_is m r bytes d s b c bl) [
  | inl new ↦ rw new.2
      (ap (λ (xs : List ℕ). over r bytes d (unit_start m s c + b) ∷ xs) (overlaid_is m r bytes d s b (c + 1) n bl))
  | inr old ↦ rw old.0
      (ap (λ (xs : List ℕ). d (unit_start m s c + b) ∷ xs) (overlaid_is m r bytes d s b (c + 1) n bl)
      ∙ ap (λ (v : ℕ). v ∷ map (λ (k : ℕ). over r bytes d (unit_start m s k + b)) (range_with_len (c + 1) n)) (sym old.1))
]

pub news_long : (m : RawMap) (r : Span) (bytes : List ℕ) (s b c n : ℕ) → length (news_from m r bytes s b c n) ≡ n
unfolding news_from
news_long m r bytes s b c zero = refl
news_long m r bytes s b c (suc n) = ap suc (news_long m r bytes s b (c + 1) n)

-- ---- parity's words

pub parity_word : (code : Code) (ds : List ℕ) (row : ℕ) → row < count_of code →
    get_or (codeword code ds) (length ds + row) 0 ≡ parity_of row ds
parity_word Plain ds row lt = absurd (omega (arith, lt))
parity_word Xor ds zero lt = get_or-append-add ds (p_of ds ∷ []) 0 0
parity_word Xor ds (suc i) lt = absurd (omega (arith, lt))
parity_word PandQ ds zero lt = get_or-append-add ds (p_of ds ∷ q_of ds ∷ []) 0 0
parity_word PandQ ds (suc zero) lt = get_or-append-add ds (p_of ds ∷ q_of ds ∷ []) 1 0
parity_word PandQ ds (suc (suc i)) lt = absurd (omega (arith, lt))

pub parity_is : (m : RawMap) (d : ℕ → ℕ) (s b c : ℕ) → IsChecked m → data_units m ≤ c → c < group_width m →
    word_of m d s b c ≡ parity_of (c - data_units m) (data_at m d s b)
parity_is m d s b c ch le lt =
    let at : c ≡ length (data_at m d s b) + (c - data_units m) = omega (arith, data_long m d s b, le) in
    ap (λ (k : ℕ). get_or (codeword (code_of m) (data_at m d s b)) k 0) at
    ∙ parity_word (code_of m) (data_at m d s b) (c - data_units m) (omega (arith, code_count m, le, lt, ch.some_data))

-- ---- a whole stripe

pub all_new : (m : RawMap) (r : Span) (bytes : List ℕ) (s b c n : ℕ) → b < m.unit → c + n ≤ data_units m →
    r.offset ≤ s * stripe_length m → (s + 1) * stripe_length m ≤ end_of r → AllNew (news_from m r bytes s b c n)
unfolding news_from
all_new m r bytes s b c zero bl le from to = tt
all_new m r bytes s b c (suc n) bl le from to =
    let inside = two_digits m.unit (data_units m) c b (omega (arith, le)) bl in
    let next : (s + 1) * stripe_length m ≡ s * stripe_length m + stripe_length m = omega arith in
    rw (new_some m r bytes s b c bl (omega (arith, from)) (omega (arith, inside, next, to)))
    (all_new m r bytes s b (c + 1) n bl (omega (arith, le)) from to)

-- ---- a stripe that can be written

pub none_out : (m : RawMap) (p : ℕ) → is_out m [] p ≡ false
unfolding source source_from
none_out m p = let z : replicas m ≡ suc m.mirrors = omega arith in rw z refl

pub can_write : (m : RawMap) (out : List ℕ) (a n s : ℕ) → unwritable m out (range_with_len a n) ≡ None → a ≤ s → s < a + n →
    is_short m out s ≡ false
unfolding unwritable
can_write m out a zero s can le lt = absurd (omega (arith, le, lt))
can_write m out a (suc n) s can le lt = elim (cases_eq a s) [
  | inl same ↦ ap (is_short m out) (sym same) ∙ first (is_short m out a) _ _ can
  | inr other ↦ can_write m out (a + 1) n s (rest (is_short m out a) _ _ can) (omega (arith, le, other)) (omega (arith, lt))
]
  where
    first : (b : Bool) (ps : List ℕ) (o : Option (List ℕ)) → (if b then Some ps else o) ≡ None → b ≡ false
    first true ps o e = absurd (cc e)
    first false ps o e = refl

    rest : (a : Bool) (ps : List ℕ) (o : Option (List ℕ)) → (if a then Some ps else o) ≡ None → o ≡ None
    rest true ps o e = absurd (cc e)
    rest false ps o e = e

pub few_out : (m : RawMap) (r : Span) (out : List ℕ) (s : ℕ) → IsChecked m → 0 < r.length →
    unwritable m out (stripes m r) ≡ None → IsTouchedStripe m r s → length (lost_from m out s 0 (group_width m)) ≤ parities m
unfolding is_short
few_out m r out s ch some can touched =
    let short : nat_lt (parities m) (length (positions_out m out (group_of m s))) ≡ false =
    can_write m out (stripe_of m r.offset) (stripe_of m (end_of r - 1) + 1 - stripe_of m r.offset) s
    (rw (stripes_are m r some) at can) touched.0 (omega (arith, touched.0, touched.1)) in
    elim (cases_lt (parities m) (length (positions_out m out (group_of m s)))) [
      | inl more ↦ absurd (cc (sym (lt-ltb (parities m) (length (positions_out m out (group_of m s))) more) ∙ short))
      | inr less ↦ omega (arith, less, counted m out s ch)
    ]

-- without a position out every unit is there
pub all_there : (m : RawMap) (out : List ℕ) (s k : ℕ) → IsChecked m → is_degraded m out s ≡ false → k < group_width m →
    is_out m out (position_of m s k) ≡ false
unfolding is_degraded
all_there m out s k ch free lt =
    let long : length (lost_from m out s 0 (group_width m)) ≡ 0 =
    elim (cases_lt 0 (length (positions_out m out (group_of m s)))) [
      | inl more ↦ absurd (cc (sym (lt-ltb 0 (length (positions_out m out (group_of m s))) more) ∙ free))
      | inr less ↦ omega (arith, less, counted m out s ch)
    ] in
    let none : lost_from m out s 0 (group_width m) ≡ [] = nil_from_length (lost_from m out s 0 (group_width m)) long in
    sym (among_lost m out s 0 (group_width m) k (omega arith) (omega (arith, lt))) ∙ ap (among k) none

-- ---- the three ways to make parity

-- the old bytes that a delta uses are the data's
pub old_is : (m : RawMap) (r : Span) (bytes : List ℕ) (got : List Column) (d : ℕ → ℕ) (s b c n : ℕ) → b < m.unit →
    ((k : ℕ) → c ≤ k → k < c + n → (own m r s k).first ≤ b → b < (own m r s k).end →
    got_at m got s b k ≡ d (unit_start m s k + b)) →
    AreOld (news_from m r bytes s b c n) (known_from m got [] s b c n)
    (map (λ (k : ℕ). d (unit_start m s k + b)) (range_with_len c n))
unfolding news_from known_from
old_is m r bytes got d s b c zero bl had = tt
old_is m r bytes got d s b c (suc n) bl had =
    let rest = old_is m r bytes got d s b (c + 1) n bl (λ k le lt f e. had k (omega (arith, le)) (omega (arith, lt)) f e) in
    elim (new_is m r bytes d s b c bl) [
      | inl new ↦ rw (new.2, none_out m (position_of m s c)) (had c (omega arith) (omega arith) new.0 new.1, rest)
      | inr old ↦ rw old.0 rest
    ]

pub delta_is : (news : List (Option ℕ)) (olds ds : List ℕ) (row p : ℕ) → AreOld news olds ds → p ≡ parity_of row ds →
    parity_changed row news olds p ≡ parity_of row (overlaid news ds)
delta_is news olds ds zero p old e = ap (p_changed news olds) e ∙ (delta_follows news olds ds old).0
delta_is news olds ds (suc i) p old e = ap (q_changed 0 news olds) e ∙ (delta_follows news olds ds old).1

pub whole_means : (m : RawMap) (r : Span) (s : ℕ) → whole m r s ≡ true →
    (r.offset ≤ s * stripe_length m) × ((s + 1) * stripe_length m ≤ end_of r)
unfolding whole
whole_means m r s e = elim (cases_lt (s * stripe_length m) r.offset) [
  | inl before ↦ absurd (cc (rw (lt-leb r.offset (s * stripe_length m) before) at e))
  | inr from ↦ elim (cases_lt (end_of r) ((s + 1) * stripe_length m)) [
    | inl past ↦ absurd
        (cc (rw (le-leb r.offset (s * stripe_length m) from, lt-leb ((s + 1) * stripe_length m) (end_of r) past) at e))
    | inr to ↦ (from, to)
  ]
]

-- what a gather needs
pub needs_all : (m : RawMap) (r : Span) (out : List ℕ) (s b k : ℕ) → whole m r s ≡ false → is_degraded m out s ≡ true →
    IsWithin b (columns m r s) → IsWithin b (needed Gathers m r out s k)
unfolding gathered
needs_all m r out s b k part less w = rw (part, less) w

pub needs_own : (m : RawMap) (r : Span) (out : List ℕ) (s b k : ℕ) → whole m r s ≡ false → is_degraded m out s ≡ false →
    k < data_units m → (own m r s k).first ≤ b → b < (own m r s k).end → IsWithin b (needed Gathers m r out s k)
unfolding gathered changed own_columns touches
needs_own m r out s b k part free lt f e =
    rw (part, free, lt-ltb k (data_units m) lt, lt-ltb (own m r s k).first (own m r s k).end (omega (arith, f, e))) (inl (f, e))

pub needs_parity : (m : RawMap) (r : Span) (out : List ℕ) (s b k : ℕ) → whole m r s ≡ false → is_degraded m out s ≡ false →
    data_units m ≤ k → IsWithin b (columns m r s) → IsWithin b (needed Gathers m r out s k)
unfolding gathered changed
needs_parity m r out s b k part free le w = rw (part, free, le-ltb k (data_units m) le) w

parity_right : (m : RawMap) (r : Span) (bytes : List ℕ) (got : List Column) (out : List ℕ) (d : ℕ → ℕ) (s b row : ℕ) →
    IsChecked m → AreBytes d → 0 < r.length →
    unwritable m out (stripes m r) ≡ None → IsFetched Gathers m r got out → Agrees m got d → IsTouchedStripe m r s → b < m.unit →
    data_units m + row < group_width m →
    is_out m out (position_of m s (data_units m + row)) ≡ false → IsWithin b (columns m r s) →
    parity_at m r bytes got out s b row ≡ parity_of row (data_at m (over r bytes d) s b)
unfolding parity_at
parity_right m r bytes got out d s b row ch db some can fetched agrees stripe bl wide there within =
    let news = news_at m r bytes s b in
    let new = overlaid_is m r bytes d s b 0 (data_units m) bl in
    elim (cases_Bool (whole m r s)) [
      | inl all ↦ rw all (ap (parity_of row) (whole_forgets news (replicate (data_units m) 0) (data_at m d s b)
          (let w = whole_means m r s all in all_new m r bytes s b 0 (data_units m) bl (omega arith) w.0 w.1)
          (length-replicate (data_units m) 0 ∙ sym (news_long m r bytes s b 0 (data_units m)))
          (data_long m d s b ∙ sym (news_long m r bytes s b 0 (data_units m))) ∙ new))
      | inr part ↦ elim (cases_Bool (is_degraded m out s)) [
        | inl less ↦ rw (part, less)
            (ap (parity_of row)
            (ap (λ (xs : List ℕ). overlaid news (take (data_units m) xs))
            (decoded_is m got out d s b ch db
            (λ k lt th. agrees s b k lt (fetched s b k stripe lt th (needs_all m r out s b k part less within)))
            (few_out m r out s ch some can stripe))
            ∙ ap (overlaid news)
            (ap (λ (z : ℕ). take z (codeword (code_of m) (data_at m d s b))) (sym (data_long m d s b))
            ∙ data_first (code_of m) (data_at m d s b)) ∙ new))
        | inr free ↦ rw (part, free)
            (delta_is news (known_from m got [] s b 0 (data_units m)) (data_at m d s b) row
            (got_at m got s b (data_units m + row))
            (old_is m r bytes got d s b 0 (data_units m) bl (λ k le lt f e.
            agrees s b k (omega (arith, lt))
            (fetched s b k stripe (omega (arith, lt)) (all_there m out s k ch free (omega (arith, lt)))
            (needs_own m r out s b k part free (omega (arith, lt)) f e))
            ∙ word_is m d s b k (omega (arith, lt))))
            (agrees s b (data_units m + row) wide
            (fetched s b (data_units m + row) stripe wide there
            (needs_parity m r out s b (data_units m + row) part free (omega arith) within))
            ∙ parity_is m d s b (data_units m + row) ch (omega arith) wide
            ∙ ap (λ (z : ℕ). parity_of z (data_at m d s b)) (let z : data_units m + row - data_units m ≡ row = omega arith in
            z))
            ∙ ap (parity_of row) new)
      ]
    ]

-- ---- the law

pub over_is : (r : Span) (bytes : List ℕ) (d : ℕ → ℕ) (l : ℕ) → r.offset ≤ l → l < end_of r →
    over r bytes d l ≡ slice_index bytes (l - r.offset)
over_is r bytes d l from to = rw (le-leb r.offset l from, lt-ltb l (end_of r) to) refl

data_right : (m : RawMap) (r : Span) (bytes : List ℕ) (d : ℕ → ℕ) (s b c : ℕ) → c < data_units m →
    IsWithin b (own_columns m r s c) → unwrap_or (new_at m r bytes s b c) 0 ≡ word_of m (over r bytes d) s b c
unfolding own_columns own
data_right m r bytes d s b c low w = elim (cases_Bool (touches m r s c)) [
  | inl t ↦ inside (rw (lt-ltb c (data_units m) low, t) at w)
  | inr f ↦ absurd (rw (lt-ltb c (data_units m) low, f) at w)
]
  where
    inside : IsWithin b (own m r s c ∷ []) → unwrap_or (new_at m r bytes s b c) 0 ≡ word_of m (over r bytes d) s b c
    inside (inl x) =
        let from : r.offset ≤ unit_start m s c + b = omega (arith, x.0) in
        let to : unit_start m s c + b < end_of r = omega (arith, x.1) in
        let bl : b < m.unit = omega (arith, x.1) in
        rw (new_some m r bytes s b c bl from to) (sym (over_is r bytes d (unit_start m s c + b) from to))
        ∙ sym (word_is m (over r bytes d) s b c low)
    inside (inr x) = absurd x

pub payload_right : (m : RawMap) (r : Span) (bytes : List ℕ) (got : List Column) (out : List ℕ) (d : ℕ → ℕ) → IsChecked m →
    AreBytes d → length bytes ≡ r.length
    → unwritable m out (stripes m r) ≡ None → (0 < parities m → IsFetched Gathers m r got out) → Agrees m got d
    → 0 < r.length → (s b c : ℕ) → IsTouchedStripe m r s → c < group_width m → is_out m out (position_of m s c) ≡ false →
    IsWithin b (changed m r s c) → word_at m r bytes got out s b c ≡ word_of m (over r bytes d) s b c
unfolding word_at changed columns
payload_right m r bytes got out d ch db long can fetched agrees some s b c stripe wide there within =
    elim (cases_lt c (data_units m)) [
      | inl low ↦ rw (lt-ltb c (data_units m) low) (data_right m r bytes d s b c low (rw (lt-ltb c (data_units m) low) at within))
      | inr past ↦
          let inside : IsWithin b (columns m r s) = rw (le-ltb c (data_units m) past) at within in
          let at : data_units m + (c - data_units m) ≡ c = omega (arith, past) in
          rw (le-ltb c (data_units m) past)
          (parity_right m r bytes got out d s b (c - data_units m) ch db some can
          (fetched (omega (arith, past, wide))) agrees stripe
          (within_unit m.unit (low m r s) (high m r s) b ch.some_unit inside) (omega (arith, at, wide)) (rw at there) inside
          ∙ sym (parity_is m (over r bytes d) s b c ch past wide))
    ]
