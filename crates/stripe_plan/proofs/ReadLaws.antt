-- A read gives the bytes of all data that agree with what it fetched.
use Rattle.std.proofs.Common.{◌≡◌, ℕ, zero, suc, ◌+◌, ◌-◌, ◌<◌, ◌≤◌, Bool, true, false, List, ◌∷◌, length, refl, sym, ap, ◌∙◌, arith, inl, inr, ne_eqb}
use Rattle.std.specs.Prelude.{◌&&◌, ◌||◌, if◌then◌else◌, nat_lt, Option, Some, None, slice_index, map}
use Rattle.std.specs.List.{range_with_len}
use Rattle.std.proofs.lemmas.Bool.{cases_Bool, cases_eq, cases_lt, lt-ltb}
use Rattle.data_map.specs.declared.check.RawMap.{RawMap}
use Rattle.data_map.specs.Check.{IsChecked}
use Rattle.data_map.specs.Striping.{stripe_of, stripe_length, data_unit_of, column_of, group_width, group_of, data_units, parities, position_of}
use Rattle.data_map.proofs.Striping.{data_unit_below}
use Rattle.data_map.proofs.Covering.{div_mono}
use Rattle.data_map.proofs.Numbers.{digits}
use Rattle.data_map.proofs.Shape.{some_stripe}
use Rattle.stripe_plan.specs.declared.plan.Span.{Span}
use Rattle.stripe_plan.specs.declared.plan.Column.{Column}
use Rattle.stripe_plan.specs.declared.plan.Aim.TheVariants.{Reads}
use Rattle.stripe_plan.specs.Touched.{end_of, stripes, touches, IsTouchedStripe}
use Rattle.stripe_plan.specs.Lost.{is_out, positions_out, is_short, hit_from, is_hit, unreadable}
use Rattle.stripe_plan.specs.Asks.{own_columns, needed}
use Rattle.stripe_plan.specs.Words.{got_at, lost_from, answer_in, answer_at, answered}
use Rattle.stripe_plan.specs.Laws.{word_of, IsWithin, AreBytes, IsFetched, Agrees, FollowsRead}
use Rattle.stripe_plan.proofs.Covering.{column_touched, own_touched}
use Rattle.stripe_plan.proofs.Counting.{counted}
use Rattle.stripe_plan.proofs.Columning.{word_is, decoded_is}

-- a touched unit that is out hits its stripe
pub hit_is : (m : RawMap) (r : Span) (out : List ℕ) (s c n k : ℕ) → c ≤ k → k < c + n → touches m r s k ≡ true →
    is_out m out (position_of m s k) ≡ true → hit_from m r out s c n ≡ true
unfolding hit_from
hit_is m r out s c zero k le lt t o = absurd (omega (arith, le, lt))
hit_is m r out s c (suc n) k le lt t o = elim (cases_eq c k) [
  | inl same ↦ rw (ap (λ (z : ℕ). touches m r s z) same ∙ t, ap (λ (z : ℕ). is_out m out (position_of m s z)) same ∙ o) refl
  | inr other ↦ or_right (touches m r s c && is_out m out (position_of m s c)) _
      (hit_is m r out s (c + 1) n k (omega (arith, le, other)) (omega (arith, lt)) t o)
]
  where
    or_right : (a b : Bool) → b ≡ true → (a || b) ≡ true
    or_right true b e = refl
    or_right false b e = e

-- a stripe that is hit isn't short where all can be read
readable : (m : RawMap) (r : Span) (out : List ℕ) (a n s : ℕ) → unreadable m r out (range_with_len a n) ≡ None → a ≤ s →
    s < a + n → is_hit m r out s ≡ true → is_short m out s ≡ false
unfolding unreadable
readable m r out a zero s can le lt hit = absurd (omega (arith, le, lt))
readable m r out a (suc n) s can le lt hit = elim (cases_eq a s) [
  | inl same ↦ ap (is_short m out) (sym same)
      ∙ first (is_hit m r out a) (is_short m out a) _ _ (ap (is_hit m r out) same ∙ hit) can
  | inr other ↦ readable m r out (a + 1) n s (rest (is_hit m r out a && is_short m out a) _ _ can) (omega (arith, le, other))
      (omega (arith, lt)) hit
]
  where
    first : (a b : Bool) (ps : List ℕ) (o : Option (List ℕ)) → a ≡ true → (if a && b then Some ps else o) ≡ None → b ≡ false
    first true true ps o t e = absurd (cc e)
    first true false ps o t e = refl
    first false b ps o t e = absurd (cc t)

    rest : (a : Bool) (ps : List ℕ) (o : Option (List ℕ)) → (if a then Some ps else o) ≡ None → o ≡ None
    rest true ps o e = absurd (cc e)
    rest false ps o e = e

pub stripe_touched : (m : RawMap) (r : Span) (l : ℕ) → IsChecked m → r.offset ≤ l → l < end_of r →
    IsTouchedStripe m r (stripe_of m l)
stripe_touched m r l ch from to = (
  div_mono r.offset l (stripe_length m) (some_stripe m ch) from,
  div_mono l (end_of r - 1) (stripe_length m) (some_stripe m ch) (omega (arith, to)),
)

pub stripes_are : (m : RawMap) (r : Span) → 0 < r.length →
    stripes m r ≡ range_with_len (stripe_of m r.offset) (stripe_of m (end_of r - 1) + 1 - stripe_of m r.offset)
unfolding stripes
stripes_are m r some = rw (ne_eqb r.length 0 (λ e. absurd (omega (arith, e, some)))) refl

pub few_lost : (m : RawMap) (r : Span) (out : List ℕ) (s : ℕ) → IsChecked m → 0 < r.length →
    unreadable m r out (stripes m r) ≡ None → IsTouchedStripe m r s → is_hit m r out s ≡ true →
    length (lost_from m out s 0 (group_width m)) ≤ parities m
unfolding is_short
few_lost m r out s ch some can touched hit =
    let short : nat_lt (parities m) (length (positions_out m out (group_of m s))) ≡ false =
    readable m r out (stripe_of m r.offset) (stripe_of m (end_of r - 1) + 1 - stripe_of m r.offset) s
    (rw (stripes_are m r some) at can) touched.0 (omega (arith, touched.0, touched.1)) hit in
    elim (cases_lt (parities m) (length (positions_out m out (group_of m s)))) [
      | inl more ↦ absurd (cc (sym (lt-ltb (parities m) (length (positions_out m out (group_of m s))) more) ∙ short))
      | inr less ↦ omega (arith, less, counted m out s ch)
    ]

-- a read gives each byte of all data that agree with what it fetched
pub read_right : (m : RawMap) (r : Span) (got : List Column) (out : List ℕ) (d : ℕ → ℕ) → IsChecked m → AreBytes d →
    unreadable m r out (stripes m r) ≡ None → IsFetched Reads m r got out → Agrees m got d
    → (l : ℕ) → r.offset ≤ l → l < end_of r → answer_at m got out l ≡ d l
unfolding answer_in own_columns touches
read_right m r got out d ch bytes can fetched agrees l from to =
    let s : ℕ = stripe_of m l in
    let c : ℕ = data_unit_of m l in
    let b : ℕ = column_of m l in
    let low : c < data_units m = data_unit_below m l ch in
    let wide : c < group_width m = omega (arith, low) in
    let inside = own_touched m r l ch from to in
    let touch : touches m r s c ≡ true = lt-ltb _ _ (omega (arith, inside.0, inside.1)) in
    let stripe = stripe_touched m r l ch from to in
    let is : word_of m d s b c ≡ d l = word_is m d s b c low ∙ ap d (digits m.unit (data_units m) l ch.some_unit) in
    elim (cases_Bool (is_out m out (position_of m s c))) [
      | inl gone ↦
          let hit : is_hit m r out s ≡ true = hit_is m r out s 0 (data_units m) c (omega arith) (omega (arith, low)) touch gone in
          let had : (k : ℕ) → k < group_width m → is_out m out (position_of m s k) ≡ false →
          got_at m got s b k ≡ word_of m d s b k =
          λ k lt there. agrees s b k lt (fetched s b k stripe lt there (rw hit (column_touched m r l ch from to))) in
          rw gone (ap (λ (xs : List ℕ). slice_index xs c)
          (decoded_is m got out d s b ch bytes had (few_lost m r out s ch (omega (arith, from, to)) can stripe hit)) ∙ is)
      | inr there ↦
          let within : IsWithin b (needed Reads m r out s c) = elim (cases_Bool (is_hit m r out s)) [
            | inl hit ↦ rw hit (column_touched m r l ch from to)
            | inr free ↦ rw (free, lt-ltb c (data_units m) low, touch) (inl inside)
          ] in
          rw there (agrees s b c wide (fetched s b c stripe wide there within) ∙ is)
    ]

pub read_follows : (m : RawMap) (r : Span) (got : List Column) (out : List ℕ) → IsChecked m →
    unreadable m r out (stripes m r) ≡ None → FollowsRead m r got out (answered m r got out)
unfolding answered
read_follows m r got out ch can =
    λ d bytes fetched agrees. same r.offset r.length d
    (λ l from to. read_right m r got out d ch bytes can fetched agrees l from to)
  where
    same : (a n : ℕ) (d : ℕ → ℕ) → ((l : ℕ) → a ≤ l → l < a + n → answer_at m got out l ≡ d l) →
        map (answer_at m got out) (range_with_len a n) ≡ map d (range_with_len a n)
    same a zero d e = refl
    same a (suc n) d e =
        ap (λ (x : ℕ). x ∷ map (answer_at m got out) (range_with_len (a + 1) n)) (e a (omega arith) (omega arith))
        ∙ ap (λ xs. d a ∷ xs) (same (a + 1) n d (λ l from to. e l (omega (arith, from)) (omega (arith, to))))
