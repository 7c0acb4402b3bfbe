-- Stripes of one turn of a group, and rounds of all groups.
use Rattle.std.proofs.Common.{◌≡◌, ℕ, zero, suc, ◌+◌, ◌-◌, ◌*◌, ◌/◌, ◌%◌, ◌<◌, ◌≤◌, Bool, true, false, List, length, refl, sym, ap, ◌∙◌, arith, inl, inr, eq-eqb, ne_eqb}
use Rattle.std.specs.Prelude.{nat_lt, None}
use Rattle.std.specs.List.{range_with_len}
use Rattle.std.proofs.Math.Nat.{add-mod-mod, zero-mod, div-mul-le_self, div-eq_of_lt-le, div-eq_of_eq-mul_left}
use Rattle.std.proofs.lemmas.Nat.{le-div, mod_below}
use Rattle.std.proofs.lemmas.Bool.{cases_eq, cases_lt}
use Rattle.data_map.specs.declared.check.RawMap.{RawMap}
use Rattle.data_map.specs.Check.{IsChecked}
use Rattle.data_map.specs.Striping.{positions, parities, group_of, groups}
use Rattle.stripe_plan.specs.Lost.{positions_out, is_short, when, unwritable, turn_of}
use Rattle.stripe_plan.proofs.Steps.{writable_step, writable_end}

pub none_when : {X : Type 0} (t : Bool) (x : X) → None ≡ when t x → t ≡ false
none_when true x e = absurd (cc e)
none_when false x e = refl

-- ---- turns and groups

same_group : (m : RawMap) (out : List ℕ) (a b : ℕ) → group_of m a ≡ group_of m b → is_short m out a ≡ is_short m out b
unfolding is_short
same_group m out a b e = ap (λ (g : ℕ). nat_lt (parities m) (length (positions_out m out g))) e

turn_group : (m : RawMap) (s : ℕ) → group_of m s ≡ turn_of m s % groups m
turn_group m s = elim (cases_eq m.width 0) [
  | inl none ↦ rw (eq-eqb m.width 0 none) (sym (zero-mod (positions m / positions m)))
  | inr some ↦ rw (ne_eqb m.width 0 some) refl
]

same_turn : (m : RawMap) (out : List ℕ) (a b : ℕ) → turn_of m a ≡ turn_of m b → is_short m out a ≡ is_short m out b
same_turn m out a b e = same_group m out a b (turn_group m a ∙ ap (λ (t : ℕ). t % groups m) e ∙ sym (turn_group m b))

turn_rises : (m : RawMap) (a b : ℕ) → IsChecked m → a ≤ b → turn_of m a ≤ turn_of m b
turn_rises m a b c le = elim (cases_eq m.width 0) [
  | inl none ↦ rw (eq-eqb m.width 0 none) (omega arith)
  | inr some ↦ rw (ne_eqb m.width 0 some)
      (le-div (a / m.depth) b m.depth (c.some_depth some) (omega (arith, le, div-mul-le_self a m.depth)))
]

-- ---- the next turn

pub within_turn : (m : RawMap) (a b : ℕ) → (m.width ≡ 0 → ⊥) → b ≤ a → a < (b / m.depth + 1) * m.depth → turn_of m a ≡ turn_of m b
within_turn m a b some le lt =
    rw (ne_eqb m.width 0 some) (div-eq_of_lt-le m.depth (omega (arith, le, div-mul-le_self b m.depth)) lt)

pub next_turn : (m : RawMap) (a b : ℕ) → IsChecked m → (m.width ≡ 0 → ⊥) → a ≡ (b / m.depth + 1) * m.depth →
    turn_of m a ≡ turn_of m b + 1
next_turn m a b c some is = rw (ne_eqb m.width 0 some) (div-eq_of_eq-mul_left (c.some_depth some) is)

-- ---- rounds

-- no stripe of the groups that have one of n turns from t on is short
abbrev pub AreSeen : RawMap → List ℕ → (t n : ℕ) → Type 0
AreSeen m out t n = (k : ℕ) → k < n → (s : ℕ) → group_of m s ≡ (t + k) % groups m → is_short m out s ≡ false

pub seen_more : (m : RawMap) (out : List ℕ) (t n stripe : ℕ) → AreSeen m out t n → turn_of m stripe ≡ t + n →
    is_short m out stripe ≡ false → AreSeen m out t (n + 1)
seen_more m out t n stripe seen turn fine = λ k lt s e. elim (cases_lt k n) [
  | inl below ↦ seen k below s e
  | inr le ↦
      let last : k ≡ n = omega (arith, lt, le) in
      same_group m out s stripe
      (e ∙ ap (λ (j : ℕ). (t + j) % groups m) last ∙ ap (λ (j : ℕ). j % groups m) (sym turn) ∙ sym (turn_group m stripe))
      ∙ fine
]

round : (t u g : ℕ) → t ≤ u → (t + (u - t) % g) % g ≡ u % g
round t u g le = let on : t + (u - t) ≡ u = omega (arith, le) in add-mod-mod t (u - t) g ∙ ap (λ (j : ℕ). j % g) on

-- stripes of one turn are alike
pub skip : (m : RawMap) (out : List ℕ) (s d e : ℕ) → s + d ≤ e → ((k : ℕ) → s ≤ k → k < s + d → is_short m out k ≡ false) →
    unwritable m out (range_with_len s (e - s)) ≡ unwritable m out (range_with_len (s + d) (e - (s + d)))
skip m out s zero e le fine = let at : s ≡ s + 0 = omega arith in ap (λ (j : ℕ). unwritable m out (range_with_len j (e - j))) at
skip m out s (suc d) e le fine =
    let at : s + 1 + d ≡ s + suc d = omega arith in
    rw (fine s (omega arith) (omega arith)) at (writable_step m out s e (omega (arith, le)))
    ∙ skip m out (s + 1) d e (omega (arith, le)) (λ k low up. fine k (omega (arith, low)) (omega (arith, up)))
    ∙ ap (λ (j : ℕ). unwritable m out (range_with_len j (e - j))) at

pub skip_turn : (m : RawMap) (out : List ℕ) (s next e : ℕ) → s < next → next ≤ e → is_short m out s ≡ false →
    ((k : ℕ) → s ≤ k → k < next → turn_of m k ≡ turn_of m s) →
    unwritable m out (range_with_len s (e - s)) ≡ unwritable m out (range_with_len next (e - next))
skip_turn m out s next e lt le fine same =
    let at : s + (next - s) ≡ next = omega (arith, lt) in
    skip m out s (next - s) e (omega (arith, lt, le))
    (λ k low up. same_turn m out k s (same k low (omega (arith, up, lt))) ∙ fine)
    ∙ ap (λ (j : ℕ). unwritable m out (range_with_len j (e - j))) at

-- a whole round has seen all
pub all_seen : (m : RawMap) (out : List ℕ) (t n s e : ℕ) → IsChecked m → 0 < groups m → groups m ≤ n →
    (s < e → turn_of m s ≡ t + n) → AreSeen m out t n →
    unwritable m out (range_with_len s (e - s)) ≡ None
all_seen m out t n s e c some whole turn seen = elim (cases_lt s e) [
  | inr le ↦ writable_end m out s e le
  | inl lt ↦
      let at : s + (e - s) ≡ e = omega (arith, lt) in
      skip m out s (e - s) e (omega (arith, lt)) (λ k low up.
      let le : t ≤ turn_of m k = omega (arith, turn lt, turn_rises m s k c low) in
      seen ((turn_of m k - t) % groups m) (omega (arith, whole, mod_below (turn_of m k - t) (groups m) some)) k
      (turn_group m k ∙ sym (round t (turn_of m k) (groups m) le)))
      ∙ writable_end m out (s + (e - s)) e (omega arith)
]
