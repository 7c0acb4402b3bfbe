-- The turns of groups: which blocks of stripes are a group's, and the first of them from a stripe on.
use Rattle.std.specs.Prelude.{ℕ, ◌≡◌, ◌≢◌, ◌+◌, ◌-◌, ◌*◌, ◌/◌, ◌%◌, ◌<◌, ◌≤◌}
use Rattle.std.proofs.Common.{arith, inl, inr, sym, ap, ◌∙◌}
use Rattle.std.proofs.lemmas.Bool.{cases_lt}
use Rattle.std.proofs.lemmas.Nat.{mod-mul-add, div-add-mod', mod_below, le-div}
use Rattle.std.proofs.Math.Nat.{add-mod_right, mod-eq_of_lt, div-mul-le_self, mul-div_cancel, div-lt_iff_lt-mul, mul-le-mul_right, lt-div-mul-add, add-mul}

-- ---- a number and what is added, by rests

mod_within : (b i n : ℕ) → b % n + i < n → (b + i) % n ≡ b % n + i
mod_within b i n lt =
    let e : b + i ≡ b / n * n + (b % n + i) = omega (arith, div-add-mod' b n) in
    ap (λ z. z % n) e ∙ mod-mul-add (b / n) n (b % n + i) lt

mod_over : (b i n : ℕ) → n ≤ b % n + i → b % n + i < n + n → (b + i) % n ≡ b % n + i - n
mod_over b i n le lt =
    let e : b + i ≡ b / n * n + (b % n + i - n) + n = omega (arith, div-add-mod' b n, le) in
    ap (λ z. z % n) e ∙ add-mod_right (b / n * n + (b % n + i - n)) n
    ∙ mod-mul-add (b / n) n (b % n + i - n) (omega (arith, lt, le))

-- ---- how many blocks further

-- the blocks from one with this rest to the next with that one
abbrev pub further : (g rest n : ℕ) → ℕ
further g rest n = (g + n - rest) % n

further_up : (g rest n : ℕ) → rest ≤ g → g < n → further g rest n ≡ g - rest
further_up g rest n le lt =
    let e : g + n - rest ≡ (g - rest) + n = omega (arith, le) in
    ap (λ z. z % n) e ∙ add-mod_right (g - rest) n ∙ mod-eq_of_lt (omega (arith, lt))

further_down : (g rest n : ℕ) → g < rest → rest < n → further g rest n ≡ g + n - rest
further_down g rest n lt below = mod-eq_of_lt (omega (arith, lt, below))

block_stands : (b g n : ℕ) → g < n → (b + further g (b % n) n) % n ≡ g
block_stands b g n lt =
    let below = mod_below b n (omega (arith, lt)) in
    elim (cases_lt g (b % n)) [
      | inl down ↦ ap (λ z. (b + z) % n) (further_down g (b % n) n down below)
          ∙ mod_over b (g + n - b % n) n (omega (arith, below)) (omega (arith, below, lt)) ∙ omega (arith, below)
      | inr up ↦ ap (λ z. (b + z) % n) (further_up g (b % n) n up lt) ∙ mod_within b (g - b % n) n (omega (arith, up, lt))
          ∙ omega (arith, up)
    ]

block_none : (b g n i : ℕ) → g < n → i < further g (b % n) n → (b + i) % n ≢ g
block_none b g n i lt few =
    let below = mod_below b n (omega (arith, lt)) in
    elim (cases_lt g (b % n)) [
      | inl down ↦
          let fewer : i < g + n - b % n = rw (further_down g (b % n) n down below) at few in
          elim (cases_lt (b % n + i) n) [
            | inl within ↦ λ e. omega (arith, sym (mod_within b i n within) ∙ e, down)
            | inr over ↦ λ e. omega (arith, sym (mod_over b i n over (omega (arith, fewer, below, lt))) ∙ e, fewer, over, below)
          ]
      | inr up ↦
          let fewer : i < g - b % n = rw (further_up g (b % n) n up lt) at few in
          λ e. omega (arith, sym (mod_within b i n (omega (arith, fewer, lt))) ∙ e, fewer)
    ]

-- ---- stripes

-- the first stripe from s on in a block of group g, where s stands in none
abbrev pub next_turn : (s d g n : ℕ) → ℕ
next_turn s d g n = (s / d + further g ((s / d) % n) n) * d

pub turn_stands : (s d g n : ℕ) → 0 < d → g < n → (next_turn s d g n / d) % n ≡ g
turn_stands s d g n deep lt =
    ap (λ z. z % n) (mul-div_cancel (s / d + further g ((s / d) % n) n) deep) ∙ block_stands (s / d) g n lt

pub turn_none : (s d g n u : ℕ) → 0 < d → g < n → s ≤ u → u < next_turn s d g n → (u / d) % n ≢ g
turn_none s d g n u deep lt le before =
    let b = s / d in
    let from : b ≤ u / d = le-div b u d deep (omega (arith, div-mul-le_self s d, le)) in
    let to : u / d < b + further g (b % n) n = (div-lt_iff_lt-mul deep).1 before in
    let same : b + (u / d - b) ≡ u / d = omega (arith, from) in
    rw same at (block_none b g n (u / d - b) lt (omega (arith, from, to)))

pub turn_from : (s d g n : ℕ) → 0 < d → g < n → (s / d) % n ≢ g → s ≤ next_turn s d g n
turn_from s d g n deep lt ne =
    let b = s / d in
    let f = further g (b % n) n in
    elim (cases_lt 0 f) [
      | inl some ↦
          let more : (b + 1) * d ≤ (b + f) * d = mul-le-mul_right d (omega (arith, some)) in
          let split : (b + 1) * d ≡ b * d + 1 * d = add-mul b 1 d in
          omega (arith, more, split, lt-div-mul-add {a = s} {b = d} deep)
      | inr none ↦
          let z : b + f ≡ b = omega (arith, none) in
          absurd (ne (ap (λ k. k % n) (sym z) ∙ block_stands b g n lt))
    ]
