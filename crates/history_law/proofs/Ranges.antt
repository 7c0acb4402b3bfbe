-- Grants that don't conflict have no row of a component in common.
use Rattle.std.proofs.Common.{◌≡◌, ◌==◌, ◌≤◌, ◌<◌, ℕ, zero, suc, ◌+◌, ◌-◌, ◌*◌, ◌/◌, ◌%◌, min, max, nat_lt, [], Bool, true, false, not, ◌&&◌, ◌||◌, refl, sym, ap, subst, ◌∙◌, inl, inr, arith, if◌then◌else◌}
use Rattle.std.proofs.lemmas.Bool.{cases_lt, ne_eqb, lt-ltb}
use Rattle.std.proofs.lemmas.Bool.Decides.{nat_tests}
use Rattle.std.proofs.lemmas.List.{append-nil}
use Rattle.std.proofs.Math.Nat.{add-mul, div-add-mod, div-zero, mul-le-mul_right, min-le_right}
use Rattle.data_map.specs.declared.check.RawMap.{RawMap}
use Rattle.data_map.specs.Striping.{groups}
use Rattle.data_map.proofs.Covering.{div_mono}
use Rattle.server_rules.specs.declared.files.Component.{Component}
use Rattle.server_rules.specs.declared.files.Kept.{Kept}
use Rattle.server_rules.specs.declared.grants.Grant.{Grant}
use Rattle.server_rules.specs.declared.grants.Stripes.{Stripes}
use Rattle.server_rules.specs.Grants.{overlaps, conflicts}
use Rattle.server_rules.specs.Layouts.{capability_for}
use Rattle.server_rules.specs.Maps.{group_with, rows_below, stands_in, rows_in}
use Rattle.history_law.specs.Touching.{IsInside}
use Rattle.history_law.specs.Safe.{HistoriesAreSafe}
use Rattle.history_law.specs.Ranges.{AreApart, RangesAreApart}

-- ---- rows rise with stripes

quotient_mono : (p s t : ℕ) → s ≤ t → s / p ≤ t / p
quotient_mono zero s t l = let a = div-zero s in let b = div-zero t in omega (arith, a, b)
quotient_mono (suc p) s t l = div_mono s t (suc p) (omega arith) l

-- the rests of equal quotients
rest_mono : (p q s t : ℕ) → s ≤ t → s / p ≡ q → t / p ≡ q → s % p ≤ t % p
rest_mono p q s t l is too =
    let a : p * q + s % p ≡ s = subst (λ (n : ℕ). p * n + s % p ≡ s) is (div-add-mod s p) in
    let b : p * q + t % p ≡ t = subst (λ (n : ℕ). p * n + t % p ≡ t) too (div-add-mod t p) in
    below (p * q) (s % p) (t % p) s t a b l
  where
    below : (m x y u v : ℕ) → m + x ≡ u → m + y ≡ v → u ≤ v → x ≤ y
    below m x y u v a b l = omega (arith, a, b, l)

min_mono : (x y c d : ℕ) → x ≤ y → min (x - c) d ≤ min (y - c) d
min_mono x y c d l = omega (arith, l)

either_mono : (b : Bool) (s t x y : ℕ) → s ≤ t → x ≤ y → (if b then s else x) ≤ (if b then t else y)
either_mono true s t x y l m = l
either_mono false s t x y l m = m

block_mono : (p d c s t : ℕ) → s ≤ t → (s / p) * d + min (s % p - c) d ≤ (t / p) * d + min (t % p - c) d
block_mono p d c s t l = elim (cases_lt (s / p) (t / p)) [
  | inl less ↦ further ((s / p) * d) (min (s % p - c) d) d ((t / p) * d) (min (t % p - c) d)
      (min-le_right (s % p - c) d)
      (add_one (s / p) d ((t / p) * d) (mul-le-mul_right d (next (s / p) (t / p) less)))
  | inr from ↦ let same : t / p ≡ s / p = closed (s / p) (t / p) (quotient_mono p s t l) from in
      within ((s / p) * d) _ ((t / p) * d) _ (ap (λ (n : ℕ). n * d) same)
      (min_mono (s % p) (t % p) c d (rest_mono p (s / p) s t l refl same))
]
  where
    next : (a b : ℕ) → a < b → a + 1 ≤ b
    next a b l = omega (arith, l)

    closed : (a b : ℕ) → a ≤ b → b ≤ a → b ≡ a
    closed a b l m = omega (arith, l, m)

    add_one : (a d e : ℕ) → (a + 1) * d ≤ e → a * d + d ≤ e
    add_one a d e l = omega (arith, l)

    further : (a x d b y : ℕ) → x ≤ d → a + d ≤ b → a + x ≤ b + y
    further a x d b y l m = omega (arith, l, m)

    within : (a x b y : ℕ) → b ≡ a → x ≤ y → a + x ≤ b + y
    within a x b y e l = omega (arith, e, l)

pub rows_mono : (m : RawMap) (g s t : ℕ) → s ≤ t → rows_below m g s ≤ rows_below m g t
unfolding rows_below
rows_mono m g s t l =
    either_mono (m.width == 0) s t _ _ l (block_mono (m.depth * groups m) m.depth (g * m.depth) s t l)

-- ---- a byte of rows

-- a byte of these rows of a component
abbrev IsIn : (unit : ℕ) → Stripes → (x : ℕ) → Type 0
IsIn unit rows x = (rows.first * unit ≤ x) × (x < rows.first * unit + (rows.end - rows.first) * unit)

pub joined : (p q u : ℕ) → p ≤ q → p * u + (q - p) * u ≡ q * u
joined p q u l =
    let whole : p + (q - p) ≡ q = omega (arith, l) in sym (add-mul p (q - p) u) ∙ ap (λ (n : ℕ). n * u) whole

-- lies between the rows of the first and of the last stripe
chosen_between : (b : Bool) (u p q x : ℕ) → nat_lt p q ≡ b
    → IsIn u (if b then record { first = p; end = q } else record { first = 0; end = 0 }) x → (p * u ≤ x) × (x < q * u)
chosen_between true u p q x less i = (i.0, subst (λ (n : ℕ). x < n) (joined p q u (below p q less)) i.1)
  where
    below : (a b : ℕ) → nat_lt a b ≡ true → a ≤ b
    below a b e = grind (arith, e, nat_tests)
chosen_between false u p q x less i = absurd (nothing u x i.1)
  where
    nothing : (u x : ℕ) → x < 0 * u + (0 - 0) * u → ⊥
    nothing u x l = omega (arith, l)

inside_between : (f : Kept) (g : Grant) (at : Component) (k x : ℕ) → IsInside (capability_for f g at k) x
    → (rows_below f.map (group_with f.map k) g.first * f.map.unit ≤ x)
    × (x < rows_below f.map (group_with f.map k) g.end * f.map.unit)
unfolding rows_in
inside_between f g at k x i =
    chosen_between (stands_in f.map (group_with f.map k) g.first g.end) f.map.unit
    (rows_below f.map (group_with f.map k) g.first) (rows_below f.map (group_with f.map k) g.end) x refl i

-- so the one stripe is below the other
stripes_rise : (m : RawMap) (g s t u x : ℕ) → rows_below m g s * u ≤ x → x < rows_below m g t * u → s < t
stripes_rise m g s t u x l n = elim (cases_lt s t) [
  | inl less ↦ less
  | inr from ↦ absurd (beyond (rows_below m g t * u) (rows_below m g s * u) x
      (mul-le-mul_right u (rows_mono m g t s from)) l n)
]
  where
    beyond : (a b x : ℕ) → a ≤ b → b ≤ x → x < a → ⊥
    beyond a b x l m n = omega (arith, l, m, n)

-- ---- grants that don't conflict

no_overlap : (c r s o e : Bool) → (not c && (((r || s) && o) || e)) ≡ false → c ≡ false → r ≡ true → o ≡ false
no_overlap true r s o e none is writes = absurd (cc is)
no_overlap false false s o e none is writes = absurd (cc writes)
no_overlap false true s true e none is writes = absurd (cc none)
no_overlap false true s false e none is writes = refl

do_overlap : (a b : Grant) → a.first < a.end → a.first < b.end → b.first < a.end → b.first < b.end → overlaps a b ≡ true
unfolding overlaps
do_overlap a b l m n o = lt-ltb (max a.first b.first) (min a.end b.end) (both a.first b.first a.end b.end l m n o)
  where
    both : (p q s t : ℕ) → p < s → p < t → q < s → q < t → max p q < min s t
    both p q s t l m n o = omega (arith, l, m, n, o)

grants_apart : (a b : Grant) (k : ℕ) → conflicts a b ≡ false → (a.client ≡ b.client → ⊥) → a.rw ≡ true → AreApart k a b
unfolding conflicts
grants_apart a b k none others writes f g map at there x i j =
    let u = f.map.unit in
    let n = group_with f.map k in
    let p = inside_between f a at k x i in
    let q : (rows_below f.map n b.first * u ≤ x) × (x < rows_below f.map n b.end * u) =
    subst (λ (m : RawMap). (rows_below m (group_with m k) b.first * m.unit ≤ x)
    × (x < rows_below m (group_with m k) b.end * m.unit))
    (sym map) (inside_between g b there k x j) in
    let apart : overlaps a b ≡ false =
    no_overlap (a.client == b.client) a.rw b.rw (overlaps a b) (a.extending || b.extending) none
    (ne_eqb a.client b.client others) writes in
    let together : overlaps a b ≡ true =
    do_overlap a b (stripes_rise f.map n a.first a.end u x p.0 p.1) (stripes_rise f.map n a.first b.end u x p.0 q.1)
    (stripes_rise f.map n b.first a.end u x q.0 p.1) (stripes_rise f.map n b.first b.end u x q.0 q.1) in
    absurd (cc (sym together ∙ apart))

pub ranges_are_apart : HistoriesAreSafe → RangesAreApart
ranges_are_apart safe h l file a b ina inb differ writes k =
    let here = (safe h l).grants h [] (sym (append-nil h)) file a b ina inb in
    grants_apart a b k here.0 (λ (e : a.client ≡ b.client). differ (here.1 e)) writes
