-- What a plan asks under a grant lies in the ranges of the capabilities that the client has.
use Rattle.std.proofs.Common.{◌≡◌, ◌==◌, ◌≤◌, ◌<◌, ℕ, zero, suc, ◌+◌, ◌-◌, ◌*◌, true, false, List, [], ◌∷◌, ◌++◌, length, is_some, slice_get, Option, Some, None, refl, sym, ap, subst, ◌∙◌, inl, inr, arith}
use Rattle.std.specs.List.{AllByRecursion}
use Rattle.std.proofs.lemmas.Bool.{cases_Bool, cases_lt, cases_eq, eq-eqb, ne_eqb}
use Rattle.std.proofs.lemmas.Nat.{le-div, mul-le}
use Rattle.std.proofs.Math.Nat.{add-mul, mul-le-mul_right, div-mul-le_self}
use Rattle.osd_lists.proofs.Tests.{first_false, second_false}
use Rattle.osd_lists.proofs.Slices.{some_at}
use Rattle.data_map.specs.declared.check.RawMap.{RawMap}
use Rattle.data_map.specs.declared.ranges.TheConstants.{MAX_FILE_SIZE}
use Rattle.data_map.specs.Check.{IsChecked}
use Rattle.data_map.specs.Striping.{group_of, row_of, stripe_length, stripe_of}
use Rattle.data_map.proofs.Shape.{some_data, some_stripe}
use Rattle.data_map.proofs.Striping.{row_below}
use Rattle.stripe_plan.specs.declared.plan.Span.{Span}
use Rattle.stripe_plan.specs.declared.plan.Stretch.{Stretch}
use Rattle.stripe_plan.specs.declared.plan.Ask.{Ask}
use Rattle.stripe_plan.specs.declared.plan.Aim.{Aim}
use Rattle.stripe_plan.specs.Touched.{end_of, stripes}
use Rattle.stripe_plan.specs.Lost.{among}
use Rattle.stripe_plan.specs.Asks.{asks}
use Rattle.exchange_law.specs.PlaceState.{Credential, Listed, Held, TimedOut}
use Rattle.client_rules.specs.Grants.{missing_from, missing_of}
use Rattle.client_rules.specs.Io.{outs}
use Rattle.server_rules.specs.declared.files.Component.{Component}
use Rattle.server_rules.specs.declared.files.Kept.{Kept}
use Rattle.server_rules.specs.declared.grants.Grant.{Grant}
use Rattle.server_rules.specs.Layouts.{capability_for}
use Rattle.server_rules.specs.Maps.{group_with, rows_in}
use Rattle.exchange_law.specs.Kept.{IsGrant}
use Rattle.exchange_law.specs.Asked.{AskFits, IsHeldIn}
use Rattle.exchange_law.proofs.PlaceLists.{all_wider, all_between}
use Rattle.exchange_law.proofs.PlaceRows.{row_among}
use Rattle.exchange_law.proofs.Plans.{IsAsked, asks_in}

-- ---- stripes of a range under a grant

-- a stripe of the grant, which begins in a file
abbrev pub IsGranted : (first end u : ℕ) → (s : ℕ) → Type 0
IsGranted first end u s = (first ≤ s) × (s < end) × (s * u ≤ MAX_FILE_SIZE)

granted_stripe : (first end u off e a b s : ℕ) → first ≤ a → b * u ≤ e - 1 → 0 < e
    → e ≤ first * u + (end - first) * u → e ≤ MAX_FILE_SIZE → a ≤ s → s ≤ b → IsGranted first end u s
granted_stripe first end u off e a b s low high some inside small from to =
    let here : s * u ≤ b * u = mul-le-mul_right u to in
    let below : s * u < e = omega (arith, here, high, some) in (
      omega (arith, low, from),
      elim (cases_lt s end) [
        | inl less ↦ less
        | inr past ↦
            let all : first + (end - first) ≤ s = omega (arith, low, from, past) in
            let whole : first * u + (end - first) * u ≡ (first + (end - first)) * u =
            sym (add-mul first (end - first) u) in
            let most : (first + (end - first)) * u ≤ s * u = mul-le-mul_right u all in
            absurd (omega (arith, below, inside, whole, most))
      ],
      omega (arith, below, small),
    )

stripes_granted : (m : RawMap) (r : Span) (first end : ℕ) → IsChecked m → first * stripe_length m ≤ r.offset
    → end_of r ≤ first * stripe_length m + (end - first) * stripe_length m → end_of r ≤ MAX_FILE_SIZE
    → AllByRecursion (IsGranted first end (stripe_length m)) (stripes m r)
unfolding stripes
stripes_granted m r first end ch low high small = elim (cases_eq r.length 0) [
  | inl none ↦ rw (eq-eqb r.length 0 none) tt
  | inr some ↦
      let a : ℕ = stripe_of m r.offset in
      let b : ℕ = stripe_of m (end_of r - 1) in
      let from : first ≤ a = le-div first r.offset (stripe_length m) (some_stripe m ch) low in
      let last : b * stripe_length m ≤ end_of r - 1 = div-mul-le_self (end_of r - 1) (stripe_length m) in
      let bytes : 0 < end_of r = omega (arith, some) in
      rw (ne_eqb r.length 0 some) (all_wider _ (IsGranted first end (stripe_length m))
      (λ s k. granted_stripe first end (stripe_length m) r.offset (end_of r) a b s from last bytes high small k.0
      (within a b s k.0 k.1)) _ (all_between a (b + 1 - a)))
]
  where
    within : (a b s : ℕ) → a ≤ s → s < a + (b + 1 - a) → s ≤ b
    within a b s l m = omega (arith, l, m)

-- ---- components that aren't missing

not_front : (k : ℕ) (xs ys : List ℕ) → among k (xs ++ ys) ≡ false → among k xs ≡ false
not_front k [] ys e = refl
not_front k (x ∷ xs) ys e =
    let rest = not_front k xs ys (second_false (x == k) (among k (xs ++ ys)) e) in
    rw (first_false (x == k) (among k (xs ++ ys)) e, rest) refl

not_missing : (ls : List Listed) (k j : ℕ) (l : Listed) → slice_get ls j ≡ Some l
    → among (k + j) (missing_from ls k) ≡ false → is_some l.credential ≡ true
unfolding missing_from
not_missing [] k j l e n = absurd (cc e)
not_missing (x ∷ ls) k zero l e n = elim (cases_Bool (is_some x.credential)) [
  | inl has ↦ let same : x ≡ l = cc e in subst (λ (y : Listed). is_some y.credential ≡ true) same has
  | inr not ↦ absurd (itself k _ (rw not at n))
]
  where
    itself : (k : ℕ) (xs : List ℕ) → among (k + 0) (k ∷ xs) ≡ false → ⊥
    itself k xs e = let z : k ≡ k + 0 = omega arith in
        cc (sym (eq-eqb k (k + 0) z) ∙ first_false (k == k + 0) (among (k + 0) xs) e)
not_missing (x ∷ ls) k (suc j) l e n = elim (cases_Bool (is_some x.credential)) [
  | inl has ↦ not_missing ls (k + 1) j l e (next k j _ (rw has at n))
  | inr not ↦ not_missing ls (k + 1) j l e (next k j _ (second_false (k == k + suc j) _ (rw not at n)))
]
  where
    next : (k j : ℕ) (xs : List ℕ) → among (k + suc j) xs ≡ false → among (k + 1 + j) xs ≡ false
    next k j xs e = let same : k + suc j ≡ k + 1 + j = omega arith in
        subst (λ (n : ℕ). among n xs ≡ false) same e

some_there : (o : Option Credential) → is_some o ≡ true → (c : Credential) × (o ≡ Some c)
some_there None e = absurd (cc e)
some_there (Some c) e = (c, refl)

-- ---- bytes of a component

-- a component of this number that isn't out
pub record IsListed (h : Held) (k : ℕ) : Type 0 where
  pub listed : Listed
  pub found : slice_get h.components k ≡ Some listed
  pub credential : Credential
  pub has : listed.credential ≡ Some credential

pub is_listed : (h : Held) (timed : List TimedOut) (k : ℕ) → k < length h.components → among k (outs h timed) ≡ false
    → IsListed h k
unfolding outs
is_listed h timed k low there =
    let l = some_at h.components k low in
    let z : k ≡ 0 + k = omega arith in
    let not : among (0 + k) (missing_from h.components 0) ≡ false =
    subst (λ (n : ℕ). among n (missing_from h.components 0) ≡ false) z (not_front k (missing_of h) _ there) in
    let c = some_there l.0.credential (not_missing h.components 0 k l.0 l.1 not) in
    record { listed = l.0; found = l.1; credential = c.0; has = c.1 }

module _ (f : Kept) (g : Grant) (h : Held) (k : IsGrant f g h) where
  in_range : (at : Component) (n s off len : ℕ) → group_with f.map n ≡ group_of f.map s → g.first ≤ s → s < g.end
      → row_of f.map s * f.map.unit ≤ off → off + len ≤ row_of f.map s * f.map.unit + f.map.unit
      → ((capability_for f g at n).range_start ≤ off)
      × (off + len ≤ (capability_for f g at n).range_start + (capability_for f g at n).range_len)
  in_range at n s off len group from to low high =
      let rows = rows_in f.map (group_of f.map s) g.first g.end in
      let among_rows = row_among f.map s g.first g.end k.checked from to in
      let next : row_of f.map s + 1 ≤ rows.end = omega (arith, among_rows.1) in
      let start : rows.first * f.map.unit ≤ row_of f.map s * f.map.unit = mul-le-mul_right f.map.unit among_rows.0 in
      let end : (row_of f.map s + 1) * f.map.unit ≤ rows.end * f.map.unit = mul-le-mul_right f.map.unit next in
      let one : (row_of f.map s + 1) * f.map.unit ≡ row_of f.map s * f.map.unit + f.map.unit = omega arith in
      let order : rows.first + (rows.end - rows.first) ≡ rows.end = omega (arith, among_rows.0, next) in
      let whole : rows.first * f.map.unit + (rows.end - rows.first) * f.map.unit ≡ rows.end * f.map.unit =
      sym (add-mul rows.first (rows.end - rows.first) f.map.unit) ∙ ap (λ (x : ℕ). x * f.map.unit) order in
      rw group (omega (arith, start, low), omega (arith, whole, end, one, high))

  ask_fits : (timed : List TimedOut) (a : Ask)
      → IsAsked f.map (outs h timed) (IsGranted g.first g.end (stripe_length f.map)) a → AskFits h.components a
  ask_fits timed a (s, granted, row) =
      let listed = is_listed h timed a.component (omega (arith, k.complete, row.below)) row.there in
      let own = k.present a.component listed.listed listed.credential listed.found listed.has in
      let range = in_range own.at a.component s a.offset a.length row.group granted.0 granted.1 row.low row.high in
      let rows : row_of f.map s * f.map.unit ≤ s * stripe_length f.map =
      mul-le (row_of f.map s) f.map.unit s (stripe_length f.map) (row_below f.map s)
      (omega (arith, mul-le-mul_right f.map.unit (some_data f.map k.checked))) in
      record {
        listed = listed.listed;
        found = listed.found;
        credential = listed.credential;
        has = listed.has;
        first = rw own.capability range.0;
        end = rw own.capability range.1;
        near = omega (arith, rows, granted.2, row.high, k.checked.short_unit);
        short = omega (arith, row.low, row.high, k.checked.short_unit);
      }

  reach_end : h.reach.end ≤ g.first * stripe_length f.map + (g.end - g.first) * stripe_length f.map
  reach_end = omega (arith, k.end)

  reach_limit : h.reach.end ≤ MAX_FILE_SIZE
  reach_limit = omega (arith, k.end)

  -- whatever is had and whichever components timed out
  pub plan_fits : (aim : Aim) (r : Span) (timed : List TimedOut) (had : List Stretch) → IsHeldIn h.reach r
      → AllByRecursion (AskFits h.components) (asks aim h.map r (outs h timed) had (stripes h.map r))
  plan_fits aim r timed had inside =
      let low : g.first * stripe_length f.map ≤ r.offset = omega (arith, k.first, inside.0) in
      let high : end_of r ≤ g.first * stripe_length f.map + (g.end - g.first) * stripe_length f.map =
      omega (arith, reach_end, inside.1) in
      let small : end_of r ≤ MAX_FILE_SIZE = omega (arith, reach_limit, inside.1) in
      subst (λ (m : RawMap). AllByRecursion (AskFits h.components) (asks aim m r (outs h timed) had (stripes m r)))
      (sym k.map)
      (all_wider (IsAsked f.map (outs h timed) (IsGranted g.first g.end (stripe_length f.map)))
      (AskFits h.components) (ask_fits timed) _ (asks_in (IsGranted g.first g.end (stripe_length f.map)) aim f.map r
      (outs h timed) had (stripes f.map r) k.checked (stripes_granted f.map r g.first g.end k.checked low high small)))
