-- If all that a zoned file lost stood in one zone, its code brings it back.
use Rattle.std.proofs.Common.{◌≡◌, ℕ, zero, suc, ◌+◌, ◌-◌, ◌*◌, ◌/◌, ◌≤◌, ◌<◌, ◌==◌, ◌∷◌, [], List, Bool, true, Some, length, drop, filter, slice_get, refl, sym, ap, subst, ◌∙◌, arith, inl, inr, true≢false}
use Rattle.std.specs.Prelude.{is_none}
use Rattle.std.specs.List.{range_with_len}
use Rattle.std.proofs.Math.Nat.{div-eq_of_lt-le, mul-le-mul_left, mul-le-mul_right}
use Rattle.std.proofs.lemmas.Bool.{cases_Bool, cases_lt, eq-eqb, le-ltb}
use Rattle.std.proofs.lemmas.List.{drop-drop}
use Rattle.std.proofs.lemmas.Nat.{div-mul-add}
use Rattle.data_map.specs.declared.check.RawMap.{RawMap}
use Rattle.data_map.specs.Striping.{replicas, group_width, groups, parities, group_of}
use Rattle.zone_place.specs.declared.asks.ZoneAsk.{ZoneAsk}
use Rattle.zone_place.specs.Zones.{InZone, ask_of, stands_in}
use Rattle.stripe_plan.specs.Lost as plan
use Rattle.server_rules.specs.declared.files.Kept.{Kept}
use Rattle.server_rules.specs.declared.files.Component.{Component}
use Rattle.server_rules.specs.Standing.{replica, lacking}
use Rattle.server_rules.specs.Zoning.{holders_from}
use Rattle.exchange_law.proofs.Missing.{missing_replica, component_at}
use Rattle.exchange_law.proofs.Enough.{not_out}
use Rattle.component_law.specs.Spread.{IsSpread}
use Rattle.component_law.specs.Failing.{AreLostIn, OneZoneIsBorne, NoneIsBeyond}
use Rattle.component_law.proofs.Holders.{counts, one_if, count_first}

-- ---- places in lists

get_behind : (a i : ℕ) (cs : List Component) → slice_get (drop a cs) i ≡ slice_get cs (a + i)
get_behind zero i cs = let z : 0 + i ≡ i = omega arith in rw z refl
get_behind (suc a) i [] = refl
get_behind (suc a) i (c ∷ cs) = let s : suc a + i ≡ suc (a + i) = omega arith in rw s (get_behind a i cs)

-- ---- how many components positions have that are out

module _ (ds : List InZone) (f : Kept) (zone : ℕ) (out : ℕ → Bool) (group : ℕ) where
  abbrev m : RawMap
  m = f.map

  abbrev ask : ZoneAsk
  ask = ask_of f.map

  abbrev cs : List Component
  cs = f.components

  -- each replica of a position that is out is there, in the zone
  abbrev IsOutIn : Type 0
  IsOutIn =
      (p i : ℕ) → out p ≡ true → group * group_width m ≤ p → p < group * group_width m + group_width m → i < replicas m
      → (at : Component) × (slice_get cs (p * replicas m + i) ≡ Some at) × (stands_in ds at.drive zone ≡ true)

  abbrev counted : List Component → (k : ℕ) → ℕ
  counted xs k = length (filter (counts ask ds group zone) (holders_from xs k))

  counted_first : (x : Component) (xs : List Component) (k : ℕ)
      → counted (x ∷ xs) k ≡ one_if (counts ask ds group zone (record { component = k; drive = x.drive })) + counted xs (k + 1)
  unfolding holders_from
  counted_first x xs k =
      count_first (counts ask ds group zone) (record { component = k; drive = x.drive }) (holders_from xs (k + 1))

  counted_none : (k : ℕ) → counted [] k ≡ 0
  unfolding holders_from
  counted_none k = refl

  -- the first ones count no less
  counted_behind : (n : ℕ) (xs : List Component) (k : ℕ) → counted (drop n xs) (k + n) ≤ counted xs k
  counted_behind zero xs k = let z : k + 0 ≡ k = omega arith in rw z (omega arith)
  counted_behind (suc n) [] k = omega (arith, counted_none (k + suc n), counted_none k)
  counted_behind (suc n) (x ∷ xs) k =
      let on : k + 1 + n ≡ k + suc n = omega arith in
      let rest : counted (drop n xs) (k + suc n) ≤ counted xs (k + 1) =
      subst (λ (j : ℕ). counted (drop n xs) j ≤ counted xs (k + 1)) on (counted_behind n xs (k + 1)) in
      omega (arith, rest, counted_first x xs k)

  -- where they are all in the zone, and of the group, they count
  counted_all : (n : ℕ) (xs : List Component) (k : ℕ)
      → ((i : ℕ) → i < n → (at : Component) × (slice_get xs i ≡ Some at) × (stands_in ds at.drive zone ≡ true))
      → ((i : ℕ) → i < n → (k + i) / ask.size ≡ group)
      → counted xs k ≡ n + counted (drop n xs) (k + n)
  counted_all zero xs k there its = let z : k + 0 ≡ k = omega arith in rw z (omega arith)
  counted_all (suc n) [] k there its = let x = there 0 (omega arith) in absurd (cc x.1)
  counted_all (suc n) (x ∷ xs) k there its =
      let first = there 0 (omega arith) in
      let same : x ≡ first.0 = cc first.1 in
      let z : k + 0 ≡ k = omega arith in
      let here : (k / ask.size == group) ≡ true =
      eq-eqb (k / ask.size) group (ap (λ (j : ℕ). j / ask.size) (sym z) ∙ its 0 (omega arith)) in
      let stands : stands_in ds x.drive zone ≡ true = ap (λ (y : Component). stands_in ds y.drive zone) same ∙ first.2 in
      let one : counts ask ds group zone (record { component = k; drive = x.drive }) ≡ true = rw (here, stands) refl in
      let on : k + 1 + n ≡ k + suc n = omega arith in
      let rest : counted xs (k + 1) ≡ n + counted (drop n xs) (k + suc n) =
      subst (λ (j : ℕ). counted xs (k + 1) ≡ n + counted (drop n xs) j) on
      (counted_all n xs (k + 1) (λ i l. there (suc i) (omega (arith, l)))
      (λ i l. let s : k + suc i ≡ k + 1 + i = omega arith in
      ap (λ (j : ℕ). j / ask.size) (sym s) ∙ its (suc i) (omega (arith, l)))) in
      omega (arith, rest, counted_first x xs k, ap one_if one)

  module _ (given : IsOutIn) where
    of_group : (p i : ℕ) → group * group_width m ≤ p → p < group * group_width m + group_width m → i < replicas m
        → (p * replicas m + i) / ask.size ≡ group
    of_group p i low high l =
        let a : group * group_width m * replicas m ≤ p * replicas m = mul-le-mul_right (replicas m) low in
        let b : (p + 1) * replicas m ≤ (group * group_width m + group_width m) * replicas m =
        mul-le-mul_right (replicas m) (omega (arith, high)) in
        div-eq_of_lt-le (group_width m * replicas m) (omega (arith, a)) (omega (arith, b, l))

    -- each of these positions that is out has as many as there are replicas
    counted_out : (n p : ℕ) → group * group_width m ≤ p → p + n ≤ group * group_width m + group_width m
        → length (filter out (range_with_len p n)) * replicas m ≤ counted (drop (p * replicas m) cs) (p * replicas m)
    counted_out zero p low high = omega arith
    counted_out (suc n) p low high =
        let r : ℕ = replicas m in
        let k : ℕ = p * r in
        let rest = counted_out n (p + 1) (omega (arith, low)) (omega (arith, high)) in
        let on : (p + 1) * r ≡ k + r = omega arith in
        let cut : drop ((p + 1) * r) cs ≡ drop r (drop k cs) = ap (λ (j : ℕ). drop j cs) on ∙ sym (drop-drop r k cs) in
        let next : counted (drop ((p + 1) * r) cs) ((p + 1) * r) ≡ counted (drop r (drop k cs)) (k + r) = rw (cut, on) refl in
        elim (cases_Bool (out p)) [
          | inl t ↦
              let all = counted_all r (drop k cs) k
              (λ i l. let x = given p i t low (omega (arith, high)) l in (x.0, get_behind k i cs ∙ x.1, x.2))
              (λ i l. of_group p i low (omega (arith, high)) l) in
              rw t (omega (arith, rest, next, all))
          | inr z ↦ rw z (omega (arith, rest, next, counted_behind r (drop k cs) k))
        ]

    few_out : IsSpread ds f → length (filter out (range_with_len (group * group_width m) (group_width m))) ≤ parities m
    few_out h =
        let q : ℕ = length (filter out (range_with_len (group * group_width m) (group_width m))) in
        let r : ℕ = replicas m in
        let k : ℕ = group * group_width m * r in
        let many : q * r ≤ counted (drop k cs) k =
        counted_out (group_width m) (group * group_width m) (omega arith) (omega arith) in
        let z : 0 + k ≡ k = omega arith in
        let behind : counted (drop k cs) k ≤ counted cs 0 =
        subst (λ (j : ℕ). counted (drop k cs) j ≤ counted cs 0) z (counted_behind k cs 0) in
        let few : counted cs 0 ≤ (parities m + 1) * r - 1 = h.few group zone in
        let some : (parities m + 1) * 1 ≤ (parities m + 1) * r = mul-le-mul_left (parities m + 1) (omega arith) in
        elim (cases_lt (parities m) q) [
          | inl more ↦
              let over : (parities m + 1) * r ≤ q * r = mul-le-mul_right r (omega (arith, more)) in
              absurd (omega (arith, many, behind, few, some, over))
          | inr l ↦ l
        ]

-- ---- lost components

as_filter : (m : RawMap) (lost : List ℕ) (p n : ℕ)
    → plan.out_from m lost p n ≡ filter (plan.is_out m lost) (range_with_len p n)
unfolding plan.out_from
as_filter m lost p zero = refl
as_filter m lost p (suc n) = elim (cases_Bool (plan.is_out m lost p)) [
  | inl t ↦ rw t (ap (λ (ps : List ℕ). p ∷ ps) (as_filter m lost (p + 1) n))
  | inr z ↦ rw z (as_filter m lost (p + 1) n)
]

all_lost : (m : RawMap) (lost : List ℕ) (p i : ℕ) → plan.is_out m lost p ≡ true → i < replicas m
    → plan.among (p * replicas m + i) lost ≡ true
all_lost m lost p i e l = elim (cases_Bool (plan.among (p * replicas m + i) lost)) [
  | inl t ↦ t
  | inr z ↦ absurd (true≢false (sym e ∙ not_out m lost p (p * replicas m + i) (div-mul-add p (replicas m) i l) z))
]

few_lost : (ds : List InZone) (f : Kept) (zone : ℕ) (lost : List ℕ) → IsSpread ds f → AreLostIn ds f zone lost
    → (group : ℕ) → length (plan.positions_out f.map lost group) ≤ parities f.map
unfolding plan.positions_out
few_lost ds f zone lost h all group =
    let few = few_out ds f zone (plan.is_out f.map lost) group
    (λ p i e low high l. all (p * replicas f.map + i) (all_lost f.map lost p i e l)) h in
    subst (λ (ps : List ℕ). length ps ≤ parities f.map)
    (sym (as_filter f.map lost (group * group_width f.map) (group_width f.map))) few

pub one_zone_is_borne : OneZoneIsBorne
unfolding plan.is_short
one_zone_is_borne ds f zone lost h all = record {
  positions = few_lost ds f zone lost h all;
  stripes = λ s. le-ltb _ _ (few_lost ds f zone lost h all (group_of f.map s));
}

-- ---- missing components

pub none_is_beyond : NoneIsBeyond
unfolding lacking
none_is_beyond ds f zone h all group less =
    let m : RawMap = f.map in
    le-ltb _ _ (few_out ds f zone (λ p. is_none (replica m f.components p)) group
    (λ p i e low high l.
    let k : ℕ = p * replicas m + i in
    let a : (group + 1) * group_width m ≤ groups m * group_width m = mul-le-mul_right (group_width m) (omega (arith, less)) in
    let b : (p + 1) * replicas m ≤ groups m * group_width m * replicas m =
    mul-le-mul_right (replicas m) (omega (arith, a, high)) in
    let at = component_at f.components k (omega (arith, h.whole, b, l)) in
    (at.0, at.1, all k at.0 at.1 (missing_replica m p f.components i at.0 e at.1 l))) h)
