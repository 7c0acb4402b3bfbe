-- Where enough is left of each stripe of a range, a writer there lacks no component.
use Rattle.std.proofs.Common.{◌≡◌, ◌==◌, ◌<◌, ◌≤◌, ℕ, zero, suc, ◌+◌, ◌*◌, ◌/◌, ◌&&◌, Bool, true, false, List, [], ◌∷◌, Some, None, length, slice_get, filter, refl, ap, subst, ◌∙◌, arith, inl, inr}
use Rattle.std.specs.Prelude.{is_none}
use Rattle.std.specs.List.{range_with_len}
use Rattle.std.proofs.lemmas.Bool.{cases_Bool, cases_lt, le-ltb, ltb-true, eq-eqb, or_right}
use Rattle.std.proofs.lemmas.Bool.Decides.{nat_tests}
use Rattle.std.proofs.Math.Nat.{add-mul, mul-le-mul_right}
use Rattle.data_map.specs.declared.check.RawMap.{RawMap}
use Rattle.data_map.specs.Check.{IsChecked}
use Rattle.data_map.specs.Inverse.{stripe_in}
use Rattle.data_map.specs.Striping.{replicas, positions, group_width, groups, group_of, row_of, parities}
use Rattle.data_map.proofs.Shape.{replicas_inside, whole_positions, whole_groups}
use Rattle.data_map.proofs.Striping.{group_again, row_again}
use Rattle.stripe_plan.specs.Lost.{among, source_from, source, is_out, out_from, positions_out, is_short}
use Rattle.world_history.specs.ServerNames.{Component}
use Rattle.server_rules.specs.Maps.{group_with, rows_below, stands_in}
use Rattle.server_rules.specs.Standing.{replica, lacking, is_beyond, lacked_from}
use Rattle.exchange_law.proofs.Missing.{missing_replica, component_at}
use Rattle.exchange_law.proofs.PlaceRows.{rows_to, rows_from}
use Rattle.exchange_law.proofs.HeldTaken.{below_product}
use Rattle.ready_law.specs.Ready.{Scene, is_lost, lost_from, lost_of}
use Rattle.ready_law.specs.Enough.{AreMissingAmong, LostAreListed, NoneIsLacked}

-- ---- lost components

lost_at : (s : Scene) (cs : List Component) (j i : ℕ) (at : Component) → slice_get cs i ≡ Some at → is_lost s at ≡ true
    → among (j + i) (lost_from s cs j) ≡ true
unfolding lost_from
lost_at s [] j i at e l = absurd (cc e)
lost_at s (c ∷ cs) j zero at e l =
    let same : c ≡ at = cc e in
    let here : is_lost s c ≡ true = ap (λ (x : Component). is_lost s x) same ∙ l in
    let z : j + 0 ≡ j = omega arith in
    rw (z, here, eq-eqb j j refl) refl
lost_at s (c ∷ cs) j (suc i) at e l =
    let on : j + suc i ≡ j + 1 + i = omega arith in
    let rest = lost_at s cs (j + 1) i at e l in
    rw on (elim (cases_Bool (is_lost s c)) [
      | inl t ↦ rw t (or_right (j == j + 1 + i) (among (j + 1 + i) (lost_from s cs (j + 1))) rest)
      | inr f ↦ rw f rest
    ])

pub lost_are_listed : LostAreListed
lost_are_listed s f k at e l =
    let z : 0 + k ≡ k = omega arith in
    subst (λ (n : ℕ). among n (lost_of s f) ≡ true) z (lost_at s f.components 0 k at e l)

-- ---- a position without a present replica

no_source : (lost : List ℕ) (k n : ℕ) → ((i : ℕ) → i < n → among (k + i) lost ≡ true)
    → is_none (source_from lost k n) ≡ true
unfolding source_from
no_source lost k zero h = refl
no_source lost k (suc n) h =
    let z : k + 0 ≡ k = omega arith in
    let here : among k lost ≡ true = subst (λ (x : ℕ). among x lost ≡ true) z (h 0 (omega arith)) in
    rw here (no_source lost (k + 1) n (λ i l.
    let on : k + suc i ≡ k + 1 + i = omega arith in
    subst (λ (x : ℕ). among x lost ≡ true) on (h (suc i) (omega (arith, l)))))

-- ---- a stripe of a group in a range

stripe_there : (m : RawMap) (g first end : ℕ) → IsChecked m → g < groups m → stands_in m g first end ≡ true
    → (s : ℕ) × (first ≤ s) × (s < end) × (group_of m s ≡ g)
stripe_there m g first end ch less stands =
    let row : ℕ = rows_below m g first in
    let s : ℕ = stripe_in m g row in
    let its : group_of m s ≡ g = group_again m g row ch less in
    let at : row_of m s ≡ row = row_again m g row ch less in
    let more : row < rows_below m g end = ltb-true _ _ stands in
    let low : first ≤ s = elim (cases_lt s first) [
      | inl l ↦
          let under : row_of m s < rows_below m g first =
          subst (λ (x : ℕ). row_of m s < rows_below m x first) its (rows_from m s first ch l) in
          absurd (omega (arith, under, at))
      | inr l ↦ l
    ] in
    let high : s < end = elim (cases_lt s end) [
      | inl l ↦ l
      | inr l ↦
          let over : rows_below m g end ≤ row_of m s =
          subst (λ (x : ℕ). rows_below m x end ≤ row_of m s) its (rows_to m s end ch l) in
          absurd (omega (arith, over, at, more))
    ] in
    (s, low, high, its)

-- ---- groups

module _ (m : RawMap) (cs : List Component) (lost : List ℕ) (ch : IsChecked m) (long : length cs ≡ m.comps)
    (gone : AreMissingAmong cs lost) where
  out_there : (p : ℕ) → p < positions m → is_none (replica m cs p) ≡ true → is_out m lost p ≡ true
  unfolding source
  out_there p less none =
      no_source lost (p * replicas m) (replicas m) (λ i l.
      let k : ℕ = p * replicas m + i in
      let at = component_at cs k (omega (arith, replicas_inside m p ch less, l, long)) in
      gone k at.0 at.1 (missing_replica m p cs i at.0 none at.1 l))

  fewer_lacking : (p n : ℕ) → ((i : ℕ) → i < n → p + i < positions m)
      → length (filter (λ (q : ℕ). is_none (replica m cs q)) (range_with_len p n)) ≤ length (out_from m lost p n)
  unfolding out_from
  fewer_lacking p zero h = omega arith
  fewer_lacking p (suc n) h =
      let rest = fewer_lacking (p + 1) n (λ i l. let x = h (suc i) (omega (arith, l)) in omega (arith, x)) in
      let z = h 0 (omega arith) in
      let here : p < positions m = omega (arith, z) in
      elim (cases_Bool (is_none (replica m cs p))) [
        | inl t ↦ rw (t, out_there p here t) (omega (arith, rest))
        | inr f ↦ rw f (elim (cases_Bool (is_out m lost p)) [
          | inl t ↦ rw t (omega (arith, rest))
          | inr y ↦ rw y rest
        ])
      ]

  position_below : (g i : ℕ) → g < groups m → i < group_width m → g * group_width m + i < positions m
  position_below g i less l =
      let more : g + 1 ≤ groups m = omega (arith, less) in
      omega (arith, l, add-mul g 1 (group_width m), mul-le-mul_right (group_width m) more, whole_groups m ch)

  pub not_beyond : (g : ℕ) → g < groups m → length (positions_out m lost g) ≤ parities m → is_beyond m cs g ≡ false
  unfolding lacking positions_out
  not_beyond g less few =
      le-ltb (parities m) _ (omega (
        arith,
        few,
        fewer_lacking (g * group_width m) (group_width m) (λ i l. position_below g i less l),
      ))

  pub group_below : (k : ℕ) → k < m.comps → group_with m k < groups m
  group_below k l =
      let position : k / replicas m < positions m =
      below_product k (positions m) (replicas m) (omega (arith, l, whole_positions m ch)) in
      below_product (k / replicas m) (groups m) (group_width m) (omega (arith, position, whole_groups m ch))

  module _ (first end : ℕ) (enough : (s : ℕ) → first ≤ s → s < end → is_short m lost s ≡ false) where
    few_out : (s : ℕ) → is_short m lost s ≡ false → length (positions_out m lost (group_of m s)) ≤ parities m
    unfolding is_short
    few_out s e = grind (arith, nat_tests, e)

    after_false : (a b : Bool) → (a && (b && false)) ≡ false
    after_false true true = refl
    after_false true false = refl
    after_false false b = refl

    spared : (k : ℕ) (b : Bool) → k < m.comps
        → (b && (stands_in m (group_with m k) first end && is_beyond m cs (group_with m k))) ≡ false
    spared k b l = elim (cases_Bool (stands_in m (group_with m k) first end)) [
      | inl t ↦
          let g : ℕ = group_with m k in
          let s = stripe_there m g first end ch (group_below k l) t in
          let few : length (positions_out m lost g) ≤ parities m =
          subst (λ (x : ℕ). length (positions_out m lost x) ≤ parities m) s.3
          (few_out s.0 (enough s.0 s.1 s.2)) in
          rw (not_beyond g (group_below k l) few) (after_false b (stands_in m g first end))
      | inr f ↦ rw f (after_none b)
    ]
      where
        after_none : (b : Bool) → (b && false) ≡ false
        after_none true = refl
        after_none false = refl

    none_from : (rest : List Component) (k : ℕ) → k + length rest ≡ m.comps → lacked_from m cs first end rest k ≡ None
    unfolding lacked_from
    none_from [] k e = refl
    none_from (c ∷ rest) k e =
        rw (spared k c.missing (omega (arith, e))) (none_from rest (k + 1) (omega (arith, e)))

pub none_is_lacked : NoneIsLacked
none_is_lacked m cs lost first end ch long gone enough =
    none_from m cs lost ch long gone first end enough cs 0 (omega (arith, long))
