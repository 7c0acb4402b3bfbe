-- If too much of a write has timed out, the server can't bear the loss that it would report.
-- Towards `ReturnsAreRight` (`specs/KeptFollows.antt`).
use Rattle.std.proofs.Common.{◌≡◌, ◌==◌, ◌<◌, ◌≤◌, ℕ, zero, suc, ◌+◌, ◌*◌, ◌/◌, ◌&&◌, not, Bool, true, false, List, [], ◌∷◌, Option, Some, None, length, slice_get, filter, refl, sym, ap, subst, ◌∙◌, arith, inl, inr}
use Rattle.std.specs.Prelude.{is_none, is_some}
use Rattle.std.specs.List.{range_with_len}
use Rattle.std.proofs.lemmas.Bool.{cases_Bool, lt-ltb, ltb-true, eq-eqb}
use Rattle.std.proofs.lemmas.Bool.Decides.{nat_tests}
use Rattle.std.proofs.lemmas.Nat.{div-mul-add}
use Rattle.std.proofs.Math.Nat.{add-mul, mul-le-mul_right}
use Rattle.data_map.specs.declared.check.RawMap.{RawMap}
use Rattle.data_map.specs.Check.{IsChecked}
use Rattle.data_map.specs.Striping.{replicas, positions, group_width, groups, group_of, parities}
use Rattle.data_map.proofs.Shape.{replicas_inside, whole_groups}
use Rattle.data_map.proofs.Striping.{group_below}
use Rattle.stripe_plan.specs.Lost.{among, source_from, source, is_out, out_from, positions_out, is_short, unwritable}
use Rattle.world_history.specs.ServerNames.{Component}
use Rattle.server_rules.specs.Maps.{group_with}
use Rattle.server_rules.specs.Standing.{replica_from, replica, lacking, is_beyond}
use Rattle.exchange_law.proofs.Enough.{is_replica}
use Rattle.exchange_law.proofs.Enough.{not_out, found_from}

-- ---- counts along a range

-- what the second test finds wherever the first does
more_found : (f g : ℕ → Bool) (p n : ℕ) → ((i : ℕ) → i < n → f (p + i) ≡ true → g (p + i) ≡ true)
    → length (filter f (range_with_len p n)) ≤ length (filter g (range_with_len p n))
more_found f g p zero h = omega arith
more_found f g p (suc n) h =
    let rest = more_found f g (p + 1) n (λ i l e.
    let on : p + suc i ≡ p + 1 + i = omega arith in
    subst (λ (x : ℕ). g x ≡ true) on (h (suc i) (omega (arith, l)) (subst (λ (x : ℕ). f x ≡ true) (sym on) e))) in
    let z : p + 0 ≡ p = omega arith in
    elim (cases_Bool (f p)) [
      | inl t ↦
          let also : g p ≡ true =
          subst (λ (x : ℕ). g x ≡ true) z (h 0 (omega arith) (subst (λ (x : ℕ). f x ≡ true) (sym z) t)) in
          rw (t, also) (omega (arith, rest))
      | inr x ↦ rw x (elim (cases_Bool (g p)) [
        | inl t ↦ rw t (omega (arith, rest))
        | inr y ↦ rw y rest
      ])
    ]

-- one that only the second finds, if it finds more
pub one_more : (f g : ℕ → Bool) (p n : ℕ) → length (filter f (range_with_len p n)) < length (filter g (range_with_len p n))
    → (i : ℕ) × (i < n) × (g (p + i) ≡ true) × (f (p + i) ≡ false)
one_more f g p zero l = absurd (omega (arith, l))
one_more f g p (suc n) l =
    let z : p + 0 ≡ p = omega arith in
    elim (cases_Bool (g p)) [
      | inl t ↦ elim (cases_Bool (f p)) [
        | inl u ↦ let less = rw (t, u) at l in later (one_more f g (p + 1) n (omega (arith, less)))
        | inr u ↦ (0, omega arith, rw z t, rw z u)
      ]
      | inr t ↦ elim (cases_Bool (f p)) [
        | inl u ↦ let less = rw (t, u) at l in later (one_more f g (p + 1) n (omega (arith, less)))
        | inr u ↦ let less = rw (t, u) at l in later (one_more f g (p + 1) n less)
      ]
    ]
  where
    later : (i : ℕ) × (i < n) × (g (p + 1 + i) ≡ true) × (f (p + 1 + i) ≡ false)
        → (i : ℕ) × (i < suc n) × (g (p + i) ≡ true) × (f (p + i) ≡ false)
    later r =
        let on : p + (r.0 + 1) ≡ p + 1 + r.0 = omega arith in
        (r.0 + 1, omega (arith, r.1), rw on r.2, rw on r.3)

out_counts : (m : RawMap) (out : List ℕ) (p n : ℕ)
    → length (out_from m out p n) ≡ length (filter (λ (q : ℕ). is_out m out q) (range_with_len p n))
unfolding out_from
out_counts m out p zero = refl
out_counts m out p (suc n) = elim (cases_Bool (is_out m out p)) [
  | inl t ↦ rw t (ap suc (out_counts m out (p + 1) n))
  | inr f ↦ rw f (out_counts m out (p + 1) n)
]

-- ---- a position

-- if a position is out, all its replicas are
all_gone : (out : List ℕ) (k n i : ℕ) → is_none (source_from out k n) ≡ true → i < n → among (k + i) out ≡ true
all_gone out k n i none less = elim (cases_Bool (among (k + i) out)) [
  | inl t ↦ t
  | inr f ↦ absurd (cc (sym none ∙ found_from out k n i less f))
]

-- and if it isn't, one of them isn't
pub some_left : (out : List ℕ) (k n : ℕ) → is_none (source_from out k n) ≡ false
    → (i : ℕ) × (i < n) × (among (k + i) out ≡ false)
unfolding source_from
some_left out k zero e = absurd (cc e)
some_left out k (suc n) e = elim (cases_Bool (among k out)) [
  | inl t ↦
      let r = some_left out (k + 1) n (rw t at e) in
      let on : k + (r.0 + 1) ≡ k + 1 + r.0 = omega arith in
      (r.0 + 1, omega (arith, r.1), rw on r.2)
  | inr f ↦ (0, omega arith, let z : k + 0 ≡ k = omega arith in rw z f)
]

-- ---- a group

-- what is out is missing among these components
abbrev pub AreMissing : List ℕ → List Component → Type 0
AreMissing out cs = (i : ℕ) (b : Component) → slice_get cs i ≡ Some b → among i out ≡ true → b.missing ≡ true

module _ (m : RawMap) (out : List ℕ) (cs : List Component) (gone : AreMissing out cs) where
  gone_too : (p : ℕ) → is_out m out p ≡ true → is_none (replica m cs p) ≡ true
  gone_too p none = by (replica m cs p) refl
    where
      by : (o : Option ℕ) → replica m cs p ≡ o → is_none o ≡ true
      by None e = refl
      by (Some n) e =
          let r = is_replica m p cs 0 n e in
          let same : 0 + r.place ≡ r.place = omega arith in
          elim (cases_Bool (among r.place out)) [
            | inl t ↦ absurd (cc (sym (gone r.place r.at r.found t) ∙ r.present))
            | inr f ↦
                absurd (cc (sym none
                ∙ not_out m out p r.place (ap (λ (x : ℕ). x / replicas m) (sym same) ∙ r.position) f))
          ]

  -- if a stripe is short with what is out, its group can't be decoded
  pub beyond_too : (s : ℕ) → is_short m out s ≡ true → is_beyond m cs (group_of m s) ≡ true
  unfolding is_short positions_out lacking
  beyond_too s short =
      let g : ℕ = group_of m s * group_width m in
      let more =
      more_found (λ (q : ℕ). is_out m out q) (λ (q : ℕ). is_none (replica m cs q)) g (group_width m)
      (λ i l e. gone_too (g + i) e) in
      let many : parities m < length (out_from m out g (group_width m)) = ltb-true (parities m) _ short in
      lt-ltb (parities m) _ (omega (arith, many, more, out_counts m out g (group_width m)))

-- if components are lost beyond those, it can't be decoded either
pub beyond_still : (m : RawMap) (cs ds : List Component) (g : ℕ)
    → ((i : ℕ) (b : Component) → slice_get ds i ≡ Some b
    → (a : Component) × (slice_get cs i ≡ Some a) × (a.missing ≡ true → b.missing ≡ true))
    → is_beyond m cs g ≡ true → is_beyond m ds g ≡ true
unfolding lacking replica_from
beyond_still m cs ds g later beyond =
    let p : ℕ = g * group_width m in
    let more =
    more_found (λ (q : ℕ). is_none (replica m cs q)) (λ (q : ℕ). is_none (replica m ds q)) p (group_width m)
    (λ i l e. none_still (p + i) e) in
    let many : parities m < length (filter (λ (q : ℕ). is_none (replica m cs q)) (range_with_len p (group_width m))) =
    ltb-true (parities m) _ beyond in
    lt-ltb (parities m) _ (omega (arith, many, more))
  where
    missing_by : (a b : Bool) → (not a && b) ≡ false → b ≡ true → a ≡ true
    missing_by true b e t = refl
    missing_by false true e t = absurd (cc e)
    missing_by false false e t = absurd (cc t)

    all_missing : (p : ℕ) (es : List Component) (k : ℕ) → is_none (replica_from m p es k) ≡ true
        → (i : ℕ) (at : Component) → slice_get es i ≡ Some at → (k + i) / replicas m ≡ p → at.missing ≡ true
    all_missing p [] k e i at found here = absurd (cc found)
    all_missing p (c ∷ es) k e zero at found here = elim (cases_Bool (not c.missing && (k / replicas m == p))) [
      | inl t ↦ absurd (cc (rw t at e))
      | inr z ↦
          let same : c ≡ at = cc found in
          let at0 : k + 0 ≡ k = omega arith in
          let its : (k / replicas m == p) ≡ true =
          eq-eqb (k / replicas m) p (ap (λ (x : ℕ). x / replicas m) (sym at0) ∙ here) in
          ap (λ (x : Component). x.missing) (sym same) ∙ missing_by c.missing (k / replicas m == p) z its
    ]
    all_missing p (c ∷ es) k e (suc i) at found here = elim (cases_Bool (not c.missing && (k / replicas m == p))) [
      | inl t ↦ absurd (cc (rw t at e))
      | inr z ↦
          let on : k + 1 + i ≡ k + suc i = omega arith in
          all_missing p es (k + 1) (rw z at e) i at found (ap (λ (x : ℕ). x / replicas m) on ∙ here)
    ]

    none_still : (p : ℕ) → is_none (replica m cs p) ≡ true → is_none (replica m ds p) ≡ true
    none_still p none = by (replica m ds p) refl
      where
        by : (o : Option ℕ) → replica m ds p ≡ o → is_none o ≡ true
        by None e = refl
        by (Some n) e =
            let r = is_replica m p ds 0 n e in
            let a = later r.place r.at r.found in
            absurd (cc (sym (a.2 (all_missing p cs 0 none r.place a.0 a.1 r.position)) ∙ r.present))

-- ---- a component that a stripe newly lacks

pub record IsNew (m : RawMap) (before out : List ℕ) (s : ℕ) : Type 0 where
  pub component : ℕ
  pub below : component < m.comps
  pub group : group_with m component ≡ group_of m s
  pub out_now : among component out ≡ true
  pub not_before : among component before ≡ false

pub newly_out : (m : RawMap) (before out : List ℕ) (s : ℕ) → IsChecked m → is_short m before s ≡ false
    → is_short m out s ≡ true → IsNew m before out s
unfolding is_short positions_out source
newly_out m before out s ch enough short =
    let width : ℕ = group_width m in
    let g : ℕ = group_of m s * width in
    let few : length (out_from m before g width) ≤ parities m = grind (arith, nat_tests, enough) in
    let many : parities m < length (out_from m out g width) = ltb-true (parities m) _ short in
    let one =
    one_more (λ (q : ℕ). is_out m before q) (λ (q : ℕ). is_out m out q) g width
    (omega (arith, few, many, out_counts m before g width, out_counts m out g width)) in
    let p : ℕ = g + one.0 in
    let left = some_left before (p * replicas m) (replicas m) one.3 in
    let more : group_of m s + 1 ≤ groups m = omega (arith, group_below m s ch) in
    let inside : p < positions m =
    omega (arith, one.1, add-mul (group_of m s) 1 width, mul-le-mul_right width more, whole_groups m ch) in
    record {
      component = p * replicas m + left.0;
      below = omega (arith, replicas_inside m p ch inside, left.1);
      group =
          ap (λ (x : ℕ). x / width) (div-mul-add p (replicas m) left.0 left.1)
          ∙ div-mul-add (group_of m s) width one.0 one.1;
      out_now = all_gone out (p * replicas m) (replicas m) left.0 one.2 left.1;
      not_before = left.2;
    }

-- ---- a range

-- a stripe that can't be written now, and could before
pub record IsShortened (m : RawMap) (before out : List ℕ) : Type 0 where
  pub stripe : ℕ
  pub enough : is_short m before stripe ≡ false
  pub short : is_short m out stripe ≡ true

pub shortened : (m : RawMap) (before out ss : List ℕ) → is_some (unwritable m before ss) ≡ false
    → is_some (unwritable m out ss) ≡ true → IsShortened m before out
unfolding unwritable
shortened m before out [] enough short = absurd (cc short)
shortened m before out (s ∷ ss) enough short = elim (cases_Bool (is_short m before s)) [
  | inl t ↦ absurd (cc (rw t at enough))
  | inr f ↦ elim (cases_Bool (is_short m out s)) [
    | inl now ↦ record { stripe = s; enough = f; short = now }
    | inr none ↦ shortened m before out ss (rw f at enough) (rw none at short)
  ]
]
