-- Lists by rising numbers: what stands in them behind an entry that was put in or taken out.
use Rattle.std.proofs.Common.{◌≡◌, ◌<◌, ℕ, cond, List, [], ◌∷◌, Option, Some, None, refl, sym, ap, ◌∙◌, arith, inl, inr}
use Rattle.std.specs.Ordering.{nat_cmp}
use Rattle.std.specs.BTreeMap.{is_at}
use Rattle.std.proofs.lemmas.Bool.{cases_lt, cases_eq, eq-eqb, ne_eqb, lt-ltb, le-ltb}
use Rattle.osd_objects.proofs.Entries.{is_at_equal, is_at_other}
use Rattle.world_history.specs.State.{at_number, and_number, without_number}

module _ {X : Type 0} where
  -- all numbers are greater than k
  abbrev pub AllAbove : (k : ℕ) → List (ℕ × X) → Type 0
  AllAbove k [] = Unit {0}
  AllAbove k (e ∷ es) = (k < e.0) × AllAbove k es

  -- each number is greater than the one before it
  abbrev pub AreRising : List (ℕ × X) → Type 0
  AreRising [] = Unit {0}
  AreRising (e ∷ es) = AllAbove e.0 es × AreRising es

  none_above : (k : ℕ) (es : List (ℕ × X)) → AllAbove k es → at_number es k ≡ None
  none_above k [] a = refl
  none_above k (e ∷ es) a =
      let low : k < e.0 = a.0 in
      let other : (k ≡ e.0 → ⊥) = λ same. absurd (omega (arith, low, same)) in
      rw (is_at_other k e.0 other) (none_above k es a.1)

  above_less : (j k : ℕ) (es : List (ℕ × X)) → j < k → AllAbove k es → AllAbove j es
  above_less j k [] l a = tt
  above_less j k (e ∷ es) l a = let low : k < e.0 = a.0 in (omega (arith, l, low), above_less j k es l a.1)

  -- ---- an entry is put in

  above_inserted : (j k : ℕ) (v : X) (es : List (ℕ × X)) → j < k → AllAbove j es → AllAbove j (and_number es k v)
  above_inserted j k v [] l a = (l, tt)
  above_inserted j k v (e ∷ es) l a = elim (cases_lt k e.0) [
    | inl less ↦ rw (lt-ltb k e.0 less) (l, a)
    | inr from ↦ elim (cases_eq k e.0) [
      | inl same ↦ rw (le-ltb k e.0 from, eq-eqb k e.0 same) a
      | inr other ↦ rw (le-ltb k e.0 from, ne_eqb k e.0 other) (a.0, above_inserted j k v es l a.1)
    ]
  ]

  pub rising_inserted : (k : ℕ) (v : X) (es : List (ℕ × X)) → AreRising es → AreRising (and_number es k v)
  rising_inserted k v [] r = (tt, tt)
  rising_inserted k v (e ∷ es) r = elim (cases_lt k e.0) [
    | inl less ↦ rw (lt-ltb k e.0 less) ((less, above_less k e.0 es less r.0), r)
    | inr from ↦ elim (cases_eq k e.0) [
      | inl same ↦ rw (le-ltb k e.0 from, eq-eqb k e.0 same) r
      | inr other ↦
          let high : e.0 < k = omega (arith, from, other) in
          rw (le-ltb k e.0 from, ne_eqb k e.0 other) (above_inserted e.0 k v es high r.0, rising_inserted k v es r.1)
    ]
  ]

  -- ---- an entry is taken out

  above_removed : (j k : ℕ) (es : List (ℕ × X)) → AllAbove j es → AllAbove j (without_number es k)
  above_removed j k [] a = tt
  above_removed j k (e ∷ es) a = elim (cases_eq k e.0) [
    | inl same ↦ rw (is_at_equal k e.0 same) a.1
    | inr other ↦ rw (is_at_other k e.0 other) (a.0, above_removed j k es a.1)
  ]

  pub rising_removed : (k : ℕ) (es : List (ℕ × X)) → AreRising es → AreRising (without_number es k)
  rising_removed k [] r = tt
  rising_removed k (e ∷ es) r = elim (cases_eq k e.0) [
    | inl same ↦ rw (is_at_equal k e.0 same) r.1
    | inr other ↦ rw (is_at_other k e.0 other) (above_removed e.0 k es r.0, rising_removed k es r.1)
  ]

  pub removed_there : (k : ℕ) (es : List (ℕ × X)) → AreRising es → at_number (without_number es k) k ≡ None
  removed_there k [] r = refl
  removed_there k (e ∷ es) r = elim (cases_eq k e.0) [
    | inl same ↦ rw (is_at_equal k e.0 same) (none_above k es (rw same r.0))
    | inr other ↦ rw (is_at_other k e.0 other) (rw (is_at_other k e.0 other) (removed_there k es r.1))
  ]

  pub removed_beside : (k q : ℕ) (es : List (ℕ × X)) → (q ≡ k → ⊥) → at_number (without_number es k) q ≡ at_number es q
  removed_beside k q [] other = refl
  removed_beside k q (e ∷ es) other = elim (cases_eq k e.0) [
    | inl same ↦ rw (is_at_equal k e.0 same) (rw (is_at_other q e.0 (λ x. other (x ∙ sym same))) refl)
    | inr apart ↦
        rw (is_at_other k e.0 apart)
        (ap (λ (x : Option X). cond (is_at (nat_cmp q) e.0) (Some e.1) x) (removed_beside k q es other))
  ]
