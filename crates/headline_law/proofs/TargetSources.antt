-- A rebuild that has heard of its sources has something to make each cell of.
use Rattle.std.proofs.Common.{◌≡◌, ℕ, zero, suc, ◌+◌, ◌-◌, ◌*◌, ◌/◌, ◌%◌, ◌<◌, ◌≤◌, Bool, true, false, List, [], length, filter, is_none, Option, Some, None, refl, sym, ap, subst, ◌∙◌, arith, inl, inr, eq-eqb, ne_eqb}
use Rattle.std.specs.List.{range_with_len}
use Rattle.std.proofs.lemmas.Bool.{cases_Bool, cases_eq, ltb-false, le-ltb, true≢false}
use Rattle.std.proofs.lemmas.Nat.{mod_below, div-add-mod', div-mul-add}
use Rattle.std.proofs.lemmas.List.FromFn.{length-map-range_with_len}
use Rattle.data_map.specs.declared.check.RawMap.{RawMap}
use Rattle.data_map.specs.Check.{IsChecked}
use Rattle.data_map.specs.Striping.{replicas, parities, group_width, group_of}
use Rattle.data_map.specs.Inverse.{stripe_at}
use Rattle.server_rules.specs.Decoding.{restored}
use Rattle.server_rules.specs.Maps.{group_with}
use Rattle.server_rules.specs.Rebuild.{made_by, made, position_for, group_for}
use Rattle.server_rules.specs.Standing.{replica, lacking, is_beyond}
use Rattle.stripe_plan.specs.Lost.{among, source_from, source, is_out, out_from, positions_out, is_short}
use Rattle.stripe_repair.proofs.CodewordLaws.{row_long}
use Rattle.world_history.specs.ServerNames.{Kept, Component, Heard, Piece, Target}
use Rattle.fence_law.specs.State.{State}
use Rattle.plan_law.specs.FileLayout.{position_in}
use Rattle.plan_law.specs.Known.{HasSource}
use Rattle.plan_law.proofs.PieceRows.{stands_at}
use Rattle.relation_law.proofs.KeptSources.{group_here}
use Rattle.headline_law.specs.TargetLaws.{OfSources, OfEachSource}
use Rattle.headline_law.proofs.TargetRows.{IsHeard, AreHeardRows}

-- ---- lists of numbers

among_here : (q : ℕ → Bool) (a n k : ℕ) → a ≤ k → k < a + n → among k (filter q (range_with_len a n)) ≡ q k
among_here q a zero k low high = absurd (omega (arith, low, high))
among_here q a (suc n) k low high = elim (cases_Bool (q a)) [
  | inl here ↦ rw here (elim (cases_eq a k) [
    | inl same ↦ rw (eq-eqb a k same) (sym (ap q (sym same) ∙ here))
    | inr other ↦ rw (ne_eqb a k other) (among_here q (a + 1) n k (omega (arith, low, other)) (omega (arith, high)))
  ])
  | inr none ↦ rw none (elim (cases_eq a k) [
    | inl same ↦
        none_before q (a + 1) n k (omega (arith, same)) ∙ sym (ap q (sym same) ∙ none)
    | inr other ↦ among_here q (a + 1) n k (omega (arith, low, other)) (omega (arith, high))
  ])
]
  where
    none_before : (r : ℕ → Bool) (c l j : ℕ) → j < c → among j (filter r (range_with_len c l)) ≡ false
    none_before r c zero j low = refl
    none_before r c (suc l) j low = elim (cases_Bool (r c)) [
      | inl here ↦ rw here (rw (ne_eqb c j (λ e. omega (arith, e, low))) (none_before r (c + 1) l j (omega (arith, low))))
      | inr none ↦ rw none (none_before r (c + 1) l j (omega (arith, low)))
    ]

-- one that isn't out is a source
some_source : (out : List ℕ) (k n r : ℕ) → k ≤ r → r < k + n → among r out ≡ false → is_none (source_from out k n) ≡ false
unfolding source_from
some_source out k zero r low high none = absurd (omega (arith, low, high))
some_source out k (suc n) r low high none = elim (cases_Bool (among k out)) [
  | inr first ↦ rw first refl
  | inl gone ↦ elim (cases_eq k r) [
    | inl same ↦ absurd (true≢false (sym gone ∙ ap (λ (j : ℕ). among j out) same ∙ none))
    | inr other ↦ rw gone (some_source out (k + 1) n r (omega (arith, low, other)) (omega (arith, high)) none)
  ]
]

-- positions that are out have no present replica
fewer_out : (m : RawMap) (cs : List Component) (out : List ℕ) (p n : ℕ) →
    ((r : ℕ) → p ≤ r → r < p + n → is_out m out r ≡ true → is_none (replica m cs r) ≡ true) →
    length (out_from m out p n) ≤ length (filter (λ (r : ℕ). is_none (replica m cs r)) (range_with_len p n))
unfolding out_from
fewer_out m cs out p zero all = omega arith
fewer_out m cs out p (suc n) all =
    let rest : length (out_from m out (p + 1) n)
    ≤ length (filter (λ (r : ℕ). is_none (replica m cs r)) (range_with_len (p + 1) n)) =
    fewer_out m cs out (p + 1) n (λ r low high is. all r (omega (arith, low)) (omega (arith, high)) is) in
    elim (cases_Bool (is_out m out p)) [
      | inl gone ↦ rw (gone, all p (omega arith) (omega arith) gone) (omega (arith, rest))
      | inr here ↦ rw here (elim (cases_Bool (is_none (replica m cs p))) [
        | inl none ↦ rw none (omega (arith, rest))
        | inr some ↦ rw some rest
      ])
    ]

-- ---- sources

module _ (s : State) (f : Kept) (t : Target) (p : Piece) (heard : List Heard) (checked : IsChecked f.map)
    (rows : AreHeardRows s f.map p heard)
    (below : (k position : ℕ) → replica f.map f.components position ≡ Some k → k < f.map.comps)
    (inside : t.component < f.map.comps) where
  abbrev m : RawMap
  m = f.map

  stands : (k : ℕ) → IsHeard heard k → s.gone k ≡ false
  stands k (x, i, is) = sym (ap s.gone is) ∙ (rows x i).stands

  abbrev out : List ℕ
  out = filter s.gone (range_with_len 0 m.comps)

  module _ (few : is_beyond f.map f.components (group_for f t) ≡ false)
      (all : (k : ℕ) → group_with f.map k ≡ group_for f t → replica f.map f.components (k / replicas f.map) ≡ Some k →
      IsHeard heard k) where
    lacks : (r : ℕ) → r / group_width m ≡ group_for f t → is_out m out r ≡ true → is_none (replica m f.components r) ≡ true
    unfolding source
    lacks r group gone = by_replica (replica m f.components r) refl
      where
        by_replica : (o : Option ℕ) → replica m f.components r ≡ o → is_none (replica m f.components r) ≡ true
        by_replica None none = ap is_none none
        by_replica (Some k) some =
            let at : k / replicas m ≡ r = stands_at m r f.components 0 k some in
            let low : k < m.comps = below k r some in
            let first : replica m f.components (k / replicas m) ≡ Some k = ap (replica m f.components) at ∙ some in
            let alive : s.gone k ≡ false = stands k (all k (ap (λ (q : ℕ). q / group_width m) at ∙ group) first) in
            let in_ : among k out ≡ false = among_here s.gone 0 m.comps k (omega arith) (omega (arith, low)) ∙ alive in
            let range = within k r at in
            absurd (true≢false (sym gone ∙ some_source out (r * replicas m) (replicas m) k range.0 range.1 in_))
          where
            within : (k r : ℕ) → k / replicas m ≡ r → (r * replicas m ≤ k) × (k < r * replicas m + replicas m)
            within k r at =
                let whole = div-add-mod' k (replicas m) in
                let rest : k % replicas m < replicas m = mod_below k (replicas m) (omega arith) in
                let product : k / replicas m * replicas m ≡ r * replicas m = ap (λ (q : ℕ). q * replicas m) at in
                (omega (arith, whole, product), omega (arith, whole, rest, product))

    enough : (z : ℕ) → is_short m out (stripe_at m (position_in m t.component) z) ≡ false
    unfolding is_short positions_out lacking
    enough z =
        let e : group_of m (stripe_at m (position_in m t.component) z) ≡ group_for f t =
        group_here m t.component z checked inside in
        let first : ℕ = group_for f t * group_width m in
        let fewer : length (out_from m out (group_for f t * group_width m) (group_width m))
        ≤ length (lacking m f.components (group_for f t)) =
        fewer_out m f.components out (group_for f t * group_width m) (group_width m)
        (λ r low high gone. lacks r (in_group r low high) gone) in
        let most = ltb-false (parities m) (length (lacking m f.components (group_for f t))) few in
        let base : length (out_from m out (group_for f t * group_width m) (group_width m)) ≤ parities m =
        omega (arith, fewer, most) in
        le-ltb (parities m)
        (length (out_from m out (group_of m (stripe_at m (position_in m t.component) z) * group_width m) (group_width m)))
        (subst (λ (g : ℕ). length (out_from m out (g * group_width m) (group_width m)) ≤ parities m) (sym e) base)
      where
        in_group : (r : ℕ) → group_for f t * group_width m ≤ r → r < group_for f t * group_width m + group_width m →
            r / group_width m ≡ group_for f t
        in_group r low high =
            let rest : ℕ = r - group_for f t * group_width m in
            let at : r ≡ group_for f t * group_width m + (r - group_for f t * group_width m) = omega (arith, low) in
            ap (λ (q : ℕ). q / group_width m) at
            ∙ div-mul-add (group_for f t) (group_width m) (r - group_for f t * group_width m) (omega (arith, low, high))

  pub has_source : OfEachSource (IsHeard heard) f t → (out_ : List ℕ) × ((z : ℕ) → HasSource m s.gone out_ t.component z)
  has_source = by_replica (replica m f.components (position_for f t)) refl
    where
      by_replica : (o : Option ℕ) → replica m f.components (position_for f t) ≡ o → OfSources (IsHeard heard) f t o →
          (out_ : List ℕ) × ((z : ℕ) → HasSource m s.gone out_ t.component z)
      by_replica (Some k) is x =
          ([], λ z. inl (k, below k (position_for f t) is, stands_at m (position_for f t) f.components 0 k is, stands k x))
      by_replica None is x = (
        out,
        λ z. inr (
          λ n low gone. among_here s.gone 0 m.comps n (omega arith) (omega (arith, low)) ∙ gone,
          enough x.0 x.1 z,
        ),
      )

-- ---- how long a row is

pub made_long : (f : Kept) (t : Target) (p : Piece) (heard : List Heard) → length (made f t p heard) ≡ p.count
unfolding made restored
made_long f t p heard = by_replica (replica f.map f.components (position_for f t))
  where
    by_replica : (o : Option ℕ) → length (made_by f t p heard o) ≡ p.count
    by_replica (Some k) = row_long heard k p.count
    by_replica None = length-map-range_with_len _ 0 p.count
