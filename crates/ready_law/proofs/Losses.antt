-- Lost components stand on different drives that have failed: too few for more positions than the parity brings back.
use Rattle.std.proofs.Common.{◌≡◌, ◌==◌, ◌<◌, ◌≤◌, ℕ, zero, suc, ◌+◌, ◌*◌, not, true, false, true≢false, List, [], ◌∷◌, length, filter, map, drop, refl, sym, ap, subst, ◌∙◌, arith, inl, inr}
use Rattle.std.specs.Prelude.{is_none}
use Rattle.std.proofs.Math.Nat.{mul-le-mul_right}
use Rattle.std.proofs.lemmas.Bool.{cases_Bool, cases_lt, eq-eqb, ne_eqb, le-ltb}
use Rattle.std.proofs.lemmas.List.{drop-drop}
use Rattle.data_map.specs.declared.check.RawMap.{RawMap}
use Rattle.data_map.specs.Striping.{replicas, group_width, group_of, parities}
use Rattle.stripe_plan.specs.Lost.{among, source_from, source, is_out, out_from, positions_out, is_short}
use Rattle.server_rules.specs.Laws.{In}
use Rattle.server_rules.specs.Numbers as numbers
use Rattle.server_rules.specs.Maps.{group_with}
use Rattle.server_rules.proofs.Members.{in_filter}
use Rattle.world_history.specs.ServerNames.{Kept, Component}
use Rattle.component_law.specs.Apart.{AreApart}
use Rattle.component_law.proofs.Drives.{not_first}
use Rattle.ready_law.specs.Ready.{Scene, is_lost, lost_from, lost_of}
use Rattle.ready_law.specs.Answered.{scene_in}
use Rattle.ready_law.specs.Losses.{BearsLosses, LossesAreBorne, BorneIsEnough}

-- ---- numbers without one of them

abbrev others : ℕ → List ℕ → List ℕ
others d ns = filter (λ (n : ℕ). not (n == d)) ns

no_more : (d : ℕ) (ns : List ℕ) → length (others d ns) ≤ length ns
no_more d [] = omega arith
no_more d (n ∷ ns) = elim (cases_Bool (n == d)) [
  | inl t ↦ rw t (omega (arith, no_more d ns))
  | inr f ↦ rw f (omega (arith, no_more d ns))
]

fewer : (d : ℕ) (ns : List ℕ) → In d ns → length (others d ns) + 1 ≤ length ns
fewer d [] i = absurd i
fewer d (n ∷ ns) (inl e) = rw (eq-eqb n d (sym e)) (omega (arith, no_more d ns))
fewer d (n ∷ ns) (inr i) = elim (cases_Bool (n == d)) [
  | inl t ↦ rw t (omega (arith, no_more d ns))
  | inr f ↦ rw f (omega (arith, fewer d ns i))
]

-- none of these components is on the drive
pub elsewhere : (d : ℕ) (cs : List Component) → numbers.among d (map (λ (at : Component). at.drive) cs) ≡ false
    → (at : Component) → In at cs → at.drive ≡ d → ⊥
elsewhere d [] none at i e = absurd i
elsewhere d (c ∷ cs) none at i e =
    let first = not_first d c.drive (map (λ (x : Component). x.drive) cs) none in
    elim i [
      | inl same ↦ first.0 (sym e ∙ ap (λ (x : Component). x.drive) same)
      | inr rest ↦ elsewhere d cs first.1 at rest e
    ]

-- ---- how many components are lost

module _ (s : Scene) where
  abbrev count : List Component → ℕ
  count cs = length (filter (λ (at : Component). is_lost s at) cs)

  -- no more than there are drives on which lost ones stand, since they stand on different ones
  few : (cs : List Component) (failed : List ℕ) → AreApart cs
      → ((at : Component) → In at cs → is_lost s at ≡ true → In at.drive failed) → count cs ≤ length failed
  few [] failed apart stands = omega arith
  few (c ∷ cs) failed apart stands = elim (cases_Bool (is_lost s c)) [
    | inl t ↦
        let rest = few cs (others c.drive failed) apart.1
        (λ at i l. in_filter (λ (n : ℕ). not (n == c.drive)) at.drive failed (stands at (inr i) l)
        (ap not (ne_eqb at.drive c.drive (elsewhere c.drive cs apart.0 at i)))) in
        rw t (omega (arith, rest, fewer c.drive failed (stands c (inl refl) t)))
    | inr z ↦ rw z (few cs failed apart.1 (λ at i l. stands at (inr i) l))
  ]

  -- the first ones count no less
  behind : (n : ℕ) (cs : List Component) → count (drop n cs) ≤ count cs
  behind zero cs = omega arith
  behind (suc n) [] = omega arith
  behind (suc n) (c ∷ cs) = elim (cases_Bool (is_lost s c)) [
    | inl t ↦ rw t (omega (arith, behind n cs))
    | inr z ↦ rw z (behind n cs)
  ]

  -- ---- one that is listed as lost is there, and counts

  pub not_before : (cs : List Component) (j k : ℕ) → k < j → among k (lost_from s cs j) ≡ false
  unfolding lost_from
  not_before [] j k less = refl
  not_before (c ∷ cs) j k less =
      let rest = not_before cs (j + 1) k (omega (arith, less)) in
      elim (cases_Bool (is_lost s c)) [
        | inl t ↦ rw (t, ne_eqb j k (λ e. omega (arith, less, e))) rest
        | inr z ↦ rw z rest
      ]

  counts_one : (cs : List Component) (j i : ℕ) → among (j + i) (lost_from s cs j) ≡ true
      → 1 + count (drop (suc i) cs) ≤ count (drop i cs)
  unfolding lost_from
  counts_one [] j i e = absurd (true≢false (sym e))
  counts_one (c ∷ cs) j zero e = elim (cases_Bool (is_lost s c)) [
    | inl t ↦ rw t (omega arith)
    | inr z ↦ absurd (true≢false (sym (rw z at e) ∙ not_before cs (j + 1) (j + 0) (omega arith)))
  ]
  counts_one (c ∷ cs) j (suc i) e =
      let on : j + suc i ≡ j + 1 + i = omega arith in
      elim (cases_Bool (is_lost s c)) [
        | inl t ↦
            let here = rw (t, ne_eqb j (j + suc i) (λ f. omega (arith, f))) at e in
            counts_one cs (j + 1) i (subst (λ (k : ℕ). among k (lost_from s cs (j + 1)) ≡ true) on here)
        | inr z ↦ counts_one cs (j + 1) i (subst (λ (k : ℕ). among k (lost_from s cs (j + 1)) ≡ true) on (rw z at e))
      ]

  module _ (f : Kept) where
    abbrev m : RawMap
    m = f.map

    abbrev cs : List Component
    cs = f.components

    abbrev lost : List ℕ
    lost = lost_of s f

    -- ---- positions that are out

    -- all of these components are lost
    counts_each : (k n : ℕ) → is_none (source_from lost k n) ≡ true → n + count (drop (k + n) cs) ≤ count (drop k cs)
    unfolding source_from
    counts_each k zero e = let z : k + 0 ≡ k = omega arith in rw z (omega arith)
    counts_each k (suc n) e = elim (cases_Bool (among k lost)) [
      | inl t ↦
          let z : 0 + k ≡ k = omega arith in
          let one = counts_one cs 0 k (subst (λ (i : ℕ). among i lost ≡ true) (sym z) t) in
          let next : k + 1 + n ≡ k + suc n = omega arith in
          let on : k + 1 ≡ suc k = omega arith in
          let rest = subst (λ (i : ℕ). n + count (drop (k + 1 + n) cs) ≤ count (drop i cs)) on
          (counts_each (k + 1) n (rw t at e)) in
          let whole = subst (λ (i : ℕ). n + count (drop i cs) ≤ count (drop (suc k) cs)) next rest in
          omega (arith, one, whole)
      | inr z ↦ absurd (cc (rw z at e))
    ]

    -- each of these positions that is out has as many lost components as there are replicas
    counts_out : (n p : ℕ) → length (out_from m lost p n) * replicas m ≤ count (drop (p * replicas m) cs)
    unfolding out_from source
    counts_out zero p = omega arith
    counts_out (suc n) p =
        let r : ℕ = replicas m in
        let on : (p + 1) * r ≡ p * r + r = omega arith in
        let rest = subst (λ (i : ℕ). length (out_from m lost (p + 1) n) * r ≤ count (drop i cs)) on (counts_out n (p + 1)) in
        elim (cases_Bool (is_out m lost p)) [
          | inl t ↦ rw t (omega (arith, rest, counts_each (p * r) r t))
          | inr z ↦
              let cut : drop (p * r + r) cs ≡ drop r (drop (p * r) cs) = sym (drop-drop r (p * r) cs) in
              let less = subst (λ (xs : List Component). count xs ≤ count (drop (p * r) cs)) (sym cut)
              (behind r (drop (p * r) cs)) in
              rw z (omega (arith, rest, less))
        ]

    few_out : (most : ℕ) → count cs ≤ most → most < (parities m + 1) * replicas m
        → (group : ℕ) → length (positions_out m lost group) ≤ parities m
    unfolding positions_out
    few_out most all less group =
        let q : ℕ = length (out_from m lost (group * group_width m) (group_width m)) in
        let many = counts_out (group_width m) (group * group_width m) in
        let first = behind (group * group_width m * replicas m) cs in
        elim (cases_lt (parities m) q) [
          | inl more ↦
              let over : (parities m + 1) * replicas m ≤ q * replicas m = mul-le-mul_right (replicas m) (omega (arith, more)) in
              absurd (omega (arith, many, first, all, less, over))
          | inr l ↦ l
        ]

    -- ---- so losses are borne

    pub bears_losses : AreApart cs → BearsLosses s f
    unfolding is_short
    bears_losses apart failed hurt less =
        let all = few cs failed apart
        (λ at i l. hurt.drives at i (elim (cases_Bool at.missing) [
          | inl t ↦ hurt.missing at i t
          | inr z ↦ rw z at l
        ])) in
        let positions = few_out (length failed) all less in
        record { positions = positions; stripes = λ n. le-ltb _ _ (positions (group_of m n)) }

pub losses_are_borne : LossesAreBorne
losses_are_borne h apart file f found = bears_losses (scene_in h) f.kept (apart file f found)

pub borne_is_enough : BorneIsEnough
borne_is_enough s f borne = record {
  enough = λ op n i. borne.stripes n;
  probed = λ k. borne.positions (group_with f.map k);
}
