-- What is left of intervals once stretches that were asked before are cut out of them.
use Rattle.std.proofs.Common.{◌≡◌, ◌⊎◌, ◌≤◌, ◌<◌, ℕ, min, max, List, [], ◌∷◌, ◌++◌, refl, sym, subst, inl, inr, arith, eq-eqb, ne_eqb}
use Rattle.std.proofs.lemmas.Bool.{cases_eq, cases_lt, lt-ltb, le-ltb}
use Rattle.stripe_plan.specs.declared.plan.Interval.{Interval}
use Rattle.stripe_plan.specs.declared.plan.Stretch.{Stretch}
use Rattle.stripe_plan.specs.Asks.{before, behind, without, without_each}
use Rattle.server_rules.specs.Laws.{In}

-- an interval from a byte on and up to another, between edges, all of it touched
pub record IsInside (top : ℕ) (Edge Touched : ℕ → Type 0) (from : ℕ) (i : Interval) : Type 0 where
  pub low : from ≤ i.first
  pub order : i.first ≤ i.end
  pub high : i.end ≤ top
  pub first : Edge i.first
  pub end : Edge i.end
  pub touched : (y : ℕ) → i.first ≤ y → y < i.end → Touched y

-- several, one behind another
abbrev pub AreInside : (top : ℕ) → (Edge Touched : ℕ → Type 0) → (from : ℕ) → List Interval → Type 0
AreInside top Edge Touched from [] = Unit {0}
AreInside top Edge Touched from (i ∷ is) = IsInside top Edge Touched from i × AreInside top Edge Touched i.end is

-- a stretch of the position is one of another row, or between edges
abbrev pub IsCut : (p low top : ℕ) → (Edge : ℕ → Type 0) → Stretch → Type 0
IsCut p low top Edge t =
    t.position ≡ p → (t.first ≤ t.end) × ((t.end ≤ low) ⊎ (top ≤ t.first) ⊎ (Edge t.first × Edge t.end))

-- some bytes between edges, none of which is in these stretches of the position
pub record IsPiece (p : ℕ) (Edge Touched : ℕ → Type 0) (hs : List Stretch) (x : Interval) : Type 0 where
  pub some : x.first < x.end
  pub first : Edge x.first
  pub end : Edge x.end
  pub touched : Touched x.first
  pub free : (t : Stretch) → In t hs → t.position ≡ p → (t.end ≤ x.first) ⊎ (x.end ≤ t.first)

module _ (p low top : ℕ) (Edge Touched : ℕ → Type 0) where
  -- several, one behind another
  abbrev pub ArePieces : (hs : List Stretch) → (from to : ℕ) → List Interval → Type 0
  ArePieces hs from to [] = Unit {0}
  ArePieces hs from to (x ∷ xs) =
      IsPiece p Edge Touched hs x × (from ≤ x.first) × (x.end ≤ to) × ArePieces hs x.end to xs

  -- they are beside one more stretch
  beside : (t : Stretch) (hs : List Stretch) (from to : ℕ) (xs : List Interval)
      → (t.position ≡ p → (t.end ≤ from) ⊎ (to ≤ t.first)) → ArePieces hs from to xs → ArePieces (t ∷ hs) from to xs
  beside t hs from to [] apart k = tt
  beside t hs from to (x ∷ xs) apart k =
      let its : t.position ≡ p → (t.end ≤ x.first) ⊎ (x.end ≤ t.first) = λ e. elim (apart e) [
        | inl a ↦ inl (omega (arith, a, k.1))
        | inr b ↦ inr (omega (arith, b, k.2))
      ] in (
        record {
          some = k.0.some;
          first = k.0.first;
          end = k.0.end;
          touched = k.0.touched;
          free = λ u i. elim i [
            | inl s ↦ subst (λ (z : Stretch). z.position ≡ p → (z.end ≤ x.first) ⊎ (x.end ≤ z.first)) (sym s) its
            | inr j ↦ k.0.free u j
          ];
        },
        k.1,
        k.2,
        beside t hs x.end to xs (λ e. elim (apart e) [ inl a ↦ inl (omega (arith, a, k.1, k.0.some)) | inr b ↦ inr b ]) k.3,
      )

  from_below : (hs : List Stretch) (from low to : ℕ) (xs : List Interval) → from ≤ low → ArePieces hs low to xs
      → ArePieces hs from to xs
  from_below hs from low to [] l k = tt
  from_below hs from low to (x ∷ xs) l k = (k.0, omega (arith, l, k.1), k.2, k.3)

  joined : (hs : List Stretch) (from low to mid end : ℕ) (xs ys : List Interval) → from ≤ low → ArePieces hs low to xs
      → ArePieces hs mid end ys → from ≤ mid → to ≤ mid → to ≤ end → ArePieces hs from end (xs ++ ys)
  joined hs from low to mid end [] ys a k l b c d = from_below hs from mid end ys b l
  joined hs from low to mid end (x ∷ xs) ys a k l b c d = (
    k.0,
    omega (arith, a, k.1),
    omega (arith, k.2, d),
    joined hs x.end x.end to mid end xs ys (omega arith) k.3 l (omega (arith, k.2, c)) c d,
  )

  -- the ends of what is before a stretch and behind it
  end_before : (t : Stretch) (i : Interval) → (t.first ≤ t.end) × ((t.end ≤ low) ⊎ (top ≤ t.first) ⊎ (Edge t.first × Edge t.end))
      → low ≤ i.first → i.end ≤ top → i.first < min i.end t.first → Edge i.end → Edge (min i.end t.first)
  end_before t i cut from to some edge = elim (cases_lt t.first i.end) [
    | inl less ↦
        let is : t.first ≡ min i.end t.first = omega (arith, less) in
        subst Edge is (elim cut.1 [
          | inl under ↦ absurd (omega (arith, cut.0, under, from, some))
          | inr (inl above) ↦ absurd (omega (arith, above, less, to))
          | inr (inr edges) ↦ edges.0
        ])
    | inr past ↦ let is : i.end ≡ min i.end t.first = omega (arith, past) in subst Edge is edge
  ]

  first_behind : (t : Stretch) (i : Interval)
      → (t.first ≤ t.end) × ((t.end ≤ low) ⊎ (top ≤ t.first) ⊎ (Edge t.first × Edge t.end))
      → low ≤ i.first → i.end ≤ top → max i.first t.end < i.end → Edge i.first → Edge (max i.first t.end)
  first_behind t i cut from to some edge = elim (cases_lt i.first t.end) [
    | inl less ↦
        let is : t.end ≡ max i.first t.end = omega (arith, less) in
        subst Edge is (elim cut.1 [
          | inl under ↦ absurd (omega (arith, under, from, less))
          | inr (inl above) ↦ absurd (omega (arith, cut.0, above, some, to))
          | inr (inr edges) ↦ edges.1
        ])
    | inr past ↦ let is : i.first ≡ max i.first t.end = omega (arith, past) in subst Edge is edge
  ]

  left : (hs : List Stretch) (i : Interval) → ((t : Stretch) → In t hs → IsCut p low top Edge t) → low ≤ i.first
      → i.end ≤ top → (i.first < i.end → Edge i.first × Edge i.end)
      → ((y : ℕ) → i.first ≤ y → y < i.end → Touched y) → ArePieces hs i.first i.end (without hs p i)
  unfolding without
  left [] i cuts from to edges all = elim (cases_lt i.first i.end) [
    | inl less ↦ rw (lt-ltb i.first i.end less) (
      record {
        some = less;
        first = (edges less).0;
        end = (edges less).1;
        touched = all i.first (omega arith) less;
        free = λ t j. absurd j;
      },
      omega arith,
      omega arith,
      tt,
    )
    | inr none ↦ rw (le-ltb i.first i.end none) tt
  ]
  left (t ∷ ts) i cuts from to edges all = elim (cases_eq t.position p) [
    | inl same ↦
        let cut = cuts t (inl refl) same in
        let front : ArePieces ts i.first (min i.end t.first) (without ts p (before t i)) =
        left ts (before t i) (λ u j. cuts u (inr j)) from (omega (arith, to))
        (λ less. let more : i.first < i.end = omega (arith, less) in
        ((edges more).0, end_before t i cut from to less (edges more).1))
        (λ y l m. all y l (omega (arith, m))) in
        let back : ArePieces ts (max i.first t.end) i.end (without ts p (behind t i)) =
        left ts (behind t i) (λ u j. cuts u (inr j)) (omega (arith, from)) to
        (λ less. let more : i.first < i.end = omega (arith, less) in
        (first_behind t i cut from to less (edges more).0, (edges more).1))
        (λ y l m. all y (omega (arith, l)) m) in
        rw (eq-eqb t.position p same) (joined (t ∷ ts) i.first i.first (min i.end t.first) (max i.first t.end) i.end
        (without ts p (before t i)) (without ts p (behind t i)) (omega arith)
        (beside t ts i.first (min i.end t.first) (without ts p (before t i)) (λ e. inr (omega arith)) front)
        (beside t ts (max i.first t.end) i.end (without ts p (behind t i)) (λ e. inl (omega arith)) back)
        (omega arith) (omega (arith, cut.0)) (omega arith))
    | inr other ↦ rw (ne_eqb t.position p other) (beside t ts i.first i.end (without ts p i) (λ e. absurd (other e))
        (left ts i (λ u j. cuts u (inr j)) from to edges all))
  ]

  pub left_of_each : (hs : List Stretch) (from : ℕ) (is : List Interval) → ((t : Stretch) → In t hs → IsCut p low top Edge t)
      → low ≤ from → AreInside top Edge Touched from is → ArePieces hs from top (without_each hs p is)
  unfolding without_each
  left_of_each hs from [] cuts l k = tt
  left_of_each hs from (i ∷ is) cuts l k =
      let up : low ≤ i.first = omega (arith, l, k.0.low) in
      joined hs from i.first i.end i.end top (without hs p i) (without_each hs p is) k.0.low
      (left hs i cuts up k.0.high (λ less. (k.0.first, k.0.end)) k.0.touched)
      (left_of_each hs i.end is cuts (omega (arith, up, k.0.order)) k.1) (omega (arith, k.0.low, k.0.order)) (omega arith)
      k.0.high
