-- How many components of a group stand in a zone, behind each change of a file's components.
use Rattle.std.proofs.Common.{◌≡◌, ◌⊎◌, ℕ, zero, suc, ◌+◌, ◌/◌, ◌≤◌, ◌==◌, ◌&&◌, not, ◌∷◌, [], List, Bool, true, false, length, filter, slice_set, refl, ap, subst, arith, inl, inr, eq-eqb, ne_eqb}
use Rattle.std.proofs.lemmas.Bool.{cases_Bool}
use Rattle.zone_place.specs.declared.asks.ZoneAsk.{ZoneAsk}
use Rattle.zone_place.specs.declared.loads.Holder.{Holder}
use Rattle.zone_place.specs.Zones.{InZone, stands_in}
use Rattle.server_rules.specs.declared.files.Component.{Component}
use Rattle.server_rules.specs.Numbers.{among}
use Rattle.server_rules.specs.Standing.{lose_from, lose_on}
use Rattle.server_rules.specs.Zoning.{holders_from}
use Rattle.server_rules.specs.Laws.{In}

-- ---- filters

pub filter_same : (p q : Holder → Bool) (hs : List Holder) → ((h : Holder) → In h hs → p h ≡ q h) → filter p hs ≡ filter q hs
filter_same p q [] e = refl
filter_same p q (h ∷ hs) e = elim (cases_Bool (q h)) [
  | inl t ↦ rw (e h (inl refl), t) (ap (λ (x : List Holder). h ∷ x) (filter_same p q hs (λ x i. e x (inr i))))
  | inr f ↦ rw (e h (inl refl), f) (filter_same p q hs (λ x i. e x (inr i)))
]

pub filter_fewer : (p q : Holder → Bool) (hs : List Holder) → ((h : Holder) → p h ≡ true → q h ≡ true)
    → length (filter p hs) ≤ length (filter q hs)
filter_fewer p q [] f = omega arith
filter_fewer p q (h ∷ hs) f =
    let rest = filter_fewer p q hs f in
    elim (cases_Bool (p h)) [
      | inl t ↦ rw (t, f h t) (omega (arith, rest))
      | inr z ↦ rw z (elim (cases_Bool (q h)) [ inl u ↦ rw u (omega (arith, rest)) | inr v ↦ rw v rest ])
    ]

-- ---- components that are lost stay where they stood

pub holders_lost : (ks : List ℕ) (cs : List Component) (j k : ℕ) → holders_from (lose_from ks cs j) k ≡ holders_from cs k
unfolding lose_from holders_from
holders_lost ks [] j k = refl
holders_lost ks (at ∷ cs) j k = elim (cases_Bool (among j ks)) [
  | inl t ↦ rw t (ap (λ (x : List Holder). record { component = k; drive = at.drive } ∷ x) (holders_lost ks cs (j + 1) (k + 1)))
  | inr z ↦ rw z (ap (λ (x : List Holder). record { component = k; drive = at.drive } ∷ x) (holders_lost ks cs (j + 1) (k + 1)))
]

pub holders_on : (d : ℕ) (cs : List Component) (k : ℕ) → holders_from (lose_on d cs) k ≡ holders_from cs k
unfolding lose_on holders_from
holders_on d [] k = refl
holders_on d (at ∷ cs) k = elim (cases_Bool (at.drive == d)) [
  | inl t ↦ rw t (ap (λ (x : List Holder). record { component = k; drive = at.drive } ∷ x) (holders_on d cs (k + 1)))
  | inr z ↦ rw z (ap (λ (x : List Holder). record { component = k; drive = at.drive } ∷ x) (holders_on d cs (k + 1)))
]

pub length_lost : (ks : List ℕ) (cs : List Component) (j : ℕ) → length (lose_from ks cs j) ≡ length cs
unfolding lose_from
length_lost ks [] j = refl
length_lost ks (at ∷ cs) j = ap suc (length_lost ks cs (j + 1))

pub length_on : (d : ℕ) (cs : List Component) → length (lose_on d cs) ≡ length cs
unfolding lose_on
length_on d [] = refl
length_on d (at ∷ cs) = ap suc (length_on d cs)

-- ---- one is made anew

pub length_set : (cs : List Component) (i : ℕ) (at : Component) → length (slice_set cs i at) ≡ length cs
length_set [] i at = refl
length_set (c ∷ cs) zero at = refl
length_set (c ∷ cs) (suc i) at = ap suc (length_set cs i at)

-- it stands on the new drive, and each other one where it stood
pub holder_set : (cs : List Component) (i n : ℕ) (at : Component) (h : Holder)
    → In h (holders_from (slice_set cs i at) n) → (h.drive ≡ at.drive) ⊎ In h (holders_from cs n)
unfolding holders_from
holder_set [] i n at h m = inr m
holder_set (c ∷ cs) zero n at h (inl e) = inl (ap (λ (x : Holder). x.drive) e)
holder_set (c ∷ cs) zero n at h (inr m) = inr (inr m)
holder_set (c ∷ cs) (suc i) n at h (inl e) = inr (inl e)
holder_set (c ∷ cs) (suc i) n at h (inr m) = elim (holder_set cs i (n + 1) at h m) [ inl e ↦ inl e | inr o ↦ inr (inr o) ]

-- one more, if it is counted
abbrev pub one_if : Bool → ℕ
one_if true = 1
one_if false = 0

pub count_first : (p : Holder → Bool) (h : Holder) (hs : List Holder)
    → length (filter p (h ∷ hs)) ≡ one_if (p h) + length (filter p hs)
count_first p h hs = elim (cases_Bool (p h)) [ inl t ↦ rw t (omega arith) | inr f ↦ rw f (omega arith) ]

module _ (ask : ZoneAsk) (ds : List InZone) (j z : ℕ) where
  abbrev pub counts : Holder → Bool
  counts h = (h.component / ask.size == j) && stands_in ds h.drive z

  -- but for component k
  abbrev pub counts_but : ℕ → Holder → Bool
  counts_but k h = ((h.component / ask.size == j) && not (h.component == k)) && stands_in ds h.drive z

  pub counts_less : (k : ℕ) (h : Holder) → counts_but k h ≡ true → counts h ≡ true
  counts_less k h e = parts (h.component / ask.size == j) (h.component == k) (stands_in ds h.drive z) e
    where
      parts : (a b c : Bool) → ((a && not b) && c) ≡ true → (a && c) ≡ true
      parts true true c f = absurd (cc f)
      parts true false c f = f
      parts false b c f = absurd (cc f)

  counts_other : (k : ℕ) (h : Holder) → (h.component ≡ k → ⊥) → counts_but k h ≡ counts h
  counts_other k h ne =
      rw (ne_eqb h.component k ne) (whole (h.component / ask.size == j) (stands_in ds h.drive z))
    where
      whole : (a c : Bool) → ((a && true) && c) ≡ (a && c)
      whole true c = refl
      whole false c = refl

  -- behind component k all are others
  behind : (cs : List Component) (k n : ℕ) → k + 1 ≤ n
      → filter (counts_but k) (holders_from cs n) ≡ filter counts (holders_from cs n)
  unfolding holders_from
  behind [] k n l = refl
  behind (c ∷ cs) k n l =
      let h : Holder = record { component = n; drive = c.drive } in
      let rest = behind cs k (n + 1) (omega (arith, l)) in
      rw (counts_other k h (λ e. omega (arith, l, e)))
      (elim (cases_Bool (counts h)) [
        | inl t ↦ rw t (ap (λ (x : List Holder). h ∷ x) rest)
        | inr f ↦ rw f rest
      ])

  none_itself : (k d : ℕ) → counts_but k (record { component = k; drive = d }) ≡ false
  none_itself k d = rw (eq-eqb k k refl) (last (k / ask.size == j) (stands_in ds d z))
    where
      last : (a c : Bool) → ((a && false) && c) ≡ false
      last true c = refl
      last false c = refl

  count_new : (c : Component) (cs : List Component) (n : ℕ) (at : Component)
      → length (filter counts (record { component = n; drive = at.drive } ∷ holders_from cs (n + 1)))
      ≤ one_if (counts (record { component = n; drive = at.drive }))
      + length (filter (counts_but n) (record { component = n; drive = c.drive } ∷ holders_from cs (n + 1)))
  count_new c cs n at = omega (
    arith,
    count_first counts (record { component = n; drive = at.drive }) (holders_from cs (n + 1)),
    count_first (counts_but n) (record { component = n; drive = c.drive }) (holders_from cs (n + 1)),
    ap one_if (none_itself n c.drive),
    ap (λ (x : List Holder). length x) (behind cs n (n + 1) (omega arith)),
  )

  -- where component k is made anew, no more are counted than of the others, and itself
  pub count_set : (cs : List Component) (i n k : ℕ) (at : Component) → k ≡ n + i
      → length (filter counts (holders_from (slice_set cs i at) n))
      ≤ one_if (counts (record { component = k; drive = at.drive })) + length (filter (counts_but k) (holders_from cs n))
  unfolding holders_from
  count_set [] i n k at e = omega arith
  count_set (c ∷ cs) zero n k at e =
      let here : n ≡ k = omega (arith, e) in
      subst (λ (x : ℕ). length (filter counts (record { component = n; drive = at.drive } ∷ holders_from cs (n + 1)))
      ≤ one_if (counts (record { component = x; drive = at.drive }))
      + length (filter (counts_but x) (record { component = n; drive = c.drive } ∷ holders_from cs (n + 1)))) here
      (count_new c cs n at)
  count_set (c ∷ cs) (suc i) n k at e =
      let head : Holder = record { component = n; drive = c.drive } in
      let same : counts_but k head ≡ counts head = counts_other k head (λ f. omega (arith, e, f)) in
      omega (
        arith,
        count_first counts head (holders_from (slice_set cs i at) (n + 1)),
        count_first (counts_but k) head (holders_from cs (n + 1)),
        ap one_if same,
        count_set cs i (n + 1) k at (omega (arith, e)),
      )
