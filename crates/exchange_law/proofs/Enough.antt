-- Where the server finds that a writer of some stripes lacks no component, the client lacks none either.
use Rattle.std.proofs.Common.{◌≡◌, ◌==◌, ◌<◌, ◌≤◌, ℕ, zero, suc, ◌+◌, ◌-◌, ◌*◌, ◌/◌, ◌%◌, ◌&&◌, not, Bool, true, false, List, [], ◌∷◌, Option, Some, None, length, slice_get, filter, refl, sym, ap, subst, ◌∙◌, arith, inl, inr, if◌then◌else◌}
use Rattle.std.specs.Prelude.{is_none}
use Rattle.std.specs.List.{range_with_len}
use Rattle.std.proofs.lemmas.Bool.{cases_Bool, cases_eq, lt-ltb, ltb-true, eq-eqb, ne_eqb, eqb-true, and_parts}
use Rattle.std.proofs.lemmas.Nat.{div-add-mod', div-mul-add}
use Rattle.std.proofs.lemmas.Option.{slice_get_cases}
use Rattle.std.proofs.Math.Nat.{add-mul, mod-lt, mul-le-mul_right}
use Rattle.data_map.specs.declared.check.RawMap.{RawMap}
use Rattle.data_map.specs.Check.{IsChecked}
use Rattle.data_map.specs.Striping.{replicas, positions, group_width, groups, group_of, parities, stripe_of}
use Rattle.data_map.proofs.Shape.{replicas_inside, whole_groups, some_groups}
use Rattle.stripe_plan.specs.declared.plan.Span.{Span}
use Rattle.stripe_plan.specs.Touched.{end_of, stripes}
use Rattle.stripe_plan.specs.Lost.{among, source_from, source, is_out, out_from, positions_out, is_short, unwritable}
use Rattle.client_rules.specs.Grants.{missing_from}
use Rattle.world_history.specs.ServerNames.{Component, Drive, Grant, Kept}
use Rattle.server_rules.specs.Maps.{group_with, stands_in}
use Rattle.server_rules.specs.Standing.{replica_from, replica, lacking, is_beyond, lacked_from}
use Rattle.exchange_law.specs.Held.{listed_from}
use Rattle.exchange_law.proofs.HeldRows.{stands_there}

-- ---- a component that isn't missing

module _ (ds : List Drive) (f : Kept) (g : Grant) where
  not_below : (cs : List Component) (k n : ℕ) → n < k → among n (missing_from (listed_from ds f g cs k) k) ≡ false
  unfolding missing_from listed_from
  not_below [] k n less = refl
  not_below (at ∷ cs) k n less = elim (cases_Bool at.missing) [
    | inl t ↦ rw (t, ne_eqb k n (omega (arith, less))) (not_below cs (k + 1) n (omega (arith, less)))
    | inr z ↦ rw z (not_below cs (k + 1) n (omega (arith, less)))
  ]

  not_among : (cs : List Component) (k i : ℕ) (at : Component) → slice_get cs i ≡ Some at → at.missing ≡ false
      → among (k + i) (missing_from (listed_from ds f g cs k) k) ≡ false
  unfolding missing_from listed_from
  not_among [] k i at found here = absurd (cc found)
  not_among (c ∷ cs) k zero at found here =
      let same : c ≡ at = cc found in
      let is : k + 0 ≡ k = omega arith in
      rw (is, ap (λ (x : Component). x.missing) same ∙ here) (not_below cs (k + 1) k (omega arith))
  not_among (c ∷ cs) k (suc i) at found here =
      let on : k + suc i ≡ k + 1 + i = omega arith in
      elim (cases_Bool c.missing) [
        | inl t ↦ rw (on, t, ne_eqb k (k + 1 + i) (omega arith)) (not_among cs (k + 1) i at found here)
        | inr z ↦ rw (on, z) (not_among cs (k + 1) i at found here)
      ]

  abbrev pub missing : List ℕ
  missing = missing_from (listed_from ds f g f.components 0) 0

  not_missing : (i : ℕ) (at : Component) → slice_get f.components i ≡ Some at → at.missing ≡ false
      → among i missing ≡ false
  not_missing i at found here =
      let same : 0 + i ≡ i = omega arith in
      subst (λ (n : ℕ). among n missing ≡ false) same (not_among f.components 0 i at found here)

-- ---- a position that is out

pub found_from : (out : List ℕ) (k n i : ℕ) → i < n → among (k + i) out ≡ false → is_none (source_from out k n) ≡ false
unfolding source_from
found_from out k zero i less there = absurd (omega (arith, less))
found_from out k (suc n) zero less there =
    let same : k + 0 ≡ k = omega arith in rw (subst (λ (x : ℕ). among x out ≡ false) same there) refl
found_from out k (suc n) (suc i) less there = elim (cases_Bool (among k out)) [
  | inl t ↦
      let on : k + suc i ≡ k + 1 + i = omega arith in
      rw t (found_from out (k + 1) n i (omega (arith, less)) (subst (λ (x : ℕ). among x out ≡ false) on there))
  | inr z ↦ rw z refl
]

-- so is one of the replicas
pub not_out : (m : RawMap) (out : List ℕ) (p i : ℕ) → i / replicas m ≡ p → among i out ≡ false → is_out m out p ≡ false
unfolding source
not_out m out p i is there =
    let whole : p * replicas m + i % replicas m ≡ i =
    ap (λ (x : ℕ). x * replicas m + i % replicas m) (sym is) ∙ div-add-mod' i (replicas m) in
    found_from out (p * replicas m) (replicas m) (i % replicas m) (mod-lt i (omega arith))
    (subst (λ (x : ℕ). among x out ≡ false) (sym whole) there)

-- a present replica that was found
pub record IsReplica (m : RawMap) (p : ℕ) (cs : List Component) (k : ℕ) : Type 0 where
  pub place : ℕ
  pub at : Component
  pub found : slice_get cs place ≡ Some at
  pub present : at.missing ≡ false
  pub position : (k + place) / replicas m ≡ p

not_true : (b : Bool) → not b ≡ true → b ≡ false
not_true true e = absurd (cc e)
not_true false e = refl

pub is_replica : (m : RawMap) (p : ℕ) (cs : List Component) (k n : ℕ) → replica_from m p cs k ≡ Some n
    → IsReplica m p cs k
unfolding replica_from
is_replica m p [] k n e = absurd (cc e)
is_replica m p (at ∷ cs) k n e = elim (cases_Bool (not at.missing && (k / replicas m == p))) [
  | inl t ↦
      let w = and_parts (not at.missing) (k / replicas m == p) t in
      let same : k + 0 ≡ k = omega arith in
      record {
        place = 0;
        at = at;
        found = refl;
        present = not_true at.missing w.0;
        position = ap (λ (x : ℕ). x / replicas m) same ∙ eqb-true (k / replicas m) p w.1;
      }
  | inr z ↦
      let r = is_replica m p cs (k + 1) n (rw z at e) in
      let on : k + suc r.place ≡ k + 1 + r.place = omega arith in
      record {
        place = suc r.place;
        at = r.at;
        found = r.found;
        present = r.present;
        position = ap (λ (x : ℕ). x / replicas m) on ∙ r.position;
      }
]

-- ---- the positions of a group

module _ (ds : List Drive) (f : Kept) (g : Grant) where
  abbrev out : List ℕ
  out = missing ds f g

  none_there : (p : ℕ) (o : Option ℕ) → replica f.map f.components p ≡ o → is_out f.map out p ≡ true → is_none o ≡ true
  none_there p None e gone = refl
  none_there p (Some n) e gone =
      let r = is_replica f.map p f.components 0 n e in
      let same : 0 + r.place ≡ r.place = omega arith in
      let there =
      not_out f.map out p r.place (ap (λ (x : ℕ). x / replicas f.map) (sym same) ∙ r.position)
      (not_missing ds f g r.place r.at r.found r.present) in
      absurd (cc (sym gone ∙ there))

  -- the client counts no more of them out than the server
  fewer_out : (p n : ℕ)
      → length (out_from f.map out p n)
      ≤ length (filter (λ (q : ℕ). is_none (replica f.map f.components q)) (range_with_len p n))
  unfolding out_from
  fewer_out p zero = omega arith
  fewer_out p (suc n) =
      let rest = fewer_out (p + 1) n in
      elim (cases_Bool (is_out f.map out p)) [
        | inl gone ↦ rw (gone, none_there p (replica f.map f.components p) refl gone) (omega (arith, rest))
        | inr there ↦ rw there (elim (cases_Bool (is_none (replica f.map f.components p))) [
          | inl t ↦ rw t (omega (arith, rest))
          | inr z ↦ rw z rest
        ])
      ]

some_out : (m : RawMap) (out : List ℕ) (p n : ℕ) → 0 < length (out_from m out p n)
    → (i : ℕ) × (i < n) × (is_out m out (p + i) ≡ true)
unfolding out_from
some_out m out p zero some = absurd (omega (arith, some))
some_out m out p (suc n) some = elim (cases_Bool (is_out m out p)) [
  | inl gone ↦ (0, omega arith, let z : p + 0 ≡ p = omega arith in rw z gone)
  | inr there ↦
      let r = some_out m out (p + 1) n (rw there at some) in
      (r.0 + 1, omega (arith, r.1), let z : p + (r.0 + 1) ≡ p + 1 + r.0 = omega arith in rw z r.2)
]

-- ---- no component is lacked

-- what is said of a component that isn't lacked
abbrev Spared : RawMap → List Component → (first end k : ℕ) → Component → Type 0
Spared m all first end k at =
    (at.missing && (stands_in m (group_with m k) first end && is_beyond m all (group_with m k))) ≡ false

-- this one, or one behind it
spared_at : (m : RawMap) (all : List Component) (first end : ℕ) (c : Component) (cs : List Component) (k i : ℕ)
    (at : Component) → slice_get (c ∷ cs) i ≡ Some at → Spared m all first end k c
    → ((j : ℕ) → slice_get cs j ≡ Some at → Spared m all first end (k + 1 + j) at) → Spared m all first end (k + i) at
spared_at m all first end c cs k zero at found here rest =
    let same : c ≡ at = cc found in
    let is : k + 0 ≡ k = omega arith in
    rw is (subst (Spared m all first end k) same here)
spared_at m all first end c cs k (suc j) at found here rest =
    let on : k + suc j ≡ k + 1 + j = omega arith in rw on (rest j found)

spared : (m : RawMap) (all : List Component) (first end : ℕ) (cs : List Component) (k i : ℕ) (at : Component)
    → lacked_from m all first end cs k ≡ None → slice_get cs i ≡ Some at → Spared m all first end (k + i) at
unfolding lacked_from
spared m all first end [] k i at e found = absurd (cc found)
spared m all first end (c ∷ cs) k i at e found =
    elim (cases_Bool (c.missing && (stands_in m (group_with m k) first end && is_beyond m all (group_with m k)))) [
      | inl t ↦ absurd (cc (rw t at e))
      | inr z ↦ spared_at m all first end c cs k i at found z
          (λ j there. spared m all first end cs (k + 1) j at (rw z at e) there)
    ]

-- ---- a stripe of the range

module _ (ds : List Drive) (f : Kept) (g : Grant) (ch : IsChecked f.map) (long : length f.components ≡ f.map.comps)
    (first end : ℕ) (lacks : lacked_from f.map f.components first end f.components 0 ≡ None) where
  abbrev gone : List ℕ
  gone = missing ds f g

  below_by : (b : Bool) (x n : ℕ) → 0 < n → (if b then 0 else x % n) < n
  below_by true x n some = some
  below_by false x n some = mod-lt x some

  group_below : (s : ℕ) → group_of f.map s < groups f.map
  group_below s = below_by (f.map.width == 0) (s / f.map.depth) (groups f.map) (some_groups f.map ch)

  -- each position of its group has components
  position_below : (s i : ℕ) → i < group_width f.map
      → group_of f.map s * group_width f.map + i < positions f.map
  position_below s i less =
      let more : group_of f.map s + 1 ≤ groups f.map = omega (arith, group_below s) in
      omega (
        arith,
        less,
        add-mul (group_of f.map s) 1 (group_width f.map),
        mul-le-mul_right (group_width f.map) more,
        whole_groups f.map ch,
      )

  position_of_first : (p : ℕ) → p * replicas f.map / replicas f.map ≡ p
  position_of_first p =
      let same : p * replicas f.map + 0 ≡ p * replicas f.map = omega arith in
      ap (λ (x : ℕ). x / replicas f.map) (sym same) ∙ div-mul-add p (replicas f.map) 0 (omega arith)

  group_is : (s i : ℕ) → i < group_width f.map
      → group_with f.map ((group_of f.map s * group_width f.map + i) * replicas f.map) ≡ group_of f.map s
  group_is s i less =
      ap (λ (x : ℕ). x / group_width f.map) (position_of_first (group_of f.map s * group_width f.map + i))
      ∙ div-mul-add (group_of f.map s) (group_width f.map) i less

  present_where : (a b c : Bool) → (a && (b && c)) ≡ false → b ≡ true → c ≡ true → a ≡ false
  present_where true true true e t u = absurd (cc e)
  present_where true true false e t u = absurd (cc u)
  present_where true false c e t u = absurd (cc t)
  present_where false b c e t u = refl

  -- in a group that can't be decoded no component is missing
  none_out : (s i : ℕ) → first ≤ s → s < end → is_beyond f.map f.components (group_of f.map s) ≡ true
      → i < group_width f.map → is_out f.map gone (group_of f.map s * group_width f.map + i) ≡ true → ⊥
  none_out s i from to beyond less is =
      let p : ℕ = group_of f.map s * group_width f.map + i in
      let k : ℕ = p * replicas f.map in
      let inside : k < length f.components =
      omega (arith, replicas_inside f.map p ch (position_below s i less), long) in
      let at = there k inside in
      let same : 0 + k ≡ k = omega arith in
      let none : Spared f.map f.components first end k at.0 =
      subst (λ (n : ℕ). Spared f.map f.components first end n at.0) same
      (spared f.map f.components first end f.components 0 k at.0 lacks at.1) in
      let here = group_is s i less in
      let present : at.0.missing ≡ false =
      present_where at.0.missing (stands_in f.map (group_with f.map k) first end)
      (is_beyond f.map f.components (group_with f.map k)) none
      (ap (λ (n : ℕ). stands_in f.map n first end) here ∙ stands_there f.map s first end ch from to)
      (ap (λ (n : ℕ). is_beyond f.map f.components n) here ∙ beyond) in
      let out : is_out f.map gone p ≡ false =
      not_out f.map gone p k (position_of_first p) (not_missing ds f g k at.0 at.1 present) in
      cc (sym is ∙ out)
    where
      there : (k : ℕ) → k < length f.components → (at : Component) × (slice_get f.components k ≡ Some at)
      there k inside = elim (slice_get_cases f.components k).1 [
        | inl x ↦ (x.0, x.2)
        | inr y ↦ absurd (omega (arith, y.0, inside))
      ]

  -- so the client finds no stripe short
  pub not_short : (s : ℕ) → first ≤ s → s < end → is_short f.map gone s ≡ false
  unfolding is_short positions_out lacking
  not_short s from to = elim (cases_Bool (is_short f.map gone s)) [
    | inr z ↦ z
    | inl t ↦
        let start : ℕ = group_of f.map s * group_width f.map in
        let many : parities f.map < length (out_from f.map gone start (group_width f.map)) = ltb-true _ _ t in
        let fewer = fewer_out ds f g start (group_width f.map) in
        let beyond : is_beyond f.map f.components (group_of f.map s) ≡ true = lt-ltb _ _ (omega (arith, many, fewer)) in
        let one = some_out f.map gone start (group_width f.map) (omega (arith, many)) in
        absurd (none_out s one.0 from to beyond one.1 one.2)
  ]

-- ---- the stripes of a span

no_unwritable : (m : RawMap) (out : List ℕ) (a n : ℕ) → ((j : ℕ) → j < n → is_short m out (a + j) ≡ false)
    → unwritable m out (range_with_len a n) ≡ None
unfolding unwritable
no_unwritable m out a zero each = refl
no_unwritable m out a (suc n) each =
    let same : a + 0 ≡ a = omega arith in
    rw (subst (λ (x : ℕ). is_short m out x ≡ false) same (each 0 (omega arith)))
    (no_unwritable m out (a + 1) n (λ j less.
    let on : a + suc j ≡ a + 1 + j = omega arith in
    subst (λ (x : ℕ). is_short m out x ≡ false) on (each (suc j) (omega (arith, less)))))

-- all of which lie in the range
pub none_unwritable : (m : RawMap) (out : List ℕ) (r : Span) (first end : ℕ)
    → ((s : ℕ) → first ≤ s → s < end → is_short m out s ≡ false) → first ≤ stripe_of m r.offset
    → (0 < r.length → stripe_of m (end_of r - 1) < end) → unwritable m out (stripes m r) ≡ None
unfolding stripes unwritable
none_unwritable m out r first end each from to = elim (cases_eq r.length 0) [
  | inl none ↦ rw (eq-eqb r.length 0 none) refl
  | inr some ↦ rw (ne_eqb r.length 0 some) (no_unwritable m out (stripe_of m r.offset) _ (λ j less.
      let last = to (omega (arith, some)) in
      each (stripe_of m r.offset + j) (omega (arith, from)) (omega (arith, less, last))))
]
