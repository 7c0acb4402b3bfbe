-- A column that is short in the machine is of a stripe that is short at the moment, and a moment that is calm gives a calm
-- machine.
use Rattle.std.proofs.Common.{◌≡◌, ◌<◌, ◌≤◌, ◌+◌, ◌*◌, ◌/◌, ◌%◌, ◌==◌, ◌&&◌, not, ℕ, zero, suc, Bool, true, false, List, [], ◌∷◌, length, filter, slice_get, Option, Some, None, is_none, refl, sym, ap, subst, ◌∙◌, inl, inr, arith, lt-ltb, if◌then◌else◌}
use Rattle.std.specs.Prelude.{nat_lt}
use Rattle.std.specs.List.{range_with_len, list_any}
use Rattle.std.specs.Option.{option_map}
use Rattle.std.proofs.lemmas.Bool.{true≢false, cases_Bool, and_from}
use Rattle.std.proofs.lemmas.Bool.Decides.{nat_tests}
use Rattle.std.proofs.lemmas.Nat.{div-add-mod', mod_below}
use Rattle.std.proofs.lemmas.Option.{slice_get_within}
use Rattle.osd_lists.proofs.Tests.{nat_less}
use Rattle.data_map.specs.declared.check.RawMap.{RawMap}
use Rattle.data_map.specs.Check.{IsChecked}
use Rattle.data_map.specs.Inverse.{stripe_at, byte_at}
use Rattle.data_map.specs.Striping.{replicas, positions, group_width, group_of, parities}
use Rattle.data_map.proofs.Inverse.{group_there}
use Rattle.data_map.proofs.Striping.{group_again}
use Rattle.server_rules.specs.Files.{file_at}
use Rattle.server_rules.specs.Laws.{In}
use Rattle.server_rules.specs.Standing.{replica_from, replica, lacking, is_short}
use Rattle.world_history.specs.ServerNames.{File, Component}
use Rattle.world_history.specs.Stripes.{Mark, Moment, is_lost, standing, is_short_stripe, is_unfinished, is_left, is_torn_by, is_harmed_in, of_entry, is_calm}
use Rattle.component_law.proofs.Lists.{get_map}
use Rattle.fence_law.specs.Columns.{IsCalm, Short}
use Rattle.fence_law.specs.State.{State}
use Rattle.plan_law.specs.FileLayout.{layout_of, has_parity, has_component, column_of_cell, stripe_of_column}
use Rattle.plan_law.proofs.Cells.{stands_at}
use Rattle.plan_law.proofs.StripeColumns.{columns_have_stripes}
use Rattle.file_simulation.specs.Showing.{Pairs}
use Rattle.headline_law.specs.Marks.{IsWatched, AreLeft}
use Rattle.headline_law.proofs.CalmEvents.{disturbs}

-- a test that holds of a member holds of one of them
here : {A : Type 0} (p : A → Bool) (xs : List A) (x : A) → In x xs → p x ≡ true → list_any p xs ≡ true
here p [] x i e = absurd i
here p (y ∷ xs) x (inl same) e = rw (ap p (sym same) ∙ e) refl
here p (y ∷ xs) x (inr i) e = elim (cases_Bool (p y)) [ inl t ↦ rw t refl | inr z ↦ rw z (here p xs x i e) ]

-- ---- a position of which all replicas are missing

none_from : (m : RawMap) (p : ℕ) (cs : List Component) (k : ℕ) →
    ((j : ℕ) (at : Component) → slice_get cs j ≡ Some at → (k + j) / replicas m ≡ p → at.missing ≡ true) →
    replica_from m p cs k ≡ None
unfolding replica_from
none_from m p [] k all = refl
none_from m p (at ∷ cs) k all = elim (cases_Bool (k / replicas m == p)) [
  | inr z ↦
      rw (not_here at.missing (k / replicas m == p) z)
      (none_from m p cs (k + 1) (λ j b found is. all (suc j) b found (ap (λ (x : ℕ). x / replicas m) (next j) ∙ is)))
  | inl t ↦
      let same : k / replicas m ≡ p = grind (arith, nat_tests, t) in
      let gone : at.missing ≡ true =
      all 0 at refl (ap (λ (x : ℕ). x / replicas m) (let y : k + 0 ≡ k = omega arith in y) ∙ same) in
      rw gone
      (none_from m p cs (k + 1) (λ j b found is. all (suc j) b found (ap (λ (x : ℕ). x / replicas m) (next j) ∙ is)))
]
  where
    next : (j : ℕ) → k + suc j ≡ k + 1 + j
    next j = omega arith

    not_here : (a b : Bool) → b ≡ false → (not a && b) ≡ false
    not_here true b e = refl
    not_here false b e = e

-- a number of a range that passes is counted
some_passes : (test : ℕ → Bool) (a n q : ℕ) → a ≤ q → q < a + n → test q ≡ true →
    0 < length (filter test (range_with_len a n))
some_passes test a zero q low high is = absurd (omega (arith, low, high))
some_passes test a (suc n) q low high is = elim (cases_Bool (test a)) [
  | inl t ↦ rw t (omega arith)
  | inr z ↦ rw z (some_passes test (a + 1) n q (grind (arith, low, is, z)) (omega (arith, high)) is)
]

-- ---- a column that is short

-- what the machine has as lost is lost at the moment
abbrev pub LostToo : State → Moment → List Component → Type 0
LostToo s m cs =
    (k : ℕ) (at : Component) → slice_get cs k ≡ Some at → s.lost k ≡ true → is_lost m at ≡ true

-- the component that stands for one at the moment
stood : (mo : Moment) (cs : List Component) (j : ℕ) (b : Component) → slice_get (standing mo cs) j ≡ Some b →
    (at : Component) × (slice_get cs j ≡ Some at) × (b.missing ≡ is_lost mo at)
stood mo cs j b e = by (slice_get cs j) refl
  where
    marked : Component → Component
    marked at = record at { missing = is_lost mo at }

    by : (o : Option Component) → slice_get cs j ≡ o →
        (at : Component) × (slice_get cs j ≡ Some at) × (b.missing ≡ is_lost mo at)
    by None is = absurd (cc (sym e ∙ get_map marked cs j ∙ ap (option_map marked) is))
    by (Some at) is =
        let same : marked at ≡ b = cc (sym (ap (option_map marked) is) ∙ sym (get_map marked cs j) ∙ e) in
        (at, is, ap (λ (x : Component). x.missing) (sym same))

pub short_there : (m : RawMap) (tag : ℕ) (s : State) (mo : Moment) (cs : List Component) (x : ℕ) → IsChecked m →
    s.layout ≡ layout_of m tag → length cs ≡ m.comps → LostToo s mo cs → Short s x →
    is_short m (standing mo cs) (group_of m (stripe_of_column m x)) ≡ true
unfolding lacking
short_there m tag s mo cs x c is long lost short =
    let d = rw is at short in
    let k : ℕ = d.0 in
    let z : ℕ = d.1 in
    let p : ℕ = k / replicas m in
    let below : k < m.comps = nat_less k m.comps d.2 in
    let inside : p < positions m = stands_at m k c below in
    let group : group_of m (stripe_of_column m x) ≡ p / group_width m =
    ap (λ (y : ℕ). group_of m (stripe_of_column m y)) (sym d.3)
    ∙ ap (group_of m) ((columns_have_stripes m c).1 k z)
    ∙ group_again m (p / group_width m) (z / m.unit) c (group_there m p c inside) in
    let none : replica m (standing mo cs) p ≡ None =
    none_from m p (standing mo cs) 0 (λ j b found at.
    let o = stood mo cs j b found in
    let zero_ : 0 + j ≡ j = omega arith in
    let same : j / replicas m ≡ p = ap (λ (y : ℕ). y / replicas m) (sym zero_) ∙ at in
    let there : has_component m j ≡ true =
    lt-ltb j m.comps (subst (λ (n : ℕ). j < n) long (slice_get_within cs j o.0 o.1)) in
    let column : column_of_cell m j z ≡ x = column_same j z same ∙ d.3 in
    o.2 ∙ lost j o.0 o.1 (d.4 j z there column same)) in
    let whole = div-add-mod' p (group_width m) in
    let some : 0 < group_width m = omega (arith, c.some_data) in
    let rest : p % group_width m < group_width m = mod_below p (group_width m) some in
    subst (λ (g : ℕ). is_short m (standing mo cs) g ≡ true) (sym group)
    (lt-ltb 0 _
    (some_passes (λ (q : ℕ). is_none (replica m (standing mo cs) q)) (p / group_width m * group_width m) (group_width m) p
    (omega (arith, whole)) (omega (arith, whole, rest)) (ap is_none none)))
  where
    column_same : (j z : ℕ) → j / replicas m ≡ (rw is at short).0 / replicas m →
        column_of_cell m j z ≡ column_of_cell m (rw is at short).0 z
    column_same j z same =
        ap (λ (p : ℕ). if has_parity m then stripe_at m p z * m.unit + z % m.unit else byte_at m p z) same

-- ---- a moment that is calm

all_three : (b c d : Bool) → b ≡ true → c ≡ true → d ≡ true → (b && (c && d)) ≡ true
all_three b c d p q r = and_from b (c && d) p (and_from c d q r)

pub calm_there : (tag : ℕ) (s : State) (mo : Moment) (f : File) (pairs : Pairs) → IsChecked f.kept.map →
    s.layout ≡ layout_of f.kept.map tag → IsWatched s mo f pairs → AreLeft s mo f pairs → is_calm mo ≡ true → IsCalm s
unfolding is_calm is_short_stripe
calm_there tag s mo f pairs c is w left calm x coded torn short =
    let m : RawMap = f.kept.map in
    let parity : has_parity m ≡ true = rw is at coded in
    elim (w.marks x (disturbs s x torn)) [
      | inr none ↦ true≢false (sym parity ∙ ap (nat_lt 0) none.0)
      | inl k ↦
          let mark : Mark = record { file = f.kept.number; stripe = stripe_of_column m x; entry = k.0 } in
          let l = left x k.0 torn coded k.1 in
          let by : is_torn_by mo f mark ≡ true =
          ap (of_entry (λ e. is_unfinished e && is_left mo f e)) l.found
          ∙ and_from (is_unfinished l.entry) (is_left mo f l.entry) l.unfinished l.left in
          let harmed : is_harmed_in mo mark (file_at mo.server.files f.kept.number) ≡ true =
          ap (is_harmed_in mo mark) w.there
          ∙ all_three (nat_lt 0 (parities m)) (is_torn_by mo f mark) (is_short_stripe mo f mark.stripe) parity by
          (short_there m tag s mo f.kept.components x c is w.long w.lost short) in
          let any : list_any (λ (y : Mark). is_harmed_in mo y (file_at mo.server.files y.file)) mo.marks ≡ true =
          here (λ (y : Mark). is_harmed_in mo y (file_at mo.server.files y.file)) mo.marks mark k.2 harmed in
          true≢false (sym calm ∙ ap not any)
    ]
