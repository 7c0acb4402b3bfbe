-- A stripe of a file none of whose components is missing isn't short while no drive has failed.
use Rattle.std.proofs.Common.{◌≡◌, ℕ, zero, suc, ◌+◌, ◌*◌, ◌/◌, ◌<◌, ◌≤◌, ◌==◌, ◌&&◌, ◌||◌, not, Bool, true, false, List, [], ◌∷◌, Option, Some, is_none, length, filter, arith, refl, ap, ◌∙◌, nat_lt, if◌then◌else◌}
use Rattle.std.specs.List.{range_with_len}
use Rattle.std.proofs.Math.Nat.{mul-div_cancel, mul-le-mul_right, suc-mul}
use Rattle.std.proofs.lemmas.Bool.Decides.{nat_tests}
use Rattle.std.proofs.lemmas.List.{length-map}
use Rattle.data_map.specs.declared.check.RawMap.{RawMap}
use Rattle.data_map.specs.Check.{IsChecked}
use Rattle.data_map.specs.Striping.{replicas, positions, group_width, groups, group_of}
use Rattle.data_map.proofs.Shape.{whole_groups, replicas_inside}
use Rattle.data_map.proofs.Striping.{group_below}
use Rattle.server_rules.specs.Numbers.{among}
use Rattle.server_rules.specs.Standing.{replica_from, replica, lacking, is_short}
use Rattle.world_history.specs.ServerNames.{File, Component}
use Rattle.world_history.specs.Stripes.{Moment, is_lost, standing, is_short_stripe}

-- none of these is missing
abbrev pub AllThere : List Component → Type 0
AllThere [] = Unit {0}
AllThere (at ∷ cs) = (at.missing ≡ false) × AllThere cs

-- a usable map, and as many components
abbrev pub HasAllComponents : RawMap × ℕ → Type 0
HasAllComponents p = IsChecked p.0 × (p.1 ≡ p.0.comps)

-- ---- a replica of each position

module _ (m : RawMap) (position : ℕ) where
  found_if : (b : Bool) (k : ℕ) (o : Option ℕ) → (b ≡ false → is_none o ≡ false)
      → is_none (if not false && b then Some k else o) ≡ false
  found_if true k o rest = refl
  found_if false k o rest = rest refl

  replica_found : (cs : List Component) (k j : ℕ) → AllThere cs → j < length cs → (k + j) / replicas m ≡ position
      → is_none (replica_from m position cs k) ≡ false
  unfolding replica_from
  replica_found [] k j there l e = absurd (omega (arith, l))
  replica_found (at ∷ cs) k zero there l e =
      let here : k / replicas m ≡ position = ap (λ (x : ℕ). x / replicas m) (omega arith) ∙ e in
      rw there.0 (found_if (k / replicas m == position) k _ (λ no. absurd (grind (arith, nat_tests, here, no))))
  replica_found (at ∷ cs) k (suc j) there l e =
      rw there.0 (found_if (k / replicas m == position) k _
      (λ no. replica_found cs (k + 1) j there.1 (omega (arith, l))
      (ap (λ (x : ℕ). x / replicas m) (omega arith) ∙ e)))

none_pass : (test : ℕ → Bool) (n a : ℕ) → ((p : ℕ) → a ≤ p → p < a + n → test p ≡ false)
    → filter test (range_with_len a n) ≡ []
none_pass test zero a none = refl
none_pass test (suc n) a none =
    let here : test a ≡ false = none a (omega arith) (omega arith) in
    rw here (none_pass test n (a + 1) (λ p l u. none p (omega (arith, l)) (omega (arith, u))))

not_lacking : (m : RawMap) (cs : List Component) (g : ℕ) → IsChecked m → length cs ≡ m.comps → AllThere cs → g < groups m
    → is_short m cs g ≡ false
unfolding lacking
not_lacking m cs g checked whole there l =
    let next : suc g * group_width m ≡ g * group_width m + group_width m = suc-mul g (group_width m) in
    let below : g * group_width m + group_width m ≤ positions m =
    omega (arith, next, mul-le-mul_right (group_width m) l, whole_groups m checked) in
    let none : filter (λ p. is_none (replica m cs p)) (range_with_len (g * group_width m) (group_width m)) ≡ [] =
    none_pass (λ p. is_none (replica m cs p)) (group_width m) (g * group_width m)
    (λ p low up.
    let inside : p * replicas m + replicas m ≤ m.comps = replicas_inside m p checked (omega (arith, up, below)) in
    replica_found m p cs 0 (p * replicas m) there (omega (arith, inside, whole))
    (ap (λ (x : ℕ). x / replicas m) (omega arith) ∙ mul-div_cancel p (omega arith))) in
    ap (λ (ps : List ℕ). nat_lt 0 (length ps)) none

-- ---- a moment

standing_there : (mo : Moment) (cs : List Component) → mo.failed ≡ [] → AllThere cs → AllThere (standing mo cs)
unfolding among
standing_there mo [] none there = tt
standing_there mo (at ∷ cs) none there = (
  ap (λ (b : Bool). b || among at.drive mo.failed) there.0 ∙ ap (λ (ds : List ℕ). among at.drive ds) none,
  standing_there mo cs none there.1,
)

pub not_short : (mo : Moment) (f : File) (s : ℕ) → mo.failed ≡ [] → AllThere f.kept.components
    → HasAllComponents (f.kept.map, length f.kept.components) → is_short_stripe mo f s ≡ false
unfolding is_short_stripe
not_short mo f s none there whole =
    not_lacking f.kept.map (standing mo f.kept.components) (group_of f.kept.map s) whole.0
    (length-map f.kept.components (λ (at : Component). record at { missing = is_lost mo at }) ∙ whole.1)
    (standing_there mo f.kept.components none there) (group_below f.kept.map s whole.0)
