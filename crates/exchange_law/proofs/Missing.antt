-- A position without a present replica: each of its components is missing.
use Rattle.std.proofs.Common.{◌≡◌, ◌==◌, ◌<◌, ℕ, zero, suc, ◌+◌, ◌*◌, ◌/◌, ◌&&◌, not, Bool, true, false, List, [], ◌∷◌, Option, Some, None, length, slice_get, refl, sym, ap, ◌∙◌, arith, inl, inr}
use Rattle.std.specs.Prelude.{is_none}
use Rattle.std.proofs.lemmas.Bool.{cases_Bool, eq-eqb}
use Rattle.std.proofs.lemmas.Nat.{div-mul-add}
use Rattle.std.proofs.lemmas.Option.{slice_get_cases}
use Rattle.data_map.specs.Striping.{replicas}
use Rattle.data_map.specs.declared.check.RawMap.{RawMap}
use Rattle.server_rules.specs.declared.files.Component.{Component}
use Rattle.server_rules.specs.Standing.{replica_from, replica}

missing_by : (a b : Bool) → (not a && b) ≡ false → b ≡ true → a ≡ true
missing_by true b e t = refl
missing_by false true e t = absurd (cc e)
missing_by false false e t = absurd (cc t)

none_there : (o : Option ℕ) → is_none o ≡ true → o ≡ None
none_there None e = refl
none_there (Some n) e = absurd (cc e)

pub all_missing : (m : RawMap) (p : ℕ) (cs : List Component) (k : ℕ) → replica_from m p cs k ≡ None
    → (i : ℕ) (at : Component) → slice_get cs i ≡ Some at → (k + i) / replicas m ≡ p → at.missing ≡ true
unfolding replica_from
all_missing m p [] k e i at found here = absurd (cc found)
all_missing m p (c ∷ cs) k e zero at found here = elim (cases_Bool (not c.missing && (k / replicas m == p))) [
  | inl t ↦ absurd (cc (rw t at e))
  | inr z ↦
      let same : c ≡ at = cc found in
      let at0 : k + 0 ≡ k = omega arith in
      let its : (k / replicas m == p) ≡ true =
      eq-eqb (k / replicas m) p (ap (λ (x : ℕ). x / replicas m) (sym at0) ∙ here) in
      ap (λ (x : Component). x.missing) (sym same) ∙ missing_by c.missing (k / replicas m == p) z its
]
all_missing m p (c ∷ cs) k e (suc i) at found here = elim (cases_Bool (not c.missing && (k / replicas m == p))) [
  | inl t ↦ absurd (cc (rw t at e))
  | inr z ↦
      let on : k + 1 + i ≡ k + suc i = omega arith in
      all_missing m p cs (k + 1) (rw z at e) i at found (ap (λ (x : ℕ). x / replicas m) on ∙ here)
]

-- replica i of such a position
pub missing_replica : (m : RawMap) (p : ℕ) (cs : List Component) (i : ℕ) (at : Component)
    → is_none (replica m cs p) ≡ true → slice_get cs (p * replicas m + i) ≡ Some at → i < replicas m → at.missing ≡ true
missing_replica m p cs i at none found l =
    let k : ℕ = p * replicas m + i in
    let z : 0 + k ≡ k = omega arith in
    all_missing m p cs 0 (none_there (replica m cs p) none) k at found
    (ap (λ (x : ℕ). x / replicas m) z ∙ div-mul-add p (replicas m) i l)

-- there is a component for each number below as many as there are
pub component_at : (cs : List Component) (k : ℕ) → k < length cs → (at : Component) × (slice_get cs k ≡ Some at)
component_at cs k inside = elim (slice_get_cases cs k).1 [
  | inl x ↦ (x.0, x.2)
  | inr y ↦ absurd (omega (arith, y.0, inside))
]
