-- What a job makes of the objects of its file's components: each keeps its own, or gets that of the rebuild's target, which was
-- new to it.
use Rattle.std.proofs.Common.{◌≡◌, ◌⊎◌, ℕ, zero, suc, ◌+◌, ◌≤◌, List, [], ◌∷◌, slice_get, slice_set, Option, Some, None, refl, sym, ap, subst, ◌∙◌, arith, inl, inr}
use Rattle.server_rules.specs.Going.{Going}
use Rattle.server_rules.specs.Rebuild.{stands_at}
use Rattle.server_rules.specs.Standing.{lose_on, lose_from}
use Rattle.history_law.specs.Names.{Kept, Drive, Target}
use Rattle.component_law.specs.Objects.{objects_of, target_of}
use Rattle.component_law.proofs.SentNumbers.{objects_set, objects_from, objects_on}
use Rattle.component_law.proofs.Walking.{IsWalked, target_is}

-- an object behind one that is set is that one, or was there
get_set : (xs : List ℕ) (i y k z : ℕ) → slice_get (slice_set xs i y) k ≡ Some z
    → ((k ≡ i) × (z ≡ y)) ⊎ (slice_get xs k ≡ Some z)
get_set [] i y k z e = inr e
get_set (x ∷ xs) zero y zero z e = inl (refl, cc (sym e))
get_set (x ∷ xs) zero y (suc k) z e = inr e
get_set (x ∷ xs) (suc i) y zero z e = inr e
get_set (x ∷ xs) (suc i) y (suc k) z e = elim (get_set xs i y k z e) [
  | inl r ↦ inl (ap (λ (m : ℕ). suc m) r.0, r.1)
  | inr r ↦ inr r
]

-- so it is of what is made anew
abbrev pub IsAim : (C : ℕ → ℕ → Type 0) → Option Target → Type 0
IsAim C None = Unit {0}
IsAim C (Some t) = C t.component t.object

-- and of each component's number and object; object numbers were used from n on
abbrev pub Lasts : (C : ℕ → ℕ → Type 0) → (number n : ℕ) → List Drive → (next : ℕ) → Kept → Option Target → Type 0
Lasts C number n ds m k o =
    ((k.number ≡ number) × (n ≤ m) × ((i x : ℕ) → slice_get (objects_of k.components) i ≡ Some x → C i x)) × IsAim C o

abbrev pub Ends : (C : ℕ → ℕ → Type 0) → (number n : ℕ) → Going → Type 0
Ends C number n g = Lasts C number n g.drives g.effects.object g.file.kept (target_of g.file.job)

module _ (C : ℕ → ℕ → Type 0) (number n : ℕ) (fresh : (k o : ℕ) → n ≤ o → C k o) where
  lasts_same : (ds : List Drive) (m : ℕ) (k l : Kept) (o : Option Target) → l.number ≡ k.number
      → objects_of l.components ≡ objects_of k.components → Lasts C number n ds m k o → Lasts C number n ds m l o
  lasts_same ds m k l o its e h =
      ((its ∙ h.0.0, h.0.1, λ i x f. h.0.2 i x (subst (λ (xs : List ℕ). slice_get xs i ≡ Some x) e f)), h.1)

  -- its target gets the next number
  aims : (g : Going) (t : Target) → t.object ≡ g.effects.object
      → Lasts C number n g.drives g.effects.object g.file.kept None
      → Lasts C number n g.drives (t.object + 1) g.file.kept (Some t)
  aims g t e h =
      ((h.0.0, omega (arith, e, h.0.1), h.0.2), fresh t.component t.object (omega (arith, e, h.0.1)))

  -- the component stands on its new drive
  placed : (ds : List Drive) (m : ℕ) (k : Kept) (t : Target) → Lasts C number n ds m k (Some t)
      → Lasts C number n ds m (record k { components = slice_set k.components t.component (stands_at t) }) None
  placed ds m k t h =
      let same = objects_set k.components t.component (stands_at t) in (
        (
          h.0.0,
          h.0.1,
          λ i x e. elim (get_set (objects_of k.components) t.component t.object i x
              (subst (λ (xs : List ℕ). slice_get xs i ≡ Some x) same e)) [
                | inl r ↦ rw (r.0, r.1) h.1
                | inr r ↦ h.0.2 i x r
              ],
        ),
        tt,
      )

  pub places_walked : IsWalked (Lasts C number n)
  places_walked = record {
    same = λ ds m k l o its zoned map components h. lasts_same ds m k l o its (ap objects_of components) h;
    ends = λ ds m k o h. (h.0, tt);
    aims = λ g at i t is h. aims g t (target_is g at i t is).1 h;
    placed = placed;
    lost = λ ds m k o ns h.
        lasts_same ds m k (record k { components = lose_from ns k.components 0 }) o refl (objects_from ns k.components 0) h;
    declared = λ ds m k o d h.
        lasts_same ds m k (record k { components = lose_on d k.components }) o refl (objects_on d k.components) h;
  }
