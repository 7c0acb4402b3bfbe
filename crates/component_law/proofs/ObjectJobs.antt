-- The objects of a file's components and of its rebuild's target are the file's own, and differ: so it stays through each part of
-- a job.
use Rattle.std.proofs.Common.{◌≡◌, ℕ, ◌+◌, ◌≤◌, List, slice_set, Option, Some, None, refl, sym, ap, subst, ◌∙◌, arith, inl, inr}
use Rattle.server_rules.specs.Going.{Going}
use Rattle.server_rules.specs.Laws.{In}
use Rattle.server_rules.specs.Rebuild.{stands_at}
use Rattle.server_rules.specs.Standing.{lose_on, lose_from}
use Rattle.history_law.specs.Names.{Kept, Component, Drive, Target}
use Rattle.component_law.specs.Objects.{objects_of, target_of, NoneIs, AllDiffer}
use Rattle.component_law.proofs.SentNumbers.{none_above, in_set, set_differ, objects_set, objects_from, objects_on}
use Rattle.component_law.proofs.Sent.{IsUsed}
use Rattle.component_law.proofs.Ends.{IsAim}
use Rattle.component_law.proofs.Walking.{IsWalked, target_is}

-- so are those of its components, which differ, and that of what is made anew; numbers were used from n on
abbrev pub Lasts : (P : ℕ → Type 0) → (number n : ℕ) → List Drive → (next : ℕ) → Kept → Option Target → Type 0
Lasts P number n ds m k o =
    ((k.number ≡ number) × (n ≤ m) × ((x : ℕ) → In x (objects_of k.components) → IsUsed P m x)
    × AllDiffer (objects_of k.components)) × IsAim P m k.components o

abbrev pub Ends : (P : ℕ → Type 0) → (number n : ℕ) → Going → Type 0
Ends P number n g = Lasts P number n g.drives g.effects.object g.file.kept (target_of g.file.job)

module _ (P : ℕ → Type 0) (number n : ℕ) (fresh : (o : ℕ) → n ≤ o → P o) where
  aim_same : (m : ℕ) (cs ds : List Component) (o : Option Target) → objects_of ds ≡ objects_of cs → IsAim P m cs o
      → IsAim P m ds o
  aim_same m cs ds None e a = tt
  aim_same m cs ds (Some t) e a = (a.0, subst (NoneIs t.object) (sym e) a.1)

  lasts_same : (ds : List Drive) (m : ℕ) (k l : Kept) (o : Option Target) → l.number ≡ k.number
      → objects_of l.components ≡ objects_of k.components → Lasts P number n ds m k o → Lasts P number n ds m l o
  lasts_same ds m k l o its e h = (
    (its ∙ h.0.0, h.0.1, λ x i. h.0.2 x (subst (In x) e i), subst AllDiffer (sym e) h.0.3),
    aim_same m k.components l.components o e h.1,
  )

  -- its target gets the next number
  aims : (g : Going) (t : Target) → t.object ≡ g.effects.object
      → Lasts P number n g.drives g.effects.object g.file.kept None
      → Lasts P number n g.drives (t.object + 1) g.file.kept (Some t)
  aims g t e h = (
    (
      h.0.0,
      omega (arith, e, h.0.1),
      λ o j. let u = h.0.2 o j in (u.0, omega (arith, e, u.1)),
      h.0.3,
    ),
    (
      (fresh t.object (omega (arith, e, h.0.1)), omega arith),
      none_above t.object (objects_of g.file.kept.components) (λ x j. omega (arith, e, (h.0.2 x j).1)),
    ),
  )

  -- the component stands on its new drive
  placed : (ds : List Drive) (m : ℕ) (k : Kept) (t : Target) → Lasts P number n ds m k (Some t)
      → Lasts P number n ds m (record k { components = slice_set k.components t.component (stands_at t) }) None
  placed ds m k t h =
      let same = objects_set k.components t.component (stands_at t) in (
        (
          h.0.0,
          h.0.1,
          λ o i. elim (in_set (objects_of k.components) t.component t.object o (subst (In o) same i)) [
            | inl e ↦ subst (IsUsed P m) (sym e) h.1.0
            | inr j ↦ h.0.2 o j
          ],
          subst AllDiffer (sym same) (set_differ (objects_of k.components) t.component t.object h.0.3 h.1.1),
        ),
        tt,
      )

  pub objects_walked : IsWalked (Lasts P number n)
  objects_walked = record {
    same = λ ds m k l o its zoned map components h. lasts_same ds m k l o its (ap objects_of components) h;
    ends = λ ds m k o h. (h.0, tt);
    aims = λ g at i t is h. aims g t (target_is g at i t is).1 h;
    placed = placed;
    lost = λ ds m k o ns h.
        lasts_same ds m k (record k { components = lose_from ns k.components 0 }) o refl (objects_from ns k.components 0) h;
    declared = λ ds m k o d h.
        lasts_same ds m k (record k { components = lose_on d k.components }) o refl (objects_on d k.components) h;
  }
