-- Where a rebuild makes a component anew.
use Rattle.std.proofs.Common.{◌≡◌, ℕ, ◌<◌, ◌==◌, ◌&&◌, not, ◌∷◌, [], List, Bool, true, false, Option, Some, None, is_some, find, filter, refl, sym, ap, subst, arith, inl, inr}
use Rattle.std.proofs.lemmas.Bool.{cases_Bool}
use Rattle.std.proofs.lemmas.Bool.Decides.{nat_tests}
use Rattle.osd_lists.proofs.Tests.{without_second}
use Rattle.scenario_text.specs.declared.names.TheConstants.{DRIVES}
use Rattle.server_rules.specs.Going.{Going}
use Rattle.server_rules.specs.Standing.{stood_on, free_drives, lose_from, lose_on}
use Rattle.server_rules.specs.Zoning.{takers}
use Rattle.server_rules.proofs.Zoned.{of_takers}
use Rattle.server_rules.specs.Rebuild.{or_first, picked, target_on, target_for}
use Rattle.world_history.specs.ServerNames.{Component, Drive, Target}
use Rattle.component_law.specs.Words.{Each}
use Rattle.component_law.specs.Sound.{IsAim}
use Rattle.component_law.proofs.Drives.{drives_lost, drives_on, stood_same}
use Rattle.component_law.proofs.Components.{lacking_from, lacking_on}

-- lines can name each of these drives
abbrev pub AreKnown : List Drive → Type 0
AreKnown ds = Each (λ (d : Drive). d.number < DRIVES) ds

-- which drives may take a component: those that lines can name, and on which none of these stands or last stood
abbrev IsFree : List Component → (number : ℕ) → Type 0
IsFree cs n = (n < DRIVES) × (stood_on n cs ≡ false)

abbrev AreFree : List Component → List Drive → Type 0
AreFree cs ds = Each (λ (d : Drive). IsFree cs d.number) ds

free_known : (cs : List Component) (ds : List Drive) → AreKnown ds → AreFree cs (free_drives ds cs)
free_known cs [] h = tt
free_known cs (d ∷ ds) h = elim (cases_Bool (d.online && not (stood_on d.number cs))) [
  | inl t ↦ rw t ((h.0, without_second d.online (stood_on d.number cs) t), free_known cs ds h.1)
  | inr z ↦ rw z (free_known cs ds h.1)
]

free_part : (cs : List Component) (p : Drive → Bool) (ds : List Drive) → AreFree cs ds → AreFree cs (filter p ds)
free_part cs p [] h = tt
free_part cs p (d ∷ ds) h = elim (cases_Bool (p d)) [
  | inl t ↦ rw t (h.0, free_part cs p ds h.1)
  | inr z ↦ rw z (free_part cs p ds h.1)
]

free_found : (cs : List Component) (c : ℕ) (ds : List Drive) → AreFree cs ds
    → is_some (find (λ (e : Drive). e.number == c) ds) ≡ true → IsFree cs c
free_found cs c [] h e = absurd (cc e)
free_found cs c (d ∷ ds) h e = elim (cases_Bool (d.number == c)) [
  | inl t ↦ let s : d.number ≡ c = grind (arith, nat_tests, t) in subst (IsFree cs) s h.0
  | inr z ↦ free_found cs c ds h.1 (rw z at e)
]

free_first : (cs : List Component) (chosen : List ℕ) (d : Drive) (ds : List Drive) → AreFree cs (d ∷ ds)
    → IsFree cs (or_first chosen d ds)
free_first cs [] d ds h = h.0
free_first cs (n ∷ ns) d ds h = elim (cases_Bool (is_some (find (λ (e : Drive). e.number == n) (d ∷ ds)))) [
  | inl t ↦ rw t (free_found cs n (d ∷ ds) h t)
  | inr z ↦ rw z h.0
]

free_picked : (cs : List Component) (chosen : List ℕ) (ds : List Drive) (n : ℕ) → AreFree cs ds
    → picked chosen ds ≡ Some n → IsFree cs n
free_picked cs chosen [] n h e = absurd (cc e)
free_picked cs chosen (d ∷ ds) n h e =
    let s : or_first chosen d ds ≡ n = cc e in subst (IsFree cs) s (free_first cs chosen d ds h)

-- component k on such a drive
target_free : (g : Going) (k : ℕ) (o : Option ℕ) (t : Target)
    → ((n : ℕ) → o ≡ Some n → IsFree g.file.kept.components n) → target_on g k o ≡ Some t
    → (t.component ≡ k) × (t.drive < DRIVES) × (stood_on t.drive g.file.kept.components ≡ false)
target_free g k None t f e = absurd (cc e)
target_free g k (Some n) t f e =
    let s : record { component = k; drive = n; object = g.effects.object } ≡ t = cc e in
    let r : IsFree g.file.kept.components t.drive =
    subst (λ (x : Target). IsFree g.file.kept.components x.drive) s (f n refl) in
    (ap (λ (x : Target). x.component) (sym s), r.0, r.1)

-- a missing component
pub aim_for : (g : Going) (at : Component) (k : ℕ) (t : Target) → AreKnown g.drives → target_for g at k ≡ Some t
    → (at.missing ≡ true) × (t.component ≡ k) × (t.drive < DRIVES) × (stood_on t.drive g.file.kept.components ≡ false)
unfolding target_for
aim_for g at k t known e = elim (cases_Bool at.missing) [
  | inl m ↦
      let cs : List Component = g.file.kept.components in
      let r : (t.component ≡ k) × (t.drive < DRIVES) × (stood_on t.drive cs ≡ false) =
      target_free g k (picked g.chosen (takers g.drives g.file.kept k)) t
      (λ n q.
      free_picked cs g.chosen (takers g.drives g.file.kept k) n
      (of_takers (AreFree cs) (free_part cs) g.drives g.file.kept k (free_known cs g.drives known)) q) (rw m at e) in
      (m, r.0, r.1, r.2)
  | inr p ↦ absurd (cc (rw p at e))
]

-- where more components become missing, it is one still
pub aim_lost : (ks : List ℕ) (cs : List Component) (o : Option Target) → IsAim cs o → IsAim (lose_from ks cs 0) o
aim_lost ks cs None h = tt
aim_lost ks cs (Some t) h = (
  lacking_from ks cs 0 t.component h.0,
  h.1,
  stood_same t.drive cs (lose_from ks cs 0) (drives_lost ks cs 0) h.2,
)

pub aim_declared : (d : ℕ) (cs : List Component) (o : Option Target) → IsAim cs o → IsAim (lose_on d cs) o
aim_declared d cs None h = tt
aim_declared d cs (Some t) h = (
  lacking_on d cs t.component h.0,
  h.1,
  stood_same t.drive cs (lose_on d cs) (drives_on d cs) h.2,
)
