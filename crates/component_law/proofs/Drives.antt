-- The drives of components.
use Rattle.std.proofs.Common.{◌≡◌, ℕ, zero, suc, ◌+◌, ◌==◌, ◌∷◌, [], List, false, map, slice_set, refl, sym, ap, subst, ◌∙◌, inl, inr, eq-eqb, ne_eqb}
use Rattle.std.proofs.lemmas.Bool.{cases_Bool, cases_eq}
use Rattle.server_rules.specs.Numbers.{among}
use Rattle.server_rules.specs.Standing.{lose_on, lose_from, stood_on}
use Rattle.world_history.specs.ServerNames.{Component}
use Rattle.component_law.specs.Apart.{AreDifferent, AreApart}

abbrev pub drives : List Component → List ℕ
drives cs = map (λ (at : Component). at.drive) cs

-- ---- components that are lost stay on their drives

pub drives_lost : (ks : List ℕ) (cs : List Component) (j : ℕ) → drives (lose_from ks cs j) ≡ drives cs
unfolding lose_from
drives_lost ks [] j = refl
drives_lost ks (at ∷ cs) j = elim (cases_Bool (among j ks)) [
  | inl t ↦ rw t (ap (λ (x : List ℕ). at.drive ∷ x) (drives_lost ks cs (j + 1)))
  | inr z ↦ rw z (ap (λ (x : List ℕ). at.drive ∷ x) (drives_lost ks cs (j + 1)))
]

pub drives_on : (d : ℕ) (cs : List Component) → drives (lose_on d cs) ≡ drives cs
unfolding lose_on
drives_on d [] = refl
drives_on d (at ∷ cs) = elim (cases_Bool (at.drive == d)) [
  | inl t ↦ rw t (ap (λ (x : List ℕ). at.drive ∷ x) (drives_on d cs))
  | inr z ↦ rw z (ap (λ (x : List ℕ). at.drive ∷ x) (drives_on d cs))
]

pub stood_among : (d : ℕ) (cs : List Component) → stood_on d cs ≡ among d (drives cs)
unfolding stood_on among
stood_among d [] = refl
stood_among d (at ∷ cs) = elim (cases_eq at.drive d) [
  | inl e ↦ rw (eq-eqb at.drive d e, eq-eqb d at.drive (sym e)) refl
  | inr o ↦ rw (ne_eqb at.drive d o, ne_eqb d at.drive (λ q. o (sym q))) (stood_among d cs)
]

pub stood_same : (d : ℕ) (cs ds : List Component) → drives ds ≡ drives cs → stood_on d cs ≡ false → stood_on d ds ≡ false
stood_same d cs ds e h =
    stood_among d ds ∙ ap (λ (x : List ℕ). among d x) e ∙ sym (stood_among d cs) ∙ h

-- ---- one stands on another drive

pub not_first : (n m : ℕ) (ns : List ℕ) → among n (m ∷ ns) ≡ false → (n ≡ m → ⊥) × (among n ns ≡ false)
unfolding among
not_first n m ns h = elim (cases_eq n m) [
  | inl e ↦ absurd (cc (rw (eq-eqb n m e) at h))
  | inr o ↦ (o, rw (ne_eqb n m o) at h)
]

pub not_among : (n m : ℕ) (ns : List ℕ) → (n ≡ m → ⊥) → among n ns ≡ false → among n (m ∷ ns) ≡ false
unfolding among
not_among n m ns o h = rw (ne_eqb n m o) h

not_set : (n d : ℕ) (ns : List ℕ) (k : ℕ) → (n ≡ d → ⊥) → among n ns ≡ false → among n (slice_set ns k d) ≡ false
not_set n d [] k o h = h
not_set n d (m ∷ ns) zero o h = not_among n d ns o (not_first n m ns h).1
not_set n d (m ∷ ns) (suc k) o h =
    not_among n m (slice_set ns k d) (not_first n m ns h).0 (not_set n d ns k o (not_first n m ns h).1)

different_set : (d : ℕ) (ns : List ℕ) (k : ℕ) → AreDifferent ns → among d ns ≡ false → AreDifferent (slice_set ns k d)
different_set d [] k h a = tt
different_set d (n ∷ ns) zero h a = ((not_first d n ns a).1, h.1)
different_set d (n ∷ ns) (suc k) h a = (
  not_set n d ns k (λ e. (not_first d n ns a).0 (sym e)) h.0,
  different_set d ns k h.1 (not_first d n ns a).1,
)

drives_set : (cs : List Component) (k : ℕ) (at : Component) → drives (slice_set cs k at) ≡ slice_set (drives cs) k at.drive
drives_set [] k at = refl
drives_set (c ∷ cs) zero at = refl
drives_set (c ∷ cs) (suc k) at = ap (λ (x : List ℕ). c.drive ∷ x) (drives_set cs k at)

pub apart_set : (cs : List Component) (k : ℕ) (at : Component) → stood_on at.drive cs ≡ false → AreApart cs
    → AreApart (slice_set cs k at)
apart_set cs k at free h =
    subst AreDifferent (sym (drives_set cs k at))
    (different_set at.drive (drives cs) k h (sym (stood_among at.drive cs) ∙ free))

pub apart_lost : (ks : List ℕ) (cs : List Component) → AreApart cs → AreApart (lose_from ks cs 0)
apart_lost ks cs h = subst AreDifferent (sym (drives_lost ks cs 0)) h

pub apart_on : (d : ℕ) (cs : List Component) → AreApart cs → AreApart (lose_on d cs)
apart_on d cs h = subst AreDifferent (sym (drives_on d cs)) h

pub apart_again : (d : ℕ) (cs : List Component) → AreApart (lose_on d cs) → AreApart cs
apart_again d cs h = subst AreDifferent (drives_on d cs) h
