-- A component becomes missing by its note, or by the order to declare its drive.
use Rattle.std.proofs.Common.{◌≡◌, ◌⊎◌, ℕ, zero, suc, ◌+◌, ◌==◌, ◌||◌, Bool, true, false, true≢false, List, [], ◌∷◌, slice_get, Option, Some, None, refl, sym, ap, subst, ◌∙◌, arith, inl, inr}
use Rattle.std.proofs.lemmas.Bool.{cases_Bool, cases_eq, eq-eqb, eqb-true, ne_eqb}
use Rattle.scenario_text.specs.declared.line.Note.{Note}
use Rattle.scenario_text.specs.declared.line.Note.TheVariants as note
use Rattle.scenario_text.specs.declared.line.Line.{Line}
use Rattle.scenario_text.specs.declared.line.Line.TheVariants as line
use Rattle.server_rules.specs.History.{Input}
use Rattle.server_rules.specs.Laws.{In}
use Rattle.server_rules.specs.Numbers.{among}
use Rattle.server_rules.specs.Standing.{lose_on, lose_from}
use Rattle.world_history.specs.ServerNames.{Server, File, Component}
use Rattle.world_history.specs.Book.{server_after, book_of}
use Rattle.world_history.specs.Calm.{noted}
use Rattle.component_law.specs.Components.{Paired, StandAlike, is_lacking, told_by, told_in, without_drive}
use Rattle.component_law.specs.Going.{taken_out, Goes}
use Rattle.component_law.proofs.Components.{stood, stands_is}
use Rattle.cause_law.specs.Components.{EachComponentHasItsCauses}
use Rattle.cause_law.specs.Losses.{IsLoss, IsLost, ByNote, ByDrive, EachLossHasItsCause}

-- ---- lists of components

one_among : (m j : ℕ) → among m (j ∷ []) ≡ true → m ≡ j
unfolding among
one_among m j e = by (m == j) refl e
  where
    by : (b : Bool) → (m == j) ≡ b → (b || false) ≡ true → m ≡ j
    by true t q = eqb-true m j t
    by false z q = absurd (cc q)

lost_lack : (cs : List Component) (j m k : ℕ) → is_lacking (lose_from (j ∷ []) cs m) k ≡ true
    → (is_lacking cs k ≡ true) ⊎ (j ≡ m + k)
unfolding lose_from
lost_lack [] j m k h = inl refl
lost_lack (at ∷ cs) j m zero h = elim (cases_Bool (among m (j ∷ []))) [
  | inl t ↦ let same = one_among m j t in inr (omega (arith, same))
  | inr z ↦ inl (rw z at h)
]
lost_lack (at ∷ cs) j m (suc k) h = elim (lost_lack cs j (m + 1) k h) [
  | inl l ↦ inl l
  | inr e ↦ inr (omega (arith, e))
]

stood_lack : (cs : List Component) (j d k : ℕ) → is_lacking (stood cs j d) k ≡ true → is_lacking cs k ≡ true
stood_lack [] j d k h = refl
stood_lack (at ∷ cs) zero d zero h = absurd (cc h)
stood_lack (at ∷ cs) zero d (suc k) h = h
stood_lack (at ∷ cs) (suc j) d zero h = h
stood_lack (at ∷ cs) (suc j) d (suc k) h = stood_lack cs j d k h

on_lack : (d : ℕ) (cs : List Component) (k : ℕ) → is_lacking (lose_on d cs) k ≡ true
    → (is_lacking cs k ≡ true) ⊎ ((at : Component) × (slice_get cs k ≡ Some at) × (at.drive ≡ d))
unfolding lose_on
on_lack d [] k h = inl refl
on_lack d (at ∷ cs) zero h = elim (cases_eq at.drive d) [
  | inl e ↦ inr (at, refl, e)
  | inr o ↦ inl (rw (ne_eqb at.drive d o) at h)
]
on_lack d (at ∷ cs) (suc k) h = on_lack d cs k h

alike_lack : (xs ys : List Component) → Paired StandAlike xs ys → (k : ℕ) → is_lacking xs k ≡ is_lacking ys k
alike_lack [] [] p k = refl
alike_lack [] (y ∷ ys) p k = absurd p
alike_lack (x ∷ xs) [] p k = absurd p
alike_lack (x ∷ xs) (y ∷ ys) p zero = p.0.1
alike_lack (x ∷ xs) (y ∷ ys) p (suc k) = alike_lack xs ys p.1 k

-- ---- lines

noted_lack : (cs : List Component) (what : Note) (k : ℕ) → is_lacking (noted cs what) k ≡ true
    → (is_lacking cs k ≡ true) ⊎ IsLoss k what
noted_lack cs (note.NoSpace j) k h = elim (lost_lack cs j 0 k h) [
  | inl l ↦ inl l
  | inr e ↦ let same : j ≡ k = omega (arith, e) in inr (inl (ap (λ (x : ℕ). note.NoSpace x) same))
]
noted_lack cs (note.Reported j) k h = elim (lost_lack cs j 0 k h) [
  | inl l ↦ inl l
  | inr e ↦ let same : j ≡ k = omega (arith, e) in inr (inr (ap (λ (x : ℕ). note.Reported x) same))
]
noted_lack cs (note.Rebuilt j d) k h =
    inl (stood_lack cs j d k (subst (λ (xs : List Component). is_lacking xs k ≡ true) (stands_is cs j d) h))
noted_lack cs what k h = inl h

one_lack : (n : ℕ) (cs : List Component) (l : Line) (k : ℕ) → is_lacking (told_by n cs l) k ≡ true
    → (is_lacking cs k ≡ true) ⊎ ((m : Note) × IsLoss k m × (line.Note n m ≡ l))
one_lack n cs (line.Note f what) k h = elim (cases_eq f n) [
  | inr o ↦ inl (rw (ne_eqb f n o) at h)
  | inl e ↦ elim (noted_lack cs what k (rw (eq-eqb f n e) at h)) [
    | inl l ↦ inl l
    | inr x ↦ inr (what, x, ap (λ (y : ℕ). line.Note y what) (sym e))
  ]
]
one_lack n cs l k h = inl h

told_lack : (n : ℕ) (cs : List Component) (ls : List Line) (k : ℕ) → is_lacking (told_in n cs ls) k ≡ true
    → (is_lacking cs k ≡ true) ⊎ ((m : Note) × IsLoss k m × In (line.Note n m) ls)
told_lack n cs [] k h = inl h
told_lack n cs (l ∷ ls) k h = elim (told_lack n (told_by n cs l) ls k h) [
  | inr (m, x, i) ↦ inr (m, x, inr i)
  | inl e ↦ elim (one_lack n cs l k e) [
    | inl old ↦ inl old
    | inr (m, x, same) ↦ inr (m, x, inl same)
  ]
]

-- ---- a step

module _ (s : Server) (i : Input) (lines : List Line) (n k : ℕ) (f : File)
    (there : is_lacking f.kept.components k ≡ false) where
  by_drive : (out : Option ℕ) → taken_out s i ≡ out → is_lacking (without_drive out f.kept.components) k ≡ true
      → IsLost s i lines n k f
  by_drive None is h = absurd (true≢false (sym h ∙ there))
  by_drive (Some d) is h = elim (on_lack d f.kept.components k h) [
    | inl old ↦ absurd (true≢false (sym old ∙ there))
    | inr (at, found, drive) ↦ ByDrive at found (is ∙ ap (λ (x : ℕ). Some x) (sym drive))
  ]

  lost_so : (g : File) → Goes i (taken_out s i) lines n (Some f) (Some g) → is_lacking g.kept.components k ≡ true
      → IsLost s i lines n k f
  lost_so g goes h =
      elim (told_lack n (without_drive (taken_out s i) f.kept.components) lines k
      (alike_lack (told_in n (without_drive (taken_out s i) f.kept.components) lines) g.kept.components goes.alike k ∙ h)) [
        | inl e ↦ by_drive (taken_out s i) refl e
        | inr (m, x, j) ↦ ByNote m x j
      ]

pub each_loss_has_its_cause : EachComponentHasItsCauses → EachLossHasItsCause
each_loss_has_its_cause each w h s written before l after i is comes =
    let it = each w h s written before l after i is comes in
    record {
      rest = it.rest;
      more = it.more;
      cut = it.cut;
      of_step = it.of_step;
      ends = it.ends;
      holds = λ file k f g was now there gone.
          lost_so (server_after before) i it.rest file k f there g
          (subst (λ (o : Option File). Goes i (taken_out (server_after before) i) it.rest file o (Some g)) was
          (subst (λ (o : Option File). Goes i (taken_out (server_after before) i) it.rest file (book_of before file) o) now
          (it.holds file))) gone;
    }
