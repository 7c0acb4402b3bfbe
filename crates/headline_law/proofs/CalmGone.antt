-- What nothing is left of stays so while something disturbs it; and what a repair that is over leaves disturbed is such.
use Rattle.std.proofs.Common.{◌≡◌, ◌≤◌, ◌||◌, ℕ, Bool, true, false, Some, None, refl, sym, ap, subst, ◌∙◌, inl, inr, arith}
use Rattle.std.specs.Prelude.{nat_lt}
use Rattle.std.proofs.lemmas.Bool.{true≢false, cases_eq}
use Rattle.std.proofs.lemmas.Bool.Decides.{nat_tests}
use Rattle.data_map.specs.declared.check.RawMap.{RawMap}
use Rattle.data_map.specs.Striping.{parities}
use Rattle.fence_law.specs.Columns.{Disturbed, Gone, Untouched}
use Rattle.fence_law.specs.Machine.{Allowed, after}
use Rattle.fence_law.specs.State.{State, Event}
use Rattle.fence_law.specs.State.Event.{Grants, Fenced, Loses, Repaired, Rebuilds}
use Rattle.fence_law.proofs.Accepted.{Sure}
use Rattle.fence_law.proofs.Later.{pay_or_touch, unsettled_mended}
use Rattle.fence_law.proofs.SettledWrites.{gone_rebuilds}
use Rattle.fence_law.proofs.Words.{updated_at, updated_other}
use Rattle.plan_law.specs.FileLayout.{layout_of, has_parity}

-- ---- parity

no_parity : (m : RawMap) → has_parity m ≡ false → parities m ≡ 0
no_parity m e = grind (arith, nat_tests, e)

pub uncoded : (m : RawMap) (tag : ℕ) (s : State) (x : ℕ) → s.layout ≡ layout_of m tag → parities m ≡ 0 →
    s.layout.coded x ≡ false
uncoded m tag s x is none = rw is (ap (nat_lt 0) none)

pub parity_none : (m : RawMap) (tag : ℕ) (s : State) (x : ℕ) → s.layout ≡ layout_of m tag → s.layout.coded x ≡ false →
    parities m ≡ 0
parity_none m tag s x is plain = no_parity m (rw is at plain)

-- ---- nothing is left

-- what disturbs a column touches it
touched : (s : State) → Sure s → (x : ℕ) → Disturbed s x → Untouched s x → ⊥
touched s sure x d none = elim (pay_or_touch s d.0 d.1 d.2 d.5 sure.safe.formed) [
  | inl empty ↦ let both : None ≡ Some d.3 = sym empty ∙ d.8 in cc both
  | inr t ↦ true≢false (sym t ∙ ap (s.start d.0).touch d.9 ∙ none d.0 d.5 d.6)
]

or_left : (a b : Bool) → a ≡ true → (a || b) ≡ true
or_left true b e = refl
or_left false b e = absurd (true≢false (sym e))

gone_rebuilt : (s : State) (k : ℕ) (cells : ℕ → ℕ) → Allowed s (Rebuilds k cells) → Sure s → (x : ℕ) →
    s.layout.coded x ≡ false → Disturbed s x → Gone s x → Gone (after s (Rebuilds k cells)) x
gone_rebuilt s k cells a sure x plain d gone j z is here = elim (cases_eq j k) [
  | inl same ↦
      absurd (gone_rebuilds s k cells x z a sure.safe.code plain (touched s sure x d) gone
      (ap (λ (y : ℕ). s.layout.is_cell y z) (sym same) ∙ is) (ap (λ (y : ℕ). s.layout.cell_col y z) (sym same) ∙ here))
  | inr other ↦ updated_other s.gone k false j other ∙ gone j z is here
]

gone_lost : (s : State) (c k : ℕ) (x : ℕ) → Gone s x → Gone (after s (Loses c k)) x
gone_lost s c k x gone j z is here = elim (cases_eq j k) [
  | inl same ↦ updated_at s.gone k true j same
  | inr other ↦ updated_other s.gone k true j other ∙ gone j z is here
]

pub gone_stays : (s : State) (e : Event) → Allowed s e → Sure s → (x : ℕ) → s.layout.coded x ≡ false → Disturbed s x →
    Gone s x → Gone (after s e) x
gone_stays s (Grants c number wide range extending) a sure x plain d gone =
    λ j z is here. or_left (s.gone j) (s.missing j) (gone j z is here)
gone_stays s Fenced a sure x plain d gone = λ j z is here. sure.safe.gone_lost j (gone j z is here)
gone_stays s (Repaired done e) a sure x plain d gone = λ j z is here. sure.safe.gone_lost j (gone j z is here)
gone_stays s (Loses c k) a sure x plain d gone = gone_lost s c k x gone
gone_stays s (Rebuilds k cells) a sure x plain d gone = gone_rebuilt s k cells a sure x plain d gone
gone_stays s e a sure x plain d gone = gone

-- ---- a repair that is over

-- what it leaves disturbed has no parity, and nothing is left of it
pub left_gone : (s : State) (done : ℕ → Bool) (e : ℕ → ℕ) → Allowed s (Repaired done e) → Sure s →
    Sure (after s (Repaired done e)) → (x : ℕ) → Disturbed (after s (Repaired done e)) x →
    Gone (after s (Repaired done e)) x × (s.layout.coded x ≡ false)
left_gone s done e a sure sure_behind x d =
    let t : State = after s (Repaired done e) in
    elim (sure_behind.settled_ d.0 d.1 d.2 d.3 d.5 d.6 d.7 d.8 d.10 (subst (λ (y : ℕ). t.repaired_at y ≤ d.0) (sym d.9) d.4)) [
      | inl u ↦ elim u.4 [
        | inl same ↦
            absurd (unsettled_mended s d.0 a.runs sure.safe.mending sure.safe.open_granted (u.0, u.1, u.2, u.3, inl same))
        | inr runs ↦ absurd (true≢false (sym runs.0))
      ]
      | inr o ↦ elim o [
        | inl off ↦ absurd (true≢false (sym d.11 ∙ off))
        | inr gone ↦ (subst (λ (y : ℕ). Gone t y) d.9 gone.0, ap s.layout.coded (sym d.9) ∙ gone.1)
      ]
    ]

-- ---- marks

-- the mark stays behind an event, if the moment's marks do
pub mark_stays : (m : RawMap) (tag : ℕ) (s : State) (e : Event) → s.layout ≡ layout_of m tag → Allowed s e → Sure s →
    (x : ℕ) → Disturbed s x → parities m ≡ 0 → Gone s x → Gone (after s e) x
mark_stays m tag s e is a sure x d none gone = gone_stays s e a sure x (uncoded m tag s x is none) d gone
