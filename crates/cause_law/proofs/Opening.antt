-- What the opening of a server does to a file for which a fence is due: the fence is under way or over, or it is refused.
use Rattle.std.proofs.Common.{◌≡◌, ◌≢◌, ◌==◌, ◌∙◌, ℕ, Bool, true, false, None, refl, sym, inl, inr}
use Rattle.std.proofs.lemmas.Bool.{cases_Bool, eq-eqb, ne_eqb}
use Rattle.server_rules.specs.declared.limits.TheConstants.{GREATEST_TAG}
use Rattle.server_rules.specs.Going.{Going, keeping}
use Rattle.server_rules.specs.Jobs.{ending, fence_begins}
use Rattle.server_rules.specs.Openings.{is_unsettled, opens_made, opens_fenced, opens}
use Rattle.server_rules.proofs.Runs.{ran_making, ran_fences}
use Rattle.history_law.specs.Names.{File, Revoking}
use Rattle.cause_law.proofs.Fences.{Fence, fence_goes}
use Rattle.cause_law.proofs.Refusing.{IsSpent}

module _ (tag : ℕ) where
  -- the server crashed, and an opening is to begin a fence
  abbrev pub IsDue : File → Type 0
  IsDue f = (is_unsettled f.kept ≡ true) × (f.job ≡ None) × (f.kept.tag ≡ tag)

  pub fence_opens : (format : ℕ) (g : Going) → tag ≢ GREATEST_TAG → IsDue g.file → Fence tag (opens format g).file
  unfolding opens opens_fenced
  fence_opens format g less d =
      rw (d.0, ne_eqb g.file.kept.tag GREATEST_TAG (λ e. less (sym d.2 ∙ e))) (fence_goes tag Revoking format g d.2)

  pub spent_opens : (format : ℕ) (g : Going) → tag ≡ GREATEST_TAG → IsDue g.file → IsSpent (opens format g).file
  unfolding opens opens_fenced
  spent_opens format g greatest d =
      rw (d.0, eq-eqb g.file.kept.tag GREATEST_TAG (d.2 ∙ greatest)) (refl, d.1, d.2 ∙ greatest)

-- ---- the number stays

made_number : (g : Going) (b : Bool) → (opens_made g b).file.kept.number ≡ g.file.kept.number
made_number g true = refl
made_number g false = (ran_making g).number

fenced_number : (format : ℕ) (g : Going) → (opens_fenced format g).file.kept.number ≡ g.file.kept.number
unfolding opens_fenced fence_begins
fenced_number format g = elim (cases_Bool (g.file.kept.tag == GREATEST_TAG)) [
  | inl e ↦ rw e refl
  | inr e ↦ rw e (ran_fences Revoking (keeping g (ending g.file.kept format))).number
]

pub opens_number : (format : ℕ) (g : Going) → (opens format g).file.kept.number ≡ g.file.kept.number
unfolding opens
opens_number format g = elim (cases_Bool (is_unsettled g.file.kept)) [
  | inl e ↦ rw e (fenced_number format g)
  | inr e ↦ rw e (made_number g g.file.kept.ready)
]
