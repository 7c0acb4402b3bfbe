-- What the opening of a server leaves of a file.
use Rattle.std.proofs.Common.{◌≡◌, ◌==◌, ◌||◌, ℕ, nat_lt, Bool, true, false, not, List, length, Option, None, refl, sym, ap, subst, ◌∙◌, if◌then◌else◌}
use Rattle.server_rules.specs.declared.limits.TheConstants.{GREATEST_TAG}
use Rattle.server_rules.specs.Going.{Going}
use Rattle.server_rules.specs.Openings.{is_still, is_unsettled, opens_made, opens_spent, opens_fenced, opens}
use Rattle.history_law.specs.Names.{Kept, Grant, Job, Phase, Revoking}
use Rattle.history_law.specs.Fencing.{Reached}
use Rattle.component_law.specs.Standing.{IsUnmade}
use Rattle.component_law.proofs.StandHeld.{AllReach, IsOwn, Ends, FileEnds}
use Rattle.component_law.proofs.StandJobs.{ends_making, ends_fence}

-- no grant of a file that isn't made yet was given, and no fence of it began
unmade_settled : (k : Kept) → IsUnmade k → is_unsettled k ≡ false
unmade_settled k u =
    ap (λ (gs : List Grant). nat_lt 0 (length gs) || not (is_still k.phase)) u.0
    ∙ ap (λ (p : Phase). not (is_still p)) u.1

module _ (R : Reached) where
  abbrev End : Going → Type 0
  End g = FileEnds R g.file

  abbrev Own : Going → Type 0
  Own g = IsOwn R g.file.kept.tag g.file.kept.components g.file.kept.ready

  -- what is kept of the file
  abbrev Settled : Going → Type 0
  Settled g =
      (g.file.kept.ready ≡ true → AllReach R g.file.kept.tag g.file.kept.components)
      × (g.file.kept.ready ≡ false → IsUnmade g.file.kept)

  either_going : (b : Bool) (x y : Going) → End x → End y → End (if b then x else y)
  either_going true x y p q = p
  either_going false x y p q = q

  ends_made : (g : Going) (ready : Bool) → g.file.kept.ready ≡ ready → Settled g → End (opens_made g ready)
  ends_made g true is h = (is, h.0 is)
  ends_made g false is h = ends_making R g (h.1 is, is)

  ends_spent : (g : Going) → Own g → g.file.job ≡ None → End (opens_spent g)
  ends_spent g own none =
      let k : Kept = g.file.kept in
      subst (λ (o : Option Job). Ends R k.tag k.components k.ready (IsUnmade k) o) (sym none) own

  ends_fenced : (format : ℕ) (g : Going) → Own g → g.file.job ≡ None → End (opens_fenced format g)
  unfolding opens_fenced
  ends_fenced format g own none =
      either_going (g.file.kept.tag == GREATEST_TAG) _ _ (ends_spent g own none) (ends_fence R Revoking format g own)

  -- so one that had any was made
  own_unsettled : (g : Going) (ready : Bool) → g.file.kept.ready ≡ ready → is_unsettled g.file.kept ≡ true → Settled g
      → Own g
  own_unsettled g true is e h = (is, h.0 is)
  own_unsettled g false is e h = absurd (cc (sym e ∙ unmade_settled g.file.kept (h.1 is)))

  pub ends_opens : (format : ℕ) (g : Going) → Settled g → g.file.job ≡ None → End (opens format g)
  unfolding opens
  ends_opens format g h none = by_unsettled (is_unsettled g.file.kept) refl
    where
      by_unsettled : (b : Bool) → is_unsettled g.file.kept ≡ b
          → End (if b then opens_fenced format g else opens_made g g.file.kept.ready)
      by_unsettled true e = ends_fenced format g (own_unsettled g g.file.kept.ready refl e h) none
      by_unsettled false e = ends_made g g.file.kept.ready refl h
