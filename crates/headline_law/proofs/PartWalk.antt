-- The part of a file in a step, once for all facts of a step's effects that hold of it wherever a job goes on: a fence, a drive
-- that is declared, a drive's reply, an opening, and a request.
use Rattle.std.proofs.Common.{◌≡◌, ◌==◌, ◌||◌, ℕ, Bool, true, false, List, [], ◌∷◌, Option, Some, None, refl, if◌then◌else◌}
use Rattle.server_rules.specs.declared.limits.TheConstants.{GREATEST_TAG}
use Rattle.server_rules.specs.Going.{Going, keeping, noting, with_components}
use Rattle.server_rules.specs.Jobs.{making, ending, fence_begins, loses, declares, declared_in, targets, is_target, others_than}
use Rattle.server_rules.specs.Openings.{is_unsettled, opens_made, opens_spent, opens_fenced, opens}
use Rattle.server_rules.specs.Replies.{Hearing, Older, Full, Done, Nothing, others, renews, fills_up, heard_with, hears}
use Rattle.server_rules.specs.Requests.{serves}
use Rattle.server_rules.specs.Standing.{lose_from, lose_on, any_on}
use Rattle.world_history.specs.ServerNames.{Component, Effects, NoSpace, Spent, Reported, Awaited, Job, JobKind, Revoking, Work, Targets, Gathers, Fills, Reply, RequestArgs}
use Rattle.relation_law.proofs.Walk.{Place, AtStart, AtFence, AtFill, JobCases, place_behind, lost_place, walk_full, walk_fence, walk_making, walk_waits, walk_loses}
use Rattle.headline_law.proofs.ServedWalk.{walk_serves}

-- `B` is so where the part of a file begins, and `E` of the effects where it ends; `Q` is so of a place and the file there.
pub record PartCases (B : Going → Type 0) (Q : Place → Going → Type 0) (E : Effects → Type 0) : Type 0 where
  pub jobs : JobCases Q (λ g. E g.effects)
  pub at_any : (place : Place) (g : Going) → B g → Q place g
  pub out : (g : Going) → B g → E g.effects
  -- a fence begins, components are lost, one lacks space, and a command goes out again
  pub ends : (format : ℕ) (g : Going) → B g → B (keeping g (ending g.file.kept format))
  pub loses : (cs : List Component) (g : Going) → B g → B (with_components g cs)
  pub lacks : (cs : List Component) (k : ℕ) (g : Going) → B g → B (noting (with_components g cs) (NoSpace k))
  pub again : (j : Job) (a : Awaited) (g : Going) → B g → E (renews g j a).effects
  -- the tag is spent, or a component is reported
  pub spent : (g : Going) → E g.effects → E (noting g Spent).effects
  pub reported : (k : ℕ) (g : Going) → E g.effects → E (noting g (Reported k)).effects

module _ {B : Going → Type 0} {Q : Place → Going → Type 0} {E : Effects → Type 0} (k : PartCases B Q E) where
  abbrev Ends : Going → Type 0
  Ends g = E g.effects

  pick : (b : Bool) (x y : Going) → Ends x → Ends y → Ends (if b then x else y)
  pick true x y p q = p
  pick false x y p q = q

  pub part_fence : (kind : JobKind) (format : ℕ) (g : Going) → B g → E (fence_begins kind format g).effects
  part_fence kind format g b =
      walk_fence Q Ends k.jobs kind format g (k.at_any AtFence (keeping g (ending g.file.kept format)) (k.ends format g b))

  pub part_making : (g : Going) → B g → E (making g).effects
  part_making g b = walk_making Q Ends k.jobs g (k.at_any AtStart g b)

  pub part_opens : (format : ℕ) (g : Going) → B g → E (opens format g).effects
  unfolding opens opens_fenced
  part_opens format g b =
      pick (is_unsettled g.file.kept) _ _
      (pick (g.file.kept.tag == GREATEST_TAG) (opens_spent g) _ (k.spent g (k.out g b)) (part_fence Revoking format g b))
      (by_ready g.file.kept.ready)
    where
      by_ready : (ready : Bool) → Ends (opens_made g ready)
      by_ready true = k.out g b
      by_ready false = part_making g b

  -- ---- a component is lost

  part_loses : (g : Going) (j : Job) (work : Work) (rest : List Awaited) (gone : Bool) → j.work ≡ work → B g →
      Ends (loses g j work rest gone)
  part_loses g j work rest gone is b =
      walk_loses Q Ends k.jobs g j work rest gone is
      (record {
        waits = λ c cs e. k.out g b;
        stays = k.out g b;
        on = λ waits. k.at_any (lost_place g.file.kept j.work) g b;
      })

  pub part_declares : (drive : ℕ) (g : Going) → B g → E (declares g drive).effects
  unfolding declares
  part_declares drive g b =
      pick (any_on drive g.file.kept.components || targets g.file.job drive) (declared_in h drive g.file.job) g
      (by_job g.file.job) (k.out g b)
    where
      h : Going
      h = with_components g (lose_on drive g.file.kept.components)

      lost : B h
      lost = k.loses (lose_on drive g.file.kept.components) g b

      by_job : (o : Option Job) → Ends (declared_in h drive o)
      by_job None = k.out h lost
      by_job (Some j) = part_loses h j j.work (others_than drive j.awaited) (is_target j.work drive) refl lost

  -- ---- a reply

  part_fills_up : (g : Going) (j : Job) (a : Awaited) (work : Work) → j.work ≡ work → B g → Ends (fills_up g j a work)
  part_fills_up g j a (Targets t) is b = walk_full Q Ends k.jobs t [] g (k.at_any (AtFill t []) g b)
  part_fills_up g j a (Gathers t todo) is b = walk_full Q Ends k.jobs t todo g (k.at_any (AtFill t todo) g b)
  part_fills_up g j a (Fills t todo) is b = walk_full Q Ends k.jobs t todo g (k.at_any (AtFill t todo) g b)
  part_fills_up g j a work is b =
      part_loses (noting (with_components g (lose_from (a.component ∷ []) g.file.kept.components 0)) (NoSpace a.component)) j
      work (others j.awaited a.command.nonce) false is
      (k.lacks (lose_from (a.component ∷ []) g.file.kept.components 0) a.component g b)

  pub part_hears : (g : Going) (j : Job) (a : Awaited) (r : Reply) (x : Hearing) → B g → E (hears g j a r x).effects
  part_hears g j a r Older b = k.again j a g b
  part_hears g j a r Full b = part_fills_up g j a j.work refl b
  part_hears g j a r Done b =
      walk_waits Q Ends k.jobs g j j.work (others j.awaited a.command.nonce) (heard_with j a r) (λ c cs e. k.out g b)
      (λ last. k.at_any (place_behind g.file.kept j.work (heard_with j a r)) g b)
  part_hears g j a r Nothing b = k.out g b

  -- ---- a request

  pub part_serves : (g : Going) → B g → (next format now client : ℕ) (args : RequestArgs) →
      E (serves g next format now client args).going.effects
  part_serves g b =
      walk_serves E g
      (record { begins = k.out g b; fences = λ format. part_fence Revoking format g b; spent = k.spent; reported = k.reported })
