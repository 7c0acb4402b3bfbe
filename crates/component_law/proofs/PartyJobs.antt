-- The job machine leaves a file's grants, or a fence ends them all.
use Rattle.std.proofs.Common.{◌≡◌, ℕ, ◌==◌, ◌||◌, Bool, true, false, List, Option, Some, None, refl, if◌then◌else◌}
use Rattle.server_rules.specs.declared.limits.TheConstants.{GREATEST_TAG}
use Rattle.server_rules.specs.Going.{Going, with_components}
use Rattle.server_rules.specs.Jobs.{fence_begins, loses, remakes, declares, declared_in, targets}
use Rattle.server_rules.specs.Openings.{is_unsettled, opens_made, opens_fenced, opens}
use Rattle.server_rules.specs.Replies.{Hearing, Older, Full, Done, Nothing, fills_up, hears}
use Rattle.server_rules.specs.Standing.{lose_on, any_on}
use Rattle.server_rules.proofs.HandlerLaws.{fence_leaves_none}
use Rattle.server_rules.proofs.Runs.{ran_gone, ran_full, ran_repairs, ran_waits_or_on, ran_refills, ran_audits, ran_making}
use Rattle.world_history.specs.ServerNames.{Kept, Awaited, Job, JobKind, Revoking, Work, Fetches, Stores, Targets, Gathers, Fills, Checks, Target, Reply}
use Rattle.component_law.specs.Order.{IsInOrder}
use Rattle.component_law.proofs.PartyLists.{same_order, none_order}

-- its grants stay
abbrev pub Stays : Kept → Going → Type 0
Stays k g = g.file.kept.grants ≡ k.grants

either_stays : (k : Kept) (b : Bool) (x y : Going) → Stays k x → Stays k y → Stays k (if b then x else y)
either_stays k true x y p q = p
either_stays k false x y p q = q

-- ---- a component is lost meanwhile

stays_remade : (g : Going) (t : Target) (gone : Bool) → Stays g.file.kept (remakes g t gone)
stays_remade g t true = (ran_gone g t).grants
stays_remade g t false = refl

stays_lost : (g : Going) (j : Job) (work : Work) (rest : List Awaited) (gone : Bool)
    → Stays g.file.kept (loses g j work rest gone)
unfolding loses
stays_lost g j (Fetches ps short) rest gone = (ran_repairs j.kind g ps short).grants
stays_lost g j (Stores ps short broken) rest gone = (ran_waits_or_on g j _ rest _).grants
stays_lost g j (Targets t) rest gone = stays_remade g t gone
stays_lost g j (Gathers t ps) rest gone = (ran_refills g t ps gone).grants
stays_lost g j (Fills t ps) rest gone = (ran_refills g t ps gone).grants
stays_lost g j (Checks ps t) rest gone = (ran_audits g ps t).grants
stays_lost g j work rest gone = (ran_waits_or_on g j work rest j.heard).grants

stays_without : (g : Going) (drive : ℕ) (j : Option Job) → Stays g.file.kept (declared_in g drive j)
stays_without g drive None = refl
stays_without g drive (Some j) = stays_lost g j j.work _ _

pub stays_declared : (g : Going) (drive : ℕ) → Stays g.file.kept (declares g drive)
unfolding declares
stays_declared g drive =
    either_stays g.file.kept (any_on drive g.file.kept.components || targets g.file.job drive) _ _
    (stays_without (with_components g (lose_on drive g.file.kept.components)) drive g.file.job) refl

-- ---- a reply

stays_full : (g : Going) (j : Job) (a : Awaited) (work : Work) → Stays g.file.kept (fills_up g j a work)
stays_full g j a (Targets t) = (ran_full g t).grants
stays_full g j a (Gathers t ps) = (ran_full g t).grants
stays_full g j a (Fills t ps) = (ran_full g t).grants
stays_full g j a work = stays_lost _ j work _ false

pub stays_heard : (g : Going) (j : Job) (a : Awaited) (r : Reply) (as_ : Hearing)
    → Stays g.file.kept (hears g j a r as_)
stays_heard g j a r Older = refl
stays_heard g j a r Full = stays_full g j a j.work
stays_heard g j a r Done = (ran_waits_or_on g j j.work _ _).grants
stays_heard g j a r Nothing = refl

-- ---- the order of the grants

module _ (next : ℕ) where
  abbrev Orders : Going → Type 0
  Orders g = IsInOrder next g.file

  either : (b : Bool) (x y : Going) → Orders x → Orders y → Orders (if b then x else y)
  either true x y p q = p
  either false x y p q = q

  pub order_fence : (kind : JobKind) (format : ℕ) (g : Going) → Orders (fence_begins kind format g)
  order_fence kind format g = none_order next (fence_begins kind format g).file (fence_leaves_none kind format g)

  order_made : (g : Going) (ready : Bool) → Orders g → Orders (opens_made g ready)
  order_made g true o = same_order next g.file (opens_made g true).file refl o
  order_made g false o = same_order next g.file (opens_made g false).file (ran_making g).grants o

  order_fenced : (format : ℕ) (g : Going) → Orders g → Orders (opens_fenced format g)
  unfolding opens_fenced
  order_fenced format g o =
      either (g.file.kept.tag == GREATEST_TAG) _ _ (same_order next g.file _ refl o) (order_fence Revoking format g)

  pub order_opened : (format : ℕ) (g : Going) → Orders g → Orders (opens format g)
  unfolding opens
  order_opened format g o =
      either (is_unsettled g.file.kept) _ _ (order_fenced format g o) (order_made g g.file.kept.ready o)
