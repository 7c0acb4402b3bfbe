-- The target of a rebuild is one of the components, over each function of jobs.
-- Towards `EachTargetIsInside` (`specs/TargetLaws.antt`).
use Rattle.std.proofs.Common.{◌≡◌, ◌==◌, ◌||◌, ℕ, ◌+◌, ◌<◌, ◌≤◌, Bool, true, false, nat_lt, length, List, [], ◌∷◌, drop, replicate, Option, Some, None, refl, sym, subst, arith, if◌then◌else◌}
use Rattle.std.proofs.lemmas.List.{length-drop}
use Rattle.server_rules.specs.declared.limits.TheConstants.{GREATEST_TAG}
use Rattle.server_rules.specs.Audit.{audits, audit_begins, tallied, checked}
use Rattle.server_rules.specs.Columns.{end_of}
use Rattle.server_rules.specs.Commands.{Creating, Raising, Measuring, All, to_all}
use Rattle.server_rules.specs.Going.{Going, keeping, noting, noting_if, with_components, rests_or}
use Rattle.server_rules.specs.Grants.{merged}
use Rattle.server_rules.specs.Jobs.{making, is_made, ending, fenced, fence_begins, goes_on, waits_or_on, loses, declares, declared_in, is_target, others_than, targets}
use Rattle.server_rules.specs.Maps.{pieces, pieces_along, pieces_in}
use Rattle.server_rules.specs.Openings.{is_unsettled, opens_made, opens_spent, opens_fenced, opens}
use Rattle.server_rules.specs.Pieces.{stores, short_with}
use Rattle.server_rules.specs.Rebuild.{makes_or, rebuilds, goes_past, group_for, stands_at, sources, fills, filling, made, target_for, target_gone, target_full}
use Rattle.server_rules.specs.Repair.{after_repair, mended, repair_reads, repairs, storing, repair_begins}
use Rattle.server_rules.specs.Replies.{Hearing, Older, Full, Done, Nothing, others, fills_up, heard_with, hears}
use Rattle.server_rules.specs.Standing.{lose_from, lose_on, any_on}
use Rattle.world_history.specs.ServerNames.{Component, Awaited, Heard, Piece, Tally, Target, Job, JobKind, Making, Revoking, Rebuilding, Auditing, Work, Creates, Fences, Fetches, Stores, Targets, Gathers, Fills, Lengths, Checks, NoDrive, NoSpace, Lost, Reply}
use Rattle.component_law.specs.Objects.{target_in, target_of}
use Rattle.component_law.proofs.Holders.{length_lost, length_on, length_set}
use Rattle.component_law.proofs.Walking.{target_is}
use Rattle.relation_law.proofs.Walk.{raised, standing}

-- the component's number is below c
abbrev pub IsBelow : (c : ℕ) → Option Target → Type 0
IsBelow c None = Unit {0}
IsBelow c (Some t) = t.component < c

module _ (c : ℕ) where
  abbrev pub Below : Going → Type 0
  Below g = IsBelow c (target_of g.file.job)

  abbrev pub IsWithin : Going → Type 0
  IsWithin g = length g.file.kept.components ≤ c

  pick : (b : Bool) (x y : Going) → Below x → Below y → Below (if b then x else y)
  pick true x y p q = p
  pick false x y p q = q

  below_rests : (ws : List Awaited) (g : Going) (kind : JobKind) (work : Work) (later : Going) →
      IsBelow c (target_in work) → Below later → Below (rests_or ws g kind work later)
  below_rests [] g kind work later low on = on
  below_rests (w ∷ ws) g kind work later low on = low

  -- ---- audit

  below_audits : (ps : List Piece) (t : Tally) (g : Going) → Below (audits g ps t)
  unfolding audits
  below_audits [] t g = tt
  below_audits (p ∷ ps) t g = below_rests _ g _ _ _ tt (below_audits ps (tallied g.file.kept p t) g)

  below_audit : (g : Going) → Below (audit_begins g)
  unfolding audit_begins
  below_audit g =
      below_rests (to_all g.file.kept All Measuring g.effects.nonce) g Auditing Lengths _ tt
      (below_audits (pieces_along g.file.kept.map.unit 0 g.file.kept.high) _ g)

  -- ---- rebuild

  below_makes : (at : Component) (n : ℕ) (g later : Going) (o : Option Target) → target_for g at n ≡ o → n < c → Below later →
      Below (makes_or g o later)
  below_makes at n g later None is low on = on
  below_makes at n g later (Some t) is low on = subst (λ (m : ℕ). m < c) (sym (target_is g at n t is).0) low

  below_rebuilds : (cs : List Component) (n : ℕ) (g : Going) → n + length cs ≤ c → Below (rebuilds g cs n)
  unfolding rebuilds
  below_rebuilds [] n g low = tt
  below_rebuilds (at ∷ cs) n g low =
      below_makes at n g _ (target_for g at n) refl (omega (arith, low))
      (below_rebuilds cs (n + 1) (noting_if at.missing g (NoDrive n)) (omega (arith, low)))

  below_all : (g : Going) → IsWithin g → Below (rebuilds g g.file.kept.components 0)
  below_all g within = below_rebuilds g.file.kept.components 0 g (omega (arith, within))

  below_past : (t : Target) (g : Going) → t.component < c → IsWithin g → Below (goes_past g t)
  below_past t g low within =
      let rest = length-drop (t.component + 1) g.file.kept.components in
      below_rebuilds (drop (t.component + 1) g.file.kept.components) (t.component + 1) g (omega (arith, rest, low, within))

  below_fills : (t : Target) (ps : List Piece) (g : Going) → t.component < c → IsWithin g → Below (fills g t ps)
  unfolding fills
  below_fills t [] g low within =
      below_past t (standing g t) low
      (subst (λ (n : ℕ). n ≤ c) (sym (length_set g.file.kept.components t.component (stands_at t))) within)
  below_fills t (p ∷ ps) g low within =
      below_rests (sources g.file.kept t p g.effects.nonce) g Rebuilding (Gathers t (p ∷ ps)) _ low
      (below_past t (noting g (Lost t.component _)) low within)

  below_filling : (t : Target) (p : Piece) (ps : List Piece) (bytes : List ℕ) (g : Going) → t.component < c → IsWithin g →
      Below (filling g t p ps bytes)
  unfolding filling
  below_filling t p ps bytes g low within =
      pick (nat_lt 0 (end_of bytes (replicate p.count 0))) _ _ low (below_fills t ps g low within)

  below_gone : (t : Target) (g : Going) → t.component < c → IsWithin g → Below (target_gone g t)
  below_gone t g low within = below_past t (noting g (NoDrive t.component)) low within

  below_full : (t : Target) (g : Going) → t.component < c → IsWithin g → Below (target_full g t)
  below_full t g low within = below_past t (noting g (NoSpace t.component)) low within

  -- ---- repair, and the fence

  below_behind : (kind : JobKind) (g : Going) → IsWithin g → Below (after_repair kind g)
  below_behind Making g within = tt
  below_behind Revoking g within = tt
  below_behind Rebuilding g within = below_all g within
  below_behind Auditing g within = below_audit g

  below_repairs : (kind : JobKind) (ps : List Piece) (short : List ℕ) (g : Going) → IsWithin g →
      Below (repairs kind g ps short)
  unfolding repairs
  below_repairs kind [] short g within = below_behind kind (mended g short) within
  below_repairs kind (p ∷ ps) short g within =
      below_rests (repair_reads g.file.kept p g.effects.nonce) g kind _ _ tt
      (below_repairs kind ps (short_with g.file.kept p short) g within)

  below_storing : (kind : JobKind) (p : Piece) (ps : List Piece) (short : List ℕ) (heard : List Heard) (g : Going) →
      IsWithin g → Below (storing kind g p ps short heard)
  unfolding storing
  below_storing kind p ps short heard g within =
      below_rests (stores g.file.kept p heard g.effects.nonce) g kind _ _ tt (below_repairs kind ps short g within)

  below_fenced : (kind : JobKind) (g : Going) → IsWithin g → Below (fenced kind g)
  unfolding fenced repair_begins
  below_fenced kind g within =
      below_repairs kind (pieces g.file.kept.map.unit (merged g.file.kept.ended)) [] (raised g) within

  pub below_fence : (kind : JobKind) (format : ℕ) (g : Going) → IsWithin g → Below (fence_begins kind format g)
  unfolding fence_begins
  below_fence kind format g within =
      let h : Going = keeping g (ending g.file.kept format) in
      below_rests (to_all h.file.kept All Raising h.effects.nonce) h kind Fences _ tt (below_fenced kind h within)

  below_making : (g : Going) → Below (making g)
  unfolding making
  below_making g =
      below_rests (to_all g.file.kept All Creating g.effects.nonce) g Making Creates (is_made g) tt tt

  -- ---- a job goes on

  below_on : (kind : JobKind) (work : Work) (heard : List Heard) (g : Going) → IsBelow c (target_in work) → IsWithin g →
      Below (goes_on kind work heard g)
  unfolding goes_on
  below_on kind Creates heard g low within = tt
  below_on kind Fences heard g low within = below_fenced kind g within
  below_on kind (Fetches [] short) heard g low within = below_repairs kind [] short g within
  below_on kind (Fetches (p ∷ ps) short) heard g low within = below_storing kind p ps short heard g within
  below_on kind (Stores [] short b) heard g low within = below_repairs kind [] short g within
  below_on kind (Stores (p ∷ ps) short true) heard g low within = below_repairs kind (p ∷ ps) short g within
  below_on kind (Stores (p ∷ ps) short false) heard g low within = below_repairs kind ps short g within
  below_on kind (Targets t) heard g low within =
      below_fills t (pieces_in g.file.kept.map (group_for g.file.kept t) g.file.kept.high) g low within
  below_on kind (Gathers t []) heard g low within = below_fills t [] g low within
  below_on kind (Gathers t (p ∷ ps)) heard g low within =
      below_filling t p ps (made g.file.kept t p heard) g low within
  below_on kind (Fills t []) heard g low within = below_fills t [] g low within
  below_on kind (Fills t (p ∷ ps)) heard g low within = below_fills t ps g low within
  below_on kind Lengths heard g low within =
      below_audits (pieces_along g.file.kept.map.unit 0 g.file.kept.high) _ g
  below_on kind (Checks [] t) heard g low within = below_audits [] t g
  below_on kind (Checks (p ∷ ps) t) heard g low within = below_audits ps (checked g.file.kept p heard t) g

  below_waits : (g : Going) (j : Job) (work : Work) (rest : List Awaited) (heard : List Heard) →
      IsBelow c (target_in work) → IsWithin g → Below (waits_or_on g j work rest heard)
  below_waits g j work [] heard low within = below_on j.kind work heard g low within
  below_waits g j work (w ∷ ws) heard low within = low

  -- a component is lost meanwhile
  below_loses : (g : Going) (j : Job) (work : Work) (rest : List Awaited) (gone : Bool) → IsBelow c (target_in work) →
      Below g → IsWithin g → Below (loses g j work rest gone)
  unfolding loses
  below_loses g j Creates rest gone low at within = below_waits g j Creates rest j.heard low within
  below_loses g j Fences rest gone low at within = below_waits g j Fences rest j.heard low within
  below_loses g j (Fetches todo short) rest gone low at within = below_repairs j.kind todo short g within
  below_loses g j (Stores todo short b) rest gone low at within = below_waits g j (Stores todo short true) rest j.heard low within
  below_loses g j (Targets t) rest true low at within = below_gone t g low within
  below_loses g j (Targets t) rest false low at within = at
  below_loses g j (Gathers t todo) rest true low at within = below_gone t g low within
  below_loses g j (Gathers t todo) rest false low at within = below_fills t todo g low within
  below_loses g j (Fills t todo) rest true low at within = below_gone t g low within
  below_loses g j (Fills t todo) rest false low at within = below_fills t todo g low within
  below_loses g j Lengths rest gone low at within = below_waits g j Lengths rest j.heard low within
  below_loses g j (Checks todo t) rest gone low at within = below_audits todo t g

  -- ---- a reply

  module _ (g : Going) (j : Job) (a : Awaited) (r : Reply) (at : Below g) (within : IsWithin g) where
    below_lacks : (work : Work) → IsBelow c (target_in work) →
        Below (loses (noting (with_components g (lose_from (a.component ∷ []) g.file.kept.components 0))
        (NoSpace a.component)) j work (others j.awaited a.command.nonce) false)
    below_lacks work low =
        below_loses (noting (with_components g (lose_from (a.component ∷ []) g.file.kept.components 0))
        (NoSpace a.component)) j work (others j.awaited a.command.nonce) false low at
        (subst (λ (n : ℕ). n ≤ c) (sym (length_lost (a.component ∷ []) g.file.kept.components 0)) within)

    below_fills_up : (work : Work) → IsBelow c (target_in work) → Below (fills_up g j a work)
    below_fills_up Creates low = below_lacks Creates low
    below_fills_up Fences low = below_lacks Fences low
    below_fills_up (Fetches todo short) low = below_lacks (Fetches todo short) low
    below_fills_up (Stores todo short b) low = below_lacks (Stores todo short b) low
    below_fills_up (Targets t) low = below_full t g low within
    below_fills_up (Gathers t todo) low = below_full t g low within
    below_fills_up (Fills t todo) low = below_full t g low within
    below_fills_up Lengths low = below_lacks Lengths low
    below_fills_up (Checks todo t) low = below_lacks (Checks todo t) low

    pub below_hears : (x : Hearing) → IsBelow c (target_in j.work) → Below (hears g j a r x)
    below_hears Older low = low
    below_hears Full low = below_fills_up j.work low
    below_hears Done low =
        below_waits g j j.work (others j.awaited a.command.nonce) (heard_with j a r) low within
    below_hears Nothing low = at

  -- ---- a declaration, an opening

  pub below_declares : (drive : ℕ) (g : Going) → Below g → IsWithin g → Below (declares g drive)
  unfolding declares
  below_declares drive g at within =
      pick (any_on drive g.file.kept.components || targets g.file.job drive) (declared_in h drive g.file.job) g
      (by_job g.file.job refl) at
    where
      h : Going
      h = with_components g (lose_on drive g.file.kept.components)

      by_job : (o : Option Job) → g.file.job ≡ o → Below (declared_in h drive o)
      by_job None is = at
      by_job (Some j) is =
          below_loses h j j.work (others_than drive j.awaited) (is_target j.work drive)
          (subst (λ (o : Option Job). IsBelow c (target_of o)) is at) at
          (subst (λ (n : ℕ). n ≤ c) (sym (length_on drive g.file.kept.components)) within)

  pub below_opens : (format : ℕ) (g : Going) → Below g → IsWithin g → Below (opens format g)
  unfolding opens opens_fenced
  below_opens format g at within =
      pick (is_unsettled g.file.kept) _ _
      (pick (g.file.kept.tag == GREATEST_TAG) (opens_spent g) _ at (below_fence Revoking format g within))
      (by_ready g.file.kept.ready)
    where
      by_ready : (b : Bool) → Below (opens_made g b)
      by_ready true = tt
      by_ready false = below_making g
