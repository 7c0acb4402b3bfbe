-- What is known at each place of a file's job in the middle of a step, so that the event of the next note can happen.
use Rattle.std.proofs.Common.{◌≡◌, ℕ, true, [], ◌∷◌, Some, None}
use Rattle.std.specs.Prelude.{slice_get}
use Rattle.server_rules.specs.Maps.{pieces_in}
use Rattle.server_rules.specs.Pieces.{stores}
use Rattle.server_rules.specs.Rebuild.{group_for}
use Rattle.server_rules.specs.Replies.{Done, hearing, others, heard_with}
use Rattle.component_law.specs.Tagged.{is_fence}
use Rattle.component_law.specs.KeptWalk.{WorkFits}
use Rattle.component_law.specs.Objects.{target_in}
use Rattle.world_history.specs.ServerNames.{File, Component, Still, Repairing, Target, Work, Targets, Gathers, Fills, Job, Awaited, Reply}
use Rattle.fence_law.specs.State.{State}
use Rattle.fence_law.specs.Columns.{HaveNextTag}
use Rattle.file_simulation.specs.Jobs.{AreDone, DoneIn}
use Rattle.relation_law.specs.KeptSteps.{core}
use Rattle.headline_law.specs.ServerEnds.{IsSourced}
use Rattle.relation_law.proofs.Walk.{Place, AtFence, AtRepair, AtRows, AtFill, AtSources, place_behind}

-- a rebuild makes its target of a still file without grants, for a component that is missing
pub record CanFill (g : File) (t : Target) : Type 0 where
  pub still : g.kept.phase ≡ Still
  pub busy : g.job ≡ None → ⊥
  pub alone : g.kept.grants ≡ []
  pub component : Component
  pub there : slice_get g.kept.components t.component ≡ Some component
  pub missing : component.missing ≡ true

-- what is so of the file at the place
abbrev pub Fits : File → Place → Type 0
Fits g AtFence = is_fence g.kept.phase ≡ true
Fits g (AtRepair todo) = g.kept.phase ≡ Repairing
Fits g (AtRows p ps heard) = g.kept.phase ≡ Repairing
Fits g (AtFill t todo) = CanFill g t
Fits g (AtSources t p ps heard) = CanFill g t
Fits g place = Unit {0}

-- What the machine has there: where a fence goes on, each component has the next tag; what a repair is behind stands; and where
-- no piece of a rebuild is left, there was something to make it of.
abbrev pub Knows : State → File → Place → Type 0
Knows u g AtFence = HaveNextTag u
Knows u g (AtRepair todo) = AreDone u (core g.kept) todo
Knows u g (AtRows p ps heard) =
    AreDone u (core g.kept) (p ∷ ps)
    × ((nonce : ℕ) → stores g.kept p heard nonce ≡ [] → AreDone u (core g.kept) ps)
Knows u g (AtFill t todo) = todo ≡ [] → IsSourced u g t
Knows u g (AtSources t p ps heard) = ps ≡ [] → IsSourced u g t
Knows u g place = Unit {0}

-- ---- before a step

-- where a rebuild has no piece to do any more, there was something to make its target of
abbrev pub EndsSourced : State → File → Work → Type 0
EndsSourced s f (Targets t) = pieces_in f.kept.map (group_for f.kept t) f.kept.high ≡ [] → IsSourced s f t
EndsSourced s f (Gathers t todo) = todo ≡ [] → IsSourced s f t
EndsSourced s f (Fills t todo) = todo ≡ [] → IsSourced s f t
EndsSourced s f work = Unit {0}

-- what is so of a file's job before a step
pub record JobStands (s : State) (f : File) (j : Job) : Type 0 where
  pub runs : f.job ≡ Some j
  pub fits : WorkFits f.kept.phase j.work
  pub fill : (t : Target) → target_in j.work ≡ Some t → CanFill f t
  pub done : DoneIn s f j.work
  pub ends : EndsSourced s f j.work

-- a reply is the last that the job awaits: what the machine has where the job goes on
abbrev pub LastKnows : State → File → Job → Awaited → Reply → Type 0
LastKnows s f j a r =
    hearing f.kept a r ≡ Done → others j.awaited a.command.nonce ≡ [] →
    Knows s f (place_behind f.kept j.work (heard_with j a r))
