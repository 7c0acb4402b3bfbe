-- What holds of every run of a cluster.
use Rattle.std.specs.Prelude.{◌≡◌, ◌≤◌, true, List, length}
use Rattle.world_history.specs.declared.limits.TheConstants.{MAX_KEPT}
use Rattle.scenario_text.specs.declared.line.Line.{Line}
use Rattle.world_history.specs.ServerNames.{OrderKind, ToDeclare}
use Rattle.server_rules.specs.Laws.{In}
use Rattle.world_history.specs.Calm.{calm}
use Rattle.world_history.specs.Guesses.{unguessed}
use Rattle.file_simulation.specs.Claim.{IsOfScenario, IsRight}
use Rattle.history_claims.specs.Sound.{IsSound}
use Rattle.lossless_law.specs.Lossless.{TellsNoLoss}
use Rattle.cluster_history.specs.State.{empty_cluster}
use Rattle.cluster_history.specs.Steps.{Step, Obeys, IsLost}
use Rattle.cluster_history.specs.Events.{EachStep, AreSpelled, IsNoHit}
use Rattle.cluster_history.specs.History.{AreSteps, cluster_after, history_of}
use Rattle.cluster_history.specs.Like.{LeadsTo}

-- Each run of a cluster has a history: its lines are those of the steps, and it leads to a world that is as the cluster is
-- then.
abbrev pub EachRunHasAHistory : Type 0
EachRunHasAHistory =
    (steps : List Step) → AreSteps empty_cluster steps
    → LeadsTo (history_of empty_cluster steps) (cluster_after empty_cluster steps)

-- So all that is so of every lawful history is so of it.
abbrev pub EachRunIsSound : Type 0
EachRunIsSound = (steps : List Step) → AreSteps empty_cluster steps → IsSound (history_of empty_cluster steps)

-- ---- the headline, of a run

-- no more messages were sent than bytes are kept in a replay
abbrev pub AreFewSent : List Step → Type 0
AreFewSent steps = length (cluster_after empty_cluster steps).sent ≤ MAX_KEPT

-- a run whose numbers a text can have, with few messages: so its history is one of a scenario's text with few messages
pub record IsRun (steps : List Step) : Type 0 where
  pub steps_are : AreSteps empty_cluster steps
  pub spelled : AreSpelled steps
  pub few : AreFewSent steps

abbrev pub EachRunIsOfScenario : Type 0
EachRunIsOfScenario = (steps : List Step) → IsRun steps → IsOfScenario (history_of empty_cluster steps)

-- where no bytes but messages of the parties come to a drive, nothing is guessed
abbrev pub UnhitRunsAreUnguessed : Type 0
UnhitRunsAreUnguessed = (steps : List Step) → EachStep IsNoHit steps → unguessed (history_of empty_cluster steps) ≡ true

-- So where the run is calm too, the judge accepts the log of each file: each answered read gave, in order of start, the
-- acknowledged writes before it, an unfinished write's bytes being old or new, once for all.
abbrev pub CalmRunsAreRight : Type 0
CalmRunsAreRight =
    (steps : List Step) → IsRun steps → EachStep IsNoHit steps → calm (history_of empty_cluster steps) ≡ true
    → IsRight (history_of empty_cluster steps)

-- ---- runs in which nothing is lost

-- no drive is lost, and none is declared
abbrev pub DeclaresNone : OrderKind → Type 0
DeclaresNone ToDeclare = ⊥
DeclaresNone kind = Unit {0}

abbrev pub LosesNone : Step → Type 0
LosesNone (IsLost d) = ⊥
LosesNone (Obeys time chosen o) = DeclaresNone o.order
LosesNone s = Unit {0}

-- a run in which no drive is lost, none is declared, and no component is told to be missing
pub record LosesNothing (steps : List Step) : Type 0 where
  pub drives : EachStep LosesNone steps
  pub components : (l : Line) → In l (history_of empty_cluster steps) → TellsNoLoss l

-- Each such run is calm. So if moreover no bytes but messages of the parties come to a drive, each answered read gave, in order
-- of start, the acknowledged writes before it.
abbrev pub LosslessRunsAreCalm : Type 0
LosslessRunsAreCalm = (steps : List Step) → IsRun steps → LosesNothing steps → calm (history_of empty_cluster steps) ≡ true

abbrev pub LosslessRunsAreRight : Type 0
LosslessRunsAreRight =
    (steps : List Step) → IsRun steps → EachStep IsNoHit steps → LosesNothing steps → IsRight (history_of empty_cluster steps)
