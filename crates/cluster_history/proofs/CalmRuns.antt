-- A run in which nothing is lost is calm.
use Rattle.std.proofs.Common.{◌≡◌, ℕ, true, List, [], ◌∷◌, refl, inl, inr}
use Rattle.std.specs.List.{AllByRecursion}
use Rattle.server_rules.specs.Laws.{In}
use Rattle.scenario_text.specs.declared.event.Event.{Event}
use Rattle.scenario_text.specs.declared.line.Line.{Line}
use Rattle.scenario_text.specs.declared.line.Line.TheVariants as line
use Rattle.world_history.specs.ServerNames.{OrderKind, ToRecall, ToRevoke, ToDeclare, ToRebuild, ToAudit}
use Rattle.world_history.specs.Calm.{calm}
use Rattle.lossless_law.specs.Lossless.{KeepsDrives, TellsNoLoss, IsLossless, LosslessIsCalm}
use Rattle.cluster_history.specs.State.{empty_cluster}
use Rattle.cluster_history.specs.Steps.{Step, Knows, Raises, Makes, Hears, Obeys, Passes, Resends, Crashes, Opens, Takes, IsHit, Falls, Rises, IsLost, Begins, Calls, Learns, Misses, Leaves, SendsAgain, Ends}
use Rattle.cluster_history.specs.Events.{EachEvent, EachStep}
use Rattle.cluster_history.specs.Deeds.{order_event}
use Rattle.cluster_history.specs.History.{cluster_after, history_of}
use Rattle.cluster_history.specs.Like.{LeadsTo}
use Rattle.cluster_history.specs.Laws.{EachRunHasAHistory, EachRunIsOfScenario, CalmRunsAreRight, DeclaresNone, LosesNone, LosslessRunsAreCalm, LosslessRunsAreRight}
use Rattle.cluster_history.proofs.Telling.{EachLine, OfEvent, by_events, history_each}

-- ---- events

abbrev KeepsAll : Event → Type 0
KeepsAll e = KeepsDrives (line.Event e)

no_order : (k : OrderKind) (n : ℕ) → DeclaresNone k → KeepsAll (order_event k n)
no_order ToRecall n d = tt
no_order ToRevoke n d = tt
no_order ToDeclare n d = absurd d
no_order ToRebuild n d = tt
no_order ToAudit n d = tt

none_lost : (s : Step) → LosesNone s → EachEvent KeepsAll s
none_lost (Knows d key capacity) n = tt
none_lost (Raises format) n = tt
none_lost (Makes chosen f m) n = (tt, λ d l. (tt, tt))
none_lost (Hears time chosen k) n = (tt, tt)
none_lost (Obeys time chosen o) n = (tt, no_order o.order o.target n)
none_lost (Passes time chosen from bytes) n = tt
none_lost Resends n = tt
none_lost Crashes n = tt
none_lost Opens n = tt
none_lost (Takes d time k) n = (tt, tt)
none_lost (IsHit d time bytes) n = (tt, tt)
none_lost (Falls d) n = tt
none_lost (Rises d) n = tt
none_lost (IsLost d) n = absurd n
none_lost (Begins c) n = tt
none_lost (Calls c op) n = tt
none_lost (Learns c k) n = tt
none_lost (Misses c component) n = tt
none_lost (Leaves c) n = tt
none_lost (SendsAgain c) n = tt
none_lost (Ends c) n = tt

none_in_any : (steps : List Step) → EachStep LosesNone steps → EachStep (EachEvent KeepsAll) steps
none_in_any [] n = tt
none_in_any (s ∷ steps) n = (none_lost s n.0, none_in_any steps n.1)

-- ---- all lines

keeps_line : (l : Line) → OfEvent KeepsAll l → KeepsDrives l
keeps_line (line.Event e) k = k
keeps_line (line.Message number from to bytes) k = tt
keeps_line (line.Delivered number d) k = tt
keeps_line (line.Judged d v) k = tt
keeps_line (line.TimedOut c component) k = tt
keeps_line (line.Ended c o) k = tt
keeps_line (line.Refused c why) k = tt
keeps_line (line.Note f what) k = tt
keeps_line (line.Last calm unguessed) k = tt

all_lossless : (ls : List Line) → EachLine (OfEvent KeepsAll) ls → ((l : Line) → In l ls → TellsNoLoss l)
    → AllByRecursion IsLossless ls
all_lossless [] k t = tt
all_lossless (l ∷ ls) k t = (
  record { drives = keeps_line l k.0; told = t l (inl refl) },
  all_lossless ls k.1 (λ x i. t x (inr i)),
)

-- ---- the laws

pub lossless_runs_are_calm : EachRunHasAHistory → EachRunIsOfScenario → LosslessIsCalm → LosslessRunsAreCalm
lossless_runs_are_calm has scenario is_calm steps run lossless =
    let l : LeadsTo (history_of empty_cluster steps) (cluster_after empty_cluster steps) = has steps run.steps_are in
    is_calm l.world (history_of empty_cluster steps) l.stands (scenario steps run).written
    (all_lossless (history_of empty_cluster steps)
    (history_each (OfEvent KeepsAll) (by_events KeepsAll) empty_cluster steps (none_in_any steps lossless.drives))
    lossless.components)

pub lossless_runs_are_right : LosslessRunsAreCalm → CalmRunsAreRight → LosslessRunsAreRight
lossless_runs_are_right is_calm right steps run unhit lossless = right steps run unhit (is_calm steps run lossless)
