use Rattle.std.proofs.Common.{◌≤◌, List, length}
use Rattle.scenario_text.specs.declared.event.Event.{Event}
use Rattle.scenario_text.specs.declared.line.Line.{Line}
use Rattle.world_history.specs.State.{World}
use Rattle.world_history.specs.Plans.{Prompt}
use Rattle.world_watch.specs.State.{WatchState}
use Rattle.layout_world.specs.Going.{Far, Delivering, behind}
use Rattle.layout_world.specs.Watching.{LeavesTold}
use Rattle.layout_world.proofs.following.prompt.Given as goal

abbrev pub invariant-loop-rounds : goal.invariant-loop-rounds
invariant-loop-rounds g l =
    ((w : World) (e : Event) (before : List Line) (watch : WatchState) → l.fn.first ≤ length l.fn.parties.network.messages
    → Far w e before watch (behind (Prompt l.fn.first l.fn.client)) l.fn.parties l.fn.watch l.fn.lines
    → Delivering w e before watch l.fn.first l.fn.client l.parties l.watch l.next l.lines)
    × LeavesTold l.fn.watch l.watch

abbrev pub decreases-loop-rounds : goal.decreases-loop-rounds
decreases-loop-rounds g l = l.rounds
