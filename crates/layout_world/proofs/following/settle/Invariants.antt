use Rattle.std.proofs.Common.{ℕ, List, Option}
use Rattle.scenario_text.specs.declared.event.Event.{Event}
use Rattle.scenario_text.specs.declared.line.Line.{Line}
use Rattle.world_history.specs.State.{World}
use Rattle.world_watch.specs.State.{WatchState}
use Rattle.layout_world.specs.Going.{Delivering}
use Rattle.layout_world.specs.Watching.{LeavesTold}
use Rattle.layout_world.proofs.following.settle.Given as goal

abbrev pub invariant-loop-rounds : goal.invariant-loop-rounds
invariant-loop-rounds g l =
    ((w : World) (e : Event) (before : List Line) (watch : WatchState) (first : ℕ) (client : Option ℕ)
    → Delivering w e before watch first client l.fn.parties l.fn.watch l.fn.start l.fn.lines
    → Delivering w e before watch first client l.parties l.watch l.next l.lines)
    × LeavesTold l.fn.watch l.watch

abbrev pub decreases-loop-rounds : goal.decreases-loop-rounds
decreases-loop-rounds g l = l.rounds
