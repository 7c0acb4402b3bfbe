use Rattle.std.proofs.Common.{sym, ap, ◌∙◌}
use Rattle.std.specs.Prelude.{Option}
use Rattle.call_commands.specs.State.{TimedOut}
use Rattle.call_commands.specs.Pending.{first_by}
use Rattle.call_commands.proofs.Pendings.{first_turn, first_end, first_found}
use Rattle.call_commands.proofs.pending.PendingCommands.first_to.Goals as goal

pub loop-awaited-preserved : goal.loop-awaited-preserved
loop-awaited-preserved c =
    ap (λ (t : Option TimedOut). first_by t c.args.component c.next.new.self) c.nearer-first.ensures
    ∙ sym (first_turn c.loop-awaited.first c.args.component c.in-Some.awaited.now c.next.new.self)
    ∙ ap (first_by c.loop-awaited.first c.args.component) (sym c.in-Some.ensures.steps)
    ∙ c.loop-awaited.invariant

pub returns : goal.returns
returns c =
    sym (first_end c.loop-awaited.first c.args.component)
    ∙ ap (first_by c.loop-awaited.first c.args.component) (sym c.in-None.ensures.steps.0)
    ∙ c.loop-awaited.invariant
    ∙ first_found c.args.component c.args.self.now
