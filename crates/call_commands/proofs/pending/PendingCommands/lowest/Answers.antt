use Rattle.std.proofs.Common.{sym, ap, ◌∙◌, ℕ}
use Rattle.std.specs.Prelude.{Option}
use Rattle.call_commands.specs.Pending.{lowest_by}
use Rattle.call_commands.proofs.Pendings.{lowest_turn, lowest_end, lowest_found}
use Rattle.call_commands.proofs.pending.PendingCommands.lowest.Goals as goal

pub loop-awaited-preserved : goal.loop-awaited-preserved
loop-awaited-preserved c =
    ap (λ (t : Option ℕ). lowest_by t c.next.new.self) c.lower-least.ensures
    ∙ sym (lowest_turn c.loop-awaited.least c.in-Some.awaited.now c.next.new.self)
    ∙ ap (lowest_by c.loop-awaited.least) (sym c.in-Some.ensures.steps)
    ∙ c.loop-awaited.invariant

pub returns : goal.returns
returns c =
    sym (lowest_end c.loop-awaited.least)
    ∙ ap (lowest_by c.loop-awaited.least) (sym c.in-None.ensures.steps.0)
    ∙ c.loop-awaited.invariant
    ∙ lowest_found c.args.self.now
