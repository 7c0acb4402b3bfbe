use Rattle.std.proofs.Common.{rules, ◌++◌, ◌∷◌, []}
use Rattle.client_command.specs.declared.notices.Notice.TheVariants.{TimedOut}
use Rattle.client_command.specs.Exchanges.{dealing}
use Rattle.client_command.proofs.DealingLaws.{is_stepped}
use Rattle.client_command.proofs.drive.time_out.Goals as goal

pub returns-in_ok-take_step-in-Some : goal.returns-in_ok-take_step-in-Some
returns-in_ok-take_step-in-Some c = λ told faults.
    rw c.in-Some.is
    (is_stepped (dealing c.args.core.now c.args.waiting.now
    (c.args.notices.now ++ TimedOut c.in-Some.component ∷ []) told faults) _ _ _ _ _
    c.in_ok-step-in-Some.ensures.step c.in_ok-take_step-in-Some.ensures.sends (search rules))
