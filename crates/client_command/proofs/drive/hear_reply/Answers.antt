use Rattle.std.proofs.Common.{rules, ◌≡◌}
use Rattle.client_command.specs.Exchanges.{dealing}
use Rattle.client_command.proofs.DealingLaws.{is_stepped}
use Rattle.client_command.proofs.drive.hear_reply.Goals as goal

pub returns-in_ok-take_step-in-Some : goal.returns-in_ok-take_step-in-Some
returns-in_ok-take_step-in-Some c = λ told faults.
    let same : c.as_slice.result.now ≡ c.in-Some.bytes = search rules in
    let is = c.in_ok-step-in-Some.ensures.step in
    rw c.in-Some.is
    (is_stepped (dealing c.args.core.now c.args.waiting.now c.args.notices.now told faults) _ _ _ _ _ (rw same at is)
    c.in_ok-take_step-in-Some.ensures.sends c.in_ok-take_step-in-Some.ensures.notices)
