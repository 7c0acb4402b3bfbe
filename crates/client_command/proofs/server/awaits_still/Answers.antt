use Rattle.std.proofs.Common.{rules}
use Rattle.client_command.proofs.DealingLaws.{none_still, still_from}
use Rattle.client_command.proofs.server.awaits_still.Goals as goal

pub returns-then-is_empty : goal.returns-then-is_empty
returns-then-is_empty c = none_still c.args.core.now c.args.message.now c.in_ok-sends.sends c.in_ok-sends.ensures (search rules)

pub returns : goal.returns
returns c =
    still_from c.args.core.now c.args.message.now c.in_ok-sends.sends c.get.result.now c.is_request.result c.in_ok-sends.ensures
    (search rules)
    c.is_request.ensures
