use Rattle.server_state.proofs.StepLaws.{mapped_ok, on_ok}
use Rattle.layout_server.proofs.HearLaws.{heard_whole}
use Rattle.layout_server.proofs.replies.hear_at.Goals as goal

pub returns-clause-did : goal.returns-clause-did
returns-clause-did g c =
    let heard = rw c.no_effects-effects.ensures at c.in_ok-hear_in.ensures in
    mapped_ok c.finish_step.result
    (λ out fin. (heard_whole c.args.state.now c.hear_in.new.files c.finish_step.new.state c.hear_in.new.effects c.args.number
    _ c.args.drive c.args.reply.now out
    c.requires.good c.requires.awaited c.requires.loads heard fin).0) c.finish_step.ensures

pub returns-clause-good : goal.returns-clause-good
returns-clause-good g c =
    let heard = rw c.no_effects-effects.ensures at c.in_ok-hear_in.ensures in
    on_ok c.finish_step.result
    (λ out fin. (heard_whole c.args.state.now c.hear_in.new.files c.finish_step.new.state c.hear_in.new.effects c.args.number
    _ c.args.drive c.args.reply.now out
    c.requires.good c.requires.awaited c.requires.loads heard fin).1) c.finish_step.ensures
