use Rattle.layout_server.proofs.HearLaws.{first_listed, if_none, if_some, none_listed}
use Rattle.layout_server.proofs.replies.awaiting.Goals as goal

pub returns-clause-some : goal.returns-clause-some
returns-clause-some c =
    if_some c.first.result
    (λ n. first_listed c.args.drive c.args.reply.now c.args.state.now.replies c.args.state.now.files.entries n
    c.in_order.ensures c.requires.replies) c.first.ensures.some

pub returns-clause-none : goal.returns-clause-none
returns-clause-none c =
    if_none c.first.result
    (none_listed c.args.drive c.args.reply.now c.args.state.now.replies c.args.state.now.files.entries c.in_order.ensures
    c.requires.replies) c.first.ensures.none
