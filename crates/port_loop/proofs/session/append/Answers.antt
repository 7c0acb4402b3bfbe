use Rattle.std.proofs.Common.{rules}
use Rattle.port_loop.proofs.PieceLaws.{pushed-more}
use Rattle.port_loop.proofs.session.append.Goals as goal

pub loop-i-preserved : goal.loop-i-preserved
loop-i-preserved c =
    pushed-more c.args.all.now c.loop-i.all c.push.new.self c.args.more.now c.loop-i.i c.as_slice.result.now
    c.loop-i.invariant (search rules) (search rules)
