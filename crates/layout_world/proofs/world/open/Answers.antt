use Rattle.layout_world.proofs.Opened.{opens, sent_then}
use Rattle.layout_world.proofs.world.open.Goals as goal

pub returns-in-Ok-push-clause-comes : goal.returns-in-Ok-push-clause-comes
returns-in-Ok-push-clause-comes g c = λ w s a.
    opens w c.args.event c.args.parties.now c.begin.new.parties c.perform.new.parties c.in-Ok.act c.args.watch.now
    c.perform.new.watch c.len-before.result c.args.lines.now c.push.new.self c.perform.new.lines c.perform.result
    c.in-Ok-push.ensures.ok c.in-Ok.ensures c.perform.ensures.performed c.perform.ensures.sees c.len-before.ensures
    c.perform.ensures.told s a

pub returns-in-Ok-push-clause-sent : goal.returns-in-Ok-push-clause-sent
returns-in-Ok-push-clause-sent g c =
    sent_then c.args.event c.args.parties.now c.begin.new.parties c.perform.new.parties c.in-Ok.act c.perform.result
    c.in-Ok.ensures c.perform.ensures.grows
