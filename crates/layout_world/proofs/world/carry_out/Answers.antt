use Rattle.std.proofs.Common.{Err}
use Rattle.layout_world.proofs.Opened.{seen_end, unseen_end}
use Rattle.layout_world.proofs.Watched.{seen_from}
use Rattle.layout_world.proofs.world.carry_out.Goals as goal

pub returns-in-Ok-clause-finishes : goal.returns-in-Ok-clause-finishes
returns-in-Ok-clause-finishes g c = λ w s a.
    seen_end w c.args.event c.args.lines.now c.args.watch.now c.carry_moves.new.parties c.carry_moves.new.watch
    c.see_event.new.watch c.carry_moves.new.lines c.see_event.result (c.in-Ok.ensures.finishes w s a) c.see_event.ensures.cause
    c.see_event.ensures.moments

pub returns-in-Err-clause-finishes : goal.returns-in-Err-clause-finishes
returns-in-Err-clause-finishes g c = λ w s a.
    unseen_end w c.args.event c.args.lines.now c.args.watch.now c.carry_moves.new.parties c.carry_moves.new.watch
    c.carry_moves.new.lines (Err c.in-Err.error) (c.in-Err.ensures.finishes w s a)

pub returns-in-Ok-clause-seen : goal.returns-in-Ok-clause-seen
returns-in-Ok-clause-seen g c =
    seen_from c.carry_moves.new.parties.network.messages c.len-before.result _ c.carry_moves.new.lines c.see_event.result
    c.args.watch.now c.carry_moves.new.watch c.see_event.new.watch c.len-before.ensures c.carry_moves.ensures.told
    c.see_event.ensures.seen
