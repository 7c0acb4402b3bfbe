use Rattle.osd_replay.proofs.Making.{made_more, fills_behind, stops_behind}
use Rattle.osd_replay.proofs.generate.Digested.step.Goals as goal

pub returns-in-Err-clause-err : goal.returns-in-Err-clause-err
returns-in-Err-clause-err g c = λ front m. stops_behind front c.args.event c.args.self.now c.in-Err.stop m c.in-Err.ensures.err

pub returns-then-is_full-clause-err : goal.returns-then-is_full-clause-err
returns-then-is_full-clause-err g c = λ front m.
    fills_behind front c.args.event c.args.self.now c.carry_out_event.new.world c.in-Ok.carried c.if-is_full.true m
    c.in-Ok.ensures.ok

pub returns-clause-ok : goal.returns-clause-ok
returns-clause-ok g c = λ may front m.
    made_more front c.args.event c.args.self.now
    (record { world = c.carry_out_event.new.world; digest = c.update.new.self }) c.in-Ok.carried c.if-is_full.false may m
    c.in-Ok.ensures.ok
    (rw c.as_slice.ensures at c.update.ensures)
