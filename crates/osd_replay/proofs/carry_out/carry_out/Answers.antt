use Rattle.osd_replay.proofs.Stopping.{line_carries, line_stops}
use Rattle.osd_replay.proofs.carry_out.carry_out.Goals as goal

pub returns-in-Ok-Some-clause-ok : goal.returns-in-Ok-Some-clause-ok
returns-in-Ok-Some-clause-ok g c =
    let found = rw c.in-Ok-Some.field-0-is at c.in-Ok-Some.ensures.found in
    line_carries c.in-Ok-Some.event c.args.line.now c.args.world.now c.carry_out_event.new.world c.carry_out_event.result found.0
    found.1 c.carry_out_event.ensures.ok

pub returns-in-Ok-Some-clause-err : goal.returns-in-Ok-Some-clause-err
returns-in-Ok-Some-clause-err g c =
    let found = rw c.in-Ok-Some.field-0-is at c.in-Ok-Some.ensures.found in
    line_stops c.in-Ok-Some.event c.args.line.now c.args.world.now c.carry_out_event.result found.0 found.1
    c.carry_out_event.ensures.err
