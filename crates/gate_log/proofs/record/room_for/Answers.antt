use Rattle.gate_log.proofs.Records.{room_long}
use Rattle.gate_log.proofs.record.room_for.Goals as goal

pub returns : goal.returns
returns c = room_long c.new-room.result c.grow.new.self c.args.len c.new-room.ensures c.in_ok-grow.ensures.ok
