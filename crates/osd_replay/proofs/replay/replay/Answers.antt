use Rattle.osd_bytes.specs.declared.lines.TheConstants.{MAX_READ}
use Rattle.osd_bytes.proofs.ReadLaws.{takes-none}
use Rattle.osd_replay.specs.Ends.{ends}
use Rattle.osd_replay.specs.declared.status.Status.TheVariants.{Memory}
use Rattle.osd_replay.proofs.Completing.{completes}
use Rattle.osd_replay.proofs.Promised.{no_world}
use Rattle.osd_replay.proofs.replay.replay.Goals as goal

pub returns-in-Err-clause-promise : goal.returns-in-Err-clause-promise
returns-in-Err-clause-promise g c =
    rw c.stopped.ensures.status (no_world c.histories_are_sound.ensures _ _ c.stopped.ensures.puts.0 c.stopped.ensures.puts.1)

pub returns-in-Err-clause-complete : goal.returns-in-Err-clause-complete
returns-in-Err-clause-complete g c =
    rw c.stopped.ensures.status
    (completes
    (ends (g.S.Source.left c.args.source.now) (g.S.Source.faults c.args.source.now)
    (g.K.Sink.taken c.args.sink.now) (g.K.Sink.faults c.args.sink.now))
    (ends (g.S.Source.left c.args.source.now) (g.S.Source.faults c.args.source.now)
    (g.K.Sink.taken c.stopped.new.sink) (g.K.Sink.faults c.stopped.new.sink))
    Memory (no_world c.histories_are_sound.ensures _ _ c.stopped.ensures.puts.0 c.stopped.ensures.puts.1))

pub returns-clause-complete : goal.returns-clause-complete
returns-clause-complete g c =
    completes
    (ends (g.S.Source.left c.args.source.now) (g.S.Source.faults c.args.source.now)
    (g.K.Sink.taken c.args.sink.now) (g.K.Sink.faults c.args.sink.now))
    (ends (g.S.Source.left c.carry_out_lines-status.new.source) (g.S.Source.faults c.carry_out_lines-status.new.source)
    (g.K.Sink.taken c.carry_out_lines-status.new.sink) (g.K.Sink.faults c.carry_out_lines-status.new.sink))
    c.carry_out_lines-status.result c.carry_out_lines-status.ensures.promise

pub returns-in-Err-clause-input : goal.returns-in-Err-clause-input
returns-in-Err-clause-input g c = takes-none MAX_READ (g.S.Source.left c.args.source.now)
