use Rattle.osd_bytes.specs.Put.{written_of}
use Rattle.osd_replay.specs.Ends.{ends}
use Rattle.osd_replay.proofs.Making.{all_told, part_told, not_made}
use Rattle.osd_replay.proofs.generate.generate.Goals as goal

pub returns-in-Ok-put_all : goal.returns-in-Ok-put_all
returns-in-Ok-put_all g c = λ left reads.
    all_told c.args.seed c.args.calls (ends left reads (g.K.Sink.taken c.args.sink.now) (g.K.Sink.faults c.args.sink.now))
    (ends left reads (g.K.Sink.taken c.put_all.new.sink) (g.K.Sink.faults c.put_all.new.sink))
    c.in-Ok.text c.in-Ok.ensures.ok (rw c.as_slice.ensures at c.in-Ok-put_all.ensures.ok) c.in-Ok-put_all.ensures.cause.same

pub returns-in-Ok : goal.returns-in-Ok
returns-in-Ok g c = λ left reads.
    part_told c.args.seed c.args.calls (ends left reads (g.K.Sink.taken c.args.sink.now) (g.K.Sink.faults c.args.sink.now))
    (ends left reads (g.K.Sink.taken c.put_all.new.sink) (g.K.Sink.faults c.put_all.new.sink))
    c.in-Ok.text (written_of c.in-Err-put_all.field-0) c.in-Ok.ensures.ok (rw c.as_slice.ensures at c.in-Err-put_all.ensures.part)
    (rw c.as_slice.ensures at c.in-Err-put_all.ensures.err) c.in-Err-put_all.ensures.cause.failed

pub returns : goal.returns
returns g c = λ left reads. rw c.stopped.ensures.status
    (not_made c.none_is_refused.ensures c.scenario_goes_well.ensures.full c.args.seed c.args.calls c.requires.few
    (ends left reads (g.K.Sink.taken c.args.sink.now) (g.K.Sink.faults c.args.sink.now))
    (ends left reads (g.K.Sink.taken c.stopped.new.sink) (g.K.Sink.faults c.stopped.new.sink))
    c.in-Err.stop c.stopped.ensures.puts.0 c.in-Err.ensures.err c.stopped.ensures.puts.1)
