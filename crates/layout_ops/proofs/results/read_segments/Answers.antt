use Rattle.std.proofs.lemmas.Result.{err_from_is_err_and}
use Rattle.layout_ops.specs.Reading.{segment_in}
use Rattle.layout_ops.proofs.ListLoops.{goes_on, ends, is_done}
use Rattle.layout_ops.proofs.results.read_segments.Goals as goal

pub returns-in_err-read_segment : goal.returns-in_err-read_segment
returns-in_err-read_segment c =
    let p = err_from_is_err_and c.from_residual.result c.from_residual.ensures.1 in
    rw (p.1, p.2)
    (ends segment_in c.loop.layouts c.args.count c.loop.counter c.loop.reader c.args.reader.now
    c.in_err-read_segment.field-0.0 c.loop-test.true c.in_err-read_segment.ensures c.loop.invariant)

pub loop-preserved : goal.loop-preserved
loop-preserved c =
    rw c.in_ok-push.ensures.ok
    (goes_on segment_in c.loop.layouts c.args.count c.loop.counter c.loop.reader c.args.reader.now
    c.in_ok-read_segment.field-0 c.read_segment.new.reader c.loop-test.true c.in_ok-read_segment.ensures c.loop.invariant)

pub returns : goal.returns
returns c = is_done segment_in c.loop.layouts c.args.count c.loop.counter c.loop.reader c.args.reader.now c.loop-test.false
    c.loop.invariant
