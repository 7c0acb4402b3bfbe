use Rattle.std.proofs.lemmas.Result.{err_from_is_err_and}
use Rattle.layout_types.proofs.ListLoops.{ends, goes_on, is_done}
use Rattle.layout_types.specs.Grammar.{u32_part}
use Rattle.server_notes.proofs.positions.read_members.Goals as goal

pub returns-in_err-read_from : goal.returns-in_err-read_from
returns-in_err-read_from c =
    let p = err_from_is_err_and c.from_residual.result c.from_residual.ensures.1 in
    rw (p.1, p.2)
    (ends u32_part c.loop.list c.args.count c.loop.counter c.loop.reader c.args.reader.now
    c.in_err-read_from.field-0.0 c.loop-test.true c.in_err-read_from.ensures.exact c.loop.invariant)

pub loop-preserved : goal.loop-preserved
loop-preserved c =
    rw c.in_ok-push.ensures.ok
    (goes_on u32_part c.loop.list c.args.count c.loop.counter c.loop.reader c.args.reader.now c.in_ok-read_from.field-0
    c.read_from.new.reader c.loop-test.true c.in_ok-read_from.ensures.exact c.loop.invariant)

pub returns : goal.returns
returns c =
    is_done u32_part c.loop.list c.args.count c.loop.counter c.loop.reader c.args.reader.now c.loop-test.false c.loop.invariant
