use Rattle.std.proofs.lemmas.Result.{err_from_is_err_and}
use Rattle.layout_types.proofs.ListLoops.{goes_on, fit_on, all_fit, ends, is_done}
use Rattle.server_entries.proofs.lists.read_members.Goals as goal

pub returns-in_err-read_from-clause-exact : goal.returns-in_err-read_from-clause-exact
returns-in_err-read_from-clause-exact g c =
    let p = err_from_is_err_and c.from_residual.result c.from_residual.ensures.1 in
    rw (p.1, p.2)
    (ends g.T.Part.reading c.loop.list c.args.count c.loop.counter c.loop.reader c.args.reader.now
    c.in_err-read_from.field-0.0 c.loop-test.true c.in_err-read_from.ensures.exact c.loop.invariant.0)

pub loop-preserved : goal.loop-preserved
loop-preserved g c =
    let v = c.in_ok-read_from.field-0 in
    rw c.in_ok-push.ensures.ok (
      goes_on g.T.Part.reading c.loop.list c.args.count c.loop.counter c.loop.reader c.args.reader.now v c.read_from.new.reader
          c.loop-test.true c.in_ok-read_from.ensures.exact c.loop.invariant.0,
      fit_on g.T.Part.fits c.loop.list c.args.count c.loop.counter v c.loop-test.true c.in_ok-read_from.ensures.fits
          c.loop.invariant.1,
    )

pub returns : goal.returns
returns g c = record {
  exact = is_done g.T.Part.reading c.loop.list c.args.count c.loop.counter c.loop.reader c.args.reader.now c.loop-test.false
      c.loop.invariant.0;
  fits = all_fit g.T.Part.fits c.loop.list c.args.count c.loop.counter c.loop-test.false c.loop.invariant.1;
}
