use Rattle.std.proofs.Common.{rules, ◌+◌, drop}
use Rattle.std.proofs.lemmas.Result.{err_from_is_err_and}
use Rattle.std.proofs.lemmas.List.{drop_all}
use Rattle.node_loop.specs.Points.{seen}
use Rattle.port_loop.specs.Serving.{desk_at}
use Rattle.node_loop.proofs.DueLaws.{drop-next}
use Rattle.node_loop.proofs.MovingLaws.{moves-stop, moves-then}
use Rattle.node_loop.proofs.hearing.hear_all.Goals as goal

pub returns-in_err-hear_one-clause-leaves : goal.returns-in_err-hear_one-clause-leaves
returns-in_err-hear_one-clause-leaves g c =
    let p = err_from_is_err_and c.from_residual.result c.from_residual.ensures.1 in
    rw p.1
    (moves-stop (seen (g.P.Ports.opened c.hear_one.new.ports) (g.P.Ports.told c.hear_one.new.ports)
    (desk_at c.hear_one.new.party (g.C.Clock.times c.hear_one.new.clock)) c.hear_one.new.board)
    c.loop-i.invariant.moves
    (rw (drop-next c.args.records.now c.loop-i.i c.as_slice-record.result.now (search rules))
    (c.in_err-hear_one.ensures.leaves (drop (c.loop-i.i + 1) c.args.records.now))))

pub loop-i-preserved : goal.loop-i-preserved
loop-i-preserved g c = record {
  moves = moves-then {k = 0} c.loop-i.invariant.moves
      (rw (drop-next c.args.records.now c.loop-i.i c.as_slice-record.result.now (search rules))
      (c.in_ok-hear_one.ensures.leaves (drop (c.loop-i.i + 1) c.args.records.now)));
  goes_on = c.in_ok-hear_one.ensures.goes_on;
  listens = search rules;
  ports = search rules;
  party = search rules;
}

pub returns-clause-leaves : goal.returns-clause-leaves
returns-clause-leaves g c = rw (drop_all c.loop-i.i c.args.records.now (search rules)) at c.loop-i.invariant.moves
