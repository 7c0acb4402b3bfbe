use Rattle.std.proofs.Common.{[], rules, refl, sym}
use Rattle.std.proofs.lemmas.Result.{err_from_is_err_and}
use Rattle.std.specs.Ordering.{nat_cmp}
use Rattle.std.specs.BTreeMap.{get}
use Rattle.node_loop.specs.Points.{reading, seen}
use Rattle.node_loop.proofs.MovingLaws.{stops-at}
use Rattle.node_loop.proofs.TurnLaws.{read-closed, read-none, read-some}
use Rattle.node_loop.proofs.hearing.finish.Goals as goal

pub returns-in-None-clause-leaves : goal.returns-in-None-clause-leaves
returns-in-None-clause-leaves g c = λ desk to.
    read-none (seen (g.P.Ports.opened c.args.ports.now) (g.P.Ports.told c.args.ports.now) desk c.args.board.now)
    (seen (g.P.Ports.opened c.args.ports.now) (g.P.Ports.told c.args.ports.now) desk
    (record c.args.board.now { table = c.lift.new.table })) to c.args.port refl refl refl refl
    (sym c.in-None.ensures.was) c.in-None.ensures.sets refl

pub returns-then-is_broken-clause-leaves : goal.returns-then-is_broken-clause-leaves
returns-then-is_broken-clause-leaves g c = λ desk to.
    read-closed (seen (g.P.Ports.opened c.args.ports.now) (g.P.Ports.told c.args.ports.now) desk c.args.board.now)
    (seen (g.P.Ports.opened c.close.new.ports) (g.P.Ports.told c.close.new.ports) desk c.close.new.board) to c.args.port
    c.in-Some.peer (get nat_cmp c.lift.new.table) c.close.ensures.opened c.close.ensures.told refl
    (rw c.to.ensures at c.close.ensures.over) (sym c.in-Some.ensures.was) (search rules) c.in-Some.ensures.sets
    c.close.ensures.sets c.close.ensures.ways

pub returns-in_err-lay-clause-leaves : goal.returns-in_err-lay-clause-leaves
returns-in_err-lay-clause-leaves g c = λ desk to.
    let p = err_from_is_err_and c.from_residual.result c.from_residual.ensures.1 in
    rw p.1
    (stops-at (seen (g.P.Ports.opened c.args.ports.now) (g.P.Ports.told c.args.ports.now) desk c.args.board.now)
    (seen (g.P.Ports.opened c.args.ports.now) (g.P.Ports.told c.args.ports.now) desk
    (record c.args.board.now { table = c.lay.new.table })) (reading c.args.port to []) refl refl)

pub returns-clause-leaves : goal.returns-clause-leaves
returns-clause-leaves g c = λ desk to.
    read-some (seen (g.P.Ports.opened c.args.ports.now) (g.P.Ports.told c.args.ports.now) desk c.args.board.now)
    (seen (g.P.Ports.opened c.args.ports.now) (g.P.Ports.told c.args.ports.now) desk
    (record c.args.board.now { table = c.lay.new.table })) to c.args.port c.in-Some.peer (get nat_cmp c.lift.new.table)
    refl refl refl refl (sym c.in-Some.ensures.was) (search rules) c.in-Some.ensures.sets c.in_ok-lay.ensures.sets refl
