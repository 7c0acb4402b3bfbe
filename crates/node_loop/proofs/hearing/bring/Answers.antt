use Rattle.std.proofs.Common.{refl, sym}
use Rattle.std.proofs.lemmas.Result.{err_from_is_err_and}
use Rattle.std.specs.Ordering.{nat_cmp}
use Rattle.std.specs.BTreeMap.{get}
use Rattle.node_loop.specs.Points.{seen}
use Rattle.port_loop.specs.Serving.{desk_at}
use Rattle.node_loop.proofs.MovingLaws.{laid-sets, moves-stop, moves-then}
use Rattle.node_loop.proofs.TurnLaws.{came-none, came-some, came-stops}
use Rattle.node_loop.proofs.hearing.bring.Goals as goal

pub returns-in-None-clause-leaves : goal.returns-in-None-clause-leaves
returns-in-None-clause-leaves g c = λ before tells less.
    came-none (seen (g.P.Ports.opened c.args.ports.now) before (desk_at c.args.party.now (g.C.Clock.times c.args.clock.now))
    c.args.board.now)
    (seen (g.P.Ports.opened c.args.ports.now) (g.P.Ports.told c.args.ports.now) (desk_at c.args.party.now
    (g.C.Clock.times c.args.clock.now)) (record c.args.board.now { table = c.lift.new.table }))
    c.args.port c.args.piece.now refl tells refl refl less (sym c.in-None.ensures.was) c.in-None.ensures.sets refl

pub returns-in_err-records-clause-leaves : goal.returns-in_err-records-clause-leaves
returns-in_err-records-clause-leaves g c = λ before tells less.
    let p = err_from_is_err_and c.from_residual.result c.from_residual.ensures.1 in
    rw p.1
    (came-stops (seen (g.P.Ports.opened c.args.ports.now) before (desk_at c.args.party.now (g.C.Clock.times c.args.clock.now))
    c.args.board.now)
    (seen (g.P.Ports.opened c.args.ports.now) (g.P.Ports.told c.args.ports.now) (desk_at c.args.party.now
    (g.C.Clock.times c.args.clock.now)) (record c.args.board.now { table = c.lift.new.table }))
    c.args.port c.args.piece.now c.in-Some.peer refl tells refl (sym c.in-Some.ensures.was))

pub returns-in_err-lay-clause-leaves : goal.returns-in_err-lay-clause-leaves
returns-in_err-lay-clause-leaves g c = λ before tells less.
    let p = err_from_is_err_and c.from_residual-in_err-lay.result c.from_residual-in_err-lay.ensures.1 in
    rw p.1
    (came-stops (seen (g.P.Ports.opened c.args.ports.now) before (desk_at c.args.party.now (g.C.Clock.times c.args.clock.now))
    c.args.board.now)
    (seen (g.P.Ports.opened c.args.ports.now) (g.P.Ports.told c.args.ports.now) (desk_at c.args.party.now
    (g.C.Clock.times c.args.clock.now)) (record c.args.board.now { table = c.lay.new.table }))
    c.args.port c.args.piece.now c.in-Some.peer refl tells refl (sym c.in-Some.ensures.was))

pub returns-in_err-hear_all-clause-leaves : goal.returns-in_err-hear_all-clause-leaves
returns-in_err-hear_all-clause-leaves g c = λ before tells less.
    let p = err_from_is_err_and c.from_residual-in_err-hear_all.result c.from_residual-in_err-hear_all.ensures.1 in
    rw p.1
    (moves-stop (seen (g.P.Ports.opened c.hear_all.new.ports) (g.P.Ports.told c.hear_all.new.ports)
    (desk_at c.hear_all.new.party (g.C.Clock.times c.hear_all.new.clock)) c.hear_all.new.board)
    (came-some (seen (g.P.Ports.opened c.args.ports.now) before (desk_at c.args.party.now (g.C.Clock.times c.args.clock.now))
    c.args.board.now)
    (seen (g.P.Ports.opened c.args.ports.now) (g.P.Ports.told c.args.ports.now) (desk_at c.args.party.now
    (g.C.Clock.times c.args.clock.now)) (record c.args.board.now { table = c.lay.new.table }))
    c.args.port c.args.piece.now _ c.in-Some.peer c.read.new.self refl tells refl refl (sym c.in-Some.ensures.was)
    c.in_ok-records.ensures
    (laid-sets c.args.port c.read.new.self (get nat_cmp c.args.board.now.table) (get nat_cmp c.lift.new.table)
    (get nat_cmp c.lay.new.table) c.in-Some.ensures.sets c.in_ok-lay.ensures.sets) refl)
    (rw c.to-to.ensures at c.in_err-hear_all.ensures.leaves))

pub returns-in_err-finish-clause-leaves : goal.returns-in_err-finish-clause-leaves
returns-in_err-finish-clause-leaves g c = λ before tells less.
    let p = err_from_is_err_and c.from_residual-in_err-finish.result c.from_residual-in_err-finish.ensures.1 in
    rw p.1
    (moves-stop (seen (g.P.Ports.opened c.finish.new.ports) (g.P.Ports.told c.finish.new.ports)
    (desk_at c.hear_all.new.party (g.C.Clock.times c.hear_all.new.clock)) c.finish.new.board)
    (moves-then
    (came-some (seen (g.P.Ports.opened c.args.ports.now) before (desk_at c.args.party.now (g.C.Clock.times c.args.clock.now))
    c.args.board.now)
    (seen (g.P.Ports.opened c.args.ports.now) (g.P.Ports.told c.args.ports.now) (desk_at c.args.party.now
    (g.C.Clock.times c.args.clock.now)) (record c.args.board.now { table = c.lay.new.table }))
    c.args.port c.args.piece.now _ c.in-Some.peer c.read.new.self refl tells refl refl (sym c.in-Some.ensures.was)
    c.in_ok-records.ensures
    (laid-sets c.args.port c.read.new.self (get nat_cmp c.args.board.now.table) (get nat_cmp c.lift.new.table)
    (get nat_cmp c.lay.new.table) c.in-Some.ensures.sets c.in_ok-lay.ensures.sets) refl)
    (rw c.to-to.ensures at c.in_ok-hear_all.ensures.leaves))
    (c.in_err-finish.ensures.leaves (desk_at c.hear_all.new.party (g.C.Clock.times c.hear_all.new.clock)) c.in-Some.peer.to))

pub returns-clause-leaves : goal.returns-clause-leaves
returns-clause-leaves g c = λ before tells less.
    moves-then (moves-then
    (came-some (seen (g.P.Ports.opened c.args.ports.now) before (desk_at c.args.party.now (g.C.Clock.times c.args.clock.now))
    c.args.board.now)
    (seen (g.P.Ports.opened c.args.ports.now) (g.P.Ports.told c.args.ports.now) (desk_at c.args.party.now
    (g.C.Clock.times c.args.clock.now)) (record c.args.board.now { table = c.lay.new.table }))
    c.args.port c.args.piece.now _ c.in-Some.peer c.read.new.self refl tells refl refl (sym c.in-Some.ensures.was)
    c.in_ok-records.ensures
    (laid-sets c.args.port c.read.new.self (get nat_cmp c.args.board.now.table) (get nat_cmp c.lift.new.table)
    (get nat_cmp c.lay.new.table) c.in-Some.ensures.sets c.in_ok-lay.ensures.sets) refl)
    (rw c.to-to.ensures at c.in_ok-hear_all.ensures.leaves))
    (c.in_ok-finish.ensures.leaves (desk_at c.hear_all.new.party (g.C.Clock.times c.hear_all.new.clock)) c.in-Some.peer.to)
