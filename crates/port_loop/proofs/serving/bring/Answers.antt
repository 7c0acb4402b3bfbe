use Rattle.std.proofs.Common.{refl, sym}
use Rattle.std.proofs.lemmas.Result.{err_from_is_err_and}
use Rattle.std.specs.Ordering.{nat_cmp}
use Rattle.std.specs.BTreeMap.{get}
use Rattle.port_loop.specs.Points.{around}
use Rattle.port_loop.specs.Serving.{desk_at}
use Rattle.port_loop.proofs.LeavingLaws.{moves-stop, moves-then}
use Rattle.port_loop.proofs.TurnLaws.{came-none, came-some, came-stops}
use Rattle.port_loop.proofs.serving.bring.Goals as goal

pub returns-in-None-clause-leaves : goal.returns-in-None-clause-leaves
returns-in-None-clause-leaves g c = λ before tells less.
    came-none (around (g.P.Ports.opened c.args.ports.now) before (desk_at c.args.server.now
    (g.C.Clock.times c.args.clock.now)) c.args.over.now)
    (around (g.P.Ports.opened c.args.ports.now) (g.P.Ports.told c.args.ports.now) (desk_at c.args.server.now
    (g.C.Clock.times c.args.clock.now)) c.args.over.now)
    (get nat_cmp c.args.table.now)
    (get nat_cmp c.lift.new.table) c.args.port c.args.piece.now refl tells refl refl less
    (sym c.in-None.ensures.was) c.in-None.ensures.sets

pub returns-in_err-records-clause-leaves : goal.returns-in_err-records-clause-leaves
returns-in_err-records-clause-leaves g c = λ before tells less.
    let p = err_from_is_err_and c.from_residual.result c.from_residual.ensures.1 in
    rw p.1
    (came-stops (around (g.P.Ports.opened c.args.ports.now) before (desk_at c.args.server.now
    (g.C.Clock.times c.args.clock.now)) c.args.over.now)
    (around (g.P.Ports.opened c.args.ports.now) (g.P.Ports.told c.args.ports.now) (desk_at c.args.server.now
    (g.C.Clock.times c.args.clock.now)) c.args.over.now)
    (get nat_cmp c.args.table.now)
    (get nat_cmp c.lift.new.table) c.args.port c.args.piece.now c.in-Some.session refl tells refl refl
    (sym c.in-Some.ensures.was) c.in-Some.ensures.sets)

pub returns-in_err-answer_all-clause-leaves : goal.returns-in_err-answer_all-clause-leaves
returns-in_err-answer_all-clause-leaves g c = λ before tells less.
    let p = err_from_is_err_and c.from_residual-in_err-answer_all.result c.from_residual-in_err-answer_all.ensures.1 in
    rw p.1
    (moves-stop (around (g.P.Ports.opened c.args.ports.now) (g.P.Ports.told c.args.ports.now)
    (desk_at c.answer_all.new.server (g.C.Clock.times c.answer_all.new.clock)) c.args.over.now)
    (came-some (around (g.P.Ports.opened c.args.ports.now) before (desk_at c.args.server.now
    (g.C.Clock.times c.args.clock.now)) c.args.over.now)
    (around (g.P.Ports.opened c.args.ports.now) (g.P.Ports.told c.args.ports.now) (desk_at c.args.server.now
    (g.C.Clock.times c.args.clock.now)) c.args.over.now)
    (get nat_cmp c.args.table.now)
    (get nat_cmp c.lift.new.table) c.args.port c.args.piece.now _ c.in-Some.session c.read.new.self refl tells refl refl
    (sym c.in-Some.ensures.was) c.in-Some.ensures.sets c.in_ok-records.ensures)
    (c.in_err-answer_all.ensures.leaves (g.P.Ports.opened c.args.ports.now) c.args.over.now (g.P.Ports.told c.args.ports.now)
    (get nat_cmp c.lift.new.table)))

pub returns-in_err-put_out-clause-leaves : goal.returns-in_err-put_out-clause-leaves
returns-in_err-put_out-clause-leaves g c = λ before tells less.
    let p = err_from_is_err_and c.from_residual-in_err-put_out.result c.from_residual-in_err-put_out.ensures.1 in
    rw p.1
    (moves-stop (around (g.P.Ports.opened c.put_out.new.ports) (g.P.Ports.told c.put_out.new.ports)
    (desk_at c.answer_all.new.server (g.C.Clock.times c.answer_all.new.clock)) c.put_out.new.over)
    (moves-then (came-some (around (g.P.Ports.opened c.args.ports.now) before (desk_at c.args.server.now
    (g.C.Clock.times c.args.clock.now)) c.args.over.now)
    (around (g.P.Ports.opened c.args.ports.now) (g.P.Ports.told c.args.ports.now) (desk_at c.args.server.now
    (g.C.Clock.times c.args.clock.now)) c.args.over.now)
    (get nat_cmp c.args.table.now)
    (get nat_cmp c.lift.new.table) c.args.port c.args.piece.now _ c.in-Some.session c.read.new.self refl tells refl refl
    (sym c.in-Some.ensures.was) c.in-Some.ensures.sets c.in_ok-records.ensures)
    (c.in_ok-answer_all.ensures.leaves (g.P.Ports.opened c.args.ports.now) c.args.over.now (g.P.Ports.told c.args.ports.now)
    (get nat_cmp c.lift.new.table)))
    (c.in_err-put_out.ensures.leaves (desk_at c.answer_all.new.server (g.C.Clock.times c.answer_all.new.clock))))

pub returns-clause-leaves : goal.returns-clause-leaves
returns-clause-leaves g c = λ before tells less.
    moves-then (moves-then (came-some (around (g.P.Ports.opened c.args.ports.now) before (desk_at c.args.server.now
    (g.C.Clock.times c.args.clock.now)) c.args.over.now)
    (around (g.P.Ports.opened c.args.ports.now) (g.P.Ports.told c.args.ports.now) (desk_at c.args.server.now
    (g.C.Clock.times c.args.clock.now)) c.args.over.now)
    (get nat_cmp c.args.table.now)
    (get nat_cmp c.lift.new.table) c.args.port c.args.piece.now _ c.in-Some.session c.read.new.self refl tells refl refl
    (sym c.in-Some.ensures.was) c.in-Some.ensures.sets c.in_ok-records.ensures)
    (c.in_ok-answer_all.ensures.leaves (g.P.Ports.opened c.args.ports.now) c.args.over.now (g.P.Ports.told c.args.ports.now)
    (get nat_cmp c.lift.new.table)))
    (c.in_ok-put_out.ensures.leaves (desk_at c.answer_all.new.server (g.C.Clock.times c.answer_all.new.clock)))
