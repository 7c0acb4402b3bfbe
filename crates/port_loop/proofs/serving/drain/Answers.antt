use Rattle.std.proofs.Common.{refl, sym}
use Rattle.std.proofs.lemmas.Result.{err_from_is_err_and}
use Rattle.std.specs.Ordering.{nat_cmp}
use Rattle.std.specs.BTreeMap.{get}
use Rattle.port_loop.specs.Points.{around}
use Rattle.port_loop.proofs.LeavingLaws.{moves-stop, moves-then}
use Rattle.port_loop.proofs.TurnLaws.{drained-none, drained-some}
use Rattle.port_loop.proofs.serving.drain.Goals as goal

pub returns-in_err-put_out-in-Some-clause-leaves : goal.returns-in_err-put_out-in-Some-clause-leaves
returns-in_err-put_out-in-Some-clause-leaves g c = λ before desk tells.
    let p = err_from_is_err_and c.from_residual.result c.from_residual.ensures.1 in
    rw p.1
    (moves-stop (around (g.P.Ports.opened c.put_out.new.ports) (g.P.Ports.told c.put_out.new.ports) desk c.put_out.new.over)
    (drained-some (around (g.P.Ports.opened c.args.ports.now) before desk c.args.over.now)
    (around (g.P.Ports.opened c.args.ports.now) (g.P.Ports.told c.args.ports.now) desk c.args.over.now)
    (get nat_cmp c.args.table.now)
    (get nat_cmp c.lift.new.table) c.args.port c.in-Some.session refl tells refl refl (sym c.in-Some.ensures.was)
    c.in-Some.ensures.sets)
    (c.in_err-put_out-in-Some.ensures.leaves desk))

pub returns-in_ok-put_out-in-Some-clause-leaves : goal.returns-in_ok-put_out-in-Some-clause-leaves
returns-in_ok-put_out-in-Some-clause-leaves g c = λ before desk tells.
    moves-then (drained-some (around (g.P.Ports.opened c.args.ports.now) before desk c.args.over.now)
    (around (g.P.Ports.opened c.args.ports.now) (g.P.Ports.told c.args.ports.now) desk c.args.over.now)
    (get nat_cmp c.args.table.now)
    (get nat_cmp c.lift.new.table) c.args.port c.in-Some.session refl tells refl refl (sym c.in-Some.ensures.was)
    c.in-Some.ensures.sets)
    (c.in_ok-put_out-in-Some.ensures.leaves desk)

pub returns-in-None-clause-leaves : goal.returns-in-None-clause-leaves
returns-in-None-clause-leaves g c = λ before desk tells.
    drained-none (around (g.P.Ports.opened c.args.ports.now) before desk c.args.over.now)
    (around (g.P.Ports.opened c.args.ports.now) (g.P.Ports.told c.args.ports.now) desk c.args.over.now)
    (get nat_cmp c.args.table.now)
    (get nat_cmp c.lift.new.table) c.args.port refl tells refl refl (sym c.in-None.ensures.was) c.in-None.ensures.sets
