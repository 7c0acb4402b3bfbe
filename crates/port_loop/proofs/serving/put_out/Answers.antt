use Rattle.std.proofs.Common.{rules, ◌+◌, refl}
use Rattle.std.proofs.lemmas.Result.{err_from_is_err_and}
use Rattle.std.specs.Ordering.{nat_cmp}
use Rattle.std.specs.BTreeMap.{get}
use Rattle.port_loop.specs.Points.{around}
use Rattle.port_loop.proofs.TurnLaws.{put-closed, put-failed, put-laid, put-stops}
use Rattle.port_loop.proofs.serving.put_out.Goals as goal

pub returns-in_err-went-in-Ok-clause-leaves : goal.returns-in_err-went-in-Ok-clause-leaves
returns-in_err-went-in-Ok-clause-leaves g c = λ desk.
    let p = err_from_is_err_and c.from_residual.result c.from_residual.ensures.1 in
    rw p.1
    (put-stops (around (g.P.Ports.opened c.args.ports.now) (g.P.Ports.told c.args.ports.now) desk c.args.over.now)
    (around (g.P.Ports.opened c.put.new.self) (g.P.Ports.told c.put.new.self) desk c.args.over.now) (get nat_cmp c.args.table.now)
    c.args.port
    c.in-Ok.count c.args.session c.in-Ok.ensures.opened (rw c.unsent.ensures at c.in-Ok.ensures.puts.1) refl refl)

pub returns-in-Err-clause-leaves : goal.returns-in-Err-clause-leaves
returns-in-Err-clause-leaves g c = λ desk.
    put-failed (around (g.P.Ports.opened c.args.ports.now) (g.P.Ports.told c.args.ports.now) desk c.args.over.now)
    (around (g.P.Ports.opened c.put.new.self) (g.P.Ports.told c.put.new.self) desk c.args.over.now)
    (around (g.P.Ports.opened c.close.new.self) (g.P.Ports.told c.close.new.self) desk (c.args.over.now + 1))
    (get nat_cmp c.args.table.now)
    c.args.port c.args.session c.in-Err.ensures.opened c.in-Err.ensures.puts refl refl c.close.ensures.opened
    c.close.ensures.told refl refl c.requires.lifted

pub returns-then-is_broken-clause-leaves : goal.returns-then-is_broken-clause-leaves
returns-then-is_broken-clause-leaves g c = λ desk.
    put-closed (around (g.P.Ports.opened c.args.ports.now) (g.P.Ports.told c.args.ports.now) desk c.args.over.now)
    (around (g.P.Ports.opened c.put.new.self) (g.P.Ports.told c.put.new.self) desk c.args.over.now)
    (around (g.P.Ports.opened c.close-then-is_broken.new.self) (g.P.Ports.told c.close-then-is_broken.new.self) desk
    (c.args.over.now + 1))
    (get nat_cmp c.args.table.now) c.args.port c.in-Ok.count c.args.session c.went.new.self c.in-Ok.ensures.opened
    (rw c.unsent.ensures at c.in-Ok.ensures.puts.1) refl refl (search rules) (search rules) c.close-then-is_broken.ensures.opened
    c.close-then-is_broken.ensures.told refl refl c.requires.lifted

pub returns-in_err-lay-clause-leaves : goal.returns-in_err-lay-clause-leaves
returns-in_err-lay-clause-leaves g c = λ desk.
    let p = err_from_is_err_and c.from_residual-in_err-lay.result c.from_residual-in_err-lay.ensures.1 in
    rw p.1
    (put-stops (around (g.P.Ports.opened c.args.ports.now) (g.P.Ports.told c.args.ports.now) desk c.args.over.now)
    (around (g.P.Ports.opened c.put.new.self) (g.P.Ports.told c.put.new.self) desk c.args.over.now) (get nat_cmp c.args.table.now)
    c.args.port
    c.in-Ok.count c.args.session c.in-Ok.ensures.opened (rw c.unsent.ensures at c.in-Ok.ensures.puts.1) refl refl)

pub returns-clause-leaves : goal.returns-clause-leaves
returns-clause-leaves g c = λ desk.
    put-laid (around (g.P.Ports.opened c.args.ports.now) (g.P.Ports.told c.args.ports.now) desk c.args.over.now)
    (around (g.P.Ports.opened c.put.new.self) (g.P.Ports.told c.put.new.self) desk c.args.over.now) (get nat_cmp c.args.table.now)
    (get nat_cmp c.lay.new.table) c.args.port c.in-Ok.count c.args.session c.went.new.self c.in-Ok.ensures.opened
    (rw c.unsent.ensures at c.in-Ok.ensures.puts.1) refl refl (search rules) (search rules) (search rules)
    c.in_ok-lay.ensures.sets
