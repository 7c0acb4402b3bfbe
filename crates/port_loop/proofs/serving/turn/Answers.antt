use Rattle.std.proofs.Common.{refl}
use Rattle.std.proofs.lemmas.Result.{err_from_is_err_and}
use Rattle.std.specs.Ordering.{nat_cmp}
use Rattle.std.specs.BTreeMap.{get}
use Rattle.port_loop.specs.Points.{around}
use Rattle.port_loop.specs.Serving.{desk_at}
use Rattle.port_loop.specs.Points.{calm}
use Rattle.port_loop.proofs.TurnLaws.{stops-same, turn-began, turn-began-stops, turn-ended, turn-failed, turn-passed}
use Rattle.port_loop.proofs.serving.turn.Goals as goal

pub returns-in_err-grow-clause-turns : goal.returns-in_err-grow-clause-turns
returns-in_err-grow-clause-turns g c =
    let p = err_from_is_err_and c.from_residual.result c.from_residual.ensures.1 in
    rw (p.1, p.2)
    (stops-same (around (g.P.Ports.opened c.args.ports.now) (g.P.Ports.told c.args.ports.now) (desk_at c.args.server.now
    (g.C.Clock.times c.args.clock.now)) c.args.over.now) calm
    (get nat_cmp c.args.table.now))

pub returns-in_err-lay-in-Opens-clause-turns : goal.returns-in_err-lay-in-Opens-clause-turns
returns-in_err-lay-in-Opens-clause-turns g c =
    let arrives = rw c.in-Opens.is at c.in_ok-port.ensures.arrives in
    let p = err_from_is_err_and c.from_residual-in_err-lay-in-Opens.result c.from_residual-in_err-lay-in-Opens.ensures.1 in
    rw (p.1, p.2)
    (turn-began-stops (around (g.P.Ports.opened c.args.ports.now) (g.P.Ports.told c.args.ports.now)
    (desk_at c.args.server.now (g.C.Clock.times c.args.clock.now)) c.args.over.now)
    (around (g.P.Ports.opened c.next.new.self) (g.P.Ports.told c.next.new.self) (desk_at c.args.server.now
    (g.C.Clock.times c.args.clock.now)) c.args.over.now)
    (get nat_cmp c.args.table.now) c.in-Opens.port arrives.0 arrives.1 arrives.2 refl
    refl)

pub returns-in_ok-lay-in-Opens-clause-turns : goal.returns-in_ok-lay-in-Opens-clause-turns
returns-in_ok-lay-in-Opens-clause-turns g c =
    let arrives = rw c.in-Opens.is at c.in_ok-port.ensures.arrives in
    turn-began (around (g.P.Ports.opened c.args.ports.now) (g.P.Ports.told c.args.ports.now) (desk_at c.args.server.now
    (g.C.Clock.times c.args.clock.now)) c.args.over.now)
    (around (g.P.Ports.opened c.next.new.self) (g.P.Ports.told c.next.new.self) (desk_at c.args.server.now
    (g.C.Clock.times c.args.clock.now)) c.args.over.now) (get nat_cmp c.args.table.now)
    (get nat_cmp c.lay.new.table) c.in-Opens.port arrives.0
    arrives.1 arrives.2
    refl refl (rw c.new.ensures at c.in_ok-lay-in-Opens.ensures.sets)

pub returns-in-Closes-clause-turns : goal.returns-in-Closes-clause-turns
returns-in-Closes-clause-turns g c =
    let arrives = rw c.in-Closes.is at c.in_ok-port.ensures.arrives in
    turn-ended (around (g.P.Ports.opened c.args.ports.now) (g.P.Ports.told c.args.ports.now) (desk_at c.args.server.now
    (g.C.Clock.times c.args.clock.now)) c.args.over.now)
    (around (g.P.Ports.opened c.next.new.self) (g.P.Ports.told c.next.new.self)
    (desk_at c.args.server.now (g.C.Clock.times c.args.clock.now)) c.end.new.over) (get nat_cmp c.args.table.now)
    (get nat_cmp c.end.new.table) c.in-Closes.port
    arrives.0 arrives.1 refl
    c.end.ensures.over c.end.ensures.sets

pub returns-in-Quiet-clause-turns : goal.returns-in-Quiet-clause-turns
returns-in-Quiet-clause-turns g c =
    let arrives = rw c.in-Quiet.is at c.in_ok-port.ensures.arrives in
    turn-passed (around (g.P.Ports.opened c.args.ports.now) (g.P.Ports.told c.args.ports.now) (desk_at c.args.server.now
    (g.C.Clock.times c.args.clock.now)) c.args.over.now)
    (around (g.P.Ports.opened c.next.new.self) (g.P.Ports.told c.next.new.self) (desk_at c.args.server.now
    (g.C.Clock.times c.args.clock.now)) c.args.over.now) (get nat_cmp c.args.table.now) arrives.0 arrives.1 refl refl

pub returns-in_err-port-clause-turns : goal.returns-in_err-port-clause-turns
returns-in_err-port-clause-turns g c =
    let p = err_from_is_err_and c.from_residual-in_err-port.result c.from_residual-in_err-port.ensures.1 in
    rw (p.1, p.2)
    (turn-failed (around (g.P.Ports.opened c.args.ports.now) (g.P.Ports.told c.args.ports.now) (desk_at c.args.server.now
    (g.C.Clock.times c.args.clock.now)) c.args.over.now)
    (around (g.P.Ports.opened c.next.new.self) (g.P.Ports.told c.next.new.self) (desk_at c.args.server.now
    (g.C.Clock.times c.args.clock.now)) c.args.over.now) (get nat_cmp c.args.table.now) c.in_err-port.ensures.arrives.0
    c.in_err-port.ensures.arrives.1 refl refl)
