use Rattle.std.proofs.Common.{rules, take, length, ◌≤◌, ◌≡◌, refl, sym}
use Rattle.std.proofs.lemmas.Result.{err_from_is_err_and}
use Rattle.node_loop.specs.Points.{calm, seen}
use Rattle.port_loop.specs.Serving.{desk_at}
use Rattle.node_loop.proofs.MovingLaws.{moves-stop, moves-then, stops-at}
use Rattle.node_loop.proofs.TurnLaws.{front-of, turn-began, turn-began-stops, turn-failed, turn-passed, turn-stops}
use Rattle.node_loop.proofs.serving.turn.Goals as goal

pub returns-in_err-grow-clause-turns : goal.returns-in_err-grow-clause-turns
returns-in_err-grow-clause-turns g c =
    let p = err_from_is_err_and c.from_residual.result c.from_residual.ensures.1 in
    rw (p.1, p.2)
    (stops-at (seen (g.P.Ports.opened c.args.ports.now) (g.P.Ports.told c.args.ports.now) (desk_at c.args.party.now
    (g.C.Clock.times c.args.clock.now)) c.args.board.now)
    (seen (g.P.Ports.opened c.args.ports.now) (g.P.Ports.told c.args.ports.now) (desk_at c.args.party.now
    (g.C.Clock.times c.args.clock.now)) c.args.board.now) calm refl refl)

pub returns-in_err-port-clause-turns : goal.returns-in_err-port-clause-turns
returns-in_err-port-clause-turns g c =
    let p = err_from_is_err_and c.from_residual-in_err-port.result c.from_residual-in_err-port.ensures.1 in
    rw (p.1, p.2)
    (turn-failed (seen (g.P.Ports.opened c.args.ports.now) (g.P.Ports.told c.args.ports.now) (desk_at c.args.party.now
    (g.C.Clock.times c.args.clock.now)) c.args.board.now)
    (seen (g.P.Ports.opened c.next.new.self) (g.P.Ports.told c.next.new.self) (desk_at c.args.party.now
    (g.C.Clock.times c.args.clock.now)) c.args.board.now) c.in_err-port.ensures.arrives.0 c.in_err-port.ensures.arrives.1
    refl refl refl refl)

pub returns-in_err-lay-in-Opens-clause-turns : goal.returns-in_err-lay-in-Opens-clause-turns
returns-in_err-lay-in-Opens-clause-turns g c =
    let arrives = rw c.in-Opens.is at c.in_ok-port.ensures.arrives in
    let p = err_from_is_err_and c.from_residual-in_err-lay-in-Opens.result c.from_residual-in_err-lay-in-Opens.ensures.1 in
    rw (p.1, p.2)
    (turn-began-stops (seen (g.P.Ports.opened c.args.ports.now) (g.P.Ports.told c.args.ports.now) (desk_at c.args.party.now
    (g.C.Clock.times c.args.clock.now)) c.args.board.now)
    (seen (g.P.Ports.opened c.next.new.self) (g.P.Ports.told c.next.new.self) (desk_at c.args.party.now
    (g.C.Clock.times c.args.clock.now)) (record c.args.board.now { table = c.lay.new.table })) c.in-Opens.port arrives.0
    arrives.1 arrives.2 refl)

pub returns-in_err-resend-in-Opens-clause-turns : goal.returns-in_err-resend-in-Opens-clause-turns
returns-in_err-resend-in-Opens-clause-turns g c =
    let arrives = rw c.in-Opens.is at c.in_ok-port.ensures.arrives in
    let p = err_from_is_err_and c.from_residual-in_err-resend-in-Opens.result c.from_residual-in_err-resend-in-Opens.ensures.1 in
    rw (p.1, p.2)
    (moves-stop (seen (g.P.Ports.opened c.resend.new.ports) (g.P.Ports.told c.resend.new.ports) (desk_at c.args.party.now
    (g.C.Clock.times c.args.clock.now)) c.resend.new.board)
    (turn-began (seen (g.P.Ports.opened c.args.ports.now) (g.P.Ports.told c.args.ports.now) (desk_at c.args.party.now
    (g.C.Clock.times c.args.clock.now)) c.args.board.now)
    (seen (g.P.Ports.opened c.next.new.self) (g.P.Ports.told c.next.new.self) (desk_at c.args.party.now
    (g.C.Clock.times c.args.clock.now)) (record c.args.board.now { table = c.lay.new.table })) c.in-Opens.port arrives.0
    arrives.1 arrives.2 refl refl
    (rw c.new.ensures at c.in_ok-lay-in-Opens.ensures.sets) refl)
    (c.in_err-resend-in-Opens.ensures.leaves (g.C.Clock.times c.args.clock.now)))

pub returns-in_ok-resend-in-Opens-clause-turns : goal.returns-in_ok-resend-in-Opens-clause-turns
returns-in_ok-resend-in-Opens-clause-turns g c =
    let arrives = rw c.in-Opens.is at c.in_ok-port.ensures.arrives in
    moves-then
    (turn-began (seen (g.P.Ports.opened c.args.ports.now) (g.P.Ports.told c.args.ports.now) (desk_at c.args.party.now
    (g.C.Clock.times c.args.clock.now)) c.args.board.now)
    (seen (g.P.Ports.opened c.next.new.self) (g.P.Ports.told c.next.new.self) (desk_at c.args.party.now
    (g.C.Clock.times c.args.clock.now)) (record c.args.board.now { table = c.lay.new.table })) c.in-Opens.port arrives.0
    arrives.1 arrives.2 refl refl
    (rw c.new.ensures at c.in_ok-lay-in-Opens.ensures.sets) refl)
    (c.in_ok-resend-in-Opens.ensures.leaves (g.C.Clock.times c.args.clock.now))

pub returns-in_err-bring-in-Brings-clause-turns : goal.returns-in_err-bring-in-Brings-clause-turns
returns-in_err-bring-in-Brings-clause-turns g c =
    let arrives = rw c.in-Brings.is at c.in_ok-port.ensures.arrives in
    let within : c.in-Brings.count ≤ length c.as_slice.result.now = search rules in
    let piece : c.split_at.result.0.now ≡ take c.in-Brings.count c.next.new.buf =
    front-of (length c.grow.new.self) c.in-Brings.count c.grow.new.self c.next.new.buf c.as_slice.result.now
    c.split_at.result.0.now c.as_slice.ensures c.split_at.ensures.front arrives.2 within in
    let p = err_from_is_err_and c.from_residual-in_err-bring-in-Brings.result c.from_residual-in_err-bring-in-Brings.ensures.1 in
    rw (p.1, p.2)
    (turn-stops (seen (g.P.Ports.opened c.args.ports.now) (g.P.Ports.told c.args.ports.now) (desk_at c.args.party.now
    (g.C.Clock.times c.args.clock.now)) c.args.board.now)
    (seen (g.P.Ports.opened c.bring.new.ports) (g.P.Ports.told c.bring.new.ports) (desk_at c.bring.new.party
    (g.C.Clock.times c.bring.new.clock)) c.bring.new.board) c.in_err-bring-in-Brings.field-0.0
    (moves-stop (seen (g.P.Ports.opened c.bring.new.ports) (g.P.Ports.told c.bring.new.ports) (desk_at c.bring.new.party
    (g.C.Clock.times c.bring.new.clock)) c.bring.new.board)
    (turn-failed (seen (g.P.Ports.opened c.args.ports.now) (g.P.Ports.told c.args.ports.now) (desk_at c.args.party.now
    (g.C.Clock.times c.args.clock.now)) c.args.board.now)
    (seen (g.P.Ports.opened c.next.new.self) (g.P.Ports.told c.args.ports.now) (desk_at c.args.party.now
    (g.C.Clock.times c.args.clock.now)) c.args.board.now) arrives.3 refl refl refl refl refl)
    (c.in_err-bring-in-Brings.ensures.leaves (g.P.Ports.told c.args.ports.now) (rw (sym piece) at arrives.4)
    (rw (sym arrives.3) at arrives.0))))

pub returns-in_ok-bring-in-Brings-clause-turns : goal.returns-in_ok-bring-in-Brings-clause-turns
returns-in_ok-bring-in-Brings-clause-turns g c =
    let arrives = rw c.in-Brings.is at c.in_ok-port.ensures.arrives in
    let within : c.in-Brings.count ≤ length c.as_slice.result.now = search rules in
    let piece : c.split_at.result.0.now ≡ take c.in-Brings.count c.next.new.buf =
    front-of (length c.grow.new.self) c.in-Brings.count c.grow.new.self c.next.new.buf c.as_slice.result.now
    c.split_at.result.0.now c.as_slice.ensures c.split_at.ensures.front arrives.2 within in
    rw (sym arrives.3)
    (c.in_ok-bring-in-Brings.ensures.leaves (g.P.Ports.told c.args.ports.now) (rw (sym piece) at arrives.4)
    (rw (sym arrives.3) at arrives.0))

pub returns-in_ok-drain-in-Drains-clause-turns : goal.returns-in_ok-drain-in-Drains-clause-turns
returns-in_ok-drain-in-Drains-clause-turns g c =
    let arrives = rw c.in-Drains.is at c.in_ok-port.ensures.arrives in
    rw (sym arrives.0)
    (c.in_ok-drain-in-Drains.ensures.leaves (g.P.Ports.told c.args.ports.now)
    (desk_at c.args.party.now (g.C.Clock.times c.args.clock.now)) arrives.1)

pub returns-in-Closes-clause-turns : goal.returns-in-Closes-clause-turns
returns-in-Closes-clause-turns g c =
    let arrives = rw c.in-Closes.is at c.in_ok-port.ensures.arrives in
    rw (sym arrives.0)
    (c.end.ensures (g.P.Ports.opened c.next.new.self) (g.P.Ports.told c.args.ports.now) (g.P.Ports.told c.next.new.self)
    (desk_at c.args.party.now (g.C.Clock.times c.args.clock.now)) arrives.1)

pub returns-in_err-resend-in-Quiet-clause-turns : goal.returns-in_err-resend-in-Quiet-clause-turns
returns-in_err-resend-in-Quiet-clause-turns g c =
    let arrives = rw c.in-Quiet.is at c.in_ok-port.ensures.arrives in
    let p = err_from_is_err_and c.from_residual-in_err-resend-in-Quiet.result c.from_residual-in_err-resend-in-Quiet.ensures.1 in
    rw (p.1, p.2)
    (moves-stop (seen (g.P.Ports.opened c.resend-in-Quiet.new.ports) (g.P.Ports.told c.resend-in-Quiet.new.ports)
    (desk_at c.args.party.now (g.C.Clock.times c.args.clock.now)) c.resend-in-Quiet.new.board)
    (turn-passed (seen (g.P.Ports.opened c.args.ports.now) (g.P.Ports.told c.args.ports.now) (desk_at c.args.party.now
    (g.C.Clock.times c.args.clock.now)) c.args.board.now)
    (seen (g.P.Ports.opened c.next.new.self) (g.P.Ports.told c.next.new.self) (desk_at c.args.party.now
    (g.C.Clock.times c.args.clock.now)) c.args.board.now) arrives.0 arrives.1 refl refl refl refl)
    (c.in_err-resend-in-Quiet.ensures.leaves (g.C.Clock.times c.args.clock.now)))

pub returns-in_ok-resend-in-Quiet-clause-turns : goal.returns-in_ok-resend-in-Quiet-clause-turns
returns-in_ok-resend-in-Quiet-clause-turns g c =
    let arrives = rw c.in-Quiet.is at c.in_ok-port.ensures.arrives in
    moves-then
    (turn-passed (seen (g.P.Ports.opened c.args.ports.now) (g.P.Ports.told c.args.ports.now) (desk_at c.args.party.now
    (g.C.Clock.times c.args.clock.now)) c.args.board.now)
    (seen (g.P.Ports.opened c.next.new.self) (g.P.Ports.told c.next.new.self) (desk_at c.args.party.now
    (g.C.Clock.times c.args.clock.now)) c.args.board.now) arrives.0 arrives.1 refl refl refl refl)
    (c.in_ok-resend-in-Quiet.ensures.leaves (g.C.Clock.times c.args.clock.now))
