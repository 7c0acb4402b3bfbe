use Rattle.std.proofs.Common.{rules, refl}
use Rattle.std.proofs.lemmas.Result.{err_from_is_err_and}
use Rattle.node_loop.specs.Points.{calm, resending, seen}
use Rattle.port_loop.specs.Serving.{desk_at}
use Rattle.node_loop.proofs.MovingLaws.{moves-stop, moves-then, stops-at}
use Rattle.node_loop.proofs.TurnLaws.{resends}
use Rattle.node_loop.proofs.resending.resend.Goals as goal

pub returns-in_err-messages-clause-leaves : goal.returns-in_err-messages-clause-leaves
returns-in_err-messages-clause-leaves g c = λ times.
    let p = err_from_is_err_and c.from_residual.result c.from_residual.ensures.1 in
    rw p.1
    (stops-at (seen (g.P.Ports.opened c.args.ports.now) (g.P.Ports.told c.args.ports.now) (desk_at c.args.party.now times)
    c.args.board.now)
    (seen (g.P.Ports.opened c.args.ports.now) (g.P.Ports.told c.args.ports.now) (desk_at c.args.party.now times)
    c.args.board.now) resending refl refl)

pub returns-in_err-due-clause-leaves : goal.returns-in_err-due-clause-leaves
returns-in_err-due-clause-leaves g c = λ times.
    let p = err_from_is_err_and c.from_residual-in_err-due.result c.from_residual-in_err-due.ensures.1 in
    rw p.1
    (stops-at (seen (g.P.Ports.opened c.args.ports.now) (g.P.Ports.told c.args.ports.now) (desk_at c.args.party.now times)
    c.args.board.now)
    (seen (g.P.Ports.opened c.args.ports.now) (g.P.Ports.told c.args.ports.now) (desk_at c.args.party.now times)
    c.args.board.now) resending refl refl)

pub returns-in_err-post_all-clause-leaves : goal.returns-in_err-post_all-clause-leaves
returns-in_err-post_all-clause-leaves g c = λ times.
    let p = err_from_is_err_and c.from_residual-in_err-post_all.result c.from_residual-in_err-post_all.ensures.1 in
    rw p.1
    (moves-stop (seen (g.P.Ports.opened c.post_all.new.ports) (g.P.Ports.told c.post_all.new.ports)
    (desk_at c.args.party.now times)
    c.post_all.new.board)
    (resends (seen (g.P.Ports.opened c.args.ports.now) (g.P.Ports.told c.args.ports.now) (desk_at c.args.party.now times)
    c.args.board.now) c.in_ok-due.due (search rules))
    (c.in_err-post_all.ensures.leaves (desk_at c.args.party.now times) calm))

pub returns-clause-leaves : goal.returns-clause-leaves
returns-clause-leaves g c = λ times.
    moves-then
    (resends (seen (g.P.Ports.opened c.args.ports.now) (g.P.Ports.told c.args.ports.now) (desk_at c.args.party.now times)
    c.args.board.now) c.in_ok-due.due (search rules))
    (c.in_ok-post_all.ensures.leaves (desk_at c.args.party.now times) calm)
