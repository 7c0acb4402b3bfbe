use Rattle.std.proofs.Common.{rules, ◌∷◌, refl}
use Rattle.std.proofs.lemmas.Result.{err_from_is_err_and}
use Rattle.node_loop.specs.Points.{reading, seen}
use Rattle.port_loop.specs.Serving.{desk_at}
use Rattle.node_loop.proofs.MovingLaws.{moves-stop, moves-then, stops-at}
use Rattle.node_loop.proofs.TurnLaws.{breaks-off, hears-one, hears-stops}
use Rattle.node_loop.proofs.hearing.hear_one.Goals as goal

pub returns-in_err-from-clause-leaves : goal.returns-in_err-from-clause-leaves
returns-in_err-from-clause-leaves g c = λ rest.
    let p = err_from_is_err_and c.from_residual.result c.from_residual.ensures.1 in
    rw p.1
    (stops-at (seen (g.P.Ports.opened c.args.ports.now) (g.P.Ports.told c.args.ports.now) (desk_at c.args.party.now
    (g.C.Clock.times c.args.clock.now)) c.args.board.now)
    (seen (g.P.Ports.opened c.args.ports.now) (g.P.Ports.told c.args.ports.now) (desk_at c.args.party.now
    (g.C.Clock.times c.args.clock.now)) c.args.board.now) (reading c.args.port c.args.to (c.args.message.now ∷ rest)) refl refl)

pub returns-in_err-messages-clause-leaves : goal.returns-in_err-messages-clause-leaves
returns-in_err-messages-clause-leaves g c = λ rest.
    let p = err_from_is_err_and c.from_residual-in_err-messages.result c.from_residual-in_err-messages.ensures.1 in
    rw p.1
    (breaks-off (seen (g.P.Ports.opened c.args.ports.now) (g.P.Ports.told c.args.ports.now) (desk_at c.args.party.now
    (g.C.Clock.times c.args.clock.now)) c.args.board.now)
    (seen (g.P.Ports.opened c.args.ports.now) (g.P.Ports.told c.args.ports.now) (desk_at c.hear.new.self
    (g.C.Clock.times c.now-now.new.self)) c.args.board.now)
    c.args.port c.now-now.result c.args.to c.in_ok-from.from c.in_err-messages.ensures.err.0 c.args.message.now rest
    (search rules) c.now-now.ensures c.in_err-messages.ensures.err.1 refl)

pub returns-in_err-lead-clause-leaves : goal.returns-in_err-lead-clause-leaves
returns-in_err-lead-clause-leaves g c = λ rest.
    let p = err_from_is_err_and c.from_residual-in_err-lead.result c.from_residual-in_err-lead.ensures.1 in
    let ok = c.in_ok-messages.ensures.ok in
    rw p.1
    (hears-stops (seen (g.P.Ports.opened c.args.ports.now) (g.P.Ports.told c.args.ports.now) (desk_at c.args.party.now
    (g.C.Clock.times c.args.clock.now)) c.args.board.now)
    (seen (g.P.Ports.opened c.args.ports.now) (g.P.Ports.told c.args.ports.now) (desk_at c.hear.new.self
    (g.C.Clock.times c.now-now.new.self)) (record c.args.board.now { ways = c.lead.new.self }))
    c.args.port c.now-now.result c.args.to c.in_ok-from.from ok.0 c.args.message.now rest c.in_ok-messages.messages
    (search rules) ok.1 ok.2 c.now-now.ensures ok.3 refl refl)

pub returns-clause-leaves : goal.returns-clause-leaves
returns-clause-leaves g c = λ rest.
    let ok = c.in_ok-messages.ensures.ok in
    moves-then
    (hears-one (seen (g.P.Ports.opened c.args.ports.now) (g.P.Ports.told c.args.ports.now) (desk_at c.args.party.now
    (g.C.Clock.times c.args.clock.now)) c.args.board.now)
    (seen (g.P.Ports.opened c.args.ports.now) (g.P.Ports.told c.args.ports.now) (desk_at c.hear.new.self
    (g.C.Clock.times c.now-now.new.self)) (record c.args.board.now { ways = c.lead.new.self }))
    c.args.port c.now-now.result c.args.to c.in_ok-from.from ok.0 c.args.message.now rest c.in_ok-messages.messages
    (search rules) ok.1 ok.2 c.now-now.ensures ok.3 refl refl refl refl c.in_ok-lead.ensures)
    (c.in_ok-post_all.ensures.leaves (desk_at c.hear.new.self (g.C.Clock.times c.now-now.new.self))
    (reading c.args.port c.args.to rest))

pub returns-in_err-post_all-clause-leaves : goal.returns-in_err-post_all-clause-leaves
returns-in_err-post_all-clause-leaves g c = λ rest.
    let p = err_from_is_err_and c.from_residual-in_err-post_all.result c.from_residual-in_err-post_all.ensures.1 in
    let ok = c.in_ok-messages.ensures.ok in
    rw p.1
    (moves-stop (seen (g.P.Ports.opened c.post_all.new.ports) (g.P.Ports.told c.post_all.new.ports)
    (desk_at c.hear.new.self (g.C.Clock.times c.now-now.new.self)) c.post_all.new.board)
    (hears-one (seen (g.P.Ports.opened c.args.ports.now) (g.P.Ports.told c.args.ports.now) (desk_at c.args.party.now
    (g.C.Clock.times c.args.clock.now)) c.args.board.now)
    (seen (g.P.Ports.opened c.args.ports.now) (g.P.Ports.told c.args.ports.now) (desk_at c.hear.new.self
    (g.C.Clock.times c.now-now.new.self)) (record c.args.board.now { ways = c.lead.new.self }))
    c.args.port c.now-now.result c.args.to c.in_ok-from.from ok.0 c.args.message.now rest c.in_ok-messages.messages
    (search rules) ok.1 ok.2 c.now-now.ensures ok.3 refl refl refl refl c.in_ok-lead.ensures)
    (c.in_err-post_all.ensures.leaves (desk_at c.hear.new.self (g.C.Clock.times c.now-now.new.self))
    (reading c.args.port c.args.to rest)))
