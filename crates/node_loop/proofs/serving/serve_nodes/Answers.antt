use Rattle.std.proofs.Common.{rules, ap, refl, inl, inr, None, Err}
use Rattle.std.proofs.lemmas.Result.{err_from_is_err_and}
use Rattle.node_loop.specs.Points.{here, seen}
use Rattle.port_loop.specs.Serving.{desk_at}
use Rattle.node_loop.proofs.PuttingLaws.{goes-on}
use Rattle.node_loop.proofs.MovingLaws.{moves-then, moves-zero}
use Rattle.node_loop.proofs.TurnLaws.{serve-done, serve-ended}
use Rattle.node_loop.proofs.serving.serve_nodes.Goals as goal

pub loop-init : goal.loop-init
loop-init g c = record {
  moves = moves-zero refl (λ first since steps h.
      goes-on refl refl c.new-board.ensures.over c.new-board.ensures.none c.new-board.ensures.ways h);
  goes_on = c.requires;
  listens = search rules;
  ports = search rules;
  party = search rules;
}

pub returns-in_err-turn-clause-serves : goal.returns-in_err-turn-clause-serves
returns-in_err-turn-clause-serves g c =
    let p = err_from_is_err_and c.from_residual.result c.from_residual.ensures.1 in
    rw (p.1, p.2)
    (serve-ended c.args.connections c.args.turns g.H.Party
    (here (g.P.Ports.opened c.args.ports.now) (g.P.Ports.told c.args.ports.now)
    (desk_at c.args.party.now (g.C.Clock.times c.args.clock.now)) 0 (λ q. None) (λ n. None))
    (seen (g.P.Ports.opened c.loop.ports) (g.P.Ports.told c.loop.ports)
    (desk_at c.loop.party (g.C.Clock.times c.loop.clock)) c.loop.board)
    (seen (g.P.Ports.opened c.turn.new.ports) (g.P.Ports.told c.turn.new.ports)
    (desk_at c.turn.new.party (g.C.Clock.times c.turn.new.clock)) c.turn.new.board)
    (λ q. refl) (λ n. refl) refl c.loop.invariant.moves _
    c.in_err-turn.ensures.turns (λ is. c.in_err-turn.ensures.port_goes_on (ap Err is)))

pub loop-preserved : goal.loop-preserved
loop-preserved g c = record {
  moves = moves-then c.loop.invariant.moves c.in_ok-turn.ensures.turns;
  goes_on = c.in_ok-turn.ensures.goes_on;
  listens = search rules;
  ports = search rules;
  party = search rules;
}

pub returns-then-board-connections-clause-serves : goal.returns-then-board-connections-clause-serves
returns-then-board-connections-clause-serves g c =
    serve-done c.args.connections c.args.turns g.H.Party
    (here (g.P.Ports.opened c.args.ports.now) (g.P.Ports.told c.args.ports.now)
    (desk_at c.args.party.now (g.C.Clock.times c.args.clock.now)) 0 (λ q. None) (λ n. None))
    (seen (g.P.Ports.opened c.loop.ports) (g.P.Ports.told c.loop.ports)
    (desk_at c.loop.party (g.C.Clock.times c.loop.clock)) c.loop.board)
    (λ q. refl) (λ n. refl) refl c.loop.invariant.moves c.loop.invariant.goes_on
    (inl (search rules))

pub returns-clause-serves : goal.returns-clause-serves
returns-clause-serves g c =
    serve-done c.args.connections c.args.turns g.H.Party
    (here (g.P.Ports.opened c.args.ports.now) (g.P.Ports.told c.args.ports.now)
    (desk_at c.args.party.now (g.C.Clock.times c.args.clock.now)) 0 (λ q. None) (λ n. None))
    (seen (g.P.Ports.opened c.loop.ports) (g.P.Ports.told c.loop.ports)
    (desk_at c.loop.party (g.C.Clock.times c.loop.clock)) c.loop.board)
    (λ q. refl) (λ n. refl) refl c.loop.invariant.moves c.loop.invariant.goes_on
    (inr (search rules))
