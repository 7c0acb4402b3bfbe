use Rattle.std.proofs.Common.{rules, ap, refl, inl, inr, None, Err}
use Rattle.std.proofs.lemmas.Result.{err_from_is_err_and}
use Rattle.std.specs.Ordering.{nat_cmp}
use Rattle.std.specs.BTreeMap.{get}
use Rattle.port_loop.specs.Points.{around}
use Rattle.port_loop.specs.Serving.{desk_at}
use Rattle.port_loop.proofs.GoingLaws.{goes-at}
use Rattle.port_loop.proofs.LeavingLaws.{moves-then, moves-zero}
use Rattle.port_loop.proofs.TurnLaws.{serve-done, serve-ended}
use Rattle.port_loop.proofs.serving.serve_many.Goals as goal

pub loop-init : goal.loop-init
loop-init g c = record {
  moves = moves-zero refl (λ first since steps h. goes-at c.empty-table.ensures h);
  few = search rules;
  goes_on = c.requires;
  listens = search rules;
  ports = search rules;
  server = search rules;
}

pub returns-in_err-turn-clause-serves : goal.returns-in_err-turn-clause-serves
returns-in_err-turn-clause-serves g c =
    let p = err_from_is_err_and c.from_residual.result c.from_residual.ensures.1 in
    rw (p.1, p.2)
    (serve-ended c.args.connections c.args.turns g.H.Handler
    (around (g.P.Ports.opened c.args.ports.now) (g.P.Ports.told c.args.ports.now)
    (desk_at c.args.server.now (g.C.Clock.times c.args.clock.now)) 0)
    (around (g.P.Ports.opened c.loop.ports) (g.P.Ports.told c.loop.ports)
    (desk_at c.loop.server (g.C.Clock.times c.loop.clock)) c.loop.over)
    (around (g.P.Ports.opened c.turn.new.ports) (g.P.Ports.told c.turn.new.ports)
    (desk_at c.turn.new.server (g.C.Clock.times c.turn.new.clock)) c.turn.new.over)
    (λ q. None) (get nat_cmp c.loop.table) (get nat_cmp c.turn.new.table) (λ q. refl) refl c.loop.invariant.moves _
    c.in_err-turn.ensures.turns (λ is. c.in_err-turn.ensures.port_goes_on (ap Err is)))

pub loop-preserved : goal.loop-preserved
loop-preserved g c = record {
  moves = moves-then c.loop.invariant.moves c.in_ok-turn.ensures.turns;
  few = search rules;
  goes_on = c.in_ok-turn.ensures.goes_on;
  listens = search rules;
  ports = search rules;
  server = search rules;
}

pub returns-then-over-connections-clause-serves : goal.returns-then-over-connections-clause-serves
returns-then-over-connections-clause-serves g c =
    serve-done c.args.connections c.args.turns g.H.Handler
    (around (g.P.Ports.opened c.args.ports.now) (g.P.Ports.told c.args.ports.now)
    (desk_at c.args.server.now (g.C.Clock.times c.args.clock.now)) 0)
    (around (g.P.Ports.opened c.loop.ports) (g.P.Ports.told c.loop.ports)
    (desk_at c.loop.server (g.C.Clock.times c.loop.clock)) c.loop.over)
    (λ q. None) (get nat_cmp c.loop.table) (λ q. refl) refl c.loop.invariant.moves c.loop.invariant.goes_on
    (inl (search rules))

pub returns-clause-serves : goal.returns-clause-serves
returns-clause-serves g c =
    serve-done c.args.connections c.args.turns g.H.Handler
    (around (g.P.Ports.opened c.args.ports.now) (g.P.Ports.told c.args.ports.now)
    (desk_at c.args.server.now (g.C.Clock.times c.args.clock.now)) 0)
    (around (g.P.Ports.opened c.loop.ports) (g.P.Ports.told c.loop.ports)
    (desk_at c.loop.server (g.C.Clock.times c.loop.clock)) c.loop.over)
    (λ q. None) (get nat_cmp c.loop.table) (λ q. refl) refl c.loop.invariant.moves c.loop.invariant.goes_on
    (inr (search rules))
