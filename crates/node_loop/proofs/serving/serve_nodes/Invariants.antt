use Rattle.std.proofs.Common.{◌≡◌, None, ◌≤◌}
use Rattle.node_loop.specs.Points.{Moves, calm, here, seen}
use Rattle.port_loop.specs.Serving.{desk_at}
use Rattle.node_loop.proofs.serving.serve_nodes.Given as goal

abbrev pub invariant-loop : goal.invariant-loop
invariant-loop g l = record {
  moves : Moves l.counter g.H.Party
      (here (g.P.Ports.opened l.initial.ports) (g.P.Ports.told l.initial.ports)
      (desk_at l.initial.party (g.C.Clock.times l.initial.clock)) 0 (λ q. None) (λ n. None)) calm
      (seen (g.P.Ports.opened l.ports) (g.P.Ports.told l.ports) (desk_at l.party (g.C.Clock.times l.clock)) l.board) calm;
  goes_on : g.H.Party.goes_on l.party;
  listens : g.P.Ports.listens l.ports ≡ g.P.Ports.listens l.initial.ports;
  ports : g.P.Ports.faults l.initial.ports ≤ g.P.Ports.faults l.ports;
  party : g.H.Party.faults l.initial.party ≤ g.H.Party.faults l.party;
}
