use Rattle.std.proofs.Common.{None, ◌≡◌, ◌≤◌}
use Rattle.std.specs.Ordering.{nat_cmp}
use Rattle.std.specs.BTreeMap.{get}
use Rattle.port_loop.specs.Points.{Moves, around, calm}
use Rattle.port_loop.specs.Serving.{desk_at}
use Rattle.port_loop.proofs.serving.serve_many.Given as goal

abbrev pub invariant-loop : goal.invariant-loop
invariant-loop g l = record {
  moves : Moves l.counter g.H.Handler
      (around (g.P.Ports.opened l.initial.ports) (g.P.Ports.told l.initial.ports)
      (desk_at l.initial.server (g.C.Clock.times l.initial.clock)) 0) calm (λ q. None)
      (around (g.P.Ports.opened l.ports) (g.P.Ports.told l.ports) (desk_at l.server (g.C.Clock.times l.clock)) l.over) calm
      (get nat_cmp l.table);
  few : l.over ≤ l.connections;
  goes_on : g.H.Handler.goes_on l.server;
  listens : g.P.Ports.listens l.ports ≡ g.P.Ports.listens l.initial.ports;
  ports : g.P.Ports.faults l.initial.ports ≤ g.P.Ports.faults l.ports;
  server : g.H.Handler.faults l.initial.server ≤ g.H.Handler.faults l.server;
}
