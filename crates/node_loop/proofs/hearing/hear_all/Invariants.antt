use Rattle.std.proofs.Common.{◌≡◌, ◌≤◌, drop}
use Rattle.node_loop.specs.Points.{Moves, reading, seen}
use Rattle.port_loop.specs.Serving.{desk_at}
use Rattle.node_loop.proofs.hearing.hear_all.Given as goal

abbrev pub invariant-loop-i : goal.invariant-loop-i
invariant-loop-i g l = record {
  moves : Moves 0 g.H.Party
      (seen (g.P.Ports.opened l.initial.ports) (g.P.Ports.told l.initial.ports)
      (desk_at l.initial.party (g.C.Clock.times l.initial.clock)) l.initial.board) (reading l.port l.to l.records)
      (seen (g.P.Ports.opened l.ports) (g.P.Ports.told l.ports) (desk_at l.party (g.C.Clock.times l.clock)) l.board)
      (reading l.port l.to (drop l.i l.records));
  goes_on : g.H.Party.goes_on l.party;
  listens : g.P.Ports.listens l.ports ≡ g.P.Ports.listens l.initial.ports;
  ports : g.P.Ports.faults l.initial.ports ≤ g.P.Ports.faults l.ports;
  party : g.H.Party.faults l.initial.party ≤ g.H.Party.faults l.party;
}
