use Rattle.std.proofs.Common.{◌≡◌, ◌≤◌, drop}
use Rattle.node_loop.specs.Points.{Moves, Work, posting, seen}
use Rattle.port_loop.specs.Serving.{Desk}
use Rattle.node_loop.proofs.posting.post_all.Given as goal

abbrev pub invariant-loop-i : goal.invariant-loop-i
invariant-loop-i g l = record {
  moves : (desk : Desk _) (w : Work) → Moves 0 g.H.Party
      (seen (g.P.Ports.opened l.initial.ports) (g.P.Ports.told l.initial.ports) desk l.initial.board) (posting w l.messages)
      (seen (g.P.Ports.opened l.ports) (g.P.Ports.told l.ports) desk l.board) (posting w (drop l.i l.messages));
  listens : g.P.Ports.listens l.ports ≡ g.P.Ports.listens l.initial.ports;
  later : g.P.Ports.faults l.initial.ports ≤ g.P.Ports.faults l.ports;
}
