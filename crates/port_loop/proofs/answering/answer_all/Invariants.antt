use Rattle.std.proofs.Common.{◌≤◌, ℕ, List, Option, drop}
use Rattle.port_loop.specs.Points.{Moves, around, holding, on}
use Rattle.port_loop.specs.Serving.{desk_at}
use Rattle.port_loop.specs.declared.ports.Happening.{Happening}
use Rattle.port_loop.specs.Sessions.{Sess}
use Rattle.port_loop.proofs.answering.answer_all.Given as goal

abbrev pub invariant-loop-i : goal.invariant-loop-i
invariant-loop-i g l = record {
  moves : (opened over : ℕ) (told : Option (List Happening)) (at : ℕ → Option Sess) →
      Moves 0 g.H.Handler
      (around opened told (desk_at l.initial.server (g.C.Clock.times l.initial.clock)) over) (on l.port l.records)
      (holding l.port l.initial.session at)
      (around opened told (desk_at l.server (g.C.Clock.times l.clock)) over) (on l.port (drop l.i l.records))
      (holding l.port l.session at);
  goes_on : g.H.Handler.goes_on l.server;
  later : g.H.Handler.faults l.initial.server ≤ g.H.Handler.faults l.server;
}
