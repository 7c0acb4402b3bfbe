use Rattle.std.proofs.Common.{refl, sym}
use Rattle.node_loop.specs.Points.{calm, seen}
use Rattle.node_loop.proofs.PostingLaws.{leaves-then}
use Rattle.node_loop.proofs.TurnLaws.{drained-none, drained-some}
use Rattle.node_loop.proofs.serving.drain.Goals as goal

pub returns-in-None-clause-leaves : goal.returns-in-None-clause-leaves
returns-in-None-clause-leaves g c = λ before desk tells.
    drained-none (seen (g.P.Ports.opened c.args.ports.now) before desk c.args.board.now)
    (seen (g.P.Ports.opened c.args.ports.now) (g.P.Ports.told c.args.ports.now) desk
    (record c.args.board.now { table = c.lift.new.table })) c.args.port refl tells refl refl (sym c.in-None.ensures.was)
    c.in-None.ensures.sets refl

pub returns-clause-leaves : goal.returns-clause-leaves
returns-clause-leaves g c = λ before desk tells.
    leaves-then 0 _ _ c.put_out.result
    (drained-some (seen (g.P.Ports.opened c.args.ports.now) before desk c.args.board.now)
    (seen (g.P.Ports.opened c.args.ports.now) (g.P.Ports.told c.args.ports.now) desk
    (record c.args.board.now { table = c.lift.new.table })) c.args.port c.in-Some.peer c.drained.new.self refl tells refl refl
    (sym c.in-Some.ensures.was) c.in-Some.ensures.sets c.drained.ensures refl)
    (c.put_out.ensures.leaves desk calm)
