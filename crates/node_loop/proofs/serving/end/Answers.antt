use Rattle.std.proofs.Common.{refl, sym}
use Rattle.node_loop.specs.Points.{seen}
use Rattle.node_loop.proofs.TurnLaws.{ended}
use Rattle.node_loop.proofs.serving.end.Goals as goal

pub returns-in-Some : goal.returns-in-Some
returns-in-Some g c = λ opened before now desk tells.
    ended (seen opened before desk c.args.board.now) (seen opened now desk (record c.args.board.now {
      table = c.lift.new.table;
      over = c.count_over.new.over;
    })) c.args.port refl tells refl
    (rw (sym c.in-Some.ensures.was) (rw c.to.ensures at c.count_over.ensures)) c.in-Some.ensures.sets refl

pub returns-in-None : goal.returns-in-None
returns-in-None g c = λ opened before now desk tells.
    ended (seen opened before desk c.args.board.now) (seen opened now desk (record c.args.board.now { table = c.lift.new.table }))
    c.args.port refl tells refl (rw (sym c.in-None.ensures.was) refl) c.in-None.ensures.sets refl
