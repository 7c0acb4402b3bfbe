use Rattle.std.proofs.Common.{rules, refl}
use Rattle.std.proofs.lemmas.Result.{err_from_is_err_and}
use Rattle.node_loop.specs.Points.{holding_on, putting, seen}
use Rattle.node_loop.proofs.MovingLaws.{stops-at}
use Rattle.node_loop.proofs.PostingLaws.{keep-closed, keep-laid}
use Rattle.node_loop.proofs.posting.keep.Goals as goal

pub returns-then-unsent-gt-MOST_UNSENT-clause-leaves : goal.returns-then-unsent-gt-MOST_UNSENT-clause-leaves
returns-then-unsent-gt-MOST_UNSENT-clause-leaves g c = λ desk w.
    keep-closed (seen (g.P.Ports.opened c.args.ports.now) (g.P.Ports.told c.args.ports.now) desk c.args.board.now)
    (seen (g.P.Ports.opened c.close.new.ports) (g.P.Ports.told c.close.new.ports) desk c.close.new.board) w
    c.args.port c.args.peer (search rules) c.close.ensures.opened c.close.ensures.told refl
    (rw c.to.ensures at c.close.ensures.over) c.close.ensures.sets c.close.ensures.ways

pub returns-in_err-lay-clause-leaves : goal.returns-in_err-lay-clause-leaves
returns-in_err-lay-clause-leaves g c = λ desk w.
    let p = err_from_is_err_and c.from_residual.result c.from_residual.ensures.1 in
    rw p.1
    (stops-at (holding_on c.args.port c.args.peer (seen (g.P.Ports.opened c.args.ports.now) (g.P.Ports.told c.args.ports.now) desk
    c.args.board.now))
    (seen (g.P.Ports.opened c.args.ports.now) (g.P.Ports.told c.args.ports.now) desk
    (record c.args.board.now { table = c.lay.new.table })) (putting w c.args.port) refl refl)

pub returns-clause-leaves : goal.returns-clause-leaves
returns-clause-leaves g c = λ desk w.
    keep-laid (seen (g.P.Ports.opened c.args.ports.now) (g.P.Ports.told c.args.ports.now) desk c.args.board.now)
    (seen (g.P.Ports.opened c.args.ports.now) (g.P.Ports.told c.args.ports.now) desk
    (record c.args.board.now { table = c.lay.new.table })) w c.args.port c.args.peer (search rules) c.requires.all refl
    refl refl refl
    c.in_ok-lay.ensures.sets refl
