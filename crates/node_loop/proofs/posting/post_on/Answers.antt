use Rattle.std.proofs.Common.{rules, ◌∷◌, refl}
use Rattle.std.proofs.lemmas.Result.{err_from_is_err_and}
use Rattle.node_loop.specs.Points.{holding_on, posting, seen}
use Rattle.node_loop.proofs.MovingLaws.{moves-stop, moves-then, stops-at}
use Rattle.node_loop.proofs.PostingLaws.{message-posted}
use Rattle.node_loop.proofs.posting.post_on.Goals as goal

pub returns-in_err-post-clause-leaves : goal.returns-in_err-post-clause-leaves
returns-in_err-post-clause-leaves g c = λ desk w more.
    let p = err_from_is_err_and c.from_residual.result c.from_residual.ensures.1 in
    rw p.1
    (stops-at (holding_on c.args.port c.args.peer (seen (g.P.Ports.opened c.args.ports.now) (g.P.Ports.told c.args.ports.now) desk
    c.args.board.now))
    (seen (g.P.Ports.opened c.args.ports.now) (g.P.Ports.told c.args.ports.now) desk c.args.board.now)
    (posting w (c.args.message.now ∷ more)) refl refl)

pub returns-in_err-put_out-clause-leaves : goal.returns-in_err-put_out-clause-leaves
returns-in_err-put_out-clause-leaves g c = λ desk w more.
    let p = err_from_is_err_and c.from_residual-in_err-put_out.result c.from_residual-in_err-put_out.ensures.1 in
    rw p.1
    (moves-stop (seen (g.P.Ports.opened c.put_out.new.ports) (g.P.Ports.told c.put_out.new.ports) desk c.put_out.new.board)
    (message-posted (seen (g.P.Ports.opened c.args.ports.now) (g.P.Ports.told c.args.ports.now) desk c.args.board.now) w
    c.args.port c.args.message.now more c.args.peer c.post.new.self c.requires.way c.requires.short (search rules))
    (c.in_err-put_out.ensures.leaves desk (posting w more)))

pub returns-clause-leaves : goal.returns-clause-leaves
returns-clause-leaves g c = λ desk w more.
    moves-then
    (message-posted (seen (g.P.Ports.opened c.args.ports.now) (g.P.Ports.told c.args.ports.now) desk c.args.board.now) w
    c.args.port c.args.message.now more c.args.peer c.post.new.self c.requires.way c.requires.short (search rules))
    (c.in_ok-put_out.ensures.leaves desk (posting w more))
