use Rattle.std.proofs.Common.{rules, ◌∷◌, refl}
use Rattle.node_loop.specs.Points.{posting, seen}
use Rattle.node_loop.proofs.PostingLaws.{from-lifted, from-same, leaves-then, message-too-long}
use Rattle.node_loop.proofs.posting.post.Goals as goal

pub returns-then-len-gt-MAX_RECORD-clause-leaves : goal.returns-then-len-gt-MAX_RECORD-clause-leaves
returns-then-len-gt-MAX_RECORD-clause-leaves g c = λ desk w more.
    message-too-long (seen (g.P.Ports.opened c.args.ports.now) (g.P.Ports.told c.args.ports.now) desk c.args.board.now) w
    c.args.message.now more (search rules)

pub returns-in-Some-clause-leaves : goal.returns-in-Some-clause-leaves
returns-in-Some-clause-leaves g c = λ desk w more.
    leaves-then 0 _ _ c.post_on.result
    (from-lifted (seen (g.P.Ports.opened c.args.ports.now) (g.P.Ports.told c.args.ports.now) desk c.args.board.now)
    (seen (g.P.Ports.opened c.args.ports.now) (g.P.Ports.told c.args.ports.now) desk
    (record c.args.board.now { table = c.reach.new.table })) (posting w (c.args.message.now ∷ more))
    c.in-Some.port c.in-Some.peer c.in-Some.ensures.1 c.in-Some.ensures.2 refl refl refl refl refl)
    (c.post_on.ensures.leaves desk w more)

pub returns-in-None-clause-leaves : goal.returns-in-None-clause-leaves
returns-in-None-clause-leaves g c = λ desk w more.
    leaves-then 0 _ _ c.post_anew.result
    (from-same (seen (g.P.Ports.opened c.args.ports.now) (g.P.Ports.told c.args.ports.now) desk c.args.board.now)
    (seen (g.P.Ports.opened c.args.ports.now) (g.P.Ports.told c.args.ports.now) desk
    (record c.args.board.now { table = c.reach.new.table })) (posting w (c.args.message.now ∷ more))
    c.in-None.ensures.1 refl refl refl refl refl)
    (c.post_anew.ensures.leaves desk w more)
