use Rattle.std.proofs.Common.{rules, refl}
use Rattle.std.proofs.lemmas.Result.{err_from_is_err_and}
use Rattle.node_loop.specs.Nodes.{way_in}
use Rattle.node_loop.specs.Points.{seen}
use Rattle.node_loop.proofs.PostingLaws.{leaves-then, leads-here, message-lost, message-opens, message-refused, open-stops}
use Rattle.node_loop.proofs.posting.post_anew.Goals as goal

pub returns-in-Server-clause-leaves : goal.returns-in-Server-clause-leaves
returns-in-Server-clause-leaves g c = λ desk w more.
    message-lost (seen (g.P.Ports.opened c.args.ports.now) (g.P.Ports.told c.args.ports.now) desk c.args.board.now) w
    c.args.message.now more c.requires.short c.requires.shut (search rules)

pub returns-in-Err-clause-leaves : goal.returns-in-Err-clause-leaves
returns-in-Err-clause-leaves g c = λ desk w more.
    message-refused (seen (g.P.Ports.opened c.args.ports.now) (g.P.Ports.told c.args.ports.now) desk c.args.board.now)
    (seen (g.P.Ports.opened c.open.new.self) (g.P.Ports.told c.open.new.self) desk c.args.board.now) w
    c.args.message.now more c.requires.short c.requires.shut (search rules) c.in-Err.ensures.opens.0 c.in-Err.ensures.opens.1
    refl refl refl refl

pub returns-in_err-lead-clause-leaves : goal.returns-in_err-lead-clause-leaves
returns-in_err-lead-clause-leaves g c = λ desk w more.
    let p = err_from_is_err_and c.from_residual.result c.from_residual.ensures.1 in
    rw p.1
    (open-stops (seen (g.P.Ports.opened c.args.ports.now) (g.P.Ports.told c.args.ports.now) desk c.args.board.now)
    (seen (g.P.Ports.opened c.open.new.self) (g.P.Ports.told c.open.new.self) desk
    (record c.args.board.now { ways = c.lead.new.self })) w c.in-Ok.port
    c.args.message.now more c.requires.short c.requires.shut (search rules) c.in-Ok.ensures.opens.0 c.in-Ok.ensures.opens.1
    c.in-Ok.ensures.opens.2 refl)

pub post_on-requires-clause-way : goal.post_on-requires-clause-way
post_on-requires-clause-way g c =
    leads-here c.args.message.now.to c.in-Ok.port (way_in c.args.board.now.ways) (way_in c.lead.new.self) c.in_ok-lead.ensures

pub returns-clause-leaves : goal.returns-clause-leaves
returns-clause-leaves g c = λ desk w more.
    leaves-then 0 _ _ c.post_on.result
    (message-opens (seen (g.P.Ports.opened c.args.ports.now) (g.P.Ports.told c.args.ports.now) desk c.args.board.now)
    (seen (g.P.Ports.opened c.open.new.self) (g.P.Ports.told c.open.new.self) desk
    (record c.args.board.now { ways = c.lead.new.self })) w c.in-Ok.port
    c.args.message.now more c.requires.short c.requires.shut (search rules) c.in-Ok.ensures.opens.0 c.in-Ok.ensures.opens.1
    c.in-Ok.ensures.opens.2 refl refl refl c.in_ok-lead.ensures)
    (rw c.new.ensures at c.post_on.ensures.leaves desk w more)
