use Rattle.std.proofs.Common.{rules, refl}
use Rattle.std.proofs.lemmas.Result.{err_from_is_err_and}
use Rattle.node_loop.specs.Points.{seen}
use Rattle.node_loop.proofs.PostingLaws.{leaves-then, put-all, put-failed, put-stops, put-went}
use Rattle.node_loop.proofs.posting.put_out.Goals as goal

pub returns-in_err-went-in-Ok-clause-leaves : goal.returns-in_err-went-in-Ok-clause-leaves
returns-in_err-went-in-Ok-clause-leaves g c = λ desk w.
    let p = err_from_is_err_and c.from_residual.result c.from_residual.ensures.1 in
    rw p.1
    (put-stops (seen (g.P.Ports.opened c.args.ports.now) (g.P.Ports.told c.args.ports.now) desk c.args.board.now)
    (seen (g.P.Ports.opened c.put.new.self) (g.P.Ports.told c.put.new.self) desk c.args.board.now) w
    c.args.port c.in-Ok.count c.args.peer c.in-Ok.ensures.opened (rw c.unsent.ensures at c.in-Ok.ensures.puts.1) refl refl refl
    refl)

pub returns-in-Err-clause-leaves : goal.returns-in-Err-clause-leaves
returns-in-Err-clause-leaves g c = λ desk w.
    put-failed (seen (g.P.Ports.opened c.args.ports.now) (g.P.Ports.told c.args.ports.now) desk c.args.board.now)
    (seen (g.P.Ports.opened c.put.new.self) (g.P.Ports.told c.put.new.self) desk c.args.board.now)
    (seen (g.P.Ports.opened c.close.new.ports) (g.P.Ports.told c.close.new.ports) desk c.close.new.board) w
    c.args.port c.args.peer c.in-Err.ensures.opened c.in-Err.ensures.puts refl refl refl refl
    c.close.ensures.opened c.close.ensures.told refl (rw c.to.ensures at c.close.ensures.over) c.close.ensures.sets
    c.close.ensures.ways

pub keep-requires-2 : goal.keep-requires-2
keep-requires-2 g c = record { all = put-all c.in-Ok.count c.args.peer c.went.new.self (search rules) }

pub returns-clause-leaves : goal.returns-clause-leaves
returns-clause-leaves g c = λ desk w.
    leaves-then 0 _ _ c.keep-2.result
    (put-went (seen (g.P.Ports.opened c.args.ports.now) (g.P.Ports.told c.args.ports.now) desk c.args.board.now)
    (seen (g.P.Ports.opened c.put.new.self) (g.P.Ports.told c.put.new.self) desk c.args.board.now) w
    c.args.port c.in-Ok.count c.args.peer c.went.new.self (search rules) c.in-Ok.ensures.opened
    (rw c.unsent.ensures at c.in-Ok.ensures.puts.1) refl refl refl refl)
    (c.keep-2.ensures.leaves desk w)
