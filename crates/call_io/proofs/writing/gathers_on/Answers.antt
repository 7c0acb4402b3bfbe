use Rattle.std.proofs.Common.{rules, tests, sym, ◌≡◌, []}
use Rattle.call_io.proofs.Ends.{gathers_go, gathers_over, ok_same}
use Rattle.call_io.proofs.writing.gathers_on.Goals as goal

pub returns-then-is_empty : goal.returns-then-is_empty
returns-then-is_empty c =
    let none : c.args.io.pending ≡ [] = search (rules, tests) in
    ok_same c.scatters.result c.args.held.now _ _
    (gathers_over c.args.held.now c.args.op.now c.args.io.got c.args.io.timed c.args.sent c.args.io.pending none)
    c.scatters.ensures

pub returns : goal.returns
returns c = sym
    (gathers_go c.args.held.now c.args.op.now c.args.io.got c.args.io.timed c.args.sent c.args.io.pending (search (rules, tests)))
