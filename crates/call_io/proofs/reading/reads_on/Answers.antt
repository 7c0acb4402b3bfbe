use Rattle.std.proofs.Common.{rules, tests, sym, ◌≡◌, []}
use Rattle.call_io.proofs.Ends.{reads_go, reads_end}
use Rattle.call_io.proofs.reading.reads_on.Goals as goal

pub returns-then-not-is_empty : goal.returns-then-not-is_empty
returns-then-not-is_empty c =
    sym (reads_go c.args.held.now c.args.range c.args.io.got c.args.io.timed c.args.sent c.args.io.pending
    (search (rules, tests)))

pub returns : goal.returns
returns c =
    let none : c.args.io.pending ≡ [] = search (rules, tests) in
    sym (reads_end c.args.held.now c.args.range c.args.io.got c.args.io.timed c.args.sent c.args.io.pending c.in_ok-bytes.bytes
    none c.in_ok-bytes.ensures)
