use Rattle.std.proofs.Common.{sym, ◌∙◌}
use Rattle.call_io.specs.Phases.{moved_of}
use Rattle.stripe_client.specs.States.{done_of}
use Rattle.stripe_client.proofs.Taking.{none_left}
use Rattle.stripe_client.proofs.Moves.{implied, dealt, dealt_none}
use Rattle.stripe_client.proofs.begin.deal.Goals as goal

pub returns-in_ok-moved-in-Some-clause-done : goal.returns-in_ok-moved-in-Some-clause-done
returns-in_ok-moved-in-Some-clause-done c =
    implied c.apply.result c.apply.ensures.done
    (dealt (done_of c.args.state.now c.args.made.now) c.take.new.self c.args.op c.in-Some.held
    (moved_of c.begin_call.new.held c.in_ok-moved-in-Some.moved) (done_of c.apply.new.state c.apply.new.made)
    (sym (rw c.file_of.ensures at c.in-Some.ensures.found))
    (rw c.file_of.ensures at c.take.ensures.back) c.in_ok-moved-in-Some.ensures)

pub returns-in-None-clause-done : goal.returns-in-None-clause-done
returns-in-None-clause-done c =
    let found = sym (rw c.file_of.ensures at c.in-None.ensures.found) in
    dealt_none (done_of c.args.state.now c.args.made.now) c.take.new.self c.args.op found
    ((rw c.file_of.ensures at c.take.ensures.left) ∙ none_left _ _ found)
