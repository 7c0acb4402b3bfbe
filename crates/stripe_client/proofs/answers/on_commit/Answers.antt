use Rattle.std.proofs.Common.{sym, ap, ◌∙◌}
use Rattle.call_io.specs.Phases.{moved_of}
use Rattle.stripe_client.specs.declared.state.State.{State}
use Rattle.stripe_client.specs.States.{done_of}
use Rattle.stripe_client.proofs.Taking.{none_left}
use Rattle.stripe_client.proofs.Moves.{implied, committed, committed_none}
use Rattle.stripe_client.proofs.answers.on_commit.Goals as goal

pub returns-in-Some-clause-done : goal.returns-in-Some-clause-done
returns-in-Some-clause-done c =
    implied c.apply.result c.apply.ensures.done
    (committed (done_of c.args.state.now c.args.made.now) c.take.new.self c.args.op c.args.answer.now c.args.timed
    c.in-Some.held
    (moved_of c.commit-moved.new.held c.commit-moved.result) (done_of c.apply.new.state c.apply.new.made)
    (sym (rw c.file_of.ensures at c.in-Some.ensures.found)) (rw c.file_of.ensures at c.take.ensures.back) c.commit-moved.ensures)

pub returns-in-None-clause-done : goal.returns-in-None-clause-done
returns-in-None-clause-done c =
    let found = sym (rw c.file_of.ensures at c.in-None.ensures.found) in
    committed_none (done_of c.args.state.now c.args.made.now) c.take.new.self c.args.op c.args.answer.now c.args.timed _ found
    ((rw c.file_of.ensures at c.take.ensures.left) ∙ none_left _ _ found)
    (ap (λ (s : State). done_of s c.args.made.now) c.go_on.ensures.state)
