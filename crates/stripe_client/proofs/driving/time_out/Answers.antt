use Rattle.std.proofs.Common.{sym, ap, ◌∙◌}
use Rattle.call_io.specs.Phases.{moved_of}
use Rattle.stripe_client.specs.declared.state.State.{State}
use Rattle.stripe_client.specs.States.{call_of, done_of}
use Rattle.stripe_client.proofs.Taking.{none_left}
use Rattle.stripe_client.proofs.Moves.{implied, timed_of, timed_none}
use Rattle.stripe_client.proofs.driving.time_out.Goals as goal

pub returns-in_ok-done-in-Some-clause-done : goal.returns-in_ok-done-in-Some-clause-done
returns-in_ok-done-in-Some-clause-done c =
    implied c.apply.result c.apply.ensures.done
    (timed_of (done_of c.args.state.now c.args.made.now) c.take.new.self (call_of c.args.call) c.args.component c.in-Some.held
    (moved_of c.timed_out.new.held c.in_ok-done-in-Some.done) (done_of c.apply.new.state c.apply.new.made)
    (sym (rw c.file_of.ensures at c.in-Some.ensures.found))
    (rw c.file_of.ensures at c.take.ensures.back) c.in_ok-done-in-Some.ensures)

pub returns-in-None-clause-done : goal.returns-in-None-clause-done
returns-in-None-clause-done c =
    let found = sym (rw c.file_of.ensures at c.in-None.ensures.found) in
    timed_none (done_of c.args.state.now c.args.made.now) c.take.new.self (call_of c.args.call) c.args.component _ found
    ((rw c.file_of.ensures at c.take.ensures.left) ∙ none_left _ _ found)
    (ap (λ (s : State). done_of s c.args.made.now) c.go_on.ensures.state)
