use Rattle.std.proofs.Common.{sym, subst}
use Rattle.server_state.specs.Tables.{Table, AreEntries}
use Rattle.server_state.specs.Replies.{OthersStay}
use Rattle.server_state.proofs.ReplyLaws.{others_set}
use Rattle.server_state.proofs.TableLaws.{entries_left}
use Rattle.server_state.proofs.StepLaws.{good_settled}
use Rattle.layout_server.proofs.OrderLaws.{started_at, unstarted_at}
use Rattle.layout_server.proofs.orders.order_job_at.Goals as goal

pub returns-in_ok-step-in-Some-clause-obeys : goal.returns-in_ok-step-in-Some-clause-obeys
returns-in_ok-step-in-Some-clause-obeys g c =
    let v = rw (c.in-Some.is, c.no_effects-effects.ensures) at c.in_ok-begun.ensures in
    started_at c.args.state.now c.begin_in.new.files c.finish_step.new.state c.begin_in.new.effects c.args.number c.args.kind _
    c.in-Some.result v.0 v.1 c.in_ok-step-in-Some.step
    c.requires.good.files v.3 v.2 c.requires.loads v.4 c.in_ok-step-in-Some.ensures

pub returns-in_ok-step-in-Some-clause-good : goal.returns-in_ok-step-in-Some-clause-good
returns-in_ok-step-in-Some-clause-good g c =
    let v = rw (c.in-Some.is, c.no_effects-effects.ensures) at c.in_ok-begun.ensures in
    good_settled c.args.number c.args.state.now c.begin_in.new.files c.finish_step.new.state c.begin_in.new.effects
    c.in_ok-step-in-Some.step c.requires.good
    (subst (λ (t : Table). AreEntries t) (sym v.3)
    (entries_left c.args.state.now.files.entries c.args.number v.0 v.1 c.requires.good.files v.2 v.5))
    (subst (λ (t : Table). OthersStay c.args.number c.args.state.now.files.entries t) (sym v.3)
    (others_set c.args.state.now.files.entries c.args.number v.1)) c.in_ok-step-in-Some.ensures

pub returns-in-None-clause-obeys : goal.returns-in-None-clause-obeys
returns-in-None-clause-obeys g c =
    let v = rw c.in-None.is at c.in_ok-begun.ensures in
    unstarted_at c.args.state.now c.begin_in.new.files c.args.number c.args.kind c.unknown.result c.requires.good.files v.0 v.1
    c.unknown.ensures
