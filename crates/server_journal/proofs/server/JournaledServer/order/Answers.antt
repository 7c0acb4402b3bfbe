use Rattle.std.proofs.Common.{refl, List, ◌∙◌, subst}
use Rattle.server_rules.specs.declared.notes.Note.{Note}
use Rattle.server_journal.specs.Calls.{Answered}
use Rattle.server_rules.specs.Orders.{ordered}
use Rattle.server_journal.proofs.JournalLaws.{answered, at_error, cut_off, stopped}
use Rattle.server_journal.proofs.server.JournaledServer.order.Goals as goal

pub returns-in_err-step-clause-cut_off : goal.returns-in_err-step-clause-cut_off
returns-in_err-step-clause-cut_off g c = at_error _ _ (stopped g.D.Disk g.met.D.Disk.only_now c.args.self.now _ _ refl)

pub returns-in-Ok-clause-did : goal.returns-in-Ok-clause-did
returns-in-Ok-clause-did g c = rw c.keep.ensures.kept_server c.in_ok-step.ensures.did

pub returns-in-Ok-clause-answered : goal.returns-in-Ok-clause-answered
returns-in-Ok-clause-answered g c =
    subst (λ (told : List Note). Answered g.D.Disk c.args.self.now c.keep.new.self told) c.as_slice.ensures
    (answered g.D.Disk c.args.self.now c.keep.new.self c.order.new.self c.as_slice.result.now c.order.ensures.kept
    c.order.ensures.quiet c.in_ok-step.ensures.over
    c.keep.ensures.kept_server c.keep.ensures.kept_made
    c.in-Ok.ensures.noted c.keep.ensures.any_moment c.in-Ok.ensures.kept c.keep.ensures.quiet)

pub returns-in-Err-clause-cut_off : goal.returns-in-Err-clause-cut_off
returns-in-Err-clause-cut_off g c =
    let did = c.in_ok-step.ensures.did.1 in
    cut_off g.D.Disk c.args.self.now c.keep.new.self c.order.new.self c.as_slice.result.now
    (λ chosen. (ordered c.args.self.now.kept.server chosen c.args.kind c.args.target).step)
    c.in_ok-step.ensures.did.0 did.state (c.as_slice.ensures ∙ did.notes) c.order.ensures.kept c.order.ensures.quiet
    c.in_ok-step.ensures.over c.keep.ensures.any_moment c.keep.ensures.quiet
