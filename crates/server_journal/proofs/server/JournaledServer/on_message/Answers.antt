use Rattle.std.proofs.Common.{refl, List, ◌∙◌, subst}
use Rattle.server_rules.specs.declared.notes.Note.{Note}
use Rattle.server_journal.specs.Calls.{Answered}
use Rattle.server_rules.specs.Envelopes.{on_bytes}
use Rattle.server_journal.proofs.JournalLaws.{answered, at_error, cut_off, stopped}
use Rattle.server_journal.proofs.server.JournaledServer.on_message.Goals as goal

pub returns-in_err-step-clause-cut_off : goal.returns-in_err-step-clause-cut_off
returns-in_err-step-clause-cut_off g c = at_error _ _ (stopped g.D.Disk g.met.D.Disk.only_now c.args.self.now _ _ refl)

pub returns-in-Ok-clause-did : goal.returns-in-Ok-clause-did
returns-in-Ok-clause-did g c = rw c.keep.ensures.kept_server c.in_ok-step.ensures.did

pub returns-in-Ok-clause-answered : goal.returns-in-Ok-clause-answered
returns-in-Ok-clause-answered g c =
    subst (λ (told : List Note). Answered g.D.Disk c.args.self.now c.keep.new.self told) c.as_slice.ensures
    (answered g.D.Disk c.args.self.now c.keep.new.self c.on_message.new.self c.as_slice.result.now c.on_message.ensures.kept
    c.on_message.ensures.quiet c.in_ok-step.ensures.over
    c.keep.ensures.kept_server c.keep.ensures.kept_made
    c.in-Ok.ensures.noted c.keep.ensures.any_moment c.in-Ok.ensures.kept c.keep.ensures.quiet)

pub returns-in-Err-clause-cut_off : goal.returns-in-Err-clause-cut_off
returns-in-Err-clause-cut_off g c =
    let did = c.in_ok-step.ensures.did.1 in
    cut_off g.D.Disk c.args.self.now c.keep.new.self c.on_message.new.self c.as_slice.result.now
    (λ chosen. on_bytes c.args.self.now.kept.server c.args.now chosen c.args.from c.args.bytes.now)
    c.in_ok-step.ensures.did.0 did.state (c.as_slice.ensures ∙ did.notes) c.on_message.ensures.kept c.on_message.ensures.quiet
    c.in_ok-step.ensures.over c.keep.ensures.any_moment c.keep.ensures.quiet
