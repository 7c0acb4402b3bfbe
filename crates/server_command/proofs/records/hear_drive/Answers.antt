use Rattle.std.proofs.Common.{rules, ◌≡◌, ◌∙◌, [], ◌∷◌, ◌++◌, Err, List, refl, subst, sym}
use Rattle.osd_lists.specs.declared.node.Node.TheVariants.{Drive}
use Rattle.server_command.specs.GoesOn.{WentBy}
use Rattle.server_command.specs.Steps.{Hears, ServerStep}
use Rattle.server_command.specs.declared.metadata_server.StepErr.TheVariants.{Memory}
use Rattle.server_command.proofs.CutLaws.{cut_behind}
use Rattle.server_command.proofs.KeptLaws.{cuts_behind}
use Rattle.server_command.proofs.records.hear_drive.Goals as goal

pub returns-clause-hears : goal.returns-clause-hears
returns-clause-hears g c = λ stands had.
    let more : c.push_all.new.waiting ≡ c.args.waiting.now ++ c.in_ok-sends.sends = search rules in
    let h = c.in_ok-sends.ensures.handles c.args.waiting.now stands had in (h.0, rw more h.1, h.2)

pub returns-in_err-sends-clause-cuts : goal.returns-in_err-sends-clause-cuts
returns-in_err-sends-clause-cuts g c =
    let same : c.from_residual.result ≡ Err c.in_err-sends.field-0.0 = search rules in
    rw same (λ stands. c.in_err-sends.ensures.cuts c.args.waiting.now stands)

pub returns-in_err-push_all-clause-cuts : goal.returns-in_err-push_all-clause-cuts
returns-in_err-push_all-clause-cuts g c =
    let same : c.from_residual-in_err-push_all.result ≡ Err Memory = search rules in
    rw same (λ stands had.
    let h = c.in_ok-sends.ensures.handles c.args.waiting.now stands [] in
    let step = Hears h.1.time h.1.chosen (Drive c.args.drive) c.args.reply.now ∷ [] in (
      had,
      step,
      cut_behind _ _ _ _ _ had h.1 refl,
      cuts_behind g.H.MetadataServer _ had step c.args.server.now c.handle.new.server
          (subst (λ (xs : List ServerStep). WentBy g.H.MetadataServer xs c.args.server.now c.handle.new.server)
          (sym h.2.are ∙ h.1.done) h.2.went) (λ e. cc e),
    ))
