use Rattle.std.proofs.Common.{◌∙◌, Err, ap, refl, sym}
use Rattle.stored_server.proofs.JournalLaws.{broke_cut, step_fault, went_step}
use Rattle.stored_server.proofs.stored_server.StoredServerMetadataServer.on_message.Goals as goal

pub returns-in-Ok-clause-ok : goal.returns-in-Ok-clause-ok
returns-in-Ok-clause-ok g c =
    let did = c.in-Ok.ensures.did in (
      did.0,
      did.1,
      went_step g.D.Disk g.met.D.Disk.only_now _ _ _ _ did.1.state c.in-Ok.ensures.answered c.in-Ok.ensures.over
          c.in-Ok.ensures.cause.same,
    )

pub returns-in-Err-clause-err : goal.returns-in-Err-clause-err
returns-in-Err-clause-err g c =
    let cut = c.in-Err.ensures.cut_off in (
      cut.chosen,
      broke_cut g.D.Disk _ _ _ _ _ cut refl
          (λ is. c.in-Err.ensures.cause.failed (ap Err (step_fault c.in-Err.e (sym c.step_err_of.ensures ∙ is)))),
    )
