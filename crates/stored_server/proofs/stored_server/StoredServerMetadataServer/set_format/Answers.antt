use Rattle.std.proofs.Common.{◌∙◌, Err, ap, refl, sym}
use Rattle.stored_server.proofs.JournalLaws.{broke_cut, step_fault, went_step}
use Rattle.stored_server.proofs.stored_server.StoredServerMetadataServer.set_format.Goals as goal

pub returns-in-Ok-clause-ok : goal.returns-in-Ok-clause-ok
returns-in-Ok-clause-ok g c =
    went_step g.D.Disk g.met.D.Disk.only_now _ _ _ _ c.in-Ok.ensures.did c.in-Ok.ensures.answered c.in-Ok.ensures.over
    c.in-Ok.ensures.cause.same

pub returns-in-Err-clause-err : goal.returns-in-Err-clause-err
returns-in-Err-clause-err g c =
    broke_cut g.D.Disk _ _ _ _ _ c.in-Err.ensures.cut_off refl
    (λ is. c.in-Err.ensures.cause.failed (ap Err (step_fault c.in-Err.e (sym c.step_err_of.ensures ∙ is))))
