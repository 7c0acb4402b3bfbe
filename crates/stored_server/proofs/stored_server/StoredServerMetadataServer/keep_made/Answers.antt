use Rattle.std.proofs.Common.{◌∙◌, Err, ap, sym}
use Rattle.stored_server.proofs.JournalLaws.{broke_telling, learns, step_fault, went_told}
use Rattle.stored_server.proofs.stored_server.StoredServerMetadataServer.keep_made.Goals as goal

pub returns-in-Ok-clause-ok : goal.returns-in-Ok-clause-ok
returns-in-Ok-clause-ok g c =
    went_told g.D.Disk _ _ _ c.keep_made.ensures.server c.keep_made.ensures.any_moment c.in-Ok.ensures.kept
    c.in-Ok.ensures.over c.in-Ok.ensures.cause.same

pub returns-in-Ok-clause-learns : goal.returns-in-Ok-clause-learns
returns-in-Ok-clause-learns g c kept = learns g.D.Disk _ _ _ c.in-Ok.ensures.made

pub returns-in-Err-clause-err : goal.returns-in-Err-clause-err
returns-in-Err-clause-err g c =
    broke_telling g.D.Disk _ _ _ _ c.keep_made.ensures.any_moment
    (λ is. c.in-Err.ensures.cause.failed (ap Err (step_fault c.in-Err.e (sym c.step_err_of.ensures ∙ is))))
