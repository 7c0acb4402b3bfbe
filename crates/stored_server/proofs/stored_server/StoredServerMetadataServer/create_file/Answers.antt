use Rattle.stored_server.proofs.JournalLaws.{not_making, went_making}
use Rattle.stored_server.proofs.stored_server.StoredServerMetadataServer.create_file.Goals as goal

pub returns-in-Ok-clause-ok : goal.returns-in-Ok-clause-ok
returns-in-Ok-clause-ok g c =
    let made = c.in-Ok.ensures.made in (
      made.0,
      made.1,
      made.2,
      made.3,
      went_making g.D.Disk g.met.D.Disk.only_now _ _ _ made.0 _ _ made.1 made.2 made.3.state _ c.in-Ok.ensures.answered
          c.in-Ok.ensures.goes_on
          c.in-Ok.ensures.same,
    )

pub returns-in-Err-clause-err : goal.returns-in-Err-clause-err
returns-in-Err-clause-err g c =
    rw c.make_err_of.ensures (not_making g.D.Disk g.met.D.Disk.only_now _ _ _ _ _ c.in-Err.e c.in-Err.ensures.refused)
