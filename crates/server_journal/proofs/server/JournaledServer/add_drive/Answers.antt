use Rattle.std.proofs.Common.{[], refl}
use Rattle.server_rules.specs.Making.{add_drive}
use Rattle.layout_server.specs.Adding.{drive_of}
use Rattle.server_rules.specs.Files.{still}
use Rattle.server_journal.proofs.JournalLaws.{answered, at_error, cut_off, stopped}
use Rattle.server_journal.proofs.server.JournaledServer.add_drive.Goals as goal

pub returns-in_err-add_drive-clause-cut_off : goal.returns-in_err-add_drive-clause-cut_off
returns-in_err-add_drive-clause-cut_off g c = at_error _ _ (stopped g.D.Disk g.met.D.Disk.only_now c.args.self.now _ _ refl)

pub returns-in-Ok-clause-answered : goal.returns-in-Ok-clause-answered
returns-in-Ok-clause-answered g c =
    answered g.D.Disk c.args.self.now c.keep.new.self c.add_drive.new.self [] c.add_drive.ensures.kept c.add_drive.ensures.quiet
    c.in_ok-add_drive.ensures.over
    c.keep.ensures.kept_server c.keep.ensures.kept_made
    c.in-Ok.ensures.noted c.keep.ensures.any_moment c.in-Ok.ensures.kept c.keep.ensures.quiet

pub returns-in-Err-clause-cut_off : goal.returns-in-Err-clause-cut_off
returns-in-Err-clause-cut_off g c =
    cut_off g.D.Disk c.args.self.now c.keep.new.self c.add_drive.new.self []
    (λ chosen. still (record c.args.self.now.kept.server {
      drives =
          add_drive c.args.self.now.kept.server.drives (drive_of c.args.info);
    }))
    [] c.in_ok-add_drive.ensures.added refl c.add_drive.ensures.kept c.add_drive.ensures.quiet c.in_ok-add_drive.ensures.over
    c.keep.ensures.any_moment c.keep.ensures.quiet
