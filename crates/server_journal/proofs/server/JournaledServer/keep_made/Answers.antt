use Rattle.std.proofs.Common.{[], ◌∷◌}
use Rattle.gate_log.specs.Standing.{disk_of}
use Rattle.server_rules.specs.Openings.{crash}
use Rattle.server_journal.proofs.JournalLaws.{told_nothing}
use Rattle.server_journal.proofs.RecordLaws.{object_in}
use Rattle.server_journal.proofs.StepLaws.{added, added_or_not, object_lead}
use Rattle.server_journal.proofs.server.JournaledServer.keep_made.Goals as goal

pub returns-in_err-entry-clause-any_moment : goal.returns-in_err-entry-clause-any_moment
returns-in_err-entry-clause-any_moment g c kept =
    told_nothing g.D.Disk g.met.D.Disk.only_now (crash c.args.self.now.kept.server) c.args.self.now.made c.args.self.now.noted
    _ c.args.self.now.log kept

pub returns-in_err-push-clause-any_moment : goal.returns-in_err-push-clause-any_moment
returns-in_err-push-clause-any_moment g c kept =
    told_nothing g.D.Disk g.met.D.Disk.only_now (crash c.args.self.now.kept.server) c.args.self.now.made c.args.self.now.noted
    _ c.args.self.now.log kept

pub returns-in-Err-clause-any_moment : goal.returns-in-Err-clause-any_moment
returns-in-Err-clause-any_moment g c kept =
    added_or_not g.D.Disk (crash c.args.self.now.kept.server) c.args.self.now.made c.args.self.now.noted c.args.self.now.log
    (disk_of c.append.new.self) (c.in_ok-entry.entry ∷ []) _ _ _
    (object_lead _ _ _ c.in_ok-entry.entry c.args.object
    (rw (c.in_ok-entry.ensures, c.made_bytes-bytes.ensures.written)
    (object_in c.args.object c.made_bytes-bytes.ensures.fits.0 c.made_bytes-bytes.ensures.fits.1)))
    c.append.ensures.any_moment kept

pub returns-clause-any_moment : goal.returns-clause-any_moment
returns-clause-any_moment g c kept =
    added_or_not g.D.Disk (crash c.args.self.now.kept.server) c.args.self.now.made c.args.self.now.noted c.args.self.now.log
    (disk_of c.append.new.self) (c.in_ok-entry.entry ∷ []) _ _ _
    (object_lead _ _ _ c.in_ok-entry.entry c.args.object
    (rw (c.in_ok-entry.ensures, c.made_bytes-bytes.ensures.written)
    (object_in c.args.object c.made_bytes-bytes.ensures.fits.0 c.made_bytes-bytes.ensures.fits.1)))
    c.append.ensures.any_moment kept

pub returns-clause-kept : goal.returns-clause-kept
returns-clause-kept g c kept =
    rw c.in_ok-push.ensures.ok
    (added g.D.Disk (crash c.args.self.now.kept.server) c.args.self.now.made c.args.self.now.noted c.args.self.now.log
    c.append.new.self (c.in_ok-entry.entry ∷ []) _ _ _
    (object_lead _ _ _ c.in_ok-entry.entry c.args.object
    (rw (c.in_ok-entry.ensures, c.made_bytes-bytes.ensures.written)
    (object_in c.args.object c.made_bytes-bytes.ensures.fits.0 c.made_bytes-bytes.ensures.fits.1)))
    c.in-Ok.ensures.added kept)
