use Rattle.gate_log.specs.Standing.{disk_of}
use Rattle.server_rules.specs.Openings.{crash}
use Rattle.server_journal.proofs.JournalLaws.{told_nothing}
use Rattle.server_notes.specs.declared.remark.Remark.TheVariants.{Dealt}
use Rattle.server_journal.proofs.RecordLaws.{dealt_short, remark_some}
use Rattle.server_journal.proofs.StepLaws.{added, added_or_not, dealt_lead}
use Rattle.server_journal.proofs.server.JournaledServer.dealt.Goals as goal

pub returns-in_err-body-clause-any_moment : goal.returns-in_err-body-clause-any_moment
returns-in_err-body-clause-any_moment g c kept =
    told_nothing g.D.Disk g.met.D.Disk.only_now (crash c.args.self.now.kept.server) c.args.self.now.made c.args.self.now.noted
    _ c.args.self.now.log kept

pub returns-in_err-entry-clause-any_moment : goal.returns-in_err-entry-clause-any_moment
returns-in_err-entry-clause-any_moment g c kept =
    told_nothing g.D.Disk g.met.D.Disk.only_now (crash c.args.self.now.kept.server) c.args.self.now.made c.args.self.now.noted
    _ c.args.self.now.log kept

pub returns-in_err-take_remark-clause-any_moment : goal.returns-in_err-take_remark-clause-any_moment
returns-in_err-take_remark-clause-any_moment g c kept =
    told_nothing g.D.Disk g.met.D.Disk.only_now (crash c.args.self.now.kept.server) c.args.self.now.made c.args.self.now.noted
    _ c.args.self.now.log kept

pub returns-in-Err-clause-any_moment : goal.returns-in-Err-clause-any_moment
returns-in-Err-clause-any_moment g c kept =
    added_or_not g.D.Disk (crash c.args.self.now.kept.server) c.args.self.now.made c.args.self.now.noted c.args.self.now.log
    (disk_of c.append.new.self) _ _ _ _
    (dealt_lead (crash c.args.self.now.kept.server) c.args.self.now.made c.args.self.now.noted c.args.file
    c.in_ok-body.ensures.fits)
    (rw (← c.in_ok-body.ensures.written, ← c.as_slice.ensures, ← c.in_ok-entry.ensures) c.append.ensures.any_moment) kept

pub returns-clause-any_moment : goal.returns-clause-any_moment
returns-clause-any_moment g c kept =
    added_or_not g.D.Disk (crash c.args.self.now.kept.server) c.args.self.now.made c.args.self.now.noted c.args.self.now.log
    (disk_of c.append.new.self) _ _ _ _
    (dealt_lead (crash c.args.self.now.kept.server) c.args.self.now.made c.args.self.now.noted c.args.file
    c.in_ok-body.ensures.fits)
    (rw (← c.in_ok-body.ensures.written, ← c.as_slice.ensures, ← c.in_ok-entry.ensures) c.append.ensures.any_moment) kept

pub returns-clause-kept : goal.returns-clause-kept
returns-clause-kept g c kept =
    rw c.in_ok-take_remark.ensures.taken
    (added g.D.Disk (crash c.args.self.now.kept.server) c.args.self.now.made c.args.self.now.noted c.args.self.now.log
    c.append.new.self _ _ _ _
    (dealt_lead (crash c.args.self.now.kept.server) c.args.self.now.made c.args.self.now.noted c.args.file
    c.in_ok-body.ensures.fits)
    (rw (← c.in_ok-body.ensures.written, ← c.as_slice.ensures, ← c.in_ok-entry.ensures) c.in-Ok.ensures.added) kept)

pub new-requires-clause-some : goal.new-requires-clause-some
new-requires-clause-some g c =
    rw (c.as_slice.ensures, c.in_ok-body.ensures.written) (remark_some (Dealt c.args.file))

pub new-requires-clause-fits : goal.new-requires-clause-fits
new-requires-clause-fits g c =
    rw (c.as_slice.ensures, c.in_ok-body.ensures.written) (dealt_short c.args.file)
