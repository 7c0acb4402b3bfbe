use Rattle.std.proofs.Common.{◌≡◌, ◌∙◌, ap, Some}
use Rattle.gate_log.specs.Standing.{disk_of}
use Rattle.server_entries.specs.Applying.{applied_all}
use Rattle.server_entries.specs.declared.record.Record.{Record}
use Rattle.server_rules.specs.Openings.{crash}
use Rattle.server_journal.proofs.JournalLaws.{still}
use Rattle.server_journal.proofs.StepLaws.{added, added_or_not, idle_so, no_bodies, step_leads}
use Rattle.server_journal.proofs.server.JournaledServer.keep.Goals as goal

pub returns-clause-kept : goal.returns-clause-kept
returns-clause-kept g c was follows kept =
    let makes : applied_all was c.changes.result.now.entries ≡ Some (crash c.args.self.now.kept.server) =
    ap (λ (r : Record). applied_all was r.entries) c.changes.ensures.value ∙ follows in
    rw c.in_ok-keep_asking.ensures
    (added g.D.Disk was c.args.self.now.made c.args.self.now.noted c.args.self.now.log c.append_all.new.self _ _ _ _
    (step_leads was (crash c.args.self.now.kept.server) c.args.self.now.made c.args.self.now.noted c.changes.result.now
    c.args.told.now c.changes.ensures.writable.0 c.in_ok-entries.ensures.spelled makes c.in_ok-entries.ensures.fits)
    (λ header records. c.in-Ok.ensures.added header records _ c.in_ok-entries.ensures.bodies) kept)

pub returns-clause-any_moment : goal.returns-clause-any_moment
returns-clause-any_moment g c was follows kept =
    let makes : applied_all was c.changes.result.now.entries ≡ Some (crash c.args.self.now.kept.server) =
    ap (λ (r : Record). applied_all was r.entries) c.changes.ensures.value ∙ follows in
    added_or_not g.D.Disk was c.args.self.now.made c.args.self.now.noted c.args.self.now.log (disk_of c.append_all.new.self) _ _ _
    _
    (step_leads was (crash c.args.self.now.kept.server) c.args.self.now.made c.args.self.now.noted c.changes.result.now
    c.args.told.now c.changes.ensures.writable.0 c.in_ok-entries.ensures.spelled makes c.in_ok-entries.ensures.fits)
    (λ header records. c.append_all.ensures.any_moment header records _ c.in_ok-entries.ensures.bodies) kept

pub returns-in-Err-clause-any_moment : goal.returns-in-Err-clause-any_moment
returns-in-Err-clause-any_moment g c was follows kept =
    let makes : applied_all was c.changes.result.now.entries ≡ Some (crash c.args.self.now.kept.server) =
    ap (λ (r : Record). applied_all was r.entries) c.changes.ensures.value ∙ follows in
    added_or_not g.D.Disk was c.args.self.now.made c.args.self.now.noted c.args.self.now.log (disk_of c.append_all.new.self) _ _ _
    _
    (step_leads was (crash c.args.self.now.kept.server) c.args.self.now.made c.args.self.now.noted c.changes.result.now
    c.args.told.now c.changes.ensures.writable.0 c.in_ok-entries.ensures.spelled makes c.in_ok-entries.ensures.fits)
    (λ header records. c.append_all.ensures.any_moment header records _ c.in_ok-entries.ensures.bodies) kept

pub returns-in_err-entries-clause-any_moment : goal.returns-in_err-entries-clause-any_moment
returns-in_err-entries-clause-any_moment g c was follows kept =
    still g.D.Disk g.met.D.Disk.only_now was (crash c.args.self.now.kept.server) c.args.self.now.made c.args.self.now.noted
    c.args.told.now c.args.self.now.log kept

pub returns-in_err-keep_asking-clause-any_moment : goal.returns-in_err-keep_asking-clause-any_moment
returns-in_err-keep_asking-clause-any_moment g c was follows kept =
    still g.D.Disk g.met.D.Disk.only_now was (crash c.args.self.now.kept.server) c.args.self.now.made c.args.self.now.noted
    c.args.told.now c.args.self.now.log kept

pub returns-clause-quiet : goal.returns-clause-quiet
returns-clause-quiet g c none silent =
    idle_so g.D.Disk c.args.self.now.log c.append_all.new.self c.in_ok-entries.entries _
    (no_bodies c.changes.result.now c.args.told.now (ap (λ (r : Record). r.entries) c.changes.ensures.value ∙ none) silent)
    c.in_ok-entries.ensures.bodies c.append_all.ensures.idle

pub returns-in-Err-clause-quiet : goal.returns-in-Err-clause-quiet
returns-in-Err-clause-quiet g c none silent =
    idle_so g.D.Disk c.args.self.now.log c.append_all.new.self c.in_ok-entries.entries _
    (no_bodies c.changes.result.now c.args.told.now (ap (λ (r : Record). r.entries) c.changes.ensures.value ∙ none) silent)
    c.in_ok-entries.ensures.bodies c.append_all.ensures.idle
