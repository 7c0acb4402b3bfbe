use Rattle.std.proofs.Common.{◌∙◌, ap, sym, subst}
use Rattle.server_rules.specs.declared.server.Server.{Server}
use Rattle.server_rules.specs.Openings.{crash, reopen}
use Rattle.server_journal.specs.Counters.{CountsOn}
use Rattle.server_journal.proofs.CounterLaws.{entries_count}
use Rattle.server_journal.proofs.JournalLaws.{still}
use Rattle.server_journal.proofs.server.JournaledServer.reopen.Goals as goal

pub returns-in-Err-clause-cut_off : goal.returns-in-Err-clause-cut_off
returns-in-Err-clause-cut_off g c kept =
    rw c.into_disk.ensures
    (still g.D.Disk g.met.D.Disk.only_now c.args.restoration (crash (reopen c.args.restoration).state) c.args.made c.args.noted
    (reopen c.args.restoration).notes c.args.log kept)

pub returns-in-Ok-begin-clause-did : goal.returns-in-Ok-begin-clause-did
returns-in-Ok-begin-clause-did g c = rw c.in-Ok-begin.ensures.server c.in-Ok.ensures.did

pub returns-in-Ok-begin-clause-notes : goal.returns-in-Ok-begin-clause-notes
returns-in-Ok-begin-clause-notes g c = rw c.as_slice.ensures at c.in-Ok-begin.ensures.notes

pub returns-in-Ok-begin-clause-any_moment : goal.returns-in-Ok-begin-clause-any_moment
returns-in-Ok-begin-clause-any_moment g c kept =
    rw (c.as_slice.ensures, c.in-Ok.ensures.did.notes, c.in-Ok.ensures.did.state) at
    (c.in-Ok-begin.ensures.any_moment c.args.restoration c.in-Ok.ensures.follows kept)

pub returns-in-Ok-begin-clause-kept : goal.returns-in-Ok-begin-clause-kept
returns-in-Ok-begin-clause-kept g c kept = c.in-Ok-begin.ensures.kept c.args.restoration c.in-Ok.ensures.follows kept

pub returns-in-Ok-begin-clause-counts : goal.returns-in-Ok-begin-clause-counts
returns-in-Ok-begin-clause-counts g c =
    let now = c.in-Ok.opened.0 in
    subst (λ (s : Server). CountsOn c.args.restoration s) (sym c.in-Ok-begin.ensures.server)
    (entries_count now.changes.entries c.args.restoration (crash now.server) c.in-Ok.ensures.follows)

pub returns-in-Err-begin-clause-cut_off : goal.returns-in-Err-begin-clause-cut_off
returns-in-Err-begin-clause-cut_off g c kept =
    rw (c.as_slice.ensures, c.in-Ok.ensures.did.notes, c.in-Ok.ensures.did.state) at
    (c.in-Err-begin.ensures.cut_off c.args.restoration c.in-Ok.ensures.follows kept)

pub returns-in-Ok-begin-clause-idle : goal.returns-in-Ok-begin-clause-idle
returns-in-Ok-begin-clause-idle g c is none =
    c.in-Ok-begin.ensures.quiet (c.in-Ok.ensures.quiet (is ∙ ap (λ (s : Server). crash s) (sym c.in-Ok.ensures.did.state)))
    (rw c.as_slice.ensures none)
