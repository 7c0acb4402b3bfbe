use Rattle.std.proofs.Common.{true, refl, subst}
use Rattle.std.specs.Prelude.{IsTrue}
use Rattle.osd_disk.specs.Medium.{bytes_of}
use Rattle.server_rules.specs.declared.server.Server.{Server}
use Rattle.server_rules.specs.Openings.{crash, reopen}
use Rattle.server_state.specs.States.{Did}
use Rattle.server_journal.specs.Journals.{core_of}
use Rattle.server_journal.specs.Opening.{IsNoJournalAt}
use Rattle.server_journal.specs.Resting.{journal_of}
use Rattle.layout_world.proofs.Housed.{all_was_taken}
use Rattle.layout_world.proofs.machine.opened.Goals as goal

pub want_of-requires : goal.want_of-requires
want_of-requires c =
    all_was_taken (λ at. IsTrue true → IsNoJournalAt (bytes_of c.args.disk) at) c.in-Err.e c.in-Err.ensures.refused
    (λ at none. c.contents_stand_for_one_server.ensures.refused (bytes_of c.args.disk) at (none refl)
    (crash c.args.was.server) c.requires)
    c.in-Err.ensures.cause

pub returns-in-Ok-clause-did : goal.returns-in-Ok-clause-did
returns-in-Ok-clause-did c =
    let o = c.in-Ok.ensures.opened refl in
    subst (λ (s : Server). Did c.in-Ok.found.1 (core_of c.in-Ok.found.0) (reopen s))
    (c.contents_stand_for_one_server.ensures.one o.before (crash c.args.was.server) (bytes_of c.args.disk) (journal_of o.before _ _ (bytes_of c.args.disk) o.stood) c.requires)
    o.did

pub returns-in-Ok-clause-well : goal.returns-in-Ok-clause-well
returns-in-Ok-clause-well c = λ on. (c.in-Ok.ensures.opened refl).kept
