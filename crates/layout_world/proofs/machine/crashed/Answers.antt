use Rattle.std.proofs.Common.{◌∙◌, List, ℕ, ap, sym, subst}
use Rattle.osd_disk.specs.Medium.{Medium, bytes_of, fresh}
use Rattle.server_rules.specs.declared.server.Server.{Server}
use Rattle.server_rules.specs.Openings.{crash}
use Rattle.server_journal.specs.Journals.{IsJournalOf, core_of, disk_in, made_of, noted_of}
use Rattle.server_journal.specs.Resting.{journal_of, stands}
use Rattle.layout_world.proofs.machine.crashed.Goals as goal

pub returns-clause-state : goal.returns-clause-state
returns-clause-state c = ap (λ (s : Server). crash s) c.into_parts-was.ensures.server

pub returns-clause-stands : goal.returns-clause-stands
returns-clause-stands c =
    let j = c.args.journal in
    let left = ap (λ (m : Medium). bytes_of m) c.crash.ensures ∙ ap (λ (m : Medium). bytes_of m) c.into_parts-was.ensures.disk in
    subst (λ (l : List ℕ). IsJournalOf (crash c.into_parts-was.result.0.server) l) (sym left)
    (subst (λ (s : Server). IsJournalOf (crash s) (bytes_of (disk_in j))) (sym c.into_parts-was.ensures.server)
    (journal_of (crash (core_of j)) (made_of j) (noted_of j) (bytes_of (disk_in j))
    (stands _ (crash (core_of j)) (made_of j) (noted_of j) j.log (c.requires.well c.requires.goes_on))))
