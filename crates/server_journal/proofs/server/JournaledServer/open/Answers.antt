use Rattle.std.proofs.Common.{rules, IsTrue, ℕ, List, ◌∙◌, refl, sym, subst}
use Rattle.osd_disk.proofs.Moments.{read_again}
use Rattle.gate_log.specs.Standing.{header_of, read_disk}
use Rattle.server_journal.specs.declared.made.MadeObject.{MadeObject}
use Rattle.server_journal.specs.Journals.{IsJournalWith}
use Rattle.server_journal.specs.Opening.{IsNoJournalAt}
use Rattle.server_journal.proofs.OpeningLaws.{no_place, opening_leaves, other_header_at, read_leaves, read_so_far, read_still, says_so, stood_for, taken_first, taken_kept}
use Rattle.server_journal.proofs.server.JournaledServer.open.Goals as goal

pub returns-in-Err-clause-cut_off : goal.returns-in-Err-clause-cut_off
returns-in-Err-clause-cut_off g c told =
    read_leaves g.D.Disk g.met.D.Disk.only_now c.args.disk _ _ refl c.in-Err.ensures.disk_back

pub returns-then-not-is_header-clause-cut_off : goal.returns-then-not-is_header-clause-cut_off
returns-then-not-is_header-clause-cut_off g c told =
    read_leaves g.D.Disk g.met.D.Disk.only_now c.args.disk (read_disk c.in-Ok.reader) _ (search rules) c.in-Ok.ensures.disk

pub returns-in-Err-take_records-clause-cut_off : goal.returns-in-Err-take_records-clause-cut_off
returns-in-Err-take_records-clause-cut_off g c told =
    read_leaves g.D.Disk g.met.D.Disk.only_now c.args.disk (read_disk c.take_records.new.reader) _ (search rules)
    (read_again g.D.Disk.tells g.D.Disk.seen g.D.Disk.may_leave g.D.Disk.moment g.D.Disk.left_since c.args.disk
    (read_disk c.in-Ok.reader) (read_disk c.take_records.new.reader)
    c.in-Ok.ensures.disk c.take_records.ensures.disk)

pub returns-then-not-is_header-clause-refused : goal.returns-then-not-is_header-clause-refused
returns-then-not-is_header-clause-refused g c told =
    let begun = c.in-Ok.ensures.begun told in
    other_header_at g.D.Disk (header_of c.in-Ok.reader) (read_disk c.in-Ok.reader) _ _
    (g.D.Disk.seen c.args.disk) begun.stands c.in-Ok.ensures.disk.seen_same
    (λ is. let yes = c.is_header.ensures.no (c.header.ensures ∙ is) in absurd (cc (rw c.if-not-is_header.true at yes)))

pub returns-in-Err-take_records-clause-refused : goal.returns-in-Err-take_records-clause-refused
returns-in-Err-take_records-clause-refused g c =
    says_so _ _ c.in-Err-take_records.e
    (λ at says told.
    let yes : IsTrue c.is_header.result = search rules in
    let first = taken_first g.D.Disk (header_of c.in-Ok.reader) c.in-Ok.reader
    (sym c.header.ensures ∙ c.is_header.ensures.yes yes)
    (c.in-Ok.ensures.begun told) in
    subst (λ (x : List ℕ). IsNoJournalAt x at) c.in-Ok.ensures.disk.seen_same
    (says (rw (c.new-restoration.ensures, c.new-made.ensures, c.new-noted.ensures) first)))
    c.in-Err-take_records.ensures.refused

pub returns-in-Ok-reopen-clause-opened : goal.returns-in-Ok-reopen-clause-opened
returns-in-Ok-reopen-clause-opened g c told =
    let yes : IsTrue c.is_header.result = search rules in
    let first = taken_first g.D.Disk (header_of c.in-Ok.reader) c.in-Ok.reader
    (sym c.header.ensures ∙ c.is_header.ensures.yes yes)
    (c.in-Ok.ensures.begun told) in
    let taken = c.in-Ok-take_records.ensures.taken
    (rw (c.new-restoration.ensures, c.new-made.ensures, c.new-noted.ensures) first) in
    let kept =
    taken_kept g.D.Disk c.take_records.new.restoration c.take_records.new.made c.take_records.new.noted
    c.take_records.new.reader c.into_log.result taken c.into_log.ensures.log in
    let read = read_so_far g.D.Disk c.args.disk c.in-Ok.reader c.take_records.new.reader c.into_log.result c.in-Ok.ensures.disk
    c.take_records.ensures.disk
    c.into_log.ensures.disk in
    record {
      before = c.take_records.new.restoration;
      notes = c.take_records.new.noted;
      stood = subst (λ (ms : List MadeObject). IsJournalWith c.take_records.new.restoration ms c.take_records.new.noted
          (g.D.Disk.seen c.args.disk))
          (sym c.in-Ok-reopen.ensures.objects)
          (stood_for g.D.Disk c.args.disk c.take_records.new.restoration c.take_records.new.made c.take_records.new.noted
          c.into_log.result read kept);
      did = c.in-Ok-reopen.ensures.did;
      noted = c.in-Ok-reopen.ensures.notes;
      kept = c.in-Ok-reopen.ensures.kept kept;
      counts = c.in-Ok-reopen.ensures.counts;
      any_moment =
          opening_leaves g.D.Disk g.met.D.Disk.only_now c.args.disk _ c.take_records.new.restoration c.take_records.new.made
          c.take_records.new.noted c.into_log.result read kept
          (c.in-Ok-reopen.ensures.any_moment kept);
      idle = λ is none. read_still g.D.Disk c.args.disk _ _ (c.in-Ok-reopen.ensures.idle is none) read;
    }

pub returns-in-Err-reopen-clause-cut_off : goal.returns-in-Err-reopen-clause-cut_off
returns-in-Err-reopen-clause-cut_off g c told =
    let yes : IsTrue c.is_header.result = search rules in
    let first = taken_first g.D.Disk (header_of c.in-Ok.reader) c.in-Ok.reader
    (sym c.header.ensures ∙ c.is_header.ensures.yes yes)
    (c.in-Ok.ensures.begun told) in
    let taken = c.in-Ok-take_records.ensures.taken
    (rw (c.new-restoration.ensures, c.new-made.ensures, c.new-noted.ensures) first) in
    let kept =
    taken_kept g.D.Disk c.take_records.new.restoration c.take_records.new.made c.take_records.new.noted
    c.take_records.new.reader c.into_log.result taken c.into_log.ensures.log in
    let read = read_so_far g.D.Disk c.args.disk c.in-Ok.reader c.take_records.new.reader c.into_log.result c.in-Ok.ensures.disk
    c.take_records.ensures.disk
    c.into_log.ensures.disk in
    opening_leaves g.D.Disk g.met.D.Disk.only_now c.args.disk _ c.take_records.new.restoration c.take_records.new.made
    c.take_records.new.noted c.into_log.result read kept
    (c.in-Err-reopen.ensures.cut_off kept)

pub returns-in-Err-reopen-clause-refused : goal.returns-in-Err-reopen-clause-refused
returns-in-Err-reopen-clause-refused g c = no_place _ c.in-Err-reopen.refusal.0 c.in-Err-reopen.ensures.error

pub returns-in-Err-reopen-clause-cause : goal.returns-in-Err-reopen-clause-cause
returns-in-Err-reopen-clause-cause g c =
    rw (c.into_log.ensures.disk, c.in-Ok-take_records.ensures.cause.same, c.in-Ok.ensures.no_fault) at
    c.in-Err-reopen.ensures.cause
