use Rattle.std.proofs.Common.{◌∙◌}
use Rattle.std.proofs.lemmas.Result.{err_from_is_err_and}
use Rattle.osd_disk.proofs.Moments.{read_again}
use Rattle.gate_log.specs.Standing.{read_disk}
use Rattle.server_journal.proofs.OpeningLaws.{broken_told, not_taken, taken_more, taken_none}
use Rattle.server_journal.proofs.opening.take_records.Goals as goal

pub returns-in_err-body-clause-refused : goal.returns-in_err-body-clause-refused
returns-in_err-body-clause-refused g c =
    let told = err_from_is_err_and c.from_residual.result c.from_residual.ensures.1 in
    rw (told.1, told.2)
    (broken_told g.D.Disk c.loop-body.restoration c.loop-body.made c.loop-body.noted c.loop-body.reader
    (g.D.Disk.seen (read_disk c.args.reader.now)) c.in_err-body.field-0.0 _
    c.loop-body.invariant.taken c.in_err-body.ensures.refused c.loop-body.invariant.disk.seen_same)

pub returns-in-Unmade-clause-refused : goal.returns-in-Unmade-clause-refused
returns-in-Unmade-clause-refused g c t =
    let so_far = c.loop-body.invariant in
    let said = rw (c.in-Unmade.is, c.as_slice.ensures) at c.in_ok-take_record.ensures.taken in
    let reads = rw c.in-Some.is at c.in_ok-body.ensures.body in
    not_taken g.D.Disk c.loop-body.restoration c.loop-body.made c.loop-body.noted c.in-Some.body c.loop-body.reader
    c.next.new.self
    (g.D.Disk.seen (read_disk c.args.reader.now)) c.loop-body.at
    (so_far.taken t) said reads so_far.disk.seen_same (c.next.ensures.disk.seen_same ∙ so_far.disk.seen_same) so_far.place

pub loop-body-preserved : goal.loop-body-preserved
loop-body-preserved g c =
    let so_far = c.loop-body.invariant in
    let leads = rw (c.in-Done.is, c.as_slice.ensures) at c.in_ok-take_record.ensures.taken in
    let tells = rw c.as_slice.ensures at c.in_ok-take_record.ensures.made in
    let keeps = rw c.as_slice.ensures at c.in_ok-take_record.ensures.noted in
    let reads = rw c.in-Some.is at c.in_ok-body.ensures.body in
    record {
      taken = λ t. taken_more g.D.Disk c.loop-body.restoration c.take_record.new.restoration c.loop-body.made
          c.take_record.new.made
          c.loop-body.noted c.take_record.new.noted c.in-Some.body c.loop-body.reader c.next.new.self (so_far.taken t) leads tells
          keeps reads;
      place = c.place-at-in-Some.ensures.place;
      disk = read_again g.D.Disk.tells g.D.Disk.seen g.D.Disk.may_leave g.D.Disk.moment g.D.Disk.left_since
          (read_disk c.args.reader.now) (read_disk c.loop-body.reader)
          (read_disk c.next.new.self) so_far.disk c.next.ensures.disk;
      count = c.in_ok-body.ensures.cause.same ∙ so_far.count;
    }

pub returns-clause-taken : goal.returns-clause-taken
returns-clause-taken g c t =
    taken_none g.D.Disk c.loop-body.restoration c.loop-body.made c.loop-body.noted c.loop-body.reader c.next.new.self
    (c.loop-body.invariant.taken t)
    (c.in_ok-body.ensures.end c.in_default.is).1
