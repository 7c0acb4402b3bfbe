use Rattle.std.proofs.Common.{rules, List, ℕ, sym, ◌∙◌, subst}
use Rattle.osd_disk.proofs.Moments.{read_again}
use Rattle.gate_log.specs.Standing.{HasRead, read_disk}
use Rattle.gate_log.proofs.Reading.{refused_later}
use Rattle.gate_log.proofs.opening.read_bodies.Goals as goal

pub records-preserved : goal.records-preserved
records-preserved g c =
    let so_far = c.records.invariant in
    record {
      read = λ header h.
          let next = (rw c.in-Ok-Some.field-0-is at c.in-Ok-Some.ensures.body) in
          subst (λ (l : List (List ℕ)). HasRead g.D.Disk.tells g.D.Disk.seen g.D.Disk.may_leave header l c.next.new.self)
          (sym c.in_ok-push.ensures.ok) (next header c.records.bodies (so_far.read header h));
      header = c.next.ensures.header ∙ so_far.header;
      disk = read_again g.D.Disk.tells g.D.Disk.seen g.D.Disk.may_leave g.D.Disk.moment g.D.Disk.left_since
          (read_disk c.args.reader.now) (read_disk c.records.reader) (read_disk c.next.new.self) so_far.disk c.next.ensures.disk;
      count = search rules;
    }

pub returns-in-Ok-None-clause-read : goal.returns-in-Ok-None-clause-read
returns-in-Ok-None-clause-read g c =
    λ header h. (c.in-Ok-None.ensures.end c.in-Ok-None.field-0-is).1 header c.records.bodies (c.records.invariant.read header h)

pub returns-in-Ok-None-clause-end : goal.returns-in-Ok-None-clause-end
returns-in-Ok-None-clause-end g c = (c.in-Ok-None.ensures.end c.in-Ok-None.field-0-is).0

pub returns-in-Ok-None-clause-disk : goal.returns-in-Ok-None-clause-disk
returns-in-Ok-None-clause-disk g c =
    read_again g.D.Disk.tells g.D.Disk.seen g.D.Disk.may_leave g.D.Disk.moment g.D.Disk.left_since (read_disk c.args.reader.now)
    (read_disk c.records.reader) (read_disk c.next.new.self) c.records.invariant.disk c.next.ensures.disk

pub returns-in-Err-clause-disk : goal.returns-in-Err-clause-disk
returns-in-Err-clause-disk g c =
    read_again g.D.Disk.tells g.D.Disk.seen g.D.Disk.may_leave g.D.Disk.moment g.D.Disk.left_since (read_disk c.args.reader.now)
    (read_disk c.records.reader) (read_disk c.next.new.self) c.records.invariant.disk c.next.ensures.disk

pub returns-in_err-push-clause-disk : goal.returns-in_err-push-clause-disk
returns-in_err-push-clause-disk g c =
    read_again g.D.Disk.tells g.D.Disk.seen g.D.Disk.may_leave g.D.Disk.moment g.D.Disk.left_since (read_disk c.args.reader.now)
    (read_disk c.records.reader) (read_disk c.next.new.self) c.records.invariant.disk c.next.ensures.disk

pub returns-in-Err-clause-refused : goal.returns-in-Err-clause-refused
returns-in-Err-clause-refused g c =
    refused_later g.D.Disk.tells g.D.Disk.seen g.D.Disk.may_leave c.args.reader.now c.records.reader c.records.bodies c.in-Err.e
    c.records.invariant.disk.seen_same c.records.invariant.read c.in-Err.ensures.refused
