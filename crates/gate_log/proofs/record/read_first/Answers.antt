use Rattle.std.proofs.Common.{ℕ, List, IsTrue, take, drop, sym, ◌∙◌, ap, subst}
use Rattle.osd_disk.proofs.Moments.{read_again}
use Rattle.gate_log.specs.declared.header.TheConstants.{HEADER_SIZE}
use Rattle.gate_log.proofs.Reading.{refused_same}
use Rattle.gate_log.proofs.Records.{header_parts}
use Rattle.gate_log.proofs.record.read_first.Goals as goal

pub returns-in-Ok-read_gate-clause-bytes : goal.returns-in-Ok-read_gate-clause-bytes
returns-in-Ok-read_gate-clause-bytes g c told =
    let bytes = g.D.Disk.seen c.args.disk.now in
    let one = c.sized_log.ensures.disk in
    let two = c.read_header.ensures.disk in
    let told1 = subst IsTrue (sym one.tells_same) told in
    let told2 = subst IsTrue (sym two.tells_same) told1 in (
      drop 1 (drop HEADER_SIZE bytes),
      header_parts bytes _ HEADER_SIZE _
          (c.in-Ok-read_header.ensures.bytes told1 ∙ ap (λ (l : List ℕ). take HEADER_SIZE l) one.seen_same)
          (c.in-Ok-read_gate.ensures.byte told2
          ∙ ap (λ (l : List ℕ). take 1 (drop HEADER_SIZE l)) (two.seen_same ∙ one.seen_same)),
    )

pub returns-in-Ok-read_gate-clause-durable : goal.returns-in-Ok-read_gate-clause-durable
returns-in-Ok-read_gate-clause-durable g c told = λ bytes left.
    let two = c.read_header.ensures.disk in
    let three = c.read_gate.ensures.disk in
    c.in-Ok.ensures.durable told bytes (two.narrows bytes (three.narrows bytes left)) ∙ sym (three.seen_same ∙ two.seen_same)

pub returns-in-Ok-read_gate-clause-disk : goal.returns-in-Ok-read_gate-clause-disk
returns-in-Ok-read_gate-clause-disk g c =
    read_again g.D.Disk.tells g.D.Disk.seen g.D.Disk.may_leave g.D.Disk.moment g.D.Disk.left_since c.args.disk.now
    c.read_header.new.disk c.read_gate.new.disk
    (read_again g.D.Disk.tells g.D.Disk.seen g.D.Disk.may_leave g.D.Disk.moment g.D.Disk.left_since c.args.disk.now
    c.sized_log.new.disk c.read_header.new.disk c.sized_log.ensures.disk c.read_header.ensures.disk)
    c.read_gate.ensures.disk

pub returns-in-Err-read_gate-clause-disk : goal.returns-in-Err-read_gate-clause-disk
returns-in-Err-read_gate-clause-disk g c =
    read_again g.D.Disk.tells g.D.Disk.seen g.D.Disk.may_leave g.D.Disk.moment g.D.Disk.left_since c.args.disk.now
    c.read_header.new.disk c.read_gate.new.disk
    (read_again g.D.Disk.tells g.D.Disk.seen g.D.Disk.may_leave g.D.Disk.moment g.D.Disk.left_since c.args.disk.now
    c.sized_log.new.disk c.read_header.new.disk c.sized_log.ensures.disk c.read_header.ensures.disk)
    c.read_gate.ensures.disk

pub returns-in-Err-read_header-clause-disk : goal.returns-in-Err-read_header-clause-disk
returns-in-Err-read_header-clause-disk g c =
    read_again g.D.Disk.tells g.D.Disk.seen g.D.Disk.may_leave g.D.Disk.moment g.D.Disk.left_since c.args.disk.now
    c.sized_log.new.disk c.read_header.new.disk c.sized_log.ensures.disk c.read_header.ensures.disk

pub returns-in-Err-read_header-clause-refused : goal.returns-in-Err-read_header-clause-refused
returns-in-Err-read_header-clause-refused g c =
    let one = c.sized_log.ensures.disk in
    refused_same (g.D.Disk.tells c.args.disk.now) (g.D.Disk.tells c.sized_log.new.disk) (g.D.Disk.seen c.args.disk.now)
    (g.D.Disk.seen c.sized_log.new.disk) c.in-Err-read_header.e
    one.tells_same one.seen_same c.in-Err-read_header.ensures.refused

pub returns-in-Err-read_gate-clause-refused : goal.returns-in-Err-read_gate-clause-refused
returns-in-Err-read_gate-clause-refused g c =
    let one = c.sized_log.ensures.disk in
    let two = c.read_header.ensures.disk in
    refused_same (g.D.Disk.tells c.args.disk.now) (g.D.Disk.tells c.read_header.new.disk) (g.D.Disk.seen c.args.disk.now)
    (g.D.Disk.seen c.read_header.new.disk) c.in-Err-read_gate.e
    (two.tells_same ∙ one.tells_same) (two.seen_same ∙ one.seen_same) c.in-Err-read_gate.ensures.refused
