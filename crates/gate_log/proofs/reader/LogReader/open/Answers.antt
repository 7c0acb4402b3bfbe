use Rattle.std.proofs.Common.{IsTrue, length, refl, sym, ◌∙◌, ap, subst, List, ℕ}
use Rattle.gate_log.specs.declared.header.TheConstants.{HEADER_SIZE}
use Rattle.gate_log.proofs.Reading.{begins, refused_short}
use Rattle.gate_log.proofs.reader.LogReader.open.Goals as goal

pub returns-in-Ok-clause-begun : goal.returns-in-Ok-clause-begun
returns-in-Ok-clause-begun g c told =
    let first = c.in-Ok.first in
    let same = c.in-Ok.ensures.disk.seen_same in
    let bytes = c.in-Ok.ensures.bytes told in
    record {
      stands = begins g.D.Disk.tells g.D.Disk.seen g.D.Disk.may_leave g.D.Disk.moment g.D.Disk.left_since first.header.bytes
          bytes.0 c.read_first.new.disk first.gate HEADER_SIZE
          (subst IsTrue (sym c.in-Ok.ensures.disk.tells_same) told) c.in-Ok.ensures.whole refl (same ∙ bytes.1)
          (c.in-Ok.ensures.durable told);
      sized = c.in-Ok.ensures.sized told ∙ ap (λ (l : List ℕ). length l) (sym same);
    }

pub returns-in-Err-clause-refused : goal.returns-in-Err-clause-refused
returns-in-Err-clause-refused g c =
    refused_short (g.D.Disk.tells c.args.disk) (g.D.Disk.seen c.args.disk) c.in-Err.e c.in-Err.ensures.refused
