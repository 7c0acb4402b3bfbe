use Rattle.std.proofs.Common.{rules}
use Rattle.std.proofs.Math.Seq.{take-add}
use Rattle.osd_bytes.proofs.Known.{Appends-then}
use Rattle.osd_bytes.proofs.put.put_all.Goals as goal

pub loop-at-preserved : goal.loop-at-preserved
loop-at-preserved g c =
    (search rules, rw take-add (Appends-then _ _ _ _ _ c.loop-at.invariant.1 (search rules)), search rules, search rules)
