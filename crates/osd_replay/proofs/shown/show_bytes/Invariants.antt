use Rattle.std.proofs.Common.{take}
use Rattle.history_claims.specs.Carried.{AreCarried}
use Rattle.osd_replay.proofs.shown.show_bytes.Given as goal

abbrev pub invariant-loop-line : goal.invariant-loop-line
invariant-loop-line l = AreCarried (take l.line-index l.lines)
