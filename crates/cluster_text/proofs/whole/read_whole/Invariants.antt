use Rattle.std.proofs.Common.{◌≡◌, ◌≤◌, ◌-◌, length}
use Rattle.std.specs.Io.KnownBytes.{Consumes}
use Rattle.osd_bytes.specs.declared.lines.TheConstants.{MAX_INPUT}
use Rattle.cluster_text.proofs.whole.read_whole.Given as goal

abbrev pub invariant-pieces : goal.invariant-pieces
invariant-pieces g l =
    (length l.bytes ≤ MAX_INPUT)
    × Consumes (g.S.Source.left l.initial.source) (g.S.Source.left l.source) l.bytes
    × (g.S.Source.faults l.source ≡ g.S.Source.faults l.initial.source)
    × (g.S.Source.loan l.source ≡ g.S.Source.loan l.initial.source)

abbrev pub decreases-pieces : goal.decreases-pieces
decreases-pieces g l = MAX_INPUT - length l.bytes
