use Rattle.std.proofs.Common.{◌≡◌, ◌+◌, ◌-◌, ◌≤◌, length, false}
use Rattle.std.specs.Io.KnownBytes.{Consumes}
use Rattle.osd_bytes.specs.Lines.{NoNewline}
use Rattle.osd_bytes.specs.Reading.{known_of, ReadsOn, SeesEnd}
use Rattle.osd_bytes.specs.declared.lines.TheConstants.{MAX_INPUT, MAX_LINE, MAX_READ}
use Rattle.osd_bytes.proofs.lines.line_from.Given as goal

abbrev pub invariant-pieces : goal.invariant-pieces
invariant-pieces g l =
    (l.taken ≤ MAX_INPUT)
    × (l.taken ≡ l.initial.taken + length l.line)
    × (length l.line ≤ MAX_LINE + 1)
    × NoNewline l.line
    × (g.S.Source.faults l.s ≡ g.S.Source.faults l.initial.s)
    × Consumes (known_of l.initial.window (g.S.Source.left l.initial.s)) (known_of l.window (g.S.Source.left l.s)) l.line
    × (g.S.Source.loan l.s ≡ g.S.Source.loan l.initial.s)
    × SeesEnd l.initial.window.ended (g.S.Source.left l.initial.s) l.window.ended (g.S.Source.left l.s)
    × (l.window.ended ≡ false → l.initial.window.ended ≡ false)
    × (l.taken + length l.window.bytes ≤ MAX_READ)
    × ReadsOn (l.initial.taken + length l.initial.window.bytes) (l.taken + length l.window.bytes)
    (g.S.Source.left l.initial.s) (g.S.Source.left l.s)

abbrev pub decreases-pieces : goal.decreases-pieces
decreases-pieces g l = MAX_LINE + 1 - length l.line
