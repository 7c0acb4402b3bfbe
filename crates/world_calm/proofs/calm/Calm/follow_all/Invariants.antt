use Rattle.std.proofs.Common.{◌≡◌, drop}
use Rattle.std.specs.List.{fold}
use Rattle.world_calm.specs.Seeing.{follows}
use Rattle.world_calm.proofs.calm.Calm.follow_all.Given as goal

abbrev pub invariant-loop-line : goal.invariant-loop-line
invariant-loop-line g l =
    fold (follows (g.S.KeptFiles.kept_of l.fn.server)) l.self (drop l.line-index l.fn.lines)
    ≡ fold (follows (g.S.KeptFiles.kept_of l.fn.server)) l.fn.self l.fn.lines
