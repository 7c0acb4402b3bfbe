use Rattle.std.proofs.Common.{◌≡◌, drop}
use Rattle.std.specs.List.{fold}
use Rattle.world_calm.specs.Seeing.{notes}
use Rattle.world_calm.proofs.calm.Calm.note_all.Given as goal

abbrev pub invariant-loop-line : goal.invariant-loop-line
invariant-loop-line l =
    fold (notes l.fn.mended) l.self (drop l.line-index l.fn.rest)
    ≡ fold (notes l.fn.mended) l.fn.self l.fn.rest
