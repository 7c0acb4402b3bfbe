use Rattle.std.proofs.Common.{◌≡◌, drop}
use Rattle.world_calm.specs.Seeing.{marks_all}
use Rattle.world_calm.proofs.calm.Calm.mark_all.Given as goal

abbrev pub invariant-loop-stripe : goal.invariant-loop-stripe
invariant-loop-stripe g l =
    marks_all (g.S.KeptFiles.kept_of l.fn.server) l.self l.fn.write l.fn.entry (drop l.stripe-index l.fn.stripes)
    ≡ marks_all (g.S.KeptFiles.kept_of l.fn.server) l.fn.self l.fn.write l.fn.entry l.fn.stripes
