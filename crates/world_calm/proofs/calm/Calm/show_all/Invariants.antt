use Rattle.std.proofs.Common.{◌≡◌, drop}
use Rattle.world_calm.specs.Seeing.{shows_all}
use Rattle.world_calm.proofs.calm.Calm.show_all.Given as goal

abbrev pub invariant-loop-file : goal.invariant-loop-file
invariant-loop-file g l =
    shows_all (g.S.KeptFiles.kept_of l.fn.server) l.self (drop l.file-index l.fn.files)
    ≡ shows_all (g.S.KeptFiles.kept_of l.fn.server) l.fn.self l.fn.files
