use Rattle.std.proofs.Common.{◌≡◌, drop}
use Rattle.std.specs.Prelude.{◌==◌, find}
use Rattle.server_rules.specs.declared.notes.Mended.{Mended}
use Rattle.world_calm.proofs.looking.mended_of.Given as goal

abbrev pub invariant-loop-repair : goal.invariant-loop-repair
invariant-loop-repair l =
    find (λ (r : Mended). r.file == l.fn.file) (drop l.repair-index l.fn.mended)
    ≡ find (λ (r : Mended). r.file == l.fn.file) l.fn.mended
