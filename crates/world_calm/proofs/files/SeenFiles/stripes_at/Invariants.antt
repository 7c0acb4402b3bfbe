use Rattle.std.proofs.Common.{◌≡◌, ◌++◌}
use Rattle.world_calm.specs.Files.{stripes_in}
use Rattle.world_calm.proofs.files.SeenFiles.stripes_at.Given as goal

abbrev pub invariant-loop-number : goal.invariant-loop-number
invariant-loop-number l =
    l.stripes ++ stripes_in l.number-iterator l.fn.drive l.fn.object l.fn.offset
    ≡ stripes_in l.fn.self.files l.fn.drive l.fn.object l.fn.offset
