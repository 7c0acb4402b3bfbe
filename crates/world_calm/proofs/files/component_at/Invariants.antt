use Rattle.std.proofs.Common.{◌≡◌, drop}
use Rattle.world_history.specs.Stripes.{component_at}
use Rattle.world_calm.proofs.files.component_at.Given as goal

abbrev pub invariant-loop-at : goal.invariant-loop-at
invariant-loop-at l =
    (l.k ≡ l.at-index)
    × (component_at l.fn.drive l.fn.object (drop l.at-index l.fn.components) l.k
    ≡ component_at l.fn.drive l.fn.object l.fn.components 0)
