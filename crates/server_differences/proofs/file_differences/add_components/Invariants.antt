use Rattle.std.specs.Prelude.{◌≡◌, ◌++◌, drop}
use Rattle.server_differences.specs.FileDifferences.{components_entries}
use Rattle.server_differences.proofs.file_differences.add_components.Given as goal

abbrev pub invariant-loop-k : goal.invariant-loop-k
invariant-loop-k l =
    l.entries ++ components_entries l.fn.file l.k (drop l.k l.fn.old)
    (drop l.k l.fn.components) ≡ l.fn.entries ++ components_entries l.fn.file 0 l.fn.old l.fn.components
