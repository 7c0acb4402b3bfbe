use Rattle.std.specs.Prelude.{◌≡◌, ◌++◌, drop}
use Rattle.server_differences.specs.FileDifferences.{returned_of}
use Rattle.server_differences.proofs.file_differences.add_returned.Given as goal

abbrev pub invariant-loop-was : goal.invariant-loop-was
invariant-loop-was l =
    l.entries ++ returned_of (drop l.was-index l.fn.old) l.fn.grants ≡ l.fn.entries ++ returned_of l.fn.old l.fn.grants
