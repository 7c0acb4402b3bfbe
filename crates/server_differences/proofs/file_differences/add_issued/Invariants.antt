use Rattle.std.specs.Prelude.{◌≡◌, ◌++◌, drop}
use Rattle.server_differences.specs.FileDifferences.{issued_of}
use Rattle.server_differences.proofs.file_differences.add_issued.Given as goal

abbrev pub invariant-loop-grant : goal.invariant-loop-grant
invariant-loop-grant l =
    l.entries ++ issued_of l.fn.old (drop l.grant-index l.fn.grants) ≡ l.fn.entries ++ issued_of l.fn.old l.fn.grants
