use Rattle.std.specs.Prelude.{◌++◌}
use Rattle.server_state.specs.Tables.{files_in}
use Rattle.server_differences.specs.Differences.{files_entries}
use Rattle.server_differences.proofs.DifferenceLaws.{SoFar}
use Rattle.server_differences.proofs.state_differences.add_files.Given as goal

abbrev pub invariant-loop-number : goal.invariant-loop-number
invariant-loop-number l =
    SoFar l.fn.old.entries l.number-iterator l.entries
    (l.fn.entries ++ files_entries (files_in l.fn.old.entries) (files_in l.fn.files.entries))
