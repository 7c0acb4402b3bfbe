use Rattle.std.specs.Prelude.{◌≡◌, ◌++◌, drop}
use Rattle.server_journal.specs.Journals.{core_of}
use Rattle.stored_server.specs.Differences.{files_differences}
use Rattle.stored_server.proofs.differences.add_files.Given as goal

abbrev pub invariant-loop-file : goal.invariant-loop-file
invariant-loop-file g l =
    l.differences ++ files_differences (core_of l.fn.journal).files (drop l.file-index l.fn.text)
    ≡ l.fn.differences ++ files_differences (core_of l.fn.journal).files l.fn.text
