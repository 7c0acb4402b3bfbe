use Rattle.std.specs.Prelude.{◌≡◌, ◌++◌, drop}
use Rattle.stored_server.specs.Differences.{further_files}
use Rattle.stored_server.proofs.differences.add_further_files.Given as goal

abbrev pub invariant-loop-number : goal.invariant-loop-number
invariant-loop-number l =
    l.differences ++ further_files l.fn.text (drop l.number-index l.fn.numbers)
    ≡ l.fn.differences ++ further_files l.fn.text l.fn.numbers
