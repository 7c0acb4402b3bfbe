use Rattle.std.proofs.Common.{◌≡◌, drop}
use Rattle.std.specs.List.{fold}
use Rattle.world_calm.specs.Marking.{unmarked}
use Rattle.world_calm.proofs.marks.finish_all.Given as goal

abbrev pub invariant-loop-number : goal.invariant-loop-number
invariant-loop-number l =
    fold unmarked l.marks (drop l.number-index l.fn.numbers) ≡ fold unmarked l.fn.marks l.fn.numbers
