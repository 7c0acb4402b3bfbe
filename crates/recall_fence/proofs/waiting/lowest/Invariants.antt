use Rattle.std.proofs.Common.{◌≡◌, drop}
use Rattle.recall_fence.specs.Waiting.{lowest_with, lowest}
use Rattle.recall_fence.proofs.waiting.lowest.Given as goal

abbrev pub invariant-loop-number : goal.invariant-loop-number
invariant-loop-number l = lowest_with l.least (drop l.number-index l.fn.numbers) ≡ lowest l.fn.numbers
