use Rattle.std.proofs.Common.{◌≡◌, drop}
use Rattle.std.specs.List.{fold}
use Rattle.world_calm.specs.Log.{finished}
use Rattle.world_calm.proofs.calls.finish_all.Given as goal

abbrev pub invariant-loop-number : goal.invariant-loop-number
invariant-loop-number l =
    fold finished l.log (drop l.number-index l.fn.numbers) ≡ fold finished l.fn.log l.fn.numbers
