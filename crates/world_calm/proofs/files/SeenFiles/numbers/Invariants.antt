use Rattle.std.proofs.Common.{◌≡◌, ◌++◌, map}
use Rattle.world_calm.proofs.files.SeenFiles.numbers.Given as goal

abbrev pub invariant-loop-number : goal.invariant-loop-number
invariant-loop-number l = l.numbers ++ map (λ e. e.0) l.number-iterator ≡ map (λ e. e.0) l.fn.self.files
