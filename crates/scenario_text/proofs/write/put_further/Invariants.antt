use Rattle.std.proofs.Common.{◌≡◌, ◌++◌, take, map}
use Rattle.std.specs.Fmt.{decimal}
use Rattle.scenario_text.specs.Words.{behind}
use Rattle.scenario_text.proofs.write.put_further.Given as goal

abbrev pub invariant-loop-position : goal.invariant-loop-position
invariant-loop-position l = l.out ≡ l.initial.out ++ behind 44 (map decimal (take l.position-index l.positions))
