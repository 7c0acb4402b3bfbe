use Rattle.std.proofs.Common.{◌≡◌, ◌++◌, take, map}
use Rattle.scenario_text.specs.Words.{behind}
use Rattle.scenario_text.specs.Written.{written}
use Rattle.scenario_text.proofs.write.put.Given as goal

abbrev pub invariant-loop-word : goal.invariant-loop-word
invariant-loop-word l = l.out ≡ l.initial.out ++ behind 32 (map written (take l.word-index l.words))
