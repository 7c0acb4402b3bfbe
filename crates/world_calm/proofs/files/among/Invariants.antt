use Rattle.std.proofs.Common.{◌≡◌, drop}
use Rattle.server_rules.specs.Numbers.{among}
use Rattle.world_calm.proofs.files.among.Given as goal

abbrev pub invariant-loop-one : goal.invariant-loop-one
invariant-loop-one l = among l.fn.number (drop l.one-index l.fn.numbers) ≡ among l.fn.number l.fn.numbers
