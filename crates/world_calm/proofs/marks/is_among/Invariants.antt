use Rattle.std.proofs.Common.{◌≡◌, drop}
use Rattle.server_rules.specs.Numbers.{among}
use Rattle.world_calm.proofs.marks.is_among.Given as goal

abbrev pub invariant-loop-one : goal.invariant-loop-one
invariant-loop-one l = among l.fn.stripe (drop l.one-index l.fn.short) ≡ among l.fn.stripe l.fn.short
