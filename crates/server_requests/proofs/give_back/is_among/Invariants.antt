use Rattle.std.proofs.Common.{◌≡◌, drop}
use Rattle.server_rules.specs.Numbers.{among}
use Rattle.server_requests.proofs.give_back.is_among.Given as goal

abbrev pub invariant-loop-other : goal.invariant-loop-other
invariant-loop-other l = among l.number (drop l.other-index l.fn.numbers) ≡ among l.number l.fn.numbers
