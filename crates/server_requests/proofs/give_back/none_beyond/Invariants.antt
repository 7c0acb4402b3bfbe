use Rattle.std.proofs.Common.{◌≡◌, drop}
use Rattle.server_rules.specs.Return.{none_beyond}
use Rattle.server_requests.proofs.give_back.none_beyond.Given as goal

abbrev pub invariant-loop-number : goal.invariant-loop-number
invariant-loop-number l =
    none_beyond l.fn.map l.fn.components (drop l.number-index l.fn.numbers) ≡ none_beyond l.fn.map l.fn.components l.fn.numbers
