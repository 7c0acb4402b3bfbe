use Rattle.std.proofs.Common.{◌≡◌, drop}
use Rattle.world_watch.specs.Sighted.{first_same}
use Rattle.world_watch.proofs.sightings.first_same.Given as goal

abbrev pub invariant-loop-number : goal.invariant-loop-number
invariant-loop-number l =
    first_same l.fn.network.messages l.fn.drive l.fn.bytes (drop l.number-index l.fn.numbers)
    ≡ first_same l.fn.network.messages l.fn.drive l.fn.bytes l.fn.numbers
