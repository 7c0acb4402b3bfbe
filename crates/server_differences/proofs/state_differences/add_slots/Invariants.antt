use Rattle.std.specs.Prelude.{◌≡◌, ◌++◌, drop}
use Rattle.server_differences.specs.Differences.{slots_entries}
use Rattle.server_differences.proofs.state_differences.add_slots.Given as goal

abbrev pub invariant-loop-slot : goal.invariant-loop-slot
invariant-loop-slot l =
    l.entries ++ slots_entries l.fn.old (drop l.slot-index l.fn.slots) ≡ l.fn.entries ++ slots_entries l.fn.old l.fn.slots
