use Rattle.std.proofs.Common.{◌≡◌, drop}
use Rattle.server_rules.specs.Slots.{slot_of}
use Rattle.server_state.proofs.slots.slot_of.Given as goal

abbrev pub invariant-loop-slot : goal.invariant-loop-slot
invariant-loop-slot l = slot_of (drop l.slot-index l.fn.slots) l.client ≡ slot_of l.fn.slots l.client
