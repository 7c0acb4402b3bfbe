use Rattle.std.proofs.Common.{◌≡◌, take}
use Rattle.server_differences.proofs.sameness.are_same_slots.Given as goal

abbrev pub invariant-loop-i : goal.invariant-loop-i
invariant-loop-i l = take l.i l.fn.a ≡ take l.i l.fn.b
