use Rattle.std.proofs.Common.{◌≡◌, ◌+◌, drop}
use Rattle.server_state.specs.Kept.{place_in}
use Rattle.server_state.proofs.slots.place_of.Given as goal

abbrev pub invariant-loop-i : goal.invariant-loop-i
invariant-loop-i l = place_in (drop l.i l.fn.slots) l.client + l.i ≡ place_in l.fn.slots l.client
