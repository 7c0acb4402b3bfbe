use Rattle.std.proofs.Common.{◌≡◌, ◌++◌, take}
use Rattle.port_loop.proofs.session.append.Given as goal

abbrev pub invariant-loop-i : goal.invariant-loop-i
invariant-loop-i l = l.all ≡ l.initial.all ++ take l.i l.more
