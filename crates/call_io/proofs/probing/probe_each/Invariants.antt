use Rattle.std.proofs.Common.{◌≡◌, ◌++◌, ◌-◌}
use Rattle.client_rules.specs.Reads.{probe_each}
use Rattle.call_io.proofs.probing.probe_each.Given as goal

abbrev pub invariant-loop-position : goal.invariant-loop-position
invariant-loop-position l =
    l.asks ++ probe_each l.fn.held l.fn.out.components l.fn.have l.position (l.end - l.position)
    ≡ probe_each l.fn.held l.fn.out.components l.fn.have l.fn.first (l.fn.end - l.fn.first)
