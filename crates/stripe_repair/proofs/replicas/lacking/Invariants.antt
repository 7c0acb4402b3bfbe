use Rattle.std.proofs.Common.{◌≡◌, ◌*◌}
use Rattle.std.specs.Prelude.{filter, is_none}
use Rattle.std.specs.List.{range_with_len}
use Rattle.data_map.specs.Striping.{group_width}
use Rattle.server_rules.specs.Standing.{replica}
use Rattle.stripe_repair.proofs.replicas.lacking.Given as goal

abbrev pub invariant-loop-i : goal.invariant-loop-i
invariant-loop-i l =
    l.out ≡ filter (λ p. is_none (replica l.fn.map l.fn.components p)) (range_with_len (l.group * group_width l.fn.map) l.i)
