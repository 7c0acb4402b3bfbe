use Rattle.std.proofs.Common.{◌≡◌}
use Rattle.std.specs.Prelude.{filter, is_none}
use Rattle.std.specs.List.{range_with_len}
use Rattle.data_map.specs.Striping.{position_of}
use Rattle.server_rules.specs.Standing.{replica}
use Rattle.stripe_repair.proofs.restored.lost_units.Given as goal

abbrev pub invariant-loop-unit : goal.invariant-loop-unit
invariant-loop-unit l =
    l.out ≡ filter (λ c. is_none (replica l.fn.map l.fn.components (position_of l.fn.map l.stripe c))) (range_with_len 0 l.unit)
