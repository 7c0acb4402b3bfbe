use Rattle.std.proofs.Common.{◌≡◌}
use Rattle.std.specs.Prelude.{map}
use Rattle.std.specs.List.{range_with_len}
use Rattle.data_map.specs.Striping.{position_of}
use Rattle.server_rules.specs.Columns.{row_at}
use Rattle.server_rules.specs.Standing.{replica}
use Rattle.stripe_repair.proofs.rows.unit_rows.Given as goal

abbrev pub invariant-loop-unit : goal.invariant-loop-unit
invariant-loop-unit l =
    l.rows ≡ map (λ c. row_at l.fn.heard (replica l.fn.map l.fn.components (position_of l.fn.map l.stripe c)) l.count)
    (range_with_len 0 l.unit)
