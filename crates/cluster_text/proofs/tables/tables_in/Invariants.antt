use Rattle.std.proofs.Common.{◌≡◌, ◌++◌, drop, map}
use Rattle.toml.specs.View.{table_view, view}
use Rattle.cluster_text.specs.Tables.{tables_in}
use Rattle.cluster_text.proofs.tables.tables_in.Given as goal

abbrev pub invariant-loop-value : goal.invariant-loop-value
invariant-loop-value l =
    map (λ t. table_view t.now) l.tables.items ++ tables_in (map view (drop l.value-index l.fn.values))
    ≡ tables_in (map view l.fn.values)
