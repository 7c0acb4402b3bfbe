use Rattle.std.proofs.Common.{◌≡◌, map, subst}
use Rattle.std.specs.Result.{IfOk}
use Rattle.toml.specs.View.{table_view, view}
use Rattle.cluster_text.proofs.Lists.{same_tables}
use Rattle.cluster_text.proofs.tables.tables_at.Goals as goal

pub returns-in-Some-as_array : goal.returns-in-Some-as_array
returns-in-Some-as_array c =
    subst (λ all. IfOk c.tables_in.result (λ tables. map (λ t. table_view t.now) tables.items ≡ all))
    (same_tables c.args.key.now (table_view c.args.table.now)
    (view c.in-Some.value.now) c.in-Some-as_array.values.now.items c.as_slice.result.now
    c.in-Some.ensures c.in-Some-as_array.ensures c.as_slice.ensures.value) c.tables_in.ensures
