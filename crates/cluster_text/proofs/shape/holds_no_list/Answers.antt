use Rattle.toml.specs.View.{table_view, view}
use Rattle.cluster_text.proofs.Lists.{no_list}
use Rattle.cluster_text.proofs.shape.holds_no_list.Goals as goal

pub returns-in-Some-as_array : goal.returns-in-Some-as_array
returns-in-Some-as_array c =
    no_list c.args.key.now (table_view c.args.table.now)
    (view c.in-Some.value.now) c.in-Some-as_array.values.now.items c.as_slice.result.now c.are_tables.result
    c.in-Some.ensures c.in-Some-as_array.ensures c.as_slice.ensures.value c.are_tables.ensures
