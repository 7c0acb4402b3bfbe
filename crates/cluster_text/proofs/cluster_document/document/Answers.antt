use Rattle.std.proofs.Common.{inr, refl}
use Rattle.toml.specs.View.{table_view}
use Rattle.cluster_text.proofs.Judging.{no_text, spelled}
use Rattle.cluster_text.proofs.cluster_document.document.Goals as goal

pub returns-in_default-clause-err : goal.returns-in_default-clause-err
returns-in_default-clause-err c = inr (refl, no_text c.args.text.now c.in_default.ensures.cases.0)

pub returns-in-Ok-table_from_str-clause-ok : goal.returns-in-Ok-table_from_str-clause-ok
returns-in-Ok-table_from_str-clause-ok c =
    spelled c.args.text.now c.in-Ok.text.now
    (table_view c.in-Ok-table_from_str.table) c.in-Ok.ensures.cases.0 c.in-Ok.ensures.cases.1
    c.in-Ok-table_from_str.ensures.ok
