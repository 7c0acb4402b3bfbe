use Rattle.std.proofs.Common.{◌∙◌, rules, tests}
use Rattle.std.proofs.lemmas.Iterator.{YieldsList-from_slice}
use Rattle.std.proofs.lemmas.Iterator.Search.{any_from_yields_List}
use Rattle.toml.specs.View.{table_view}
use Rattle.cluster_text.specs.Shape.{has_other_key}
use Rattle.cluster_text.proofs.Lists.{any_map}
use Rattle.cluster_text.proofs.shape.any_has_other_key.Goals as goal

pub returns : goal.returns
returns c =
    any_from_yields_List (λ t. has_other_key c.args.section (table_view t.now)) _ _ _ c.any.ensures.ran
    (YieldsList-from_slice c.args.tables.now cc) (λ x b q k. search (rules, tests))
    ∙ any_map (has_other_key c.args.section) (λ t. table_view t.now) c.args.tables.now
