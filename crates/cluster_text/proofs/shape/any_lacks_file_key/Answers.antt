use Rattle.std.proofs.Common.{◌∙◌, rules, tests}
use Rattle.std.proofs.lemmas.Iterator.{YieldsList-from_slice}
use Rattle.std.proofs.lemmas.Iterator.Search.{any_from_yields_List}
use Rattle.toml.specs.View.{table_view}
use Rattle.cluster_text.specs.Shape.{lacks_file_key}
use Rattle.cluster_text.proofs.Lists.{any_map}
use Rattle.cluster_text.proofs.shape.any_lacks_file_key.Goals as goal

pub returns : goal.returns
returns c =
    any_from_yields_List (λ t. lacks_file_key (table_view t.now)) _ _ _ c.any.ensures.ran
    (YieldsList-from_slice c.args.tables.now cc) (λ x b q k. search (rules, tests))
    ∙ any_map (lacks_file_key) (λ t. table_view t.now) c.args.tables.now
