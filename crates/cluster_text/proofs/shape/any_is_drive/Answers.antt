use Rattle.std.proofs.Common.{◌∙◌, rules, tests}
use Rattle.std.proofs.lemmas.Iterator.{YieldsList-from_slice}
use Rattle.std.proofs.lemmas.Iterator.Search.{any_from_yields_List}
use Rattle.toml.specs.View.{table_view}
use Rattle.cluster_text.specs.Shape.{is_drive}
use Rattle.cluster_text.proofs.Lists.{any_map}
use Rattle.cluster_text.proofs.shape.any_is_drive.Goals as goal

pub returns : goal.returns
returns c =
    any_from_yields_List (λ t. is_drive c.args.number (table_view t.now)) _ _ _ c.any.ensures.ran
    (YieldsList-from_slice c.args.tables.now cc) (λ x b q k. search (rules, tests))
    ∙ any_map (is_drive c.args.number) (λ t. table_view t.now) c.args.tables.now
