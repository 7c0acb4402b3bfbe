use Rattle.std.proofs.Common.{◌∙◌, is_some, sym, rules, tests}
use Rattle.std.proofs.lemmas.Iterator.{YieldsList-from_slice}
use Rattle.std.proofs.lemmas.Iterator.Search.{all_from_yields_List}
use Rattle.std.proofs.lemmas.List.Folds.{list_all-map}
use Rattle.toml.specs.Data.{as_table}
use Rattle.toml.specs.View.{view}
use Rattle.cluster_text.proofs.Lists.{is_some_map}
use Rattle.cluster_text.proofs.tables.are_tables.Goals as goal

pub returns : goal.returns
returns c =
    all_from_yields_List (λ v. is_some (as_table (view v))) _ _ _ c.all.ensures.ran
    (YieldsList-from_slice c.args.values.now cc) (λ x b q k. search (rules, tests, is_some_map))
    ∙ sym (list_all-map (λ value. is_some (as_table value)) view c.args.values.now)
