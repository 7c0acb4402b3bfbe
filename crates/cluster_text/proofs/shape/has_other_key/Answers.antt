use Rattle.std.proofs.Common.{◌∙◌, not, string_bytes, rules, tests}
use Rattle.std.proofs.lemmas.Iterator.Consumers.{YieldsList-from_rest}
use Rattle.std.proofs.lemmas.Iterator.Search.{any_from_yields_List}
use Rattle.std.specs.Map.{keys_of}
use Rattle.cluster_text.specs.Shape.{is_key}
use Rattle.cluster_text.proofs.Lists.{any_key}
use Rattle.cluster_text.proofs.shape.has_other_key.Goals as goal

pub returns : goal.returns
returns c =
    any_from_yields_List (λ key. not (is_key c.args.section (string_bytes key))) _ _ _ c.any.ensures.ran
    (YieldsList-from_rest (keys_of c.args.table.now.entries) c.keys.ensures.rest) (λ x b q k. search (rules, tests))
    ∙ any_key (λ key. not (is_key c.args.section key)) c.args.table.now.entries
