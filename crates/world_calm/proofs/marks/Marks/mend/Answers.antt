use Rattle.std.proofs.Common.{rules, tests, ap, ◌∙◌}
use Rattle.std.specs.Prelude.{filter}
use Rattle.std.proofs.lemmas.Fn.{filter_same}
use Rattle.world_calm.specs.Marking.{has_stripes, all_mended}
use Rattle.world_calm.proofs.marks.Marks.mend.Goals as goal

pub returns : goal.returns
returns c =
    filter_same _ has_stripes _ (λ x b q k. search (rules, tests)) _ _ c.retain.ensures.filtered
    ∙ ap (filter has_stripes) c.in_ok-mend_all.ensures ∙ ap (λ ms. all_mended ms c.args.mended.now) c.self.view_is
