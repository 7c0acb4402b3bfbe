use Rattle.std.specs.Prelude.{◌==◌, not}
use Rattle.std.proofs.Common.{rules, tests, ap, ◌∙◌}
use Rattle.std.proofs.lemmas.Fn.{filter_same}
use Rattle.world_calm.specs.Marking.{Marked, unmarked}
use Rattle.world_calm.proofs.marks.Marks.finish.Goals as goal

pub returns : goal.returns
returns c =
    filter_same _ (λ (m : Marked). not (m.write == c.args.write)) _
    (λ x b q k. search (rules, tests)) _ _ c.retain.ensures.filtered
    ∙ ap (λ ms. unmarked ms c.args.write) c.self.view_is
