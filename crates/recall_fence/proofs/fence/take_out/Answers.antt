use Rattle.std.specs.Prelude.{ℕ, ◌==◌, not}
use Rattle.std.proofs.Common.{rules, tests}
use Rattle.std.proofs.lemmas.Fn.{filter_same}
use Rattle.recall_fence.proofs.fence.take_out.Goals as goal

pub returns : goal.returns
returns c = filter_same _ (λ (n : ℕ). not (n == c.args.component)) _
    (λ x b q k. search (rules, tests)) _ _ c.retain.ensures.filtered
