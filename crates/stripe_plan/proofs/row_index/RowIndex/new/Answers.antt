use Rattle.std.proofs.Common.{rules, tests}
use Rattle.stripe_plan.proofs.Indexing.{fresh}
use Rattle.stripe_plan.proofs.row_index.RowIndex.new.Goals as goal

pub returns : goal.returns
returns c = fresh c.args.unit c.lists_for-lists.result _ _ _ c.requires
    (λ e. search (rules, tests, e)) c.lists_for-lists.ensures c.in_ok-with_capacity.ensures c.in_ok-empty_lists.ensures
