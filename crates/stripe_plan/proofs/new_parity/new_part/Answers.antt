use Rattle.std.proofs.Common.{◌∙◌, ℕ, ◌+◌, ◌-◌, ap, take, drop}
use Rattle.stripe_plan.proofs.new_parity.new_part.Goals as goal

pub returns-clause-value : goal.returns-clause-value
returns-clause-value c =
    let from = ap
    (λ (z : ℕ). drop (z + c.args.columns.first - c.args.range.offset) c.args.bytes.now) c.unit_start.ensures.value in
    c.split_at-2.ensures.front ∙ ap (take (c.args.columns.end - c.args.columns.first)) (c.split_at.ensures.back ∙ from)
