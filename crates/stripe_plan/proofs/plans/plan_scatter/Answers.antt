use Rattle.stripe_plan.specs.Plans.{span}
use Rattle.stripe_plan.proofs.Steps.{scattered}
use Rattle.stripe_plan.proofs.plans.plan_scatter.Goals as goal

pub returns : goal.returns
returns c =
    scattered c.args.map.now
    (span c.args.off c.args.len) c.args.columns.now c.args.out.now.components _ _ c.in_ok-asks.asks
    c.in_ok-stores.stores.items c.in_ok-parts.field-0
    c.in_ok-check_writable.ensures c.in_ok-asks.ensures c.in_ok-stores.ensures c.in_ok-parts.ensures
