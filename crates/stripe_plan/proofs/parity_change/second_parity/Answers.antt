use Rattle.std.proofs.Common.{◌∙◌, ap, length}
use Rattle.stripe_plan.specs.Plans.{columns_of}
use Rattle.stripe_plan.proofs.Exchanges.{got_long}
use Rattle.stripe_plan.proofs.parity_change.second_parity.Goals as goal

pub returns-then-parities-eq2-clause-long : goal.returns-then-parities-eq2-clause-long
returns-then-parities-eq2-clause-long c =
    ap length c.in_ok-q.ensures
    ∙ got_long c.args.write.now.map.now
    (columns_of c.args.write.now.map.now c.args.write.now.got.now) c.args.stripe _ c.args.columns
