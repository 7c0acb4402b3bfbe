use Rattle.stripe_plan.proofs.Exchanges.{p_part, q_part}
use Rattle.stripe_plan.proofs.parity_change.change_at.Goals as goal

pub returns-clause-p : goal.returns-clause-p
returns-clause-p c =
    λ some. p_part c.args.code c.args.at c.args.old.now c.args.new.now c.args.p.now c.parity_delta.new.p some c.requires.p
    c.requires.same c.parity_delta.ensures.p

pub returns-clause-q : goal.returns-clause-q
returns-clause-q c =
    λ both. q_part c.args.code c.args.unit c.args.at c.args.old.now c.args.new.now c.args.q.now c.parity_delta.new.q both
    c.requires.q c.requires.same c.parity_delta.ensures.q
