use Rattle.std.proofs.Common.{rules, tests, sym, ◌≡◌, length}
use Rattle.stripe_plan.proofs.Picking.{none_had}
use Rattle.stripe_plan.proofs.left.push_left.Goals as goal

pub returns-then-is_empty : goal.returns-then-is_empty
returns-then-is_empty c =
    let none : length c.find-numbers.result.now ≡ 0 = search (rules, tests) in
    rw (sym (none_had c.args.had.now c.args.position c.args.interval c.from.result c.find-numbers.result.now c.from.ensures none
    (c.find-numbers.ensures c.args.had.now c.requires)))
    c.push_some.ensures
