use Rattle.stripe_repair.proofs.GroupLaws.{goes_past}
use Rattle.stripe_repair.proofs.group_cursor.settled.Goals as goal

pub returns-then-spot-clause-same : goal.returns-then-spot-clause-same
returns-then-spot-clause-same c =
    goes_past c.args.map.now c.args.group c.next_in_group.result c.args.spot c.requires.begin c.if-spot.true
    c.next_in_group.ensures.from c.next_in_group.ensures.none
