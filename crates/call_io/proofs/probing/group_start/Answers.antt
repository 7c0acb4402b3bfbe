use Rattle.data_map.proofs.Shape.{group_ends}
use Rattle.call_io.proofs.probing.group_start.Goals as goal

pub returns-clause-end : goal.returns-clause-end
returns-clause-end c =
    rw (c.group_width.ensures.value, c.group_width-2.ensures.value)
    (group_ends c.args.map.now c.args.position c.known.ensures c.requires)
