use Rattle.data_map.proofs.Shape.{few_positions}
use Rattle.data_map.proofs.map.DataMap.group.Goals as goal

pub returns-clause-few : goal.returns-clause-few
returns-clause-few c = few_positions c.args.self.now c.raw-raw.ensures.usable
