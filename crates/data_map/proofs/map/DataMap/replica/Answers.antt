use Rattle.std.proofs.Common.{◌≡◌}
use Rattle.data_map.proofs.Shape.{replicas_inside}
use Rattle.data_map.proofs.map.DataMap.replica.Goals as goal

pub returns-clause-inside : goal.returns-clause-inside
returns-clause-inside c =
    let same : c.self.inside.raw ≡ c.args.self.now = c.self.view_is in
    replicas_inside c.args.self.now c.args.position (rw same at c.self.invariant.0) c.requires.position
