use Rattle.std.proofs.Common.{◌≡◌, ℕ, List, drop}
use Rattle.data_map.specs.declared.check.RawMap.{RawMap}
use Rattle.server_rules.specs.Standing.{replica_from}
use Rattle.server_rules.specs.declared.files.Component.{Component}
use Rattle.stripe_repair.proofs.replicas.replica.Given as goal

pub record Looked (m : RawMap) (cs : List Component) (position k index : ℕ) : Type 0 where
  pub rest : replica_from m position (drop index cs) k ≡ replica_from m position cs 0
  pub place : k ≡ index

abbrev pub invariant-loop-at : goal.invariant-loop-at
invariant-loop-at l = Looked l.fn.map l.fn.components l.position l.k l.at-index
