use Rattle.std.proofs.Common.{◌≡◌, ℕ, List, drop}
use Rattle.data_map.specs.declared.check.RawMap.{RawMap}
use Rattle.server_rules.specs.Standing.{replica_from}
use Rattle.server_rules.specs.declared.files.Component.{Component}
use Rattle.world_calm.specs.Files.{standing}
use Rattle.world_calm.proofs.files.has_replica.Given as goal

pub record Looked (m : RawMap) (failed : List ℕ) (cs : List Component) (position k index : ℕ) : Type 0 where
  pub rest : replica_from m position (standing failed (drop index cs)) k
      ≡ replica_from m position (standing failed cs) 0
  pub place : k ≡ index

abbrev pub invariant-loop-at : goal.invariant-loop-at
invariant-loop-at l = Looked l.fn.file.map l.fn.failed l.fn.file.components l.fn.position l.k l.at-index
