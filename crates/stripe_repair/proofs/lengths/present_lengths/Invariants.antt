use Rattle.std.proofs.Common.{◌≡◌, ◌≤◌, ◌+◌, ◌*◌, drop, ℕ}
use Rattle.std.specs.Prelude.{List}
use Rattle.data_map.specs.declared.check.TheConstants.{MAX_COMPONENTS}
use Rattle.server_rules.specs.declared.limits.TheConstants.{MAX_OBJECT_LENGTH}
use Rattle.server_rules.specs.declared.files.Component.{Component}
use Rattle.server_rules.specs.declared.jobs.Measured.{Measured}
use Rattle.server_rules.specs.Audit.{present_lengths}
use Rattle.stripe_repair.proofs.lengths.present_lengths.Given as goal

pub record Summed (ms : List Measured) (cs : List Component) (sum k index : ℕ) : Type 0 where
  pub number : k ≡ index
  pub all : sum + present_lengths ms (drop index cs) k ≡ present_lengths ms cs 0
  pub low : sum ≤ index * (MAX_COMPONENTS * MAX_OBJECT_LENGTH)

abbrev pub invariant-loop-at : goal.invariant-loop-at
invariant-loop-at l = Summed l.fn.lengths l.fn.components l.sum l.k l.at-index
