use Rattle.std.proofs.Common.{◌≡◌, ◌≤◌, ◌+◌, ◌*◌, drop, ℕ}
use Rattle.std.specs.Prelude.{List}
use Rattle.server_rules.specs.declared.limits.TheConstants.{MAX_OBJECT_LENGTH}
use Rattle.server_rules.specs.declared.jobs.Measured.{Measured}
use Rattle.stripe_repair.specs.Lengths.{length_of}
use Rattle.stripe_repair.proofs.lengths.length_of.Given as goal

pub record Summed (ms : List Measured) (component sum index : ℕ) : Type 0 where
  pub all : sum + length_of (drop index ms) component ≡ length_of ms component
  pub low : sum ≤ index * MAX_OBJECT_LENGTH

abbrev pub invariant-loop-measured : goal.invariant-loop-measured
invariant-loop-measured l = Summed l.fn.lengths l.fn.component l.sum l.measured-index
