use Rattle.std.proofs.Common.{◌≡◌, ◌-◌, drop, length}
use Rattle.server_rules.specs.Rebuild.{rebuilds}
use Rattle.std.specs.Prelude.{ℕ, List}
use Rattle.server_rules.specs.declared.files.Kept.{Kept}
use Rattle.server_rules.specs.declared.server.Effects.{Effects}
use Rattle.stripe_repair.specs.declared.loads.DriveLoad.{DriveLoad}
use Rattle.file_jobs.specs.Placing.{AreLoadsOf}
use Rattle.file_jobs.specs.Steps.{Around, going}
use Rattle.file_jobs.proofs.places.place_missing.Given as goal

pub record Passed (kept : Kept) (was is : Effects) (loads : List DriveLoad) (from k : ℕ) : Type 0 where
  pub rest : (a : Around) → AreLoadsOf loads a.drives →
      rebuilds (going kept is a) (drop k kept.components) k ≡ rebuilds (going kept was a) (drop from kept.components) from
  pub nonce : is.nonce ≡ was.nonce
  pub object : is.object ≡ was.object

abbrev pub invariant-loop-k : goal.invariant-loop-k
invariant-loop-k g l = Passed l.fn.kept l.fn.effects l.effects l.fn.loads l.from l.k

abbrev pub decreases-loop-k : goal.decreases-loop-k
decreases-loop-k g l = length l.fn.kept.components - l.k
