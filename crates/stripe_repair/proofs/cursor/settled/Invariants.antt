use Rattle.std.proofs.Common.{◌≡◌, ◌-◌, ◌<◌, length}
use Rattle.std.specs.Prelude.{List, ℕ}
use Rattle.server_rules.specs.declared.grants.Stripes.{Stripes}
use Rattle.stripe_repair.specs.declared.cursor.Spot.{Spot}
use Rattle.stripe_repair.specs.Cursor.{rest_at}
use Rattle.stripe_repair.proofs.cursor.settled.Given as goal

pub record Moved (unit : ℕ) (ranges : List Stripes) (now old : Spot) : Type 0 where
  pub same : rest_at unit ranges now ≡ rest_at unit ranges old
  pub column : now.column < unit

abbrev pub invariant-loop-spot : goal.invariant-loop-spot
invariant-loop-spot l = Moved l.unit l.fn.ranges l.spot l.fn.spot

abbrev pub decreases-loop-spot : goal.decreases-loop-spot
decreases-loop-spot l = length l.fn.ranges - l.spot.next
