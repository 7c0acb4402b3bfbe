-- The lengths that objects told.
use Rattle.std.specs.Prelude.{ℕ, List, ◌==◌, ◌≤◌, length, filter, sum_by}
use Rattle.std.specs.List.{All}
use Rattle.data_map.specs.declared.check.TheConstants.{MAX_COMPONENTS}
use Rattle.server_rules.specs.declared.limits.TheConstants.{MAX_OBJECT_LENGTH}
use Rattle.server_rules.specs.declared.jobs.Measured.{Measured}

-- no more than a file has components, and none is longer than an object may be
pub record AreLengths (ms : List Measured) : Type 0 where
  pub few : length ms ≤ MAX_COMPONENTS
  pub low : All (λ m. m.length ≤ MAX_OBJECT_LENGTH) ms

-- the length of a component's object
abbrev pub length_of : List Measured → (component : ℕ) → ℕ
length_of ms component = sum_by (λ m. m.length) (filter (λ m. m.component == component) ms)
