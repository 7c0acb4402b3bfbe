-- What contracts see of a file as it was kept before.
use Rattle.std.specs.Prelude.{Bool, ℕ, List}
use Rattle.server_rules.specs.declared.files.Component.{Component}
use Rattle.server_rules.specs.declared.files.Phase.{Phase}
use Rattle.server_rules.specs.declared.grants.Grant.{Grant}

-- what was kept of a file, as far as what changed of it is told by that
pub record Past : Type 0 where
  pub zoned : Bool
  pub tag : ℕ
  pub format : ℕ
  pub size : ℕ
  pub ready : Bool
  pub phase : Phase
  pub components : List Component
  pub grants : List Grant
