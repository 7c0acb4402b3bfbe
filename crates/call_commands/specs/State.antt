-- The rules' types, under one name each.
pub use Rattle.client_rules.specs.declared.calls.Awaited.{Awaited}
pub use Rattle.client_rules.specs.declared.calls.TimedOut.{TimedOut}
pub use Rattle.client_rules.specs.declared.grants.Held.{Held}
pub use Rattle.stripe_plan.specs.declared.plan.Column.{Column}
pub use Rattle.stripe_plan.specs.declared.plan.Stretch.{Stretch}
pub use Rattle.stripe_plan.specs.declared.plan.Store.{Store}
