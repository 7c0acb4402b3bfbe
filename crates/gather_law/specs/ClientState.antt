-- The state of a client's call, under one name each.
pub use Rattle.client_rules.specs.declared.calls.CallOp.{CallOp}
pub use Rattle.client_rules.specs.declared.calls.Awaited.{Awaited}
pub use Rattle.client_rules.specs.declared.calls.TimedOut.{TimedOut}
pub use Rattle.client_rules.specs.declared.calls.Io.{Io}
pub use Rattle.client_rules.specs.declared.calls.Phase.TheVariants.{Gathers}
pub use Rattle.client_rules.specs.declared.grants.Held.{Held}
pub use Rattle.client_rules.specs.declared.steps.Turn.TheVariants.{Goes}
pub use Rattle.client_rules.specs.declared.steps.Moved.{Moved}
pub use Rattle.osd_commands.specs.declared.replies.Reply.{Reply}
pub use Rattle.stripe_plan.specs.declared.plan.Span.{Span}
pub use Rattle.stripe_plan.specs.declared.plan.Column.{Column}
pub use Rattle.data_map.specs.declared.check.RawMap.{RawMap}
