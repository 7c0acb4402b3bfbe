-- The state of a client's call, under one name each.
pub use Rattle.client_rules.specs.declared.calls.CallOp.{CallOp}
pub use Rattle.client_rules.specs.declared.calls.Awaited.{Awaited}
pub use Rattle.client_rules.specs.declared.calls.TimedOut.{TimedOut}
pub use Rattle.client_rules.specs.declared.calls.Phase.{Phase}
pub use Rattle.client_rules.specs.declared.calls.Phase.TheVariants.{Starts, Needs, Waits, Reads, Probes, Gathers, Scatters}
pub use Rattle.client_rules.specs.declared.grants.Held.{Held}
pub use Rattle.client_rules.specs.declared.grants.Listed.{Listed}
pub use Rattle.client_rules.specs.declared.steps.Turn.{Turn}
pub use Rattle.client_rules.specs.declared.steps.Turn.TheVariants.{Goes, Ends, Forgets}
pub use Rattle.client_rules.specs.declared.steps.Moved.{Moved}
pub use Rattle.osd_commands.specs.declared.replies.Reply.{Reply}
pub use Rattle.stripe_plan.specs.declared.plan.Span.{Span}
pub use Rattle.stripe_plan.specs.declared.plan.Ask.{Ask}
pub use Rattle.stripe_plan.specs.declared.plan.Column.{Column}
pub use Rattle.stripe_plan.specs.declared.plan.Store.{Store}
pub use Rattle.stripe_plan.specs.declared.plan.Stretch.{Stretch}
