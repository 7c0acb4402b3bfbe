-- The state of a client and its messages, under one name each.
pub use Rattle.client_rules.specs.declared.calls.CallOp.{CallOp}
pub use Rattle.client_rules.specs.declared.calls.CallOp.TheVariants.{Write, Read}
pub use Rattle.client_rules.specs.declared.calls.Awaited.{Awaited}
pub use Rattle.client_rules.specs.declared.calls.TimedOut.{TimedOut}
pub use Rattle.client_rules.specs.declared.calls.Io.{Io}
pub use Rattle.client_rules.specs.declared.calls.Need.{Need}
pub use Rattle.client_rules.specs.declared.calls.Need.TheVariants.{First, Get, Commit, Report, Close}
pub use Rattle.client_rules.specs.declared.calls.Phase.{Phase}
pub use Rattle.client_rules.specs.declared.calls.Phase.TheVariants.{Starts, Needs, Waits, Reads, Probes, Gathers, Scatters}
pub use Rattle.client_rules.specs.declared.calls.Call.{Call}
pub use Rattle.client_rules.specs.declared.client.Client.{Client}
pub use Rattle.client_rules.specs.declared.client.Outgoing.{Outgoing}
pub use Rattle.client_rules.specs.declared.client.Outgoing.TheVariants.{AnswersRecall, Asks, ToDrive}
pub use Rattle.client_rules.specs.declared.grants.Credential.{Credential}
pub use Rattle.client_rules.specs.declared.grants.Listed.{Listed}
pub use Rattle.client_rules.specs.declared.grants.Reach.{Reach}
pub use Rattle.client_rules.specs.declared.grants.Held.{Held}
pub use Rattle.client_rules.specs.declared.grants.Due.{Due}
pub use Rattle.client_rules.specs.declared.outcomes.CallErr.{CallErr}
pub use Rattle.client_rules.specs.declared.outcomes.CallErr.TheVariants.{Busy, BadRange, SlotSpent}
pub use Rattle.client_rules.specs.declared.outcomes.Why.{Why}
pub use Rattle.client_rules.specs.declared.outcomes.Why.TheVariants.{Unreadable, Index, Partial, Ssv as Secured, Map as BadMap, Credential as BadCredential}
pub use Rattle.client_rules.specs.declared.outcomes.Outcome.{Outcome}
pub use Rattle.client_rules.specs.declared.outcomes.Outcome.TheVariants.{WriteOk, ReadOk, NoFile, Held as HeldBy, Fencing, Degraded, Spent, Status, Refused, Silent, Lost, BadLayout}
pub use Rattle.client_rules.specs.declared.outcomes.Awaits.{Awaits}
pub use Rattle.client_rules.specs.declared.outcomes.Awaits.TheVariants.{Nothing, Server as TheServer, Drive as ADrive}
pub use Rattle.client_rules.specs.declared.steps.Turn.{Turn}
pub use Rattle.client_rules.specs.declared.steps.Turn.TheVariants.{Goes, Ends, Forgets}
pub use Rattle.client_rules.specs.declared.steps.Moved.{Moved}
pub use Rattle.client_rules.specs.declared.steps.Done.{Done}
pub use Rattle.layout_ops.specs.declared.messages.Request.{Request}
pub use Rattle.layout_ops.specs.declared.messages.Answer.{Answer}
pub use Rattle.layout_ops.specs.declared.recalls.Recall.{Recall}
pub use Rattle.layout_ops.specs.declared.recalls.RecallAnswer.{RecallAnswer}
pub use Rattle.layout_types.specs.declared.ioerrs.IoErr.{IoErr}
pub use Rattle.osd_commands.specs.declared.commands.Command.{Command}
pub use Rattle.osd_commands.specs.declared.replies.Reply.{Reply}
pub use Rattle.stripe_plan.specs.declared.plan.Span.{Span}
pub use Rattle.stripe_plan.specs.declared.plan.Ask.{Ask}
pub use Rattle.stripe_plan.specs.declared.plan.Column.{Column}
pub use Rattle.stripe_plan.specs.declared.plan.Stretch.{Stretch}
pub use Rattle.stripe_plan.specs.declared.plan.Store.{Store}
pub use Rattle.data_map.specs.declared.check.RawMap.{RawMap}
