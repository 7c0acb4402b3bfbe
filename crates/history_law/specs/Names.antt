-- What the rules of the metadata server name, under one name each.
pub use Rattle.server_rules.specs.declared.files.Component.{Component}
pub use Rattle.server_rules.specs.declared.files.Phase.{Phase}
pub use Rattle.server_rules.specs.declared.files.Phase.TheVariants.{Still, Fencing, Repairing, FencingAgain}
pub use Rattle.server_rules.specs.declared.files.Kept.{Kept}
pub use Rattle.server_rules.specs.declared.files.File.{File}
pub use Rattle.server_rules.specs.declared.grants.Grant.{Grant}
pub use Rattle.server_rules.specs.declared.grants.Stripes.{Stripes}
pub use Rattle.server_rules.specs.declared.jobs.Piece.{Piece}
pub use Rattle.server_rules.specs.declared.jobs.JobKind.{JobKind}
pub use Rattle.server_rules.specs.declared.jobs.JobKind.TheVariants.{Making, Revoking, Rebuilding, Auditing}
pub use Rattle.server_rules.specs.declared.jobs.Target.{Target}
pub use Rattle.server_rules.specs.declared.jobs.Measured.{Measured}
pub use Rattle.server_rules.specs.declared.jobs.Tally.{Tally}
pub use Rattle.server_rules.specs.declared.jobs.Work.{Work}
pub use Rattle.server_rules.specs.declared.jobs.Work.TheVariants.{Creates, Fences, Fetches, Stores, Targets, Gathers, Fills, Lengths, Checks}
pub use Rattle.server_rules.specs.declared.jobs.Awaited.{Awaited}
pub use Rattle.server_rules.specs.declared.jobs.Heard.{Heard}
pub use Rattle.server_rules.specs.declared.jobs.Job.{Job}
pub use Rattle.server_rules.specs.declared.notes.NoteKind.{NoteKind}
pub use Rattle.server_rules.specs.declared.notes.NoteKind.TheVariants.{Ready, Fenced, Repaired, Rebuilt, NoDrive, Lost, NoSpace, Audit, Busy, Spent, Reported}
pub use Rattle.server_rules.specs.declared.notes.Note.{Note}
pub use Rattle.server_rules.specs.declared.notes.Mended.{Mended}
pub use Rattle.server_rules.specs.declared.requests.RequestArgs.{RequestArgs}
pub use Rattle.server_rules.specs.declared.requests.RequestArgs.TheVariants.{Get, Commit, Return}
pub use Rattle.server_rules.specs.declared.requests.ClientRequest.{ClientRequest}
pub use Rattle.server_rules.specs.declared.server.Drive.{Drive}
pub use Rattle.server_rules.specs.declared.server.Slot.{Slot}
pub use Rattle.server_rules.specs.declared.server.Server.{Server}
pub use Rattle.server_rules.specs.declared.server.Outgoing.{Outgoing}
pub use Rattle.server_rules.specs.declared.server.Outgoing.TheVariants.{ToDrive, Recalls, Answers, AnswersOrder}
pub use Rattle.server_rules.specs.declared.server.Effects.{Effects}
pub use Rattle.server_rules.specs.declared.server.Refusal.{Refusal}
pub use Rattle.server_rules.specs.declared.server.Refusal.TheVariants.{FileExists, BadMap, TooFewDrives}
pub use Rattle.layout_ops.specs.declared.messages.Answer.{Answer}
pub use Rattle.layout_ops.specs.declared.recalls.Recall.{Recall}
pub use Rattle.layout_ops.specs.declared.orders.OrderKind.{OrderKind}
pub use Rattle.layout_ops.specs.declared.orders.OrderKind.TheVariants.{Recall as ToRecall, Revoke as ToRevoke, Declare as ToDeclare, Rebuild as ToRebuild, Audit as ToAudit}
pub use Rattle.layout_ops.specs.declared.orders.OrderResult.{OrderResult}
pub use Rattle.layout_ops.specs.declared.orders.OrderResult.TheVariants.{Started as HasStarted, Busy as IsBusy, Spent as IsSpent, Unknown as IsUnknown}
pub use Rattle.layout_ops.specs.declared.orders.Order.{Order}
pub use Rattle.layout_ops.specs.declared.orders.OrderAnswer.{OrderAnswer}
pub use Rattle.layout_types.specs.declared.ioerrs.IoErr.{IoErr}
pub use Rattle.osd_commands.specs.declared.commands.Command.{Command}
pub use Rattle.osd_commands.specs.declared.replies.Reply.{Reply}
pub use Rattle.osd_capability.specs.declared.layout.Capability.{Capability}
pub use Rattle.data_map.specs.declared.check.RawMap.{RawMap}
