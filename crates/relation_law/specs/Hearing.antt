-- What the server hears of a WRITE that a job of it awaits.
use Rattle.std.specs.Prelude.{◌≡◌, ℕ, true, false, List, Option, Some}
use Rattle.osd_lists.specs.declared.node.Node.TheVariants as node
use Rattle.osd_commands.specs.declared.actions.Action.TheVariants.{Write}
use Rattle.osd_commands.specs.declared.commands.Command.{Command}
use Rattle.osd_commands.specs.declared.replies.Reply.{Reply}
use Rattle.osd_objects.specs.Store.{object_at, lane_or_none}
use Rattle.scenario_text.specs.declared.line.Line.{Line}
use Rattle.server_rules.specs.declared.limits.TheConstants.{PERFORMED, OLD_FORMAT}
use Rattle.server_rules.specs.History.{Hears}
use Rattle.server_rules.specs.Laws.{In}
use Rattle.server_rules.specs.Messages.{Replies, awaited_by}
use Rattle.server_rules.specs.Replies.{answers}
use Rattle.world_history.specs.ServerNames.{File, Awaited}
use Rattle.world_history.specs.State.{World, DriveAt, at_number}
use Rattle.history_law.specs.Said.{IsHeardByServer}
use Rattle.history_law.specs.BookMoments.{IsMoment}
use Rattle.history_law.specs.Spent.{HasPassed, IsSpent}
use Rattle.file_simulation.specs.Claim.{IsOfScenario}

-- The reply to a WRITE that was performed, now or before, tells that its holder's lane has passed its nonce, unless the drive
-- has failed since. One of an old format is spent.
pub record TellsOfWrite (o : Option DriveAt) (x : Command) (r : Reply) : Type 0 where
  pub passed : r.verdict ≡ PERFORMED → (a : DriveAt) → o ≡ Some a → a.failed ≡ false →
      HasPassed (lane_or_none (object_at a.state.store x.object) x.capability.holder) x.nonce
  pub done : r.verdict ≡ PERFORMED → IsSpent o x
  pub old : r.verdict ≡ OLD_FORMAT → IsSpent o x

-- So it is of each reply that the server hears to a WRITE that a job awaits, of the drive as it is then.
abbrev pub HeardTellsOfWrites : Type 0
HeardTellsOfWrites =
    (w : World) (h : List Line) → IsMoment w h → IsOfScenario h → (now drive : ℕ) (r : Reply) →
    IsHeardByServer w (Hears now (node.Drive drive) (Replies r)) → (f : File) → In f w.server.files → (a : Awaited) →
    In a (awaited_by f.job) → answers drive r a ≡ true → a.command.action ≡ Write →
    TellsOfWrite (at_number w.drives a.drive) a.command r
