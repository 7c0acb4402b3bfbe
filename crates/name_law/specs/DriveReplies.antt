-- Who replies and who is replied to: drives that a line can name, and parties that it can name.
use Rattle.std.specs.Prelude.{◌≡◌, ℕ, true, List, slice_get, Some}
use Rattle.osd_lists.specs.declared.node.Node.TheVariants as node
use Rattle.scenario_text.specs.declared.line.Line.{Line}
use Rattle.server_rules.specs.Laws.{In}
use Rattle.world_history.specs.declared.messages.Message.{Message}
use Rattle.world_history.specs.declared.messages.Posted.{Posted}
use Rattle.world_history.specs.State.{World, DriveAt}
use Rattle.world_history.specs.Names.{is_named}
use Rattle.world_history.specs.Drives.{judges, command_in}
use Rattle.world_history.specs.Handed.{Post, is_addressed, drive_replies}
use Rattle.history_law.specs.Said.{IsDelivered}
use Rattle.history_law.specs.BookMoments.{IsMoment}
use Rattle.exchange_law.specs.Text.{AreOfText}

-- a line can name both parties of a message
pub record IsBetweenNamed (m : Message) : Type 0 where
  pub from : is_named m.from ≡ true
  pub to : is_named m.to ≡ true

-- so it is of each that was sent, at each moment of a history of a scenario's text
abbrev pub MessagesAreNamed : Type 0
MessagesAreNamed =
    (w : World) (h : List Line) → IsMoment w h → AreOfText h → (n : ℕ) (p : Posted)
    → slice_get w.network.messages n ≡ Some p → IsBetweenNamed p.message

-- so each reply of a drive to a message that comes to it is for a party that a line can name
abbrev pub DrivesReplyToNamed : Type 0
DrivesReplyToNamed =
    (w : World) (h : List Line) → IsMoment w h → AreOfText h → (d : ℕ) (m : IsDelivered w (node.Drive d)) (a : DriveAt)
    → (p : Post)
    → In p (drive_replies w d m.posted.message.from (judges a (command_in m.posted.message.body))).posts
    → is_addressed p ≡ true
