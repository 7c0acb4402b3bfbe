-- What the server sent is what a run of it sends.
use Rattle.std.specs.Prelude.{◌≡◌, ℕ, false, List, []}
use Rattle.osd_lists.specs.declared.node.Node.TheVariants as node
use Rattle.scenario_text.specs.declared.line.Line.{Line}
use Rattle.server_rules.specs.History.{Act, state_after}
use Rattle.server_rules.specs.Laws.{In}
use Rattle.server_rules.specs.Making.{new_server}
use Rattle.world_history.specs.declared.messages.Body.TheVariants.{Command as OfCommand}
use Rattle.world_history.specs.declared.messages.Message.{Message}
use Rattle.world_history.specs.State.{World}
use Rattle.history_law.specs.Names.{Command, ToDrive}
use Rattle.history_law.specs.BookMoments.{IsMoment}
use Rattle.exchange_law.specs.Doing.{said}
use Rattle.component_law.specs.Naming.{AreNamed}
use Rattle.component_law.specs.Tagged.{sent_over, AreNamedActs}
use Rattle.component_law.specs.Turns.{AreInTurn, down_after}

-- the message of a command to a drive
abbrev pub commanded : (drive : ℕ) → Command → Message
commanded d c = record { from = node.Server; to = node.Drive d; body = OfCommand c }

-- One run of a new server ends in the world's server, up or down as that is, and sends each command that was sent to a
-- drive. Lines can name what comes to the server, each in its turn.
pub record IsSentByRun (w : World) : Type 0 where
  pub acts : List Act
  pub server : w.server ≡ state_after (new_server []) acts
  pub named : AreNamedActs acts
  pub turns : AreInTurn false acts
  pub down : down_after false acts ≡ w.down
  pub sends : (d : ℕ) (c : Command) → In (commanded d c) (said w.network.messages)
      → In (ToDrive d c) (sent_over (new_server []) acts)

-- so it is at each moment where lines can name what events make
abbrev pub ServerSentItsRun : Type 0
ServerSentItsRun = (w : World) (h : List Line) → IsMoment w h → AreNamed h → IsSentByRun w
