-- At each moment of a history lines can name all that the server's step sends and notes.
use Rattle.std.specs.Prelude.{◌≡◌, ◌++◌, List, map, Option, Some}
use Rattle.scenario_text.specs.declared.event.Event.TheVariants as event
use Rattle.scenario_text.specs.declared.event.Sender.TheVariants as sender
use Rattle.scenario_text.specs.declared.line.Line.{Line}
use Rattle.server_rules.specs.Files.{Step}
use Rattle.server_rules.specs.History.{Input, Resends, step}
use Rattle.world_history.specs.State.{World}
use Rattle.world_history.specs.Names.{note_line}
use Rattle.world_history.specs.Handed.{server_post}
use Rattle.world_history.specs.Moves.{Action, Opens, acts}
use Rattle.world_history.specs.Sending.{Move}
use Rattle.world_history.specs.Plans.{due}
use Rattle.history_law.specs.Moves.{IsForServer}
use Rattle.history_law.specs.BookMoments.{IsMoment, plan_at, lines_in}
use Rattle.history_law.specs.Doing.{input_in}
use Rattle.exchange_law.specs.Text.{AreOfText}
use Rattle.component_law.specs.Naming.{AreNamed}
use Rattle.name_law.specs.ServerNamed.{IsNamedServer, SendsToNamed}

-- what comes to the server with a move: with an event, or with a message; or it sends again what it waits for
abbrev pub given_to_server : World → Action → Option Input
given_to_server w (Opens (event.Resend sender.Server)) = Some Resends
given_to_server w action = input_in w action

-- In the move the server takes this step. Lines can name each party to which it sends, and tell each note; all that it
-- sends is sent, and all that it notes is told last.
pub record LeavesNothingOut (w : World) (m : Move) (t : Step) : Type 0 where
  pub named : SendsToNamed t
  pub posts : (acts w m.chosen m.action).posts ≡ map server_post t.sends
  pub told : (front : List Line) × ((acts w m.chosen m.action).told ≡ front ++ map note_line t.notes)

-- At each moment of a history whose lines can name the files and drives that its events make, lines can name all that
-- the server has.
abbrev pub ServerIsNamed : Type 0
ServerIsNamed = (w : World) (h : List Line) → IsMoment w h → AreNamed h → IsNamedServer w.server

-- A history of a scenario's text is such a one.
abbrev pub TextsAreNamed : Type 0
TextsAreNamed = (h : List Line) → AreOfText h → AreNamed h

-- Lines can name each party to which a step sends, and tell each note of it, whatever a move that is due at a moment may
-- hand the server.
abbrev pub ServerSendsToNamed : Type 0
ServerSendsToNamed =
    (w : World) (h : List Line) (k : IsMoment w h) (m : Move) → due (plan_at k) w ≡ Some m.action →
    AreNamed (h ++ lines_in w m) → (i : Input) → IsForServer w m.action i → SendsToNamed (step w.server m.chosen i)

-- So its step in each move that is due there leaves nothing out.
abbrev pub ServerLeavesNothingOut : Type 0
ServerLeavesNothingOut =
    (w : World) (h : List Line) (k : IsMoment w h) (m : Move) → due (plan_at k) w ≡ Some m.action →
    AreNamed (h ++ lines_in w m) → (i : Input) → given_to_server w m.action ≡ Some i →
    LeavesNothingOut w m (step w.server m.chosen i)
