-- What a move is to the server: the step of its rules that the move makes it take.
use Rattle.std.specs.Prelude.{◌≡◌, ℕ, List, ◌++◌, map, filter, slice_get, Option, Some, None, if◌then◌else◌}
use Rattle.std.specs.List.{filter_map}
use Rattle.osd_lists.specs.declared.node.Node.{Node}
use Rattle.osd_lists.specs.declared.node.Node.TheVariants as node
use Rattle.server_rules.specs.Files.{Step as ServerStep}
use Rattle.server_rules.specs.Messages.{Message as ServerMessage}
use Rattle.server_rules.specs.History.{Input, Hears, Adds}
use Rattle.scenario_text.specs.declared.event.Event.{Event}
use Rattle.scenario_text.specs.declared.event.Event.TheVariants as event
use Rattle.scenario_text.specs.declared.line.Line.{Line}
use Rattle.world_history.specs.ServerNames.{Server}
use Rattle.world_history.specs.declared.messages.Message.{Message}
use Rattle.world_history.specs.declared.messages.Posted.{Posted}
use Rattle.world_history.specs.State.{World}
use Rattle.world_history.specs.Names.{known_note_line}
use Rattle.world_history.specs.Handed.{is_addressed, server_post, for_server}
use Rattle.world_history.specs.Moves.{Action, Opens, Delivers, knows_drive, known_drive, acts}
use Rattle.world_history.specs.Sending.{Move, move}
use Rattle.world_history.specs.Book.{input_of, step_by, server_behind}

-- ---- what comes to the server

-- bytes in which it reads no message bring nothing
abbrev pub heard_of : (now : ℕ) → (from : Node) → Option ServerMessage → Option Input
heard_of now from None = None
heard_of now from (Some m) = Some (Hears now from m)

-- with a message, where it is for the server; one that is down hears nothing
abbrev pub brought_to : World → Message → Node → Option Input
brought_to w m node.Server = if w.down then None else heard_of w.clock m.from (for_server m)
brought_to w m to = None

-- with the delivery of a message that was sent
abbrev pub brought : World → Option Posted → Option Input
brought w None = None
brought w (Some p) = brought_to w p.message p.message.to

-- with an event: a drive that it knows is nothing new
abbrev pub given_by : Server → Event → Option Input
given_by s (event.Drive d key capacity) = if knows_drive s d then None else Some (Adds (known_drive d key capacity))
given_by s (event.Disk d key capacity) = if knows_drive s d then None else Some (Adds (known_drive d key capacity))
given_by s e = input_of e

-- with a move
abbrev pub input_in : World → Action → Option Input
input_in w (Opens (event.Deliver number)) = brought w (slice_get w.network.messages number)
input_in w (Opens e) = given_by w.server e
input_in w (Delivers number) = brought w (slice_get w.network.messages number)
input_in w action = None

-- ---- what it does

-- the step that a move makes it take, if any; that it sends again what it waits for is none, since it stays as it is
abbrev pub did_in : World → Move → Option ServerStep
did_in w m = step_by w.server m.chosen (input_in w m.action)

-- The server becomes what that step leaves, or stays as it is. Where there is one, its notes are told last, and what it
-- sends to those whom a line can name is all that is sent.
pub record MovesServer (w : World) (m : Move) : Type 0 where
  pub server : (move w m).world.server ≡ server_behind w.server (did_in w m)
  pub posts : (did : ServerStep) → did_in w m ≡ Some did
      → (acts w m.chosen m.action).posts ≡ filter is_addressed (map server_post did.sends)
  pub told : (did : ServerStep) → did_in w m ≡ Some did
      → (front : List Line) × ((acts w m.chosen m.action).told ≡ front ++ filter_map known_note_line did.notes)

-- so it is in each move
abbrev pub ServerMoves : Type 0
ServerMoves = (w : World) (m : Move) → MovesServer w m
