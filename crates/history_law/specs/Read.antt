-- The server that is read off the lines is the world's.
use Rattle.std.specs.Prelude.{◌≡◌, ℕ, Bool, true, false, nat_lt, List, [], ◌∷◌, ◌++◌, map, Option, Some, None}
use Rattle.osd_capability.specs.Layout.{is_format}
use Rattle.server_rules.specs.Files.{Step as ServerStep, file_at}
use Rattle.scenario_text.specs.declared.names.TheConstants.{DRIVES, FILES}
use Rattle.scenario_text.specs.declared.event.Event.{Event}
use Rattle.scenario_text.specs.declared.event.Event.TheVariants as event
use Rattle.scenario_text.specs.declared.line.Line.{Line}
use Rattle.scenario_text.specs.declared.line.Line.TheVariants as line
use Rattle.world_history.specs.State.{World}
use Rattle.world_history.specs.Plans.{due}
use Rattle.world_history.specs.Sending.{Move}
use Rattle.world_history.specs.Reading.{Step, steps_of}
use Rattle.world_history.specs.Book.{ServerSeen, server_step, sees_server, server_seen, book_of}
use Rattle.world_history.specs.History.{StandsFor}
use Rattle.world_history.specs.Laws.{shown}
use Rattle.history_law.specs.BookMoments.{IsMoment, plan_at, lines_in}
use Rattle.history_law.specs.Doing.{did_in}

-- ---- histories of a scenario's text

-- an event as the text of a scenario has it: a drive that is made can be named, and the server's format is one of the
-- two
abbrev pub is_written : Event → Bool
is_written (event.Drive d key capacity) = nat_lt d DRIVES
is_written (event.Disk d key capacity) = nat_lt d DRIVES
is_written (event.File f m tag) = nat_lt f FILES
is_written (event.ZonedFile f m tag) = nat_lt f FILES
is_written (event.Format format) = is_format format
is_written e = true

-- the line of such an event, or any other line
abbrev pub is_written_line : Line → Bool
is_written_line (line.Event e) = is_written e
is_written_line l = true

-- so are all lines
abbrev pub AreWritten : List Line → Type 0
AreWritten [] = Unit {0}
AreWritten (l ∷ ls) = (is_written_line l ≡ true) × AreWritten ls

-- ---- the book

-- the server of a world, its clock, and the messages as the lines show them
abbrev pub server_of : World → ServerSeen
server_of w = record { server = w.server; clock = w.clock; sent = map shown w.network.messages }

-- at each moment they are those that are read off the lines
abbrev pub BookIsRead : Type 0
BookIsRead = (w : World) (h : List Line) → IsMoment w h → AreWritten h → server_seen h ≡ server_of w

-- so the book of a file that is read off a history is that of each world that stands for it
abbrev pub FilesAreRead : Type 0
FilesAreRead =
    (w : World) (h : List Line) → StandsFor w h → AreWritten h → (file : ℕ) → book_of h file
    ≡ file_at w.server.files file

-- ---- a move

-- an event behind whose own line a step of its own begins
abbrev pub leads : Event → Bool
leads (event.Deliver number) = true
leads (event.Timeout c component) = true
leads (event.Inject d bytes) = true
leads e = false

-- the event's line is a step in which the server does nothing
pub record IsAlone (s : ServerSeen) (o : Step) : Type 0 where
  pub event : Event
  pub leading : leads event ≡ true
  pub is : o ≡ record { head = line.Event event; rest = [] }
  pub nothing : server_step s o ≡ None

-- What a move is to the server, read off the steps of its lines: one step that is what the move is, perhaps behind an
-- event's line alone. Lines of which no step is made are what was left pending, and nothing to the server.
abbrev pub ReadsAs : ServerSeen → Option ServerStep → List Step → Type 0
ReadsAs s did [] = did ≡ None
ReadsAs s did (t ∷ []) = server_step s t ≡ did
ReadsAs s did (o ∷ t ∷ []) = IsAlone s o × (server_step (sees_server s o) t ≡ did)
ReadsAs s did (o ∷ t ∷ u ∷ ts) = ⊥

-- so it is of each move that is due at a moment
abbrev pub StepIsRead : Type 0
StepIsRead =
    (w : World) (h : List Line) (k : IsMoment w h) (m : Move) → due (plan_at k) w ≡ Some m.action
    → AreWritten (h ++ lines_in w m) → ReadsAs (server_seen h) (did_in w m) (steps_of (lines_in w m))
