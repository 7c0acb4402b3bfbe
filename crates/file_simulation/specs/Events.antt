-- The events of a file in a move of a world, line by line.
use Rattle.std.specs.Prelude.{ℕ, List, [], ◌∷◌, ◌++◌, Option, Some, None, if◌then◌else◌}
use Rattle.world_history.specs.ServerNames.{File}
use Rattle.world_history.specs.State.{World}
use Rattle.world_history.specs.Sending.{Move}
use Rattle.world_history.specs.Moves as moves
use Rattle.history_law.specs.Read.{leads}
use Rattle.history_law.specs.Doing.{input_in, did_in}
use Rattle.fence_law.specs.State as machine
use Rattle.file_simulation.specs.EventLists.{Lines}
use Rattle.file_simulation.specs.ClientEvents.{Going, going_in, client_events}
use Rattle.file_simulation.specs.ServerEvents.{server_events}
use Rattle.file_simulation.specs.DriveEvents.{drive_events}

-- all events of some lines
abbrev pub joined : Lines → List machine.Event
joined [] = []
joined (es ∷ rest) = es ++ joined rest

-- a move is one of a client that goes on, else of the server, else of a drive; of the last two one has no event
abbrev pub events_at : machine.State → World → (e : ℕ → ℕ) → File → Move → Option Going → Lines
events_at s w e f m (Some g) = client_events s f.kept.number (Some g)
events_at s w e f m None =
    server_events s w f.kept.number (input_in w m.action) (did_in w m) ++ drive_events s w e f m.action

-- the line of an event that delivers, times out or injects has no event: behind it stands the line of what comes of it
abbrev pub led_by : moves.Action → Lines → Lines
led_by (moves.Opens e) lines = if leads e then [] ∷ lines else lines
led_by action lines = lines

-- What happens to a file in a move, by its lines. `e` are the bytes of which a repair's WRITE has the words, if a drive
-- performs one.
abbrev pub events_of : machine.State → World → (e : ℕ → ℕ) → File → Move → Lines
events_of s w e f m = led_by m.action (events_at s w e f m (going_in w m.action))
