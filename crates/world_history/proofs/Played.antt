-- Worked scenarios: events played one after another, each to its end.
use Rattle.std.specs.Prelude.{ℕ, zero, suc, List, [], ◌∷◌, ◌++◌, map, Option, Some, None}
use Rattle.scenario_text.specs.declared.event.Event.{Event}
use Rattle.scenario_text.specs.declared.event.Event.TheVariants as event
use Rattle.scenario_text.specs.declared.line.CallKind.{CallKind}
use Rattle.scenario_text.specs.declared.line.Delivery.TheVariants as delivery
use Rattle.scenario_text.specs.declared.line.Ending.{Ending}
use Rattle.scenario_text.specs.declared.line.Outcome.TheVariants as outcome
use Rattle.scenario_text.specs.declared.line.Party.{Party}
use Rattle.scenario_text.specs.declared.line.Line.{Line}
use Rattle.scenario_text.specs.declared.line.Line.TheVariants as line
use Rattle.world_history.specs.State.{World, empty_world}
use Rattle.world_history.specs.Moves.{Action}
use Rattle.world_history.specs.Sending.{Moved, move}
use Rattle.world_history.specs.Plans.{Plan, due, went_on, plan_of}

-- the lines of a move, and those of the next ones
abbrev pub then_lines : List Line → Moved → Moved
then_lines lines m = record m { lines = lines ++ m.lines }

-- where nothing is due the event is over
abbrev pub or_over : World → Option Action → (Action → Moved) → Moved
or_over w None goes = record { world = w; lines = [] }
or_over w (Some action) goes = goes action

-- what is due, at most n moves of it; the placer names no drive
unfoldable pub plays : ℕ → Plan → World → Moved
plays zero p w = record { world = w; lines = [] }
plays (suc n) p w = or_over w (due p w) (λ action.
    let m : Moved = move w (record { action = action; chosen = [] }) in
    then_lines m.lines (plays n (went_on p action) m.world))

-- an event of at most 40 moves
abbrev pub played : World → Event → Moved
played w e = then_lines (line.Event e ∷ []) (plays 40 (plan_of w e) w)

-- several events
unfoldable pub played_all : World → List Event → Moved
played_all w [] = record { world = w; lines = [] }
played_all w (e ∷ es) =
    let m : Moved = played w e in
    then_lines m.lines (played_all m.world es)

-- ---- what a row shows

-- a message without its bytes
abbrev pub without_bytes : Line → Line
without_bytes (line.Message number from to bytes) = line.Message number from to []
without_bytes l = l

-- the lines that these events write, messages without their bytes
abbrev pub shown : List Event → List Line
shown events = map without_bytes (played_all empty_world events).lines

-- a message that is sent
abbrev pub sent : (number : ℕ) → Party → Party → Line
sent number from to = line.Message number from to []

-- a message that a client or the server takes
abbrev pub taken : (number : ℕ) → Line
taken number = line.Delivered number delivery.Taken

-- one that nobody hears
abbrev pub deaf : (number : ℕ) → Line
deaf number = line.Delivered number delivery.Deaf

-- a call that ends without what it was to do
abbrev pub fails : (client : ℕ) → CallKind → Ending → Line
fails c k e = line.Ended c (outcome.Failed k e)

-- ---- what a row plays

-- a drive of 20,000 bytes
abbrev pub drive : (number : ℕ) → Event
drive d = event.Drive d [] 20000

-- a file of so many components of 4 bytes in a stripe, by a parity algorithm, with tag 1
abbrev pub file : (number components algorithm : ℕ) → Event
file f n algorithm = event.File f (record {
  components = n;
  unit = 4;
  width = 0;
  depth = 0;
  mirrors =
      0;
  algorithm = algorithm;
}) 1
