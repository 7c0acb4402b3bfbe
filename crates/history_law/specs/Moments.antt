-- The moments of a history: the worlds between two of its moves, and the lines so far.
use Rattle.std.specs.Prelude.{◌≡◌, List, [], ◌∷◌, ◌++◌, None}
use Rattle.scenario_text.specs.declared.event.Event.{Event}
use Rattle.scenario_text.specs.declared.line.Line.{Line}
use Rattle.scenario_text.specs.declared.line.Line.TheVariants as line
use Rattle.world_history.specs.State.{World}
use Rattle.world_history.specs.Moves.{Action, Opens}
use Rattle.world_history.specs.Sending.{Move, move}
use Rattle.world_history.specs.Plans.{Plan, plan_of}
use Rattle.world_history.specs.Runs.{world_after, lines_of, AreDue, plan_after}
use Rattle.world_history.specs.History.{StandsFor}
use Rattle.world_history.specs.Refusals.{refusal}

-- A world is reached: it stands behind some events and, perhaps, some moves of a further one.
pub record IsReached (w : World) : Type 0 where
  pub before : World
  pub history : List Line
  pub stands : StandsFor before history
  pub moves : List Move
  pub world_is : w ≡ world_after before moves

-- the event's own line stands before those of its first move
abbrev pub with_event : Action → List Line → List Line
with_event (Opens e) ls = line.Event e ∷ ls
with_event action ls = ls

-- the lines that a move adds to a history
abbrev pub lines_in : World → Move → List Line
lines_in w m = with_event m.action (move w m).lines

-- an event's lines so far: before its first move there are none
abbrev pub lines_so_far : World → Event → List Move → List Line
lines_so_far w e [] = []
lines_so_far w e (m ∷ ms) = line.Event e ∷ lines_of w (m ∷ ms)

-- A moment of a history: a world stands for some lines, an event isn't refused there, and these moves of it were due
-- and made. Where none was made, it is a moment between two events.
pub record IsMoment (w : World) (h : List Line) : Type 0 where
  pub before : World
  pub history : List Line
  pub stands : StandsFor before history
  pub event : Event
  pub allowed : refusal before event ≡ None
  pub moves : List Move
  pub are_due : AreDue (plan_of before event) before moves
  pub world_is : w ≡ world_after before moves
  pub lines_are : h ≡ history ++ lines_so_far before event moves

-- what the event still has to do at a moment
abbrev pub plan_at : {w : World} → {h : List Line} → IsMoment w h → Plan
plan_at k = plan_after (plan_of k.before k.event) k.moves
