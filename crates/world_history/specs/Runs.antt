-- The moves of an event, one after another, and its lines.
use Rattle.std.specs.Prelude.{◌≡◌, List, [], ◌∷◌, ◌++◌, Some, None}
use Rattle.scenario_text.specs.declared.event.Event.{Event}
use Rattle.scenario_text.specs.declared.line.Line.{Line}
use Rattle.scenario_text.specs.declared.line.Line.TheVariants as line
use Rattle.world_history.specs.State.{World}
use Rattle.world_history.specs.Moves.{acts}
use Rattle.world_history.specs.Sending.{Move, move, Passes, cut_lines}
use Rattle.world_history.specs.Plans.{Plan, due, went_on, plan_of}
use Rattle.world_history.specs.Refusals.{refusal}

-- ---- moves one after another

-- the world after some moves
abbrev pub world_after : World → List Move → World
world_after w [] = w
world_after w (m ∷ ms) = world_after (move w m).world ms

-- their lines
abbrev pub lines_of : World → List Move → List Line
lines_of w [] = []
lines_of w (m ∷ ms) = (move w m).lines ++ lines_of (move w m).world ms

-- each of these is due where it comes
abbrev pub AreDue : Plan → World → List Move → Type 0
AreDue p w [] = Unit {0}
AreDue p w (m ∷ ms) = (due p w ≡ Some m.action) × AreDue (went_on p m.action) (move w m).world ms

-- what is still to do behind them
abbrev pub plan_after : Plan → List Move → Plan
plan_after p [] = p
plan_after p (m ∷ ms) = plan_after (went_on p m.action) ms

-- nothing is due any more
abbrev pub IsOver : Plan → World → Type 0
IsOver p w = due p w ≡ None

-- the first lines of some lines
abbrev pub IsFront : List Line → List Line → Type 0
IsFront front whole = (rest : List Line) × (whole ≡ front ++ rest)

-- ---- an event

-- An event is carried out: its own line, and then its moves to the end.
pub record Carries (w : World) (e : Event) (lines : List Line) (after : World) : Type 0 where
  pub allowed : refusal w e ≡ None
  pub moves : List Move
  pub are_due : AreDue (plan_of w e) w moves
  pub over : IsOver (plan_after (plan_of w e) moves) after
  pub lines_are : lines ≡ line.Event e ∷ lines_of w moves
  pub world_is : after ≡ world_after w moves

-- The first lines of an event that is cut between two lines. It needn't have an end.
pub record CarriesPart (w : World) (e : Event) (lines : List Line) : Type 0 where
  pub allowed : refusal w e ≡ None
  pub moves : List Move
  pub are_due : AreDue (plan_of w e) w moves
  pub part : IsFront lines (line.Event e ∷ lines_of w moves)

-- the lines of these moves, and those of a further one up to what would pass the limit
abbrev pub full_lines : World → List Move → Move → List Line
full_lines w ms last = lines_of w ms ++ cut_lines (acts (world_after w ms) last.chosen last.action)

-- The lines of an event up to the message, or the write that it begins, that would pass the limit of kept bytes.
pub record FillsUp (w : World) (e : Event) (lines : List Line) : Type 0 where
  pub allowed : refusal w e ≡ None
  pub moves : List Move
  pub are_due : AreDue (plan_of w e) w moves
  pub last : Move
  pub last_is_due : due (plan_after (plan_of w e) moves) (world_after w moves) ≡ Some last.action
  pub passes : Passes (acts (world_after w moves) last.chosen last.action)
  pub lines_are : lines ≡ line.Event e ∷ full_lines w moves last
