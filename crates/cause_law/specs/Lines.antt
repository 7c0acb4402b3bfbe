-- The lines of an event: the first one is the event's own.
use Rattle.std.specs.Prelude.{◌≡◌, ℕ, Bool, true, false, List, ◌∷◌, ◌++◌}
use Rattle.std.specs.List.{list_any}
use Rattle.scenario_text.specs.declared.event.Call.{Call as EventCall}
use Rattle.scenario_text.specs.declared.event.Event.TheVariants as event
use Rattle.scenario_text.specs.declared.line.Line.{Line}
use Rattle.scenario_text.specs.declared.line.Line.TheVariants as line

-- the first line of an event
abbrev pub is_event : Line → Bool
is_event (line.Event e) = true
is_event l = false

-- The last event that begins in these lines is a `do` of this client. It begins behind the lines `start`.
pub record IsInDo (lines : List Line) (client : ℕ) : Type 0 where
  pub start : List Line
  pub its : EventCall
  pub body : List Line
  pub lines_are : lines ≡ start ++ line.Event (event.Do client its) ∷ body
  pub own : list_any is_event body ≡ false
