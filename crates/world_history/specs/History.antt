-- Histories: the lines of events that were carried out one after another.
use Rattle.std.specs.Prelude.{◌≡◌, ◌≤◌, ◌++◌, List, [], ◌∷◌}
use Rattle.scenario_text.specs.declared.event.Event.{Event}
use Rattle.scenario_text.specs.declared.line.Line.{Line}
use Rattle.world_history.specs.declared.limits.TheConstants.{MAX_KEPT}
use Rattle.world_history.specs.State.{World, empty_world}
use Rattle.world_history.specs.Runs.{Carries, CarriesPart, FillsUp}

-- ---- events one after another

-- an event, its lines, and the world after it
pub record Step : Type 0 where
  pub event : Event
  pub lines : List Line
  pub after : World

-- each event is carried out on the world that those before it leave
abbrev pub AreCarried : World → List Step → Type 0
AreCarried w [] = Unit {0}
AreCarried w (s ∷ steps) = Carries w s.event s.lines s.after × AreCarried s.after steps

-- the world at the end
abbrev pub end_of : World → List Step → World
end_of w [] = w
end_of w (s ∷ steps) = end_of s.after steps

-- all lines
abbrev pub lines_of_steps : List Step → List Line
lines_of_steps [] = []
lines_of_steps (s ∷ steps) = s.lines ++ lines_of_steps steps

-- A world stands for a history: the lines of events that were carried out from the empty world to this one.
pub record StandsFor (w : World) (h : List Line) : Type 0 where
  pub steps : List Step
  pub carried : AreCarried empty_world steps
  pub world_is : w ≡ end_of empty_world steps
  pub lines_are : h ≡ lines_of_steps steps

-- no line, or the first lines of some event
pub data Begins (w : World) (lines : List Line) : Type 0 where
  Nothing : lines ≡ [] → Begins w lines
  Part : (e : Event) → CarriesPart w e lines → Begins w lines

-- A lawful history: events are carried out one after another from the empty world, the last one perhaps cut
-- between two lines.
pub record Lawful (h : List Line) : Type 0 where
  pub world : World
  pub whole : List Line
  pub stands : StandsFor world whole
  pub last : List Line
  pub begins : Begins world last
  pub lines_are : h ≡ whole ++ last

-- ---- what a step of the world's code promises

-- some lines were appended
abbrev pub Appended : List Line → List Line → List Line → Type 0
Appended before after lines = after ≡ before ++ lines

-- An event was carried out. Whatever history the old world stood for, the new one stands for it and these lines.
pub record Goes (w : World) (e : Event) (before after : List Line) (w' : World) : Type 0 where
  pub lines : List Line
  pub appended : Appended before after lines
  pub carries : Carries w e lines w'
  pub stands : (h : List Line) → StandsFor w h → StandsFor w' (h ++ lines)
  pub fits : w'.network.kept ≤ MAX_KEPT

-- An event stops just before what would pass the limit. That is a lawful history.
pub record Stops (w : World) (e : Event) (before after : List Line) : Type 0 where
  pub lines : List Line
  pub appended : Appended before after lines
  pub fills : FillsUp w e lines
  pub lawful : (h : List Line) → StandsFor w h → Lawful (h ++ lines)

-- An event breaks off between two lines, or before its first. That is a lawful history.
pub record BreaksOff (w : World) (e : Event) (before after : List Line) : Type 0 where
  pub lines : List Line
  pub appended : Appended before after lines
  pub begins : Begins w lines
  pub lawful : (h : List Line) → StandsFor w h → Lawful (h ++ lines)

-- ---- one event more

-- a world that stands for a history stands, after one event more, for it and the event's lines
abbrev pub OneEventMore : Type 0
OneEventMore =
    (w w' : World) (h lines : List Line) (e : Event) → StandsFor w h → Carries w e lines w' → StandsFor w' (h ++ lines)

-- cut in that event, it is a lawful history
abbrev pub OneEventCut : Type 0
OneEventCut =
    (w : World) (h lines : List Line) (e : Event) → StandsFor w h → CarriesPart w e lines → Lawful (h ++ lines)

-- an event that stops at the limit is one that is cut
abbrev pub FullIsCut : Type 0
FullIsCut = (w : World) (e : Event) (lines : List Line) → FillsUp w e lines → CarriesPart w e lines

-- each front of a lawful history is lawful
abbrev pub FrontsAreLawful : Type 0
FrontsAreLawful = (h more : List Line) → Lawful (h ++ more) → Lawful h
