-- What is kept of the messages to drives finds the messages of the world.
use Rattle.std.specs.Prelude.{◌≡◌, List}
use Rattle.scenario_text.specs.declared.line.Line.{Line}
use Rattle.world_history.specs.State.{World}
use Rattle.world_history.specs.History.{StandsFor}
use Rattle.world_history.specs.Reading.{sent_in}
use Rattle.world_history.specs.Guesses.{guarded}
use Rattle.world_watch.specs.Guessing.{GuessState}
use Rattle.world_watch.specs.Tied.{AreOf, Keeps}
use Rattle.component_law.specs.Messages.{messages_of}

-- the messages by which guesses are told are those that are read off the lines
abbrev pub GuardsMessages : Type 0
GuardsMessages = (h : List Line) → (guarded h).sent ≡ sent_in h

-- what is kept of a history finds the messages of each world that stands for it
abbrev pub SightsTheWorld : Type 0
SightsTheWorld =
    (w : World) (h : List Line) (g : GuessState) → StandsFor w h → Keeps (guarded h) g
    → AreOf (messages_of w) g.sightings
