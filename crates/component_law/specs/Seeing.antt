-- The server that is read off the lines of a history.
use Rattle.std.specs.Prelude.{List}
use Rattle.scenario_text.specs.declared.line.Line.{Line}
use Rattle.world_history.specs.Calm.{seen}
use Rattle.component_law.specs.Naming.{AreNamed}
use Rattle.component_law.specs.Sound.{IsSound}

-- the server that is read off a history is sound, whatever its events are, as long as lines can name what they make
abbrev pub SeenIsSound : Type 0
SeenIsSound = (h : List Line) → AreNamed h → IsSound (seen h).server.server
