-- Drives and files that lines can name.
use Rattle.std.specs.Prelude.{◌<◌, List}
use Rattle.scenario_text.specs.declared.names.TheConstants.{DRIVES, FILES}
use Rattle.scenario_text.specs.declared.event.Event.TheVariants as event
use Rattle.scenario_text.specs.declared.line.Line.{Line}
use Rattle.scenario_text.specs.declared.line.Line.TheVariants as line
use Rattle.server_rules.specs.History.{Input, Makes, Adds}
use Rattle.component_law.specs.Words.{Each}

-- an event makes a drive or a file that lines can name
abbrev pub IsNamed : Line → Type 0
IsNamed (line.Event (event.Drive d key capacity)) = d < DRIVES
IsNamed (line.Event (event.Disk d key capacity)) = d < DRIVES
IsNamed (line.Event (event.File f m tag)) = f < FILES
IsNamed (line.Event (event.ZonedFile f m tag)) = f < FILES
IsNamed l = Unit {0}

-- so do all events of a history. Those of a text do: it has no other numbers of drives and files.
abbrev pub AreNamed : List Line → Type 0
AreNamed h = Each IsNamed h

-- what comes to the server makes a file, or adds a drive, that lines can name
abbrev pub IsNamedInput : Input → Type 0
IsNamedInput (Makes n m tag zoned) = n < FILES
IsNamedInput (Adds d) = d.number < DRIVES
IsNamedInput i = Unit {0}
