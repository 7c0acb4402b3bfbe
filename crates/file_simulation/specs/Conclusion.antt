-- What the headline follows from: the four statements of the simulation, and two on files.
use Rattle.std.specs.Prelude.{◌≡◌, ℕ, List, [], length, Some, None}
use Rattle.data_map.specs.Check.{IsChecked}
use Rattle.server_rules.specs.Files.{file_at}
use Rattle.scenario_text.specs.declared.line.Line.{Line}
use Rattle.world_history.specs.ServerNames.{File}
use Rattle.world_history.specs.History.{Lawful}
use Rattle.world_history.specs.ReadLog.{log_of}
use Rattle.world_history.specs.Calm.{moment_of}
use Rattle.file_simulation.specs.Claim.{IsOfScenario, HeadlineHolds}
use Rattle.file_simulation.specs.Showing.{FilesGoAsRuns}
use Rattle.file_simulation.specs.Simulation.{EachMoveGoesOn, EachFileIsCreated, EachCutIsShown, EachCreationIsShown}

-- The statements of the simulation give that each file of a calm and unguessed history goes as a run.
abbrev pub SimulationGivesRuns : Type 0
SimulationGivesRuns = EachMoveGoesOn → EachFileIsCreated → EachCutIsShown → EachCreationIsShown → FilesGoAsRuns

-- ---- what is asked beside

-- Each file has a map that can be used, and a component for each that the map has.
abbrev pub FilesAreShaped : Type 0
FilesAreShaped =
    (h : List Line) → Lawful h → IsOfScenario h → (file : ℕ) (f : File) →
    file_at (moment_of h).server.files file ≡ Some f → IsChecked f.kept.map × (length f.kept.components ≡ f.kept.map.comps)

-- A file that there isn't has no entry in the log.
abbrev pub NoneIsLogged : Type 0
NoneIsLogged =
    (h : List Line) → Lawful h → IsOfScenario h → (file : ℕ) →
    file_at (moment_of h).server.files file ≡ None → log_of h file ≡ []

-- ---- the headline

-- If each file goes as a run, and these two hold, so does the headline.
abbrev pub RunsGiveTheHeadline : Type 0
RunsGiveTheHeadline = FilesGoAsRuns → FilesAreShaped → NoneIsLogged → HeadlineHolds
