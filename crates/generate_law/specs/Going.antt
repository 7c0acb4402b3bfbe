-- From where the parties rest on, each further call of the scenario leaves them at rest.
use Rattle.std.specs.Prelude.{◌≡◌, ℕ, true, List, ◌++◌, map}
use Rattle.scenario_text.specs.declared.line.Line.{Line}
use Rattle.world_history.specs.State.{World}
use Rattle.world_history.specs.History.{Step, StandsFor, AreCarried, end_of, lines_of_steps}
use Rattle.world_history.specs.Guesses.{unguessed}
use Rattle.history_law.specs.Read.{AreWritten}
use Rattle.exchange_law.specs.Text.{AreOfText, AreFew}
use Rattle.ready_law.specs.Ready.{scene_of}
use Rattle.generate_law.specs.Scenario.{calls_from}
use Rattle.generate_law.specs.Rests.{FILE_SIZE, Rests}

-- The history with these lines behind is one of a scenario's text with few messages, in which nothing was guessed.
pub record GoesWell (h : List Line) : Type 0 where
  pub written : AreWritten h
  pub text : AreOfText h
  pub few : AreFew h
  pub clean : unguessed h ≡ true

-- so it is behind any number of calls, from any call on
abbrev pub CallsKeepRest : Type 0
CallsKeepRest =
    (n k x : ℕ) (w : World) (h : List Line) (steps : List Step) → StandsFor w h → Rests FILE_SIZE (scene_of w h)
    → AreCarried w steps → map (λ (s : Step). s.event) steps ≡ calls_from n k x → GoesWell (h ++ lines_of_steps steps)
    → Rests FILE_SIZE (scene_of (end_of w steps) (h ++ lines_of_steps steps))
