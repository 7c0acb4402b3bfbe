-- The transcript of a run: the lines of a history, and the last line.
use Rattle.std.specs.Prelude.{◌≡◌, ◌≤◌, ℕ, List, [], ◌∷◌, ◌++◌, map}
use Rattle.scenario_text.specs.declared.event.Event.{Event}
use Rattle.scenario_text.specs.declared.line.Line.{Line}
use Rattle.scenario_text.specs.LineSpelling.{lines_text}
use Rattle.world_history.specs.State.{World}
use Rattle.world_history.specs.declared.limits.TheConstants.{MAX_KEPT}
use Rattle.world_history.specs.Guesses.{last_line}
use Rattle.world_history.specs.History.{Step, StandsFor}
use Rattle.history_claims.specs.Carried.{AreCarried}

-- the events of steps
abbrev pub events_of : List Step → List Event
events_of steps = map (λ (s : Step). s.event) steps

-- A world stands for a history, and these are its events. So the history is lawful. No more bytes are kept than may be, and
-- messages are of bytes.
pub record Tells (events : List Event) (w : World) (h : List Line) : Type 0 where
  pub stands : StandsFor w h
  pub fits : w.network.kept ≤ MAX_KEPT
  pub events_are : events_of stands.steps ≡ events
  pub carried : AreCarried h

-- the last line of a history says whether it is calm and whether it is unguessed
abbrev pub EndsWith : List Line → Line → Type 0
EndsWith h last = last ≡ last_line h

-- the text of a history and its last line
abbrev pub final_text : List Line → Line → List ℕ
final_text h last = lines_text (h ++ last ∷ [])
