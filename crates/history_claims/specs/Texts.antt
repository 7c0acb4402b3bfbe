-- Histories of a scenario's text.
use Rattle.std.specs.Prelude.{◌≡◌, true, List, [], ◌∷◌, ◌++◌, map}
use Rattle.scenario_text.specs.declared.event.Event.{Event}
use Rattle.scenario_text.specs.declared.line.Line.{Line}
use Rattle.scenario_text.specs.Spelling.{Fits}
use Rattle.world_history.specs.State.{World}
use Rattle.world_history.specs.Runs.{FillsUp}
use Rattle.world_history.specs.History.{Step, StandsFor}
use Rattle.history_law.specs.Read.{is_written, AreWritten}
use Rattle.exchange_law.specs.Text.{AreOfText, AreFew}

-- the text of a scenario may have each of these events
abbrev pub EventsFit : List Event → Type 0
EventsFit [] = Unit {0}
EventsFit (e ∷ es) = Fits e × EventsFit es

-- A world stands for a history with such events: then that is one of a scenario's text.
abbrev pub EventsMakeText : Type 0
EventsMakeText =
    (w : World) (h : List Line) (s : StandsFor w h) → EventsFit (map (λ (x : Step). x.event) s.steps) → AreOfText h

-- The lines of an event that stops at the limit of kept bytes, behind a history. There are few messages; and if the text of
-- a scenario may have the event, they leave a history of a text.
pub record CutsGoOn : Type 0 where
  pub written : (w : World) (h cut : List Line) (e : Event) → FillsUp w e cut → AreWritten h → is_written e ≡ true →
      AreWritten (h ++ cut)
  pub text : (w : World) (h cut : List Line) (e : Event) → FillsUp w e cut → AreOfText h → Fits e → AreOfText (h ++ cut)
  pub few : (w : World) (h cut : List Line) (e : Event) → StandsFor w h → FillsUp w e cut → AreFew (h ++ cut)
