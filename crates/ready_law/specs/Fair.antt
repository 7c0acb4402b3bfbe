-- Moments at which all is known that laws of histories say.
use Rattle.std.specs.Prelude.{◌≡◌, true, List}
use Rattle.scenario_text.specs.declared.line.Line.{Line}
use Rattle.world_history.specs.State.{World}
use Rattle.world_history.specs.History.{Lawful}
use Rattle.world_history.specs.Guesses.{unguessed}
use Rattle.history_law.specs.Read.{AreWritten}
use Rattle.history_law.specs.BookMoments.{IsMoment}
use Rattle.exchange_law.specs.Text.{AreOfText, AreFew}
use Rattle.exchange_law.specs.Meeting.{IsReadableThrough}

-- A moment of a history of a scenario's text with few messages, in which nothing was guessed so far.
pub record IsFair (w : World) (h : List Line) : Type 0 where
  pub moment : IsMoment w h
  pub lawful : Lawful h
  pub written : AreWritten h
  pub of_text : AreOfText h
  pub few : AreFew h
  pub unguessed : unguessed h ≡ true
  pub readable : IsReadableThrough h
