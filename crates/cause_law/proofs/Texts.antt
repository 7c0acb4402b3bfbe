-- What the server sends fits its places, so commands of clients are placed in each history of a text.
use Rattle.std.proofs.Common.{◌≡◌, ◌++◌, ◌∷◌, List, subst}
use Rattle.scenario_text.specs.declared.line.Line.{Line}
use Rattle.world_history.specs.Reading.{sent_in}
use Rattle.world_history.specs.History.{Lawful}
use Rattle.history_law.proofs.Growing.{history_grows}
use Rattle.exchange_law.specs.Text.{AreOfText, AreFew}
use Rattle.exchange_law.specs.Fitting.{MessagesFit}
use Rattle.exchange_law.specs.PlaceAnswers.{AnswersFit}
use Rattle.exchange_law.specs.Histories.{CommandsArePlaced}
use Rattle.exchange_law.proofs.PlaceLines.{fits_before}
use Rattle.cause_law.specs.Endings.{NoCallEndsMisplaced}
use Rattle.cause_law.specs.Texts.{CommandsOfTextArePlaced, NoCallOfTextEndsMisplaced}
use Rattle.cause_law.proofs.Answers.{answers_fit}

-- so do those of each front
fits_at : MessagesFit → (h : List Line) → Lawful h → AreOfText h → AreFew h → (before : List Line) (x : Line)
    (after : List Line) → h ≡ before ++ x ∷ after → AnswersFit (sent_in before)
fits_at fit h l text few before x after is =
    fits_before (sent_in before) (sent_in (before ++ x ∷ after)) (history_grows before (x ∷ after))
    (subst (λ (ls : List Line). AnswersFit (sent_in ls)) is (answers_fit (sent_in h) (fit h l text few)))

pub texts_placed : MessagesFit → CommandsArePlaced → CommandsOfTextArePlaced
texts_placed fit placed h l text few before x after is =
    placed h l before x after is (fits_at fit h l text few before x after is)

pub texts_end_rightly : MessagesFit → NoCallEndsMisplaced → NoCallOfTextEndsMisplaced
texts_end_rightly fit ends h l text few before x after is =
    ends h l before x after is (fits_at fit h l text few before x after is)
