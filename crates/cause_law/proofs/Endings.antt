-- No call of a client ends with a drive's verdict on where its command lay.
use Rattle.std.proofs.Common.{◌≡◌, ℕ, ◌++◌, ◌∷◌, List, ap, subst, ◌∙◌, append_assoc}
use Rattle.scenario_text.specs.declared.line.Delivery.TheVariants.{Judged}
use Rattle.scenario_text.specs.declared.line.Ending.TheVariants.{Refused}
use Rattle.scenario_text.specs.declared.line.Outcome.TheVariants.{Failed}
use Rattle.scenario_text.specs.declared.line.Verdict.{Verdict}
use Rattle.scenario_text.specs.declared.line.Verdict.TheVariants as verdict
use Rattle.scenario_text.specs.declared.line.Line.{Line}
use Rattle.scenario_text.specs.declared.line.Line.TheVariants as line
use Rattle.world_history.specs.Reading.{sent_in}
use Rattle.world_history.specs.History.{Lawful}
use Rattle.history_law.proofs.Growing.{history_grows}
use Rattle.exchange_law.specs.PlaceAnswers.{AnswersFit}
use Rattle.exchange_law.specs.Histories.{IsMisplaced, CommandsArePlaced}
use Rattle.exchange_law.proofs.PlaceLines.{fits_before}
use Rattle.exchange_law.specs.Judged.{carried, WasJudged, JudgedAt, RefusalsWereJudged}
use Rattle.cause_law.specs.Endings.{EndsRightlyAt, NoCallEndsMisplaced}

-- what a reply carries of a verdict says no more of where a command lies
not_carried : (v : Verdict) → IsMisplaced (carried v) → IsMisplaced v
not_carried verdict.Rights m = tt
not_carried verdict.WrongObject m = tt
not_carried verdict.Range m = tt
not_carried v m = absurd m

module _ (placed : CommandsArePlaced) (judged : RefusalsWereJudged) (h : List Line) (l : Lawful h) where
  judged_rightly : (before : List Line) (x : Line) (after : List Line) → h ≡ before ++ x ∷ after
      → AnswersFit (sent_in before) → (c d : ℕ) (v : Verdict) → WasJudged before c d v → IsMisplaced v → ⊥
  judged_rightly before x after is fit c d v w m =
      let line_is : Line = line.Delivered w.number (Judged w.found) in
      let whole : h ≡ w.before ++ line_is ∷ (w.after ++ x ∷ after) =
      is ∙ ap (λ (ls : List Line). ls ++ x ∷ after) w.lines_are
      ∙ append_assoc w.before (line_is ∷ w.after) (x ∷ after) in
      let grown : AnswersFit (sent_in (w.before ++ line_is ∷ w.after)) =
      subst (λ (ls : List Line). AnswersFit (sent_in ls)) w.lines_are fit in
      let front : AnswersFit (sent_in w.before) =
      fits_before (sent_in w.before) _ (history_grows w.before (line_is ∷ w.after)) grown in
      placed h l w.before line_is (w.after ++ x ∷ after) whole front w.message c w.sent w.sender
      (not_carried w.found (subst IsMisplaced w.same m))

  at_line : (before : List Line) (x : Line) (after : List Line) → h ≡ before ++ x ∷ after → JudgedAt before x
      → AnswersFit (sent_in before) → EndsRightlyAt before x
  at_line before (line.Ended c (Failed kind (Refused d v))) after is w fit =
      judged_rightly before (line.Ended c (Failed kind (Refused d v))) after is fit c d v w
  at_line before x after is w fit = tt

pub ends_rightly : CommandsArePlaced → RefusalsWereJudged → NoCallEndsMisplaced
ends_rightly placed judged h l before x after is fit =
    at_line placed judged h l before x after is (judged h l before x after is) fit
