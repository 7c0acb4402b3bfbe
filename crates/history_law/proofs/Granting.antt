-- Each answer of the server that gives a layout gives one of a grant of that client.
use Rattle.std.proofs.Common.{ℕ, List, refl}
use Rattle.layout_ops.specs.declared.messages.Answer.{Answer}
use Rattle.server_rules.specs.Files.{Step, at_file}
use Rattle.server_rules.specs.Requests.{serves}
use Rattle.server_rules.specs.Served.{Served}
use Rattle.server_rules.specs.History.{Input, step}
use Rattle.world_history.specs.ServerNames.{Server, Slot, Outgoing}
use Rattle.history_law.specs.Answers.{AnswersOnly, SlotsKeep, StepAnswers}
use Rattle.history_law.proofs.Answers.{step_answers}
use Rattle.history_law.specs.Granted.{GivesOwn}
use Rattle.history_law.proofs.IssueTelling.{served_own, refused_own, answer_own}

abbrev pub AnswerOwn : Answer → Type 0
AnswerOwn a = GivesOwn a.client a.results

-- each slot keeps such an answer
abbrev pub SlotsOwn : List Slot → Type 0
SlotsOwn ss = SlotsKeep AnswerOwn ss

abbrev pub SendsOwn : List Outgoing → Type 0
SendsOwn os = AnswersOnly AnswerOwn os

abbrev pub StepOwn : Step → Type 0
StepOwn t = StepAnswers AnswerOwn t

pub step_own : (s : Server) (chosen : List ℕ) (i : Input) → SlotsOwn s.slots → StepOwn (step s chosen i)
step_own s chosen i k = step_answers AnswerOwn s chosen i k (λ now q is. record {
  misordered = λ expected. refused_own q.client q.args _;
  without = refused_own q.client q.args _;
  served = λ f found.
      let v : Served = serves (at_file s chosen f) s.next_grant s.format now q.client q.args in
      answer_own q.client s.drives v q.args v.told.grant refl
      (served_own (at_file s chosen f) s.next_grant s.format now q.client q.args);
})
