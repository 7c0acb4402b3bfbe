-- What the server sends to clients fits.
use Rattle.std.proofs.Common.{ℕ, List, subst}
use Rattle.layout_ops.specs.declared.results.Results.{Results}
use Rattle.layout_ops.specs.declared.results.Results.TheVariants as results
use Rattle.layout_ops.specs.declared.results.LayoutGetResult.TheVariants as get
use Rattle.layout_ops.specs.declared.envelope.Envelope.{Envelope}
use Rattle.layout_ops.specs.declared.envelope.Envelope.TheVariants as envelope
use Rattle.scenario_text.specs.declared.line.Party.{Party}
use Rattle.scenario_text.specs.declared.line.Party.TheVariants as party
use Rattle.world_history.specs.declared.messages.Sent.{Sent}
use Rattle.exchange_law.specs.PlaceAnswers.{ResultsFit, AnswerFits, SpellsFitting, AnswersFit}
use Rattle.exchange_law.specs.Fitting.{ResultsGive, GivesFit, SpellsFit, FitsBetween, AllFit, MessagesFit}
use Rattle.cause_law.specs.Readable.{AnswersAreFit}

pub results_fit : (c : ℕ) (r : Results) → ResultsGive c r → ResultsFit c r
results_fit c (results.LayoutGet (get.Granted ok)) g = record { own = g.0; numbers = g.1 }
results_fit c (results.LayoutGet (get.TryLater signal)) g = tt
results_fit c (results.LayoutGet (get.Refused status)) g = tt
results_fit c (results.LayoutCommit v) g = tt
results_fit c (results.LayoutReturn v) g = tt

pub answer_fits : (c : ℕ) (e : Envelope) → GivesFit c e → AnswerFits c e
answer_fits c (envelope.Answer a) g = results_fit c a.results g
answer_fits c (envelope.Request r) g = tt
answer_fits c (envelope.Recall r) g = tt
answer_fits c (envelope.RecallAnswer r) g = tt
answer_fits c (envelope.Order o) g = tt
answer_fits c (envelope.OrderAnswer a) g = tt

pub spells_fitting : (c : ℕ) (bytes : List ℕ) → SpellsFit c bytes → SpellsFitting c bytes
spells_fitting c bytes s = record {
  message = s.message;
  bytes_are = s.bytes_are;
  fits = s.fits;
  gives = answer_fits c s.message s.gives;
}

pub answers_fit : (ss : List Sent) → AllFit ss → AnswersFit ss
answers_fit ss all n c m there from to =
    spells_fitting c m.bytes
    (subst (λ (p : Party). FitsBetween party.Server p m.bytes) to
    (subst (λ (p : Party). FitsBetween p m.to m.bytes) from (all n m there)))

pub answers_are_fit : MessagesFit → AnswersAreFit
answers_are_fit fit h lawful text few = answers_fit _ (fit h lawful text few)
