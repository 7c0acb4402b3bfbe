-- Answers of the server whose numbers fit their places.
use Rattle.std.specs.Prelude.{◌≡◌, ℕ, List, slice_get, Some}
use Rattle.layout_ops.specs.declared.results.LayoutGetOk.{LayoutGetOk}
use Rattle.layout_ops.specs.declared.results.LayoutGetResult.TheVariants as get
use Rattle.layout_ops.specs.declared.results.Results.{Results}
use Rattle.layout_ops.specs.declared.results.Results.TheVariants as results
use Rattle.layout_ops.specs.declared.envelope.Envelope.{Envelope}
use Rattle.layout_ops.specs.declared.envelope.Envelope.TheVariants as envelope
use Rattle.layout_ops.specs.Spelling.{EnvelopeFits, envelope_item}
use Rattle.scenario_text.specs.declared.line.Party.TheVariants as party
use Rattle.world_history.specs.declared.messages.Sent.{Sent}
use Rattle.history_law.specs.Granted.{IsGrantOf, NumbersFit}

-- a grant of this client, with numbers that fit
pub record GivesFitting (client : ℕ) (ok : LayoutGetOk) : Type 0 where
  pub own : IsGrantOf client ok
  pub numbers : NumbersFit own.drives own.file own.grant

-- so it is of results, where they give a layout
abbrev pub ResultsFit : (client : ℕ) → Results → Type 0
ResultsFit client (results.LayoutGet (get.Granted ok)) = GivesFitting client ok
ResultsFit client r = Unit {0}

-- and of a message that is an answer
abbrev pub AnswerFits : (client : ℕ) → Envelope → Type 0
AnswerFits client (envelope.Answer a) = ResultsFit client a.results
AnswerFits client e = Unit {0}

-- these bytes spell such a message, which is read again as it was sent
pub record SpellsFitting (client : ℕ) (bytes : List ℕ) : Type 0 where
  pub message : Envelope
  pub bytes_are : bytes ≡ envelope_item message
  pub fits : EnvelopeFits message
  pub gives : AnswerFits client message

-- so do all that the server sent to clients
abbrev pub AnswersFit : List Sent → Type 0
AnswersFit ss = (n client : ℕ) (m : Sent) → slice_get ss n ≡ Some m → m.from ≡ party.Server
    → m.to ≡ party.Client client → SpellsFitting client m.bytes
