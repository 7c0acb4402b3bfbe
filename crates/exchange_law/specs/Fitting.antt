-- What the server sends to clients spells envelopes whose numbers fit their places, and so do those of what it gives.
use Rattle.std.specs.Prelude.{◌≡◌, ℕ, List, slice_get, Some}
use Rattle.layout_ops.specs.declared.results.Results.{Results}
use Rattle.layout_ops.specs.declared.results.Results.TheVariants as results
use Rattle.layout_ops.specs.declared.results.LayoutGetResult.TheVariants as get
use Rattle.layout_ops.specs.declared.envelope.Envelope.{Envelope}
use Rattle.layout_ops.specs.declared.envelope.Envelope.TheVariants as envelope
use Rattle.layout_ops.specs.Spelling.{envelope_item, EnvelopeFits}
use Rattle.scenario_text.specs.declared.line.Party.{Party}
use Rattle.scenario_text.specs.declared.line.Party.TheVariants as party
use Rattle.scenario_text.specs.declared.line.Line.{Line}
use Rattle.world_history.specs.declared.messages.Sent.{Sent}
use Rattle.world_history.specs.Reading.{sent_in}
use Rattle.world_history.specs.History.{Lawful}
use Rattle.history_law.specs.Granted.{IsGrantOf, NumbersFit}
use Rattle.exchange_law.specs.Text.{AreOfText, AreFew}

-- where results give a layout, it is of a grant of the client, and the numbers of this grant fit
abbrev pub ResultsGive : (client : ℕ) → Results → Type 0
ResultsGive client (results.LayoutGet (get.Granted ok)) =
    (x : IsGrantOf client ok) × NumbersFit x.drives x.file x.grant
ResultsGive client r = Unit {0}

-- so it is of any message that is an answer
abbrev pub GivesFit : (client : ℕ) → Envelope → Type 0
GivesFit client (envelope.Answer a) = ResultsGive client a.results
GivesFit client e = Unit {0}

-- these bytes spell a message to the client whose numbers fit, and so do those of what it gives
pub record SpellsFit (client : ℕ) (bytes : List ℕ) : Type 0 where
  pub message : Envelope
  pub bytes_are : bytes ≡ envelope_item message
  pub fits : EnvelopeFits message
  pub gives : GivesFit client message

-- so do those that the server sends to a client
abbrev pub FitsBetween : Party → Party → List ℕ → Type 0
FitsBetween party.Server (party.Client c) bytes = SpellsFit c bytes
FitsBetween from to bytes = Unit {0}

-- each message among these
abbrev pub AllFit : List Sent → Type 0
AllFit ss = (number : ℕ) (m : Sent) → slice_get ss number ≡ Some m → FitsBetween m.from m.to m.bytes

-- each message of a lawful history of a scenario's text with few messages
abbrev pub MessagesFit : Type 0
MessagesFit = (h : List Line) → Lawful h → AreOfText h → AreFew h → AllFit (sent_in h)
