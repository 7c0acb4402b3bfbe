-- Where a credential that was given to a client comes from: the line at which its answer was first sent, and the book at
-- the end of that line's step.
use Rattle.std.specs.Prelude.{◌≡◌, ℕ, false, List, ◌∷◌, ◌++◌, slice_get, Some, Ok}
use Rattle.layout_types.specs.declared.cred.ObjectCred.{ObjectCred}
use Rattle.osd_capability.specs.declared.layout.Capability.{Capability}
use Rattle.osd_capability.specs.Layout as capabilities
use Rattle.server_rules.specs.Layouts.{capability_for}
use Rattle.scenario_text.specs.declared.line.Line.{Line}
use Rattle.scenario_text.specs.declared.line.Line.TheVariants as line
use Rattle.scenario_text.specs.declared.line.Party.TheVariants as party
use Rattle.world_history.specs.ServerNames.{Component, Kept, Grant}
use Rattle.world_history.specs.Reading.{sent_in}
use Rattle.world_history.specs.Book.{server_after}
use Rattle.world_history.specs.State.{World}
use Rattle.world_history.specs.History.{StandsFor}
use Rattle.history_law.specs.Listed.{WasGiven}
use Rattle.history_law.specs.StepEnds.{BehindStep}
use Rattle.exchange_law.specs.Text.{AreOfText, AreFew}
use Rattle.component_law.specs.Live.{IsLive}

-- this is the capability for a present component of the file, under the grant: so it has the file's tag
pub record IsCapabilityFor (f : Kept) (g : Grant) (k : ℕ) (c : Capability) : Type 0 where
  pub at : Component
  pub found : slice_get f.components k ≡ Some at
  pub present : at.missing ≡ false
  pub is : c ≡ capability_for f g at k

-- The answer that gave the credential was sent at a line before, and at the end of that line's step the book has the grant
-- live, of this client on the answer's file. The credential's capability is for a component of the file as the book has it
-- there, under this grant.
pub record WasLive (before after : List Line) (client : ℕ) (o : ObjectCred) (g : WasGiven (sent_in before) client o)
    : Type 0 where
  pub front : List Line
  pub number : ℕ
  pub middle : List Line
  pub place : before ≡ front ++ line.Message number party.Server (party.Client client) g.message.bytes ∷ middle
  pub step : BehindStep (λ lines upto. IsLive (server_after upto) g.lists.answer.file client g.lists.given) front
      (line.Message number party.Server (party.Client client) g.message.bytes) (middle ++ after)
  pub capability : (c : Capability) → capabilities.reading o.oc_capability ≡ Ok c
      → IsCapabilityFor step.holds.file.kept step.holds.grant g.component c

-- so it is of whatever was given before some place of these lines
abbrev pub GivenWasLive : List Line → Type 0
GivenWasLive h =
    (before after : List Line) → h ≡ before ++ after → (client : ℕ) (o : ObjectCred)
    (g : WasGiven (sent_in before) client o) → WasLive before after client o g

-- in each whole history of a scenario's text with few messages
abbrev pub EachGivenWasLive : Type 0
EachGivenWasLive = (w : World) (h : List Line) → StandsFor w h → AreOfText h → AreFew h → GivenWasLive h
