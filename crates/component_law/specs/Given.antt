-- The tags of the grants that the server gave before a fence was over.
use Rattle.std.specs.Prelude.{◌≡◌, ◌<◌, ℕ, List, slice_get, Some}
use Rattle.layout_ops.specs.declared.results.LayoutGetOk.{LayoutGetOk}
use Rattle.layout_ops.specs.declared.results.LayoutGetResult.TheVariants as get
use Rattle.layout_ops.specs.declared.results.Results.{Results}
use Rattle.layout_ops.specs.declared.results.Results.TheVariants as results
use Rattle.layout_ops.specs.declared.envelope.Envelope.{Envelope}
use Rattle.layout_ops.specs.declared.envelope.Envelope.TheVariants as envelope
use Rattle.layout_ops.specs.Spelling.{envelope_item, EnvelopeFits}
use Rattle.server_rules.specs.Layouts.{granted}
use Rattle.scenario_text.specs.declared.line.Line.{Line}
use Rattle.scenario_text.specs.declared.line.Party.TheVariants as party
use Rattle.world_history.specs.declared.messages.Sent.{Sent}
use Rattle.world_history.specs.ServerNames.{Drive, Kept, Grant}
use Rattle.world_history.specs.Reading.{sent_in}
use Rattle.world_history.specs.State.{World}
use Rattle.world_history.specs.History.{StandsFor}
use Rattle.history_law.specs.Read.{AreWritten}
use Rattle.history_law.specs.Granted.{NumbersFit}
use Rattle.history_law.specs.Fenced.{noted}
use Rattle.component_law.specs.Live.{AreShort}

-- What a LAYOUTGET gives is a grant of a file whose tag was below this one then. Where Short holds, its numbers fit.
pub record IsOlder (Short : Type 0) (tag : ℕ) (ok : LayoutGetOk) : Type 0 where
  pub drives : List Drive
  pub file : Kept
  pub grant : Grant
  pub is : ok ≡ granted drives file grant
  pub older : file.tag < tag
  pub numbers : Short → NumbersFit drives file grant

-- so it is of an answer's results, where they give a layout
abbrev pub GivesOlder : Type 0 → (tag : ℕ) → Results → Type 0
GivesOlder Short tag (results.LayoutGet (get.Granted ok)) = IsOlder Short tag ok
GivesOlder Short tag r = Unit {0}

-- and of any message that is an answer to a request on this file
abbrev pub OlderIn : Type 0 → (file tag : ℕ) → Envelope → Type 0
OlderIn Short n tag (envelope.Answer a) = a.file ≡ n → GivesOlder Short tag a.results
OlderIn Short n tag e = Unit {0}

-- these bytes spell such a message, which is read as it was spelled if the lines are short
pub record SpellsOlder (before : List Line) (file tag : ℕ) (bytes : List ℕ) : Type 0 where
  pub message : Envelope
  pub bytes_are : bytes ≡ envelope_item message
  pub older : OlderIn (AreShort before) file tag message
  pub fits : AreShort before → EnvelopeFits message

-- Of each note that a fence is over: whatever the server sent clients before, the grants of the file that it gave are of
-- an earlier tag.
abbrev pub GivenBefore : List Line → Type 0
GivenBefore h =
    (before after : List Line) (file tag : ℕ) → h ≡ noted before file tag after → (number client : ℕ) (m : Sent)
    → slice_get (sent_in before) number ≡ Some m → m.from ≡ party.Server → m.to ≡ party.Client client
    → SpellsOlder before file tag m.bytes

-- so it is in each history whose events a text may have
abbrev pub GrantsAreOlder : Type 0
GrantsAreOlder = (w : World) (h : List Line) → StandsFor w h → AreWritten h → GivenBefore h
