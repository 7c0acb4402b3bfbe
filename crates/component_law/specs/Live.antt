-- The layouts that the server gives are of live grants, in the words of the lines.
use Rattle.std.specs.Prelude.{◌≡◌, ◌⊎◌, ℕ, List, slice_get, Some}
use Rattle.layout_ops.specs.declared.messages.Answer.{Answer}
use Rattle.layout_ops.specs.declared.results.LayoutGetOk.{LayoutGetOk}
use Rattle.layout_ops.specs.declared.results.LayoutGetResult.TheVariants as get
use Rattle.layout_ops.specs.declared.results.Results.{Results}
use Rattle.layout_ops.specs.declared.results.Results.TheVariants as results
use Rattle.layout_ops.specs.declared.envelope.Envelope.{Envelope}
use Rattle.layout_ops.specs.declared.envelope.Envelope.TheVariants as envelope
use Rattle.layout_ops.specs.Spelling.{envelope_item, EnvelopeFits}
use Rattle.server_rules.specs.Files.{file_at}
use Rattle.server_rules.specs.Laws.{In}
use Rattle.server_rules.specs.Layouts.{granted}
use Rattle.scenario_text.specs.declared.line.Line.{Line}
use Rattle.scenario_text.specs.declared.line.Line.TheVariants as line
use Rattle.scenario_text.specs.declared.line.Party.TheVariants as party
use Rattle.world_history.specs.declared.messages.Sent.{Sent}
use Rattle.world_history.specs.ServerNames.{Server, File, Grant}
use Rattle.world_history.specs.Reading.{sent_in}
use Rattle.world_history.specs.Book.{server_after}
use Rattle.world_history.specs.State.{World}
use Rattle.world_history.specs.History.{StandsFor}
use Rattle.history_law.specs.Granted.{NumbersFit}
use Rattle.history_law.specs.Read.{AreWritten}
use Rattle.history_law.specs.StepEnds.{AtStepEnds}
use Rattle.exchange_law.specs.Text.{AreOfText, AreFew}

-- ---- a live grant

-- What a LAYOUTGET gives is a live grant of this client, with the map, components and tag of the file, and the keys of the
-- drives, as this server has them.
pub record IsLive (book : Server) (number client : ℕ) (ok : LayoutGetOk) : Type 0 where
  pub file : File
  pub found : file_at book.files number ≡ Some file
  pub grant : Grant
  pub live : In grant file.kept.grants
  pub client_is : grant.client ≡ client
  pub is : ok ≡ granted book.drives file.kept grant

-- so it is of an answer's results, where they give a layout
abbrev pub GivesLive : Server → (number client : ℕ) → Results → Type 0
GivesLive book n c (results.LayoutGet (get.Granted ok)) = IsLive book n c ok
GivesLive book n c r = Unit {0}

-- of an answer: a grant of the file that it names, of the client whom it answers
abbrev pub AnswersLive : Server → Answer → Type 0
AnswersLive book a = GivesLive book a.file a.client a.results

-- and of any message to this client that is an answer
abbrev pub LiveIn : Server → (client : ℕ) → Envelope → Type 0
LiveIn book c (envelope.Answer a) = (a.client ≡ c) × AnswersLive book a
LiveIn book c e = Unit {0}

-- ---- numbers

-- these lines are of a scenario's text, with few messages: so numbers fit their places
pub record AreShort (h : List Line) : Type 0 where
  pub text : AreOfText h
  pub few : AreFew h

-- the numbers of each live grant fit
abbrev pub GrantsFit : Server → Type 0
GrantsFit book =
    (number : ℕ) (f : File) (g : Grant) → file_at book.files number ≡ Some f → In g f.kept.grants
    → NumbersFit book.drives f.kept g

-- These bytes spell such a message. If Short holds, it is read as it was spelled, and so is what it gives.
pub record SpellsLive (Short : Type 0) (book : Server) (client : ℕ) (bytes : List ℕ) : Type 0 where
  pub message : Envelope
  pub bytes_are : bytes ≡ envelope_item message
  pub live : LiveIn book client message
  pub fits : Short → EnvelopeFits message
  pub grants : Short → GrantsFit book

-- ---- in the lines

-- the server sent these bytes to the client
pub record WasTold (h : List Line) (client : ℕ) (bytes : List ℕ) : Type 0 where
  pub number : ℕ
  pub message : Sent
  pub there : slice_get (sent_in h) number ≡ Some message
  pub sender : message.from ≡ party.Server
  pub receiver : message.to ≡ party.Client client
  pub bytes_are : message.bytes ≡ bytes

-- a message of the server to a client
abbrev pub IsToClient : Line → Type 0
IsToClient (line.Message n party.Server (party.Client c) bytes) = Unit {0}
IsToClient l = ⊥

-- was sent to the client before, or gives no layout but of a grant that the book has live at the end of its step
abbrev pub TellsLive : Line → (before upto : List Line) → Type 0
TellsLive (line.Message n party.Server (party.Client c) bytes) before upto =
    WasTold before c bytes ⊎ SpellsLive (AreShort upto) (server_after upto) c bytes
TellsLive l before upto = Unit {0}

-- so it is of each
abbrev pub AnswersAreLive : List Line → Type 0
AnswersAreLive h = AtStepEnds IsToClient TellsLive h

-- in each whole history whose events a text may have
abbrev pub EachAnswerIsLive : Type 0
EachAnswerIsLive = (w : World) (h : List Line) → StandsFor w h → AreWritten h → AnswersAreLive h
