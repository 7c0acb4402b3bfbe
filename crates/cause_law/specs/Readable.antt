-- In histories of a scenario's text with few messages what is said fits its places.
use Rattle.std.specs.Prelude.{◌≡◌, ℕ, ◌<◌, ◌^◌, List, ◌++◌, Some}
use Rattle.layout_ops.specs.declared.envelope.Envelope.TheVariants as envelope
use Rattle.layout_ops.specs.Spelling.{EnvelopeFits}
use Rattle.osd_commands.specs.declared.commands.Command.{Command}
use Rattle.scenario_text.specs.declared.line.Line.{Line}
use Rattle.client_rules.specs.declared.calls.Awaited.{Awaited}
use Rattle.client_rules.specs.Messages.{awaited_of}
use Rattle.server_rules.specs.Laws.{In}
use Rattle.server_rules.specs.Files.{file_at}
use Rattle.server_rules.specs.Slots.{slot_of}
use Rattle.world_history.specs.ClientNames.{Request}
use Rattle.world_history.specs.ServerNames.{File, Slot}
use Rattle.world_history.specs.State.{World, ClientAt, at_number}
use Rattle.world_history.specs.Reading.{sent_in}
use Rattle.world_history.specs.History.{Lawful}
use Rattle.history_law.specs.BookMoments.{IsMoment}
use Rattle.exchange_law.specs.InStep.{state_of}
use Rattle.exchange_law.specs.PlaceAnswers.{AnswersFit}
use Rattle.exchange_law.specs.Sent.{HasSent}
use Rattle.exchange_law.specs.Meeting.{IsFitting, IsReadableThrough}
use Rattle.cause_law.specs.Rooms.{PlacesSuffice}
use Rattle.cause_law.specs.Reports.{IsShort}
use Rattle.exchange_law.specs.Text.{AreOfText, AreFew}

-- what the server sends to clients
abbrev pub AnswersAreFit : Type 0
AnswersAreFit = (h : List Line) → Lawful h → AreOfText h → AreFew h → AnswersFit (sent_in h)

-- files, and the numbers of their grants, at each moment
abbrev pub FilesAreFit : Type 0
FilesAreFit =
    (w : World) (h : List Line) → IsMoment w h → AreOfText h → AreFew h → (n : ℕ) (f : File) →
    file_at w.server.files n ≡ Some f → IsFitting w.server f

-- the answers that the server keeps
abbrev pub KeptAnswersFit : Type 0
KeptAnswersFit =
    (w : World) (h : List Line) → IsMoment w h → AreOfText h → AreFew h → (c : ℕ) (t : Slot) →
    slot_of w.server.slots c ≡ Some t → EnvelopeFits (envelope.Answer t.kept)

-- the requests whose answers clients await, whatever they are, but for the length of a report
abbrev pub ShortRequestsFit : Type 0
ShortRequestsFit =
    (w : World) (h : List Line) → IsMoment w h → AreOfText h → (c : ℕ) (r : Request) →
    (state_of c (at_number w.clients c)).outstanding ≡ Some r → IsShort r.args → EnvelopeFits (envelope.Request r)

-- files, answers and requests, up to the end of a history
abbrev pub FilesAndAnswersAreReadable : Type 0
FilesAndAnswersAreReadable = (h : List Line) → Lawful h → AreOfText h → AreFew h → IsReadableThrough h

-- each command that a client sent or awaits is so
pub record EachCommand (P : Command → Type 0) (w : World) : Type 0 where
  pub sent : (c d : ℕ) (x : Command) → HasSent w c d x → P x
  pub awaited : (c : ℕ) (a : ClientAt) → at_number w.clients c ≡ Some a → (x : Awaited) →
      In x (awaited_of a.state.call) → P x.command

-- its object fits its place
abbrev pub ObjectsFit : World → Type 0
ObjectsFit w = EachCommand (λ (x : Command). x.object < 2 ^ 64) w

-- and its nonce does
abbrev pub NoncesFit : World → Type 0
NoncesFit w = EachCommand (λ (x : Command). x.nonce < 2 ^ 64) w

-- at each moment up to the end of these lines
abbrev pub Throughout : (World → Type 0) → List Line → Type 0
Throughout P h = (w : World) (before after : List Line) → h ≡ before ++ after → IsMoment w before → P w

-- objects of clients' commands
abbrev pub ObjectsAreEnough : Type 0
ObjectsAreEnough = (h : List Line) → Lawful h → AreOfText h → AreFew h → Throughout ObjectsFit h

-- their nonces
abbrev pub NoncesAreEnough : Type 0
NoncesAreEnough = (h : List Line) → Lawful h → AreOfText h → AreFew h → Throughout NoncesFit h

-- both
abbrev pub PlacesAreEnough : Type 0
PlacesAreEnough = (h : List Line) → Lawful h → AreOfText h → AreFew h → PlacesSuffice h
