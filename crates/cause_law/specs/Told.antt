-- Why the server sends a client what it sends: a recall, or an answer to the request that comes.
use Rattle.std.specs.Prelude.{◌≡◌, ℕ, true, List, ◌++◌, Some}
use Rattle.osd_lists.specs.declared.node.Node.TheVariants.{Client as FromClient}
use Rattle.layout_ops.specs.declared.envelope.Envelope.{Envelope}
use Rattle.layout_ops.specs.declared.envelope.Envelope.TheVariants as envelope
use Rattle.layout_ops.specs.declared.statuses.TheConstants.{NFS4ERR_SEQ_MISORDERED}
use Rattle.layout_ops.specs.Spelling.{EnvelopeFits, envelope_item}
use Rattle.server_rules.specs.Answers.{plain_answer}
use Rattle.server_rules.specs.Files.{file_at}
use Rattle.server_rules.specs.History.{Hears}
use Rattle.server_rules.specs.Laws.{In, is_taken_of}
use Rattle.server_rules.specs.Messages.{Asks}
use Rattle.server_rules.specs.Requests.{size_in}
use Rattle.server_rules.specs.Served.{tells}
use Rattle.server_rules.specs.Slots.{New, Misordered, slot_of, admit}
use Rattle.scenario_text.specs.declared.line.Line.{Line}
use Rattle.scenario_text.specs.declared.line.Line.TheVariants as line
use Rattle.scenario_text.specs.declared.line.Party.TheVariants as party
use Rattle.world_history.specs.ServerNames.{Server, Slot, Answer, ClientRequest, Recall}
use Rattle.world_history.specs.Book.{server_after}
use Rattle.world_history.specs.State.{World}
use Rattle.world_history.specs.Moves.{Action}
use Rattle.world_history.specs.Sending.{Move}
use Rattle.world_history.specs.Plans.{due}
use Rattle.history_law.specs.Moments.{IsMoment, plan_at, lines_in}
use Rattle.history_law.specs.Moves.{IsForServer}
use Rattle.history_law.specs.Read.{AreWritten}
use Rattle.component_law.specs.Live.{AreShort}
use Rattle.cause_law.specs.Answers.{IsCaused, answer_line}

-- ---- an answer

-- it was sent
pub record WasSent (h : List Line) (a : Answer) : Type 0 where
  pub number : ℕ
  pub there : In (answer_line number a) h

-- The request has the number of its client's last one. The answer to that was kept and sent, and is sent once more.
pub record IsRepeated (h : List Line) (s : Server) (q : ClientRequest) (a : Answer) : Type 0 where
  pub slot : Slot
  pub kept : slot_of s.slots q.client ≡ Some slot
  pub last : q.sequence ≡ slot.last
  pub same : a ≡ slot.kept
  pub sent : WasSent h a

-- The request has neither this number nor the next one. The answer says so, and names the next.
pub record IsMisordered (s : Server) (q : ClientRequest) (a : Answer) : Type 0 where
  pub expected : ℕ
  pub misordered : admit (slot_of s.slots q.client) q.sequence ≡ Misordered expected
  pub is : a ≡ plain_answer q (tells NFS4ERR_SEQ_MISORDERED expected) (size_in (file_at s.files q.file))

-- Why a request is answered so, behind these lines, of the server then and behind its step: it is new, and the answer is caused
-- by what the book has of its file; it is the last one again; or it is misordered.
pub data Answers (h : List Line) (s t : Server) (now : ℕ) (q : ClientRequest) (a : Answer) : Type 0 where
  ToNew : admit (slot_of s.slots q.client) q.sequence ≡ New → IsCaused s t now q a → Answers h s t now q a
  Repeats : IsRepeated h s q a → Answers h s t now q a
  Refuses : IsMisordered s q a → Answers h s t now q a

-- the move hands the server a request of the answer's client, and this is the answer to it
pub record IsToRequest (w : World) (action : Action) (h : List Line) (s t : Server) (a : Answer) : Type 0 where
  pub now : ℕ
  pub request : ClientRequest
  pub handed : IsForServer w action (Hears now (FromClient request.client) (Asks request))
  pub taken : is_taken_of s request.client request.client request ≡ true
  pub client_is : a.client ≡ request.client
  pub why : Answers h s t now request a

-- ---- in a move

-- these bytes spell the message, and where Short holds it is read in them as it was spelled
pub record Spells (Short : Type 0) (message : Envelope) (bytes : List ℕ) : Type 0 where
  pub bytes_are : bytes ≡ envelope_item message
  pub fits : Short → EnvelopeFits message

-- these bytes tell the client a recall, or an answer to its request
pub data IsTold (Short : Type 0) (w : World) (action : Action) (h : List Line) (s t : Server) (client : ℕ) (bytes : List ℕ)
    : Type 0 where
  TellsRecall : (r : Recall) → r.client ≡ client → Spells Short (envelope.Recall r) bytes
      → IsTold Short w action h s t client bytes
  TellsAnswer : (a : Answer) → a.client ≡ client → Spells Short (envelope.Answer a) bytes → IsToRequest w action h s t a
      → IsTold Short w action h s t client bytes

-- So does each message of the server to a client in the lines of a move, by the books before and behind it. Up to there the
-- lines may be of a scenario's text, with few messages.
abbrev pub TellsCaused : World → List Line → Move → Type 0
TellsCaused w h m =
    (number client : ℕ) (bytes : List ℕ) → In (line.Message number party.Server (party.Client client) bytes) (lines_in w m)
    → IsTold (AreShort (h ++ lines_in w m)) w m.action h (server_after h) (server_after (h ++ lines_in w m)) client bytes

-- so it is in each move of a history
abbrev pub MessagesAreCaused : List Line → Type 0
MessagesAreCaused h =
    (w : World) (g : List Line) (k : IsMoment w g) (m : Move) (rest : List Line) → due (plan_at k) w ≡ Some m.action
    → h ≡ (g ++ lines_in w m) ++ rest → AreWritten (g ++ lines_in w m) → TellsCaused w g m

abbrev pub EachMessageIsCaused : Type 0
EachMessageIsCaused =
    (w : World) (h : List Line) (k : IsMoment w h) (m : Move) → due (plan_at k) w ≡ Some m.action
    → AreWritten (h ++ lines_in w m) → TellsCaused w h m
