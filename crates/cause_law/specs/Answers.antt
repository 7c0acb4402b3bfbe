-- Each request that is new to the server is answered, and its answer has its cause in the book, in the words of the lines.
use Rattle.std.specs.Prelude.{◌≡◌, ◌==◌, ℕ, true, List, [], ◌∷◌, ◌++◌, Some, None}
use Rattle.osd_lists.specs.declared.node.Node.TheVariants.{Client as FromClient}
use Rattle.layout_ops.specs.declared.envelope.Envelope.TheVariants as envelope
use Rattle.layout_ops.specs.declared.results.Results.{Results}
use Rattle.layout_ops.specs.declared.statuses.TheConstants.{LAYOUTIOMODE4_RW}
use Rattle.layout_ops.specs.Spelling.{envelope_item}
use Rattle.server_rules.specs.Answers.{answer}
use Rattle.server_rules.specs.Files.{file_at}
use Rattle.server_rules.specs.Grants.{asked}
use Rattle.server_rules.specs.History.{Input, Hears}
use Rattle.server_rules.specs.Laws.{is_taken_of}
use Rattle.server_rules.specs.Messages.{Asks}
use Rattle.server_rules.specs.Requests.{answer_without}
use Rattle.server_rules.specs.Slots.{New, slot_of, admit}
use Rattle.scenario_text.specs.declared.line.Line.{Line}
use Rattle.scenario_text.specs.declared.line.Line.TheVariants as line
use Rattle.scenario_text.specs.declared.line.Party.TheVariants as party
use Rattle.world_history.specs.ServerNames.{Server, File, Answer, ClientRequest, RequestArgs, Get, Commit, Return}
use Rattle.world_history.specs.Book.{server_after}
use Rattle.world_history.specs.State.{World}
use Rattle.world_history.specs.History.{StandsFor}
use Rattle.history_law.specs.Read.{AreWritten}
use Rattle.cause_law.specs.Gets.{Asking, Row, IsFirst, LeavesLive, detail_of, result_of}
use Rattle.cause_law.specs.Commits.{Commits}
use Rattle.cause_law.specs.Returns.{Returns}
use Rattle.cause_law.specs.Steps.{AtInputs}

-- ---- the cause of an answer

-- what a LAYOUTGET asks of a file
abbrev pub asking : (before behind : File) → (next now client : ℕ) → (iomode offset count : ℕ) → Asking
asking before behind next now client iomode offset count = record {
  before = before;
  behind = behind;
  iomode = iomode;
  offset = offset;
  count = count;
  wanted = asked before.kept next client now offset count (iomode == LAYOUTIOMODE4_RW);
  next = next;
  now = now;
}

-- The answer tells the first row that applies, and the size of the file behind the step, which stays. No other row is the
-- first. The row says which grants are live then.
pub record GetIsCaused (s : Server) (q : ClientRequest) (x : Asking) (a : Answer) : Type 0 where
  pub row : Row
  pub first : IsFirst x row
  pub alone : (r : Row) → IsFirst x r → r ≡ row
  pub is : a ≡ answer q (detail_of row) x.behind.kept.size (result_of s.drives x.behind.kept x.wanted row)
  pub live : LeavesLive x row
  pub size : x.behind.kept.size ≡ x.before.kept.size

-- the answer to what is asked of a file
abbrev pub IsCausedAt : Server → (now : ℕ) → ClientRequest → (before behind : File) → Answer → RequestArgs → Type 0
IsCausedAt s now q f g a (Get iomode offset count) =
    GetIsCaused s q (asking f g s.next_grant now q.client iomode offset count) a
IsCausedAt s now q f g a (Commit last) =
    (detail : ℕ) × (r : Results) × Commits f.kept g.kept q.client last detail r × (a ≡ answer q detail g.kept.size r)
IsCausedAt s now q f g a (Return report) =
    (detail : ℕ) × (r : Results) × Returns f.kept g.kept q.client report detail r × (a ≡ answer q detail g.kept.size r)

-- Of a server when a request comes, and behind its step: its file isn't there, and the answer is NOENT to a LAYOUTGET, BADLAYOUT
-- to a LAYOUTCOMMIT, and OK to a LAYOUTRETURN; or the answer is caused by what the file's book has.
pub data IsCaused (s t : Server) (now : ℕ) (q : ClientRequest) (a : Answer) : Type 0 where
  NoFile : file_at s.files q.file ≡ None → a ≡ answer_without q → IsCaused s t now q a
  OnFile : (f g : File) → file_at s.files q.file ≡ Some f → file_at t.files q.file ≡ Some g
      → IsCausedAt s now q f g a q.args → IsCaused s t now q a

-- ---- in the lines

-- a request of a client that the server takes, and that is new
pub record IsNew (s : Server) (i : Input) (now : ℕ) (q : ClientRequest) : Type 0 where
  pub comes : i ≡ Hears now (FromClient q.client) (Asks q)
  pub taken : is_taken_of s q.client q.client q ≡ true
  pub new : admit (slot_of s.slots q.client) q.sequence ≡ New

-- the line of an answer that is sent
abbrev pub answer_line : (number : ℕ) → Answer → Line
answer_line number a = line.Message number party.Server (party.Client a.client) (envelope_item (envelope.Answer a))

-- These lines of the request's step end with the answer. It is caused by what the book has when the request comes, and behind
-- these lines.
pub record EndsInAnswer (before : List Line) (l : Line) (now : ℕ) (q : ClientRequest) (rest : List Line) : Type 0 where
  pub front : List Line
  pub number : ℕ
  pub answer : Answer
  pub lines_are : rest ≡ front ++ answer_line number answer ∷ []
  pub caused : IsCaused (server_after before) (server_after (before ++ l ∷ rest)) now q answer

-- so it is of each that comes
abbrev pub AnswersIt : (before : List Line) → Line → Input → (rest : List Line) → Type 0
AnswersIt before l i rest = (now : ℕ) (q : ClientRequest) → IsNew (server_after before) i now q → EndsInAnswer before l now q rest

abbrev pub RequestsAreAnswered : List Line → Type 0
RequestsAreAnswered h = AtInputs AnswersIt h

-- in each whole history whose events a text may have
abbrev pub EachRequestIsAnswered : Type 0
EachRequestIsAnswered = (w : World) (h : List Line) → StandsFor w h → AreWritten h → RequestsAreAnswered h
