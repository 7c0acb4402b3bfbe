-- Why the server recalls a grant, in the words of its book.
use Rattle.std.specs.Prelude.{◌≡◌, ◌⊎◌, ◌==◌, ◌<◌, ◌≤◌, ℕ, false, List, ◌++◌, Some}
use Rattle.layout_ops.specs.declared.envelope.Envelope.TheVariants as envelope
use Rattle.layout_ops.specs.declared.results.LayoutGetResult.TheVariants as get
use Rattle.layout_ops.specs.declared.results.Results.TheVariants as results
use Rattle.layout_ops.specs.declared.statuses.TheConstants.{LAYOUTIOMODE4_RW}
use Rattle.layout_ops.specs.Spelling.{envelope_item}
use Rattle.server_rules.specs.Answers.{recall_of}
use Rattle.server_rules.specs.Files.{file_at}
use Rattle.server_rules.specs.Grants.{asked}
use Rattle.server_rules.specs.History.{Input}
use Rattle.server_rules.specs.Laws.{In}
use Rattle.scenario_text.specs.declared.line.Line.{Line}
use Rattle.scenario_text.specs.declared.line.Line.TheVariants as line
use Rattle.scenario_text.specs.declared.line.Party.TheVariants as party
use Rattle.world_history.specs.ServerNames.{Server, File, Grant, Answer, ClientRequest, Get, ToRecall}
use Rattle.world_history.specs.Book.{server_after}
use Rattle.world_history.specs.State.{World}
use Rattle.world_history.specs.Moves.{Action}
use Rattle.world_history.specs.Sending.{Move}
use Rattle.world_history.specs.Plans.{due}
use Rattle.history_law.specs.Moments.{IsMoment, plan_at, lines_in}
use Rattle.history_law.specs.Moves.{IsForServer}
use Rattle.history_law.specs.Read.{AreWritten}
use Rattle.history_law.specs.Steps.{IsOrder}
use Rattle.cause_law.specs.Answers.{IsCaused, IsNew}
use Rattle.cause_law.specs.Gets.{AreOpposed}

-- ---- why

-- A grant that is live when a new LAYOUTGET of its file comes is opposed to what is asked. The answer says so: its client is to
-- try later.
pub record IsInTheWay (s t : Server) (i : Input) (g : Grant) : Type 0 where
  pub now : ℕ
  pub request : ClientRequest
  pub new : IsNew s i now request
  pub file : File
  pub found : file_at s.files request.file ≡ Some file
  pub iomode : ℕ
  pub offset : ℕ
  pub count : ℕ
  pub asks : request.args ≡ Get iomode offset count
  pub live : In g file.kept.grants
  pub opposed : AreOpposed (asked file.kept s.next_grant request.client now offset count (iomode == LAYOUTIOMODE4_RW)) g
  pub answer : Answer
  pub caused : IsCaused s t now request answer
  pub later : answer.results ≡ results.LayoutGet (get.TryLater false)

-- Why a grant is recalled when this comes to the server, by its book then and behind its step: an order `recall` comes for a file
-- of which it is live; or it is in the way.
pub data IsRecalled (s t : Server) (i : Input) (g : Grant) : Type 0 where
  ByOrder : (target : ℕ) (f : File) → IsOrder i ToRecall target → file_at s.files target ≡ Some f → In g f.kept.grants
      → IsRecalled s t i g
  InTheWay : IsInTheWay s t i g → IsRecalled s t i g

-- ---- what a message of the server tells its client

-- an answer
abbrev pub IsAnswer : (client : ℕ) → (bytes : List ℕ) → Type 0
IsAnswer client bytes = (a : Answer) × (a.client ≡ client) × (bytes ≡ envelope_item (envelope.Answer a))

-- or the recall of a grant of the client, with a count that no recall had before
pub record IsRecall (w : World) (action : Action) (s t : Server) (client : ℕ) (bytes : List ℕ) : Type 0 where
  pub input : Input
  pub comes : IsForServer w action input
  pub grant : Grant
  pub client_is : grant.client ≡ client
  pub count : ℕ
  pub first : s.next_recall ≤ count
  pub counted : count < t.next_recall
  pub bytes_are : bytes ≡ envelope_item (envelope.Recall (recall_of grant count))
  pub why : IsRecalled s t input grant

-- so does each in the lines of a move, by the books before and behind it
abbrev pub RecallsCaused : World → List Line → Move → Type 0
RecallsCaused w h m =
    (number client : ℕ) (bytes : List ℕ) → In (line.Message number party.Server (party.Client client) bytes) (lines_in w m)
    → IsAnswer client bytes
    ⊎ IsRecall w m.action (server_after h) (server_after (h ++ lines_in w m)) client bytes

-- so it is in each move of a history
abbrev pub RecallsAreCaused : List Line → Type 0
RecallsAreCaused h =
    (w : World) (g : List Line) (k : IsMoment w g) (m : Move) (rest : List Line) → due (plan_at k) w ≡ Some m.action
    → h ≡ (g ++ lines_in w m) ++ rest → AreWritten (g ++ lines_in w m) → RecallsCaused w g m

abbrev pub EachRecallIsCaused : Type 0
EachRecallIsCaused =
    (w : World) (h : List Line) (k : IsMoment w h) (m : Move) → due (plan_at k) w ≡ Some m.action
    → AreWritten (h ++ lines_in w m) → RecallsCaused w h m
