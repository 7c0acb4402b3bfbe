-- Why a call ends with what an answer of the server says.
use Rattle.std.specs.Prelude.{◌≡◌, ◌≢◌, ℕ, List, ◌++◌, Some}
use Rattle.layout_ops.specs.declared.messages.Answer.{Answer}
use Rattle.layout_ops.specs.declared.statuses.TheConstants.{NFS4_OK, NFS4ERR_NOENT, NFS4ERR_LAYOUTTRYLATER, NFS4ERR_LAYOUTUNAVAILABLE, NFS4ERR_RECALLCONFLICT}
use Rattle.client_rules.specs.declared.limits.TheConstants.{NO_COMPONENT}
use Rattle.client_rules.specs.Calls.{file_of}
use Rattle.client_rules.specs.Grants.{held_of}
use Rattle.client_rules.specs.History.{Input}
use Rattle.client_rules.specs.Results.{status_of}
use Rattle.server_rules.specs.Laws.{In}
use Rattle.scenario_text.specs.declared.line.CallKind.{CallKind}
use Rattle.scenario_text.specs.declared.line.Ending.{Ending}
use Rattle.scenario_text.specs.declared.line.Ending.TheVariants as ending
use Rattle.scenario_text.specs.declared.line.Line.{Line}
use Rattle.scenario_text.specs.declared.line.Line.TheVariants as line
use Rattle.scenario_text.specs.declared.line.Outcome.TheVariants as outcome
use Rattle.world_history.specs.ClientNames.{Client, CallOp, Held, Need, Get, Commit, Waits, TimedOut, Outcome, NoFile, Spent, Degraded, Status}
use Rattle.world_history.specs.State.{World, ClientAt, at_number}
use Rattle.world_history.specs.Told.{kind_of, told_outcome}
use Rattle.world_history.specs.Moves.{Action}
use Rattle.world_history.specs.Sending.{Move}
use Rattle.world_history.specs.Plans.{due}
use Rattle.history_law.specs.Moments.{IsMoment, plan_at, lines_in}
use Rattle.history_law.specs.Moves.{IsForClient}
use Rattle.history_law.specs.Turns.{AnswerComes}

-- ---- what an answer says

-- a status that is no layout, and has no end of its own
pub record IsOther (status : ℕ) : Type 0 where
  pub granted : status ≢ NFS4_OK
  pub file : status ≢ NFS4ERR_NOENT
  pub held : status ≢ NFS4ERR_LAYOUTTRYLATER
  pub fencing : status ≢ NFS4ERR_RECALLCONFLICT
  pub unable : status ≢ NFS4ERR_LAYOUTUNAVAILABLE

-- What the answer says to a call that waits with this need: to a LAYOUTGET that the file isn't there, that no grant can be given
-- any more, that a component is lacked, or another status; and to a LAYOUTCOMMIT any status but OK.
pub data Says (a : Answer) : Need → Outcome → Type 0 where
  SaysNoFile : (tries : ℕ) → status_of a.results ≡ NFS4ERR_NOENT → Says a (Get tries) NoFile
  SaysSpent : (tries : ℕ) → status_of a.results ≡ NFS4ERR_LAYOUTUNAVAILABLE → a.detail ≡ NO_COMPONENT
      → Says a (Get tries) Spent
  SaysDegraded : (tries : ℕ) → status_of a.results ≡ NFS4ERR_LAYOUTUNAVAILABLE → a.detail ≢ NO_COMPONENT
      → Says a (Get tries) (Degraded a.detail)
  SaysOther : (tries : ℕ) → IsOther (status_of a.results) → Says a (Get tries) (Status (status_of a.results) a.detail)
  SaysWrong : (timed : List TimedOut) → status_of a.results ≢ NFS4_OK
      → Says a (Commit timed) (Status (status_of a.results) a.detail)

-- an end that only an answer says
abbrev pub IsOfAnswers : Ending → Type 0
IsOfAnswers ending.NoFile = Unit {0}
IsOfAnswers ending.Spent = Unit {0}
IsOfAnswers (ending.Degraded component) = Unit {0}
IsOfAnswers (ending.Status status detail) = Unit {0}
IsOfAnswers e = ⊥

-- ---- in a move

-- The move hands the client the answer to its outstanding request, and the client's call waits for it with this need.
pub record TakesAnswer (w : World) (action : Action) (client : ℕ) (op : CallOp) (need : Need) (a : Answer) : Type 0 where
  pub caller : ClientAt
  pub there : at_number w.clients client ≡ Some caller
  pub call_is : caller.state.call ≡ Some (record { op = op; phase = Waits need })
  pub input : Input
  pub handed : IsForClient w action client caller input
  pub answered : AnswerComes caller.state input a

-- so a call of this kind ends in it
pub record WasSaid (w : World) (action : Action) (client : ℕ) (kind : CallKind) (e : Ending) : Type 0 where
  pub op : CallOp
  pub need : Need
  pub answer : Answer
  pub end : Outcome
  pub takes : TakesAnswer w action client op need answer
  pub says : Says answer need end
  pub told : outcome.Failed kind e ≡ told_outcome (kind_of op) end

-- a commit is under the call's grant
abbrev pub IsUnder : Client → CallOp → Need → Type 0
IsUnder c op (Commit timed) = (h : Held) × (held_of c.held (file_of op) ≡ Some h)
IsUnder c op n = Unit {0}

-- The lines of the move tell that a call ends so exactly if the client takes an answer that says it.
pub record EndsAreSaid (w : World) (m : Move) : Type 0 where
  pub said : (client : ℕ) (kind : CallKind) (e : Ending) → In (line.Ended client (outcome.Failed kind e)) (lines_in w m)
      → IsOfAnswers e → WasSaid w m.action client kind e
  pub ends : (client : ℕ) (op : CallOp) (need : Need) (a : Answer) (o : Outcome)
      → (t : TakesAnswer w m.action client op need a) → Says a need o → IsUnder t.caller.state op need
      → In (line.Ended client (told_outcome (kind_of op) o)) (lines_in w m)

-- so it is in each move of a history
abbrev pub CallsEndAsSaid : List Line → Type 0
CallsEndAsSaid h =
    (w : World) (g : List Line) (k : IsMoment w g) (m : Move) (rest : List Line) → due (plan_at k) w ≡ Some m.action
    → h ≡ (g ++ lines_in w m) ++ rest → EndsAreSaid w m

abbrev pub EachEndIsSaid : Type 0
EachEndIsSaid = (w : World) (h : List Line) (k : IsMoment w h) (m : Move) → due (plan_at k) w ≡ Some m.action → EndsAreSaid w m
