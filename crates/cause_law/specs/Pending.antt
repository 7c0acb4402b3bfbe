-- When a call is left pending: at the end of the event in which it came.
use Rattle.std.specs.Prelude.{◌≡◌, ℕ, false, List, [], ◌++◌, Some, None, is_err}
use Rattle.client_rules.specs.Messages.{awaited_of}
use Rattle.client_rules.specs.Steps.{calls}
use Rattle.server_rules.specs.Laws.{In}
use Rattle.scenario_text.specs.declared.event.Call.{Call as EventCall}
use Rattle.scenario_text.specs.declared.event.Event.{Event}
use Rattle.scenario_text.specs.declared.event.Event.TheVariants as event
use Rattle.scenario_text.specs.declared.line.CallKind.{CallKind}
use Rattle.scenario_text.specs.declared.line.Ending.TheVariants as ending
use Rattle.scenario_text.specs.declared.line.Outcome.TheVariants as outcome
use Rattle.scenario_text.specs.declared.line.Line.{Line}
use Rattle.scenario_text.specs.declared.line.Line.TheVariants as line
use Rattle.world_history.specs.ClientNames.{Call, CallOp}
use Rattle.world_history.specs.State.{World, ClientAt}
use Rattle.world_history.specs.Told.{kind_of}
use Rattle.world_history.specs.Moves.{op_of}
use Rattle.world_history.specs.Sending.{Move, move}
use Rattle.world_history.specs.Plans.{due, went_on}
use Rattle.history_law.specs.Moments.{IsMoment, plan_at, lines_in}
use Rattle.cause_law.specs.ReadClients.{client_after}

-- ---- a call

-- behind these lines the client takes this call: it isn't refused
pub record IsTaken (h : List Line) (client : ℕ) (op : CallOp) : Type 0 where
  pub caller : ClientAt
  pub there : client_after h client ≡ Some caller
  pub taken : is_err (calls caller.state op) ≡ false

-- behind these lines the client has a pending call
pub record IsPending (h : List Line) (client : ℕ) : Type 0 where
  pub caller : ClientAt
  pub there : client_after h client ≡ Some caller
  pub call : Call
  pub pending : caller.state.call ≡ Some call

-- The event calls the client, who takes the call behind the lines `start`. Behind the lines `h` a call of it is pending, of this
-- kind, and awaits nothing of a drive.
pub record IsLeft (start : List Line) (e : Event) (h : List Line) (client : ℕ) (kind : CallKind) : Type 0 where
  pub its : EventCall
  pub event_is : e ≡ event.Do client its
  pub takes : IsTaken start client (op_of its)
  pub still : IsPending h client
  pub kind_is : kind ≡ kind_of still.call.op
  pub quiet : awaited_of still.caller.state.call ≡ []

-- ---- in a move

-- the line that tells so
abbrev pub pending_line : (client : ℕ) → CallKind → Line
pending_line c kind = line.Ended c (outcome.Failed kind ending.Pending)

-- nothing of the event is left to do behind the move: in one that calls a client, each message that was sent in it was
-- delivered
abbrev pub IsLast : {w : World} → {h : List Line} → IsMoment w h → Move → Type 0
IsLast {w} {h} k m = due (went_on (plan_at k) m.action) (move w m).world ≡ None

-- The lines of the move tell that a call is left pending exactly if the event calls its client, who took the call, the move is
-- the event's last one, and a call is pending behind it.
pub record IsLeftExactly (w : World) (h : List Line) (k : IsMoment w h) (m : Move) : Type 0 where
  pub left : (client : ℕ) (kind : CallKind) → In (pending_line client kind) (lines_in w m)
      → IsLeft k.history k.event h client kind × IsLast k m
  pub tells : (client : ℕ) (its : EventCall) → k.event ≡ event.Do client its → IsTaken k.history client (op_of its)
      → IsLast k m → (p : IsPending (h ++ lines_in w m) client)
      → In (pending_line client (kind_of p.call.op)) (lines_in w m)

-- so it is in each move of a history
abbrev pub CallsAreLeft : List Line → Type 0
CallsAreLeft h =
    (w : World) (g : List Line) (k : IsMoment w g) (m : Move) (rest : List Line) → due (plan_at k) w ≡ Some m.action
    → h ≡ (g ++ lines_in w m) ++ rest → IsLeftExactly w g k m

abbrev pub EachCallIsLeftSo : Type 0
EachCallIsLeftSo =
    (w : World) (h : List Line) (k : IsMoment w h) (m : Move) → due (plan_at k) w ≡ Some m.action → IsLeftExactly w h k m
