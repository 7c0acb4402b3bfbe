-- The calls that are pending by the lines of a history are those of the clients of the world.
use Rattle.std.specs.Prelude.{◌≡◌, ℕ, true, List, Option, Some, option_map}
use Rattle.scenario_text.specs.declared.line.Line.{Line}
use Rattle.client_rules.specs.History.{Input, step}
use Rattle.world_history.specs.ClientNames.{CallOp, Outcome}
use Rattle.world_history.specs.State.{World, ClientAt, at_number}
use Rattle.world_history.specs.Names.{is_tellable}
use Rattle.world_history.specs.Handed.{pending_op}
use Rattle.world_history.specs.Moves.{op_of}
use Rattle.world_history.specs.ReadLog.{Pending, Log, log_in}
use Rattle.world_history.specs.Sending.{Move}
use Rattle.world_history.specs.Plans.{due}
use Rattle.history_law.specs.Moves.{IsForClient}
use Rattle.history_law.specs.BookMoments.{IsMoment, plan_at}
use Rattle.exchange_law.specs.InStep.{client_of}

-- the call of a client by the log, as the rules name it
abbrev pub logged_op : Option Pending → Option CallOp
logged_op o = option_map (λ (p : Pending). op_of p.call) o

-- it is the pending call of the world's client
abbrev pub IsPendingAt : World → Log → (client : ℕ) → Type 0
IsPendingAt w l c = logged_op (at_number l.pending c) ≡ pending_op (client_of w c)

-- A line can tell each outcome of a call.
abbrev pub OutcomesAreTold : Type 0
OutcomesAreTold =
    (w : World) (h : List Line) (k : IsMoment w h) (m : Move) → due (plan_at k) w ≡ Some m.action → (c : ℕ) (a : ClientAt) →
    at_number w.clients c ≡ Some a → (i : Input) → IsForClient w m.action c a i → (o : Outcome) →
    (step a.state i).outcome ≡ Some o → is_tellable o ≡ true

-- So it is of each client at each moment.
abbrev pub CallsArePending : Type 0
CallsArePending = (w : World) (h : List Line) → IsMoment w h → (c : ℕ) → IsPendingAt w (log_in h) c

-- The second follows from the first.
abbrev pub PendingIfTold : Type 0
PendingIfTold = OutcomesAreTold → CallsArePending
