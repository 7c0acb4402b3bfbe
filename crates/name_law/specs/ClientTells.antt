-- How calls end, and which are pending, in histories of a scenario's text: a line can tell each outcome.
use Rattle.std.specs.Prelude.{◌≡◌, ℕ, true, List, Some}
use Rattle.scenario_text.specs.declared.line.Line.{Line}
use Rattle.client_rules.specs.History.{Input, step}
use Rattle.world_history.specs.ClientNames.{Outcome}
use Rattle.world_history.specs.State.{World, ClientAt, at_number}
use Rattle.world_history.specs.Names.{is_tellable}
use Rattle.world_history.specs.ReadLog.{log_in}
use Rattle.world_history.specs.Sending.{Move}
use Rattle.world_history.specs.Plans.{due}
use Rattle.history_law.specs.Moves.{IsForClient}
use Rattle.history_law.specs.BookMoments.{IsMoment, plan_at}
use Rattle.exchange_law.specs.Text.{AreOfText}
use Rattle.exchange_law.specs.Pending.{IsPendingAt}

-- A line can tell each outcome of a call. That the history is of a text is asked for injected bytes alone: greater numbers
-- than bytes have could spell a capability whose tag has more than 32 bits.
abbrev pub OutcomesOfTextAreTold : Type 0
OutcomesOfTextAreTold =
    (w : World) (h : List Line) (k : IsMoment w h) → AreOfText h → (m : Move) → due (plan_at k) w ≡ Some m.action
    → (c : ℕ) (a : ClientAt) → at_number w.clients c ≡ Some a → (i : Input) → IsForClient w m.action c a i → (o : Outcome)
    → (step a.state i).outcome ≡ Some o → is_tellable o ≡ true

-- So the calls that are pending by the lines are at each moment those of the world's clients.
abbrev pub CallsOfTextArePending : Type 0
CallsOfTextArePending = (w : World) (h : List Line) → IsMoment w h → AreOfText h → (c : ℕ) → IsPendingAt w (log_in h) c
