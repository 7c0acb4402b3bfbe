-- Why a call is left pending: the answer that its client waits for can't come within the event.
use Rattle.std.specs.Prelude.{◌≡◌, ◌⊎◌, ℕ, true, List, Some}
use Rattle.scenario_text.specs.declared.line.Ending.TheVariants.{Pending}
use Rattle.scenario_text.specs.declared.line.Outcome.TheVariants.{Failed}
use Rattle.scenario_text.specs.declared.line.Line.{Line}
use Rattle.scenario_text.specs.declared.line.Line.TheVariants as line
use Rattle.world_history.specs.ClientNames.{Request}
use Rattle.world_history.specs.State.{ClientAt}
use Rattle.world_history.specs.History.{Lawful}
use Rattle.history_law.specs.Safe.{AtEachLine}
use Rattle.exchange_law.specs.Text.{AreOfText, AreFew}
use Rattle.cause_law.specs.ReadClients.{client_after}
use Rattle.cause_law.specs.Lines.{IsInDo}
use Rattle.cause_law.specs.Down.{is_down}

-- behind these lines the client waits for the answer to this request
pub record Awaits (h : List Line) (client : ℕ) (r : Request) : Type 0 where
  pub caller : ClientAt
  pub there : client_after h client ≡ Some caller
  pub outstanding : caller.state.outstanding ≡ Some r

-- The lines end in an event `do` of the client, which waits for the answer to a request. It waited for the answer to that
-- request already when the event began, so that the request was sent before, or the server was down then.
pub record IsUnanswered (lines : List Line) (client : ℕ) : Type 0 where
  pub event : IsInDo lines client
  pub request : Request
  pub awaits : Awaits lines client request
  pub cause : Awaits event.start client request ⊎ (is_down event.start ≡ true)

-- so it is before a line that tells that a call is left pending, if the lines are of a text and have few messages
abbrev pub UnansweredAt : List Line → Line → Type 0
UnansweredAt before (line.Ended c (Failed kind Pending)) = AreOfText before → AreFew before → IsUnanswered before c
UnansweredAt before l = Unit {0}

-- in each lawful history, at each line
abbrev pub PendingCallsAreUnanswered : Type 0
PendingCallsAreUnanswered = (h : List Line) → Lawful h → AtEachLine UnansweredAt h
