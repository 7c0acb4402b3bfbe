-- What each stage of a ready call owes: how it goes on by the next move of the event.
use Rattle.std.proofs.Common.{◌≡◌, ◌≢◌, ◌+◌, ◌++◌, ◌∷◌, ℕ, List, [], length, Some}
use Rattle.scenario_text.specs.declared.event.Event.TheVariants as event
use Rattle.scenario_text.specs.declared.line.Line.{Line}
use Rattle.client_rules.specs.Commands.{of_component}
use Rattle.client_rules.specs.Io.{awaited_in}
use Rattle.world_history.specs.declared.messages.Message.{Message}
use Rattle.world_history.specs.State.{World, at_number}
use Rattle.world_history.specs.Moves.{Opens, TimesOut, acts}
use Rattle.world_history.specs.Sending.{Move, move}
use Rattle.world_history.specs.Plans.{quiet_at}
use Rattle.exchange_law.specs.Doing.{posted}
use Rattle.history_law.specs.Moments.{lines_in}
use Rattle.ready_law.proofs.Calls.{ReadyCall, queue_at, IsIn, DeliversHead, TellsTimeout}
use Rattle.ready_law.proofs.Stages.{Returning, Returned, Asking, Recalling, AskingAgain, Getting, Working, Committing, Committed, Reporting, Reported, GoesOn}

-- The opening move of the call's event, and what it leaves of the queue.
pub record OpensCall (s : ReadyCall) (m : Move) : Type 0 where
  pub action_is : m.action ≡ Opens (event.Do s.client s.its)
  pub queue_is : queue_at s (move s.world m).world ≡ posted (acts s.world m.chosen m.action).posts
  pub count_is : length (move s.world m).world.network.messages
      ≡ length s.world.network.messages + length (acts s.world m.chosen m.action).posts

-- a stage goes on where the first message of the queue is delivered
abbrev pub GoesOnBy : (ReadyCall → World → Type 0) → Type 0
GoesOnBy Has =
    (s : ReadyCall) (w : World) (h : List Line) → IsIn s w h → (m : Move)
    → IsIn s (move w m).world (h ++ lines_in w m) → Has s w
    → (x : Message) (rest : List Message) → queue_at s w ≡ x ∷ rest → DeliversHead s w m x rest
    → GoesOn s (move w m).world (lines_in w m)

-- where nothing is on its way, the client awaits component k of a drive, and this times out next
pub record AwaitsDrive (s : ReadyCall) (w : World) (a : Working s w) : Type 0 where
  pub component : ℕ
  pub some : of_component component (awaited_in a.phase) ≢ []
  pub due : quiet_at s.client (at_number w.clients s.client) ≡ Some (TimesOut s.client component)

-- each stage
pub record StagesGoOn : Type 0 where
  pub opens : (s : ReadyCall) (m : Move) → OpensCall s m → IsIn s s.world s.history
      → IsIn s (move s.world m).world (s.history ++ lines_in s.world m)
      → GoesOn s (move s.world m).world (lines_in s.world m)
  pub returning : GoesOnBy Returning
  pub returned : GoesOnBy Returned
  pub asking : GoesOnBy Asking
  pub recalling : GoesOnBy Recalling
  pub asking_again : GoesOnBy AskingAgain
  pub getting : GoesOnBy Getting
  pub working : GoesOnBy Working
  pub waits : (s : ReadyCall) (w : World) (a : Working s w) → AwaitsDrive s w a
  pub times_out : (s : ReadyCall) (w : World) (h : List Line) → IsIn s w h → (m : Move)
      → IsIn s (move w m).world (h ++ lines_in w m) → (a : Working s w) → queue_at s w ≡ [] → (k : ℕ)
      → of_component k (awaited_in a.phase) ≢ [] → TellsTimeout s w m k → GoesOn s (move w m).world (lines_in w m)
  pub committing : GoesOnBy Committing
  pub committed : GoesOnBy Committed
  pub reporting : GoesOnBy Reporting
  pub reported : GoesOnBy Reported
