-- The messages that an event still has to deliver, in order.
use Rattle.std.specs.Prelude.{◌≡◌, ◌≤◌, ◌↔◌, ℕ, true, List, [], ◌∷◌, ◌++◌, length, filter, drop, slice_get, Some, None}
use Rattle.scenario_text.specs.declared.event.Event.TheVariants as event
use Rattle.world_history.specs.declared.messages.Message.{Message}
use Rattle.world_history.specs.declared.messages.Posted.{Posted}
use Rattle.world_history.specs.State.{World}
use Rattle.world_history.specs.Moves.{Action, Opens, Delivers, TimesOut, Pends, acts}
use Rattle.world_history.specs.Sending.{Move, move}
use Rattle.world_history.specs.Plans.{is_pending, next_pending}
use Rattle.exchange_law.specs.Doing.{said, posted}

-- of these messages those that are pending, from a number on
abbrev pub queue_in : (first : ℕ) → List Posted → List Message
queue_in first ps = said (filter is_pending (drop first ps))

-- so it is of a world's
abbrev pub queue : (first : ℕ) → World → List Message
queue first w = queue_in first w.network.messages

-- behind a move the queue is what it leaves of it, and then what it sends
abbrev pub IsQueue : World → (first : ℕ) → Move → List Message → Type 0
IsQueue w first m rest = queue first (move w m).world ≡ rest ++ posted (acts w m.chosen m.action).posts

-- message `number` is the head of the queue, and its delivery takes it out
pub record IsHead (w : World) (first number : ℕ) : Type 0 where
  pub posted : Posted
  pub found : slice_get w.network.messages number ≡ Some posted
  pub from : first ≤ number
  pub pending : is_pending posted ≡ true
  pub rest : List Message
  pub queue_is : queue first w ≡ posted.message ∷ rest
  pub goes_on : (chosen : List ℕ) → IsQueue w first (record { action = Delivers number; chosen = chosen }) rest

-- an action of an event `do` that delivers nothing
abbrev pub DeliversNone : Action → Type 0
DeliversNone (Opens (event.Do c x)) = Unit {0}
DeliversNone (TimesOut c k) = Unit {0}
DeliversNone (Pends c) = Unit {0}
DeliversNone a = ⊥

-- The next message that is due is the head of the queue, and none is exactly where it is empty. A delivery takes the
-- head, any other action of the event leaves all; what is sent comes behind. At the start it is empty.
pub record QueueIsDue : Type 0 where
  pub head : (w : World) (first number : ℕ) → next_pending w first ≡ Some number → IsHead w first number
  pub none : (w : World) (first : ℕ) → (next_pending w first ≡ None) ↔ (queue first w ≡ [])
  pub stays : (w : World) (first : ℕ) (m : Move) → DeliversNone m.action → first ≤ length w.network.messages →
      IsQueue w first m (queue first w)
  pub first : (w : World) → queue (length w.network.messages) w ≡ []
  pub longer : (w : World) (first : ℕ) (m : Move) → first ≤ length w.network.messages →
      first ≤ length (move w m).world.network.messages
