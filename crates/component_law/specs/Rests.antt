-- A client that does nothing has nothing to return.
use Rattle.std.specs.Prelude.{◌≡◌, ◌≢◌, ℕ, [], Some, None}
use Rattle.world_history.specs.ClientNames.{Client}
use Rattle.world_history.specs.State.{World, ClientAt, at_number}
use Rattle.history_law.specs.HistoryMoments.{IsReached}

-- without a call and an outstanding request no return is due, where a number for a request is left; none is left only
-- where as many messages were sent as there are numbers
abbrev pub OwesNothing : Client → Type 0
OwesNothing c = c.call ≡ None → c.outstanding ≡ None → c.next ≢ 0 → c.due ≡ []

-- so it is of each client, in each world that is reached
abbrev pub NothingDueRests : Type 0
NothingDueRests =
    (w : World) → IsReached w → (c : ℕ) (a : ClientAt) → at_number w.clients c ≡ Some a → OwesNothing a.state
