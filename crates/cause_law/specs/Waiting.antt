-- A pending call that awaits nothing of a drive waits for an answer of the server.
use Rattle.std.specs.Prelude.{◌≡◌, ℕ, List, [], Some}
use Rattle.client_rules.specs.Messages.{awaited_of}
use Rattle.scenario_text.specs.declared.line.Line.{Line}
use Rattle.world_history.specs.ClientNames.{Request}
use Rattle.world_history.specs.State.{World}
use Rattle.history_law.specs.Moments.{IsMoment}
use Rattle.exchange_law.specs.Meeting.{IsReadableThrough}
use Rattle.cause_law.specs.Pending.{IsPending}

-- the client's request whose answer is outstanding
pub record WaitsForAnswer {h : List Line} {client : ℕ} (p : IsPending h client) : Type 0 where
  pub request : Request
  pub outstanding : p.caller.state.outstanding ≡ Some request

-- so it is at each moment, as far as what clients and the server say fits its places
abbrev pub PendingCallsWait : Type 0
PendingCallsWait =
    (w : World) (h : List Line) → IsMoment w h → IsReadableThrough h → (client : ℕ) (p : IsPending h client)
    → awaited_of p.caller.state.call ≡ [] → WaitsForAnswer p
