-- How far the numbers of grants have risen.
use Rattle.std.specs.Prelude.{◌+◌, ◌≤◌, length}
use Rattle.world_history.specs.State.{World}
use Rattle.history_law.specs.HistoryMoments.{IsReached}

-- at each moment there are no more grants than messages that were sent: each grant is given in an answer
abbrev pub GrantsAreCounted : Type 0
GrantsAreCounted = (w : World) → IsReached w → w.server.next_grant ≤ length w.network.messages + 1
