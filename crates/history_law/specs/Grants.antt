-- What holds of grants in every history.
use Rattle.server_rules.specs.Laws.{AreSafe}
use Rattle.world_history.specs.State.{World}
use Rattle.history_law.specs.HistoryMoments.{IsReached}

-- At each moment, of each file: no two live grants conflict, a client has at most one, none is live while a job runs,
-- and a job that rests awaits something.
abbrev pub GrantsAreSafe : Type 0
GrantsAreSafe = (w : World) → IsReached w → AreSafe w.server.files
