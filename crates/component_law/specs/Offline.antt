-- A drive that the server has offline has failed.
use Rattle.std.specs.Prelude.{◌≡◌, ℕ, true, List, Some}
use Rattle.scenario_text.specs.declared.line.Line.{Line}
use Rattle.world_history.specs.State.{World, DriveAt, at_number}
use Rattle.history_law.specs.BookMoments.{IsMoment}
use Rattle.component_law.specs.Listed.{IsOffline}

-- at each moment of a history a drive that the server has offline is there and has failed
abbrev pub OfflineHaveFailed : Type 0
OfflineHaveFailed =
    (w : World) (h : List Line) → IsMoment w h → (d : ℕ) → IsOffline w.server.drives d
    → (a : DriveAt) × (at_number w.drives d ≡ Some a) × (a.failed ≡ true)
