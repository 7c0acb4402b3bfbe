-- Where a drive fails, components are lost: nothing is performed, and nothing that was gone comes back.
use Rattle.std.proofs.Common.{◌==◌, ◌++◌, ◌+◌, ℕ, Bool, true, false, List, [], ◌∷◌}
use Rattle.world_history.specs.ServerNames.{Component}
use Rattle.fence_law.specs.Columns.{Gone}
use Rattle.fence_law.specs.Machine.{after_all}
use Rattle.fence_law.specs.State.{State, Event}
use Rattle.fence_law.specs.State.Event.{Fails}
use Rattle.file_simulation.specs.DriveEvents as drive
use Rattle.file_simulation.specs.EventLists.{where_so}
use Rattle.relation_law.specs.Frames.{AreAll}
use Rattle.headline_law.proofs.CalmEvents.{PerformsNone}

-- the event fails a component
abbrev pub Failing : Event → Type 0
Failing (Fails k) = Unit {0}
Failing e = ⊥

pub failing_stays : (s : State) (es : List Event) (q : ℕ) → AreAll Failing es → Gone s q → Gone (after_all s es) q
failing_stays s [] q all gone = gone
failing_stays s (Fails k ∷ es) q all gone = failing_stays (after_all s (Fails k ∷ [])) es q all.1 gone
failing_stays s (e ∷ es) q all gone = absurd all.0

pub failing_none : (es : List Event) → AreAll Failing es → AreAll PerformsNone es
failing_none [] all = tt
failing_none (Fails k ∷ es) all = (tt, failing_none es all.1)
failing_none (e ∷ es) all = absurd all.0

pub fails_all : (d : ℕ) (cs : List Component) (n : ℕ) → AreAll Failing (drive.fails_from d cs n)
unfolding drive.fails_from
fails_all d [] n = tt
fails_all d (c ∷ cs) n = by (c.drive == d) (fails_all d cs (n + 1))
  where
    by : (b : Bool) → AreAll Failing (drive.fails_from d cs (n + 1)) →
        AreAll Failing (where_so b (Fails n ∷ []) ++ drive.fails_from d cs (n + 1))
    by true all = (tt, all)
    by false all = all
