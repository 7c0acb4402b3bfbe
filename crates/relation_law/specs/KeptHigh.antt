-- How high grants reach, event by event.
use Rattle.std.specs.Prelude.{◌≡◌, ℕ, ◌<◌, true, false, Some, None}
use Rattle.world_history.specs.ServerNames.{File, Kept}
use Rattle.fence_law.specs.State.{State, Event, Grant}
use Rattle.fence_law.specs.State.Event.{Grants, Fenced}
use Rattle.plan_law.specs.FileLayout.{stripe_of_column}
use Rattle.file_simulation.specs.Phases.{IsEndedAt}

-- a file of which no more is said than what is kept
abbrev pub as_file : Kept → File
as_file k = record { kept = k; spent = false; job = None }

-- What an event needs so that grants and writes stay below `high`: of a new grant, that it does; and where a fence is over,
-- that what the outstanding grants for writing cover is of the grants that the fence has ended.
abbrev pub HighNeeds : State → File → Event → Type 0
HighNeeds b f (Grants c number rw range extending) =
    rw ≡ true → (q : ℕ) → range q ≡ true → stripe_of_column f.kept.map q < f.kept.high
HighNeeds b f Fenced =
    (c : ℕ) (x : Grant) → b.outstanding c ≡ Some x → x.rw ≡ true → (q : ℕ) → x.covers q ≡ true → IsEndedAt f q
HighNeeds b f e = Unit {0}
