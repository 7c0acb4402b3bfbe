-- The lines of a step of the server: the events of each can happen if those before them did and the run is calm there.
use Rattle.std.specs.Prelude.{◌≡◌, List, [], ◌∷◌, ◌++◌}
use Rattle.server_rules.specs.History.{Input}
use Rattle.world_history.specs.ServerNames.{File, Note}
use Rattle.world_history.specs.State.{World}
use Rattle.fence_law.specs.State.{State}
use Rattle.fence_law.specs.Machine.{Lawful, after_all}
use Rattle.file_simulation.specs.EventLists.{Lines}
use Rattle.file_simulation.specs.ServerEvents.{noted}
use Rattle.file_simulation.specs.Showing.{IsRun}
use Rattle.relation_law.specs.KeptSteps.{notes_events, behind_notes}

-- The events of each of these lines can happen, as long as the run is calm behind those before it; it is calm before the first.
unfoldable pub MayGo : State → Lines → Type 0
MayGo s [] = Unit {0}
MayGo s (es ∷ ls) = Lawful s es × (IsRun (after_all s es) → MayGo (after_all s es) ls)

-- so it is of each of these notes; t is the machine before the first
abbrev pub NotesMay : State → World → File → Input → List Note → Type 0
NotesMay t w f i ns =
    (before : List Note) (n : Note) (after : List Note) → ns ≡ before ++ (n ∷ after) →
    Lawful t (notes_events t w f i before) → IsRun (behind_notes t w f i before) →
    Lawful (behind_notes t w f i before) (noted (behind_notes t w f i before) w f i n)
