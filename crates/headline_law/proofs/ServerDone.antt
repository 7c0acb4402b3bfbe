-- What a repair has done at its begin, and behind a piece of which it reads nothing.
use Rattle.std.proofs.Common.{◌≡◌, ℕ, true, List, [], ◌∷◌, length, Some}
use Rattle.std.specs.Prelude.{slice_get}
use Rattle.data_map.specs.Check.{IsChecked}
use Rattle.server_rules.specs.Grants.{merged}
use Rattle.server_rules.specs.Maps.{pieces}
use Rattle.server_rules.specs.Repair.{repair_reads}
use Rattle.world_history.specs.ServerNames.{Kept, Component, Piece}
use Rattle.fence_law.specs.State.{State}
use Rattle.file_simulation.specs.Jobs.{AreDone}
use Rattle.relation_law.specs.KeptGuards.{HasLayout}
use Rattle.relation_law.specs.KeptSteps.{core}
use Rattle.headline_law.proofs.DoneColumns.{all_pieces}
use Rattle.headline_law.proofs.DoneSkipped.{skipped}
use Rattle.headline_law.proofs.OweWalk.{done_more}

-- each column of an ended grant for writing is in a piece of the repair, so at its begin there is none that it is behind
pub all_are_done : (u : State) (k : Kept) → IsChecked k.map → AreDone u (core k) (pieces k.map.unit (merged k.ended))
all_are_done u k checked x ended done short = absurd (all_pieces (core k) x checked ended done)

-- What is missing is lost in the machine.
abbrev pub MissingAreLost : State → Kept → Type 0
MissingAreLost u k = (j : ℕ) (at : Component) → slice_get k.components j ≡ Some at → at.missing ≡ true → u.lost j ≡ true

-- a piece of which nothing is read is short, or of a file with neither parity nor mirrors, where each column stands
pub skipped_done : (u : State) (k : Kept) (p : Piece) (ps : List Piece) (nonce : ℕ) → HasLayout u k
    → length k.components ≡ k.map.comps → MissingAreLost u k → repair_reads k p nonce ≡ [] → AreDone u (core k) (p ∷ ps)
    → AreDone u (core k) ps
skipped_done u k p ps nonce lay many lost none done =
    done_more u (core k) p ps done
    (λ x has short. skipped u k lay.tag lay.layout lay.checked many lost p nonce x none has short)
