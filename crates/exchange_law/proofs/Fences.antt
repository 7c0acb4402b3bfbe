-- What a fence leaves of its file: the number, the map and the size, and no grant.
use Rattle.std.proofs.Common.{◌≡◌, ℕ, List, None, refl, ap, ◌∙◌}
use Rattle.world_history.specs.ServerNames.{Kept, Grant, JobKind}
use Rattle.server_rules.specs.Grants.{grant_of}
use Rattle.server_rules.specs.Going.{Going, keeping}
use Rattle.server_rules.specs.Jobs.{ending, fence_begins}
use Rattle.server_rules.proofs.Runs.{ran_fences}
use Rattle.server_rules.proofs.HandlerLaws.{fence_leaves_none}

-- of the same number, map and size
pub record IsOf (f at : Kept) : Type 0 where
  pub number : at.number ≡ f.number
  pub map : at.map ≡ f.map
  pub size : at.size ≡ f.size

pub of_itself : (f : Kept) → IsOf f f
of_itself f = record { number = refl; map = refl; size = refl }

pub fence_of : (f : Kept) (kind : JobKind) (format : ℕ) (go : Going) → IsOf f go.file.kept
    → IsOf f (fence_begins kind format go).file.kept
unfolding fence_begins
fence_of f kind format go of =
    let r = ran_fences kind (keeping go (ending go.file.kept format)) in
    record { number = r.number ∙ of.number; map = r.map ∙ of.map; size = r.size ∙ of.size }

pub none_after : (kind : JobKind) (format : ℕ) (go : Going) (client : ℕ)
    → grant_of (fence_begins kind format go).file.kept.grants client ≡ None
none_after kind format go client = ap (λ (gs : List Grant). grant_of gs client) (fence_leaves_none kind format go)
