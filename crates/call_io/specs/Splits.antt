-- A write of a scatter, among those that are sent first or those that are queued.
use Rattle.std.specs.Prelude.{ℕ, List, [], ◌∷◌, ◌++◌, if◌then◌else◌}
use Rattle.stripe_plan.specs.Lost.{among}
use Rattle.call_io.specs.State.{Store}

-- the components that have a write, once component k has one
abbrev pub seen_with : List ℕ → (k : ℕ) → List ℕ
seen_with seen k = if among k seen then seen else seen ++ k ∷ []

-- a write to a component that has none is one of the first
abbrev pub new_first : List ℕ → Store → List Store
new_first seen w = if among w.ask.component seen then [] else w ∷ []

-- any other is a later one
abbrev pub new_later : List ℕ → Store → List Store
new_later seen w = if among w.ask.component seen then w ∷ [] else []
