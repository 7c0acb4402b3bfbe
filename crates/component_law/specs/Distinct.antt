-- Files of which no two have one number, and how many components they have.
use Rattle.std.specs.Prelude.{◌≡◌, ◌≤◌, List, [], ◌∷◌, length}
use Rattle.world_history.specs.ServerNames.{File}
use Rattle.component_law.specs.Words.{Each}

-- no two files have one number
abbrev pub AreDistinct : List File → Type 0
AreDistinct [] = Unit {0}
AreDistinct (f ∷ fs) = Each (λ (g : File). g.kept.number ≡ f.kept.number → ⊥) fs × AreDistinct fs

-- a file has no more components than its map
abbrev pub HaveComponents : List File → Type 0
HaveComponents fs = Each (λ (f : File). length f.kept.components ≤ f.kept.map.comps) fs
