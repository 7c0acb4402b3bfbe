-- How many components a file has, whatever is lost.
use Rattle.std.proofs.Common.{◌≡◌, ℕ, suc, ◌+◌, List, [], ◌∷◌, length, refl, ap, arith}
use Rattle.server_rules.specs.declared.files.Component.{Component}
use Rattle.server_rules.specs.Standing.{lose_from, lose_on}
use Rattle.server_rules.specs.Making.{components_on}

pub length_lost : (ks : List ℕ) (cs : List Component) (k : ℕ) → length (lose_from ks cs k) ≡ length cs
unfolding lose_from
length_lost ks [] k = refl
length_lost ks (c ∷ cs) k = omega (arith, length_lost ks cs (k + 1))

pub length_lost_on : (drive : ℕ) (cs : List Component) → length (lose_on drive cs) ≡ length cs
unfolding lose_on
length_lost_on drive [] = refl
length_lost_on drive (c ∷ cs) = omega (arith, length_lost_on drive cs)

pub length_components : (ds : List ℕ) (object : ℕ) → length (components_on ds object) ≡ length ds
unfolding components_on
length_components [] object = refl
length_components (d ∷ ds) object = ap (λ (n : ℕ). suc n) (length_components ds (object + 1))
