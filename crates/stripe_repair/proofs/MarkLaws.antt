-- A number above all those that are marked.
use Rattle.std.proofs.Common.{◌≡◌, ℕ, ◌<◌, ◌≤◌, false, List, [], ◌∷◌, refl, arith, ne_eqb}
use Rattle.std.proofs.lemmas.List.Elements.{All-tail}
use Rattle.server_rules.specs.Numbers.{among}
use Rattle.stripe_repair.specs.Marks.{AreUpTo}

pub above_all : (n top : ℕ) (ns : List ℕ) → AreUpTo top ns → top < n → among n ns ≡ false
unfolding among
above_all n top [] up lt = refl
above_all n top (m ∷ ms) up lt =
    let low : m ≤ top = up 0 0 (omega arith) in
    rw (ne_eqb n m (λ e. omega (arith, e, low, lt))) (above_all n top ms (All-tail (λ (k : ℕ). k ≤ top) m ms up) lt)
