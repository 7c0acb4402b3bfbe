-- An audit's questions.
use Rattle.std.specs.Prelude.{ℕ, List, [], ◌∷◌, ◌≡◌, ◌+◌, ◌≤◌, ◌&&◌, not, length}
use Rattle.std.proofs.Common.{arith, inl, inr}
use Rattle.std.proofs.lemmas.Bool.{cases_Bool}
use Rattle.server_rules.specs.declared.limits.TheConstants.{MAX_FILE_COMPONENTS}
use Rattle.server_rules.specs.declared.files.Component.{Component}
use Rattle.server_rules.specs.declared.files.Kept.{Kept}
use Rattle.server_rules.specs.declared.jobs.Awaited.{Awaited}
use Rattle.server_rules.specs.Commands.{Ask, Which, is_meant, to_all, to_each}

few_each : (f : Kept) (which : Which) (ask : Ask) (cs : List Component) (k nonce : ℕ) →
    length (to_each f which ask cs k nonce) ≤ length cs
unfolding to_each
few_each f which ask [] k nonce = omega arith
few_each f which ask (at ∷ cs) k nonce = elim (cases_Bool (not at.missing && is_meant f which k)) [
  | inl t ↦ rw t (omega (arith, few_each f which ask cs (k + 1) (nonce + 1)))
  | inr z ↦ rw z (omega (arith, few_each f which ask cs (k + 1) nonce))
]

-- no more than the file has components
pub few_asked : (f : Kept) (which : Which) (ask : Ask) (nonce : ℕ) (cs : List Awaited) → cs ≡ to_all f which ask nonce →
    length f.components ≤ MAX_FILE_COMPONENTS → length cs + 0 ≤ MAX_FILE_COMPONENTS
few_asked f which ask nonce cs e few = rw e (omega (arith, few_each f which ask f.components 0 nonce, few))
