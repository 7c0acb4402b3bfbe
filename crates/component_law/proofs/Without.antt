-- Which grants are left of a file without those of a client.
use Rattle.std.proofs.Common.{◌≡◌, ◌≢◌, ◌==◌, ℕ, List, [], ◌∷◌, None, refl, sym, ◌∙◌, inl, inr, eq-eqb, ne_eqb}
use Rattle.std.proofs.lemmas.Bool.{cases_Bool, cases_eq}
use Rattle.server_rules.specs.Grants.{grant_of, without}
use Rattle.world_history.specs.ServerNames.{Grant}

-- without a client's grants another client has those that it had
pub other_grant : (gs : List Grant) (c d : ℕ) → c ≢ d → grant_of (without gs d) c ≡ grant_of gs c
other_grant [] c d other = refl
other_grant (g ∷ gs) c d other = elim (cases_eq g.client d) [
  | inl is ↦
      rw (eq-eqb g.client d is, ne_eqb g.client c (λ e. other (sym e ∙ is))) (other_grant gs c d other)
  | inr not_its ↦ rw (ne_eqb g.client d not_its) (elim (cases_Bool (g.client == c)) [
    | inl t ↦ rw t refl
    | inr z ↦ rw z (other_grant gs c d other)
  ])
]

-- and that client has none
pub no_grant : (gs : List Grant) (c : ℕ) → grant_of (without gs c) c ≡ None
no_grant [] c = refl
no_grant (g ∷ gs) c = elim (cases_Bool (g.client == c)) [
  | inl t ↦ rw t (no_grant gs c)
  | inr z ↦ rw (z, z) (no_grant gs c)
]
