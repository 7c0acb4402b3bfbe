-- The first grant that is due and still held.
use Rattle.std.specs.Prelude.{ℕ, zero, suc, true, List, [], ◌∷◌, Some, refl, ◌≡◌, ◌<◌, find, drop, length, slice_get}
use Rattle.std.proofs.Common.{arith, sym, ap, ◌∙◌, get_or, drop-cons, add-one}
use Rattle.std.proofs.lemmas.Option.{slice_get-get_or}
use Rattle.client_rules.specs.declared.grants.Held.{Held}
use Rattle.client_rules.specs.declared.grants.Due.{Due}
use Rattle.client_rules.specs.Going.{is_held, due_behind}
use Rattle.held_grants.specs.Dues.{IsFirstHeld}

-- the first i aren't held any more
pub record Passed (hs : List Held) (us : List Due) (i : ℕ) : Type 0 where
  pub found : find (is_held hs) (drop i us) ≡ find (is_held hs) us
  pub behind : due_behind hs (drop i us) ≡ due_behind hs us

pub first_at : (hs : List Held) (us : List Due) (i : ℕ) (u : Due) → i < length us → is_held hs (get_or us i u) ≡ true →
    Passed hs us i → IsFirstHeld hs us i
unfolding due_behind
first_at hs us i u l t p =
    let d : drop i us ≡ get_or us i u ∷ drop (suc i) us = drop-cons us i u l in
    record {
      inside = l;
      found = sym p.found ∙ rw d (rw t (sym (slice_get-get_or us i u l)));
      behind = sym p.behind ∙ rw d (rw t (ap (λ (z : ℕ). drop z us) (sym (add-one i))));
    }
