-- The slot of a client, by its number.
use Rattle.std.specs.Prelude.{ℕ, List, [], ◌∷◌, ◌++◌, ◌≡◌, ◌<◌, ◌≤◌, ◌==◌, length, slice_set, suc, refl, Result, Ok, Err, OnOk}
use Rattle.std.proofs.Common.{arith, inl, inr, ap, ◌∙◌}
use Rattle.osd_lists.specs.declared.memory.Memory.{Memory}
use Rattle.std.proofs.lemmas.Bool.{cases_Bool}
use Rattle.server_rules.specs.declared.server.Slot.{Slot}
use Rattle.server_rules.specs.Slots.{keep}
use Rattle.server_state.specs.Kept.{place_in}

-- in its place
pub keep_there : (ss : List Slot) (s : Slot) → place_in ss s.client < length ss →
    slice_set ss (place_in ss s.client) s ≡ keep ss s
unfolding place_in keep
keep_there [] s l = absurd (omega (arith, l))
keep_there (t ∷ ts) s l = elim (cases_Bool (t.client == s.client)) [
  | inl here ↦ rw here refl
  | inr not_here ↦ rw not_here (ap (λ us. t ∷ us) (keep_there ts s (behind t ts s (rw not_here at l))))
]
  where
    behind : (t : Slot) (ts : List Slot) (s : Slot) → suc (place_in ts s.client) < length (t ∷ ts) →
        place_in ts s.client < length ts
    behind t ts s l = omega (arith, l)

-- behind all
pub keep_last : (ss : List Slot) (s : Slot) → length ss ≤ place_in ss s.client → ss ++ s ∷ [] ≡ keep ss s
unfolding place_in keep
keep_last [] s l = refl
keep_last (t ∷ ts) s l = elim (cases_Bool (t.client == s.client)) [
  | inl here ↦ absurd (none t ts (rw here at l))
  | inr not_here ↦ rw not_here (ap (λ us. t ∷ us) (keep_last ts s (behind t ts s (rw not_here at l))))
]
  where
    none : (t : Slot) (ts : List Slot) → length (t ∷ ts) ≤ 0 → ⊥
    none t ts l = omega (arith, l)

    behind : (t : Slot) (ts : List Slot) (s : Slot) → length (t ∷ ts) ≤ suc (place_in ts s.client) →
        length ts ≤ place_in ts s.client
    behind t ts s l = omega (arith, l)

-- where the code found its place
pub set_there : (ss : List Slot) (s : Slot) (place len : ℕ) → place ≡ place_in ss s.client → len ≡ length ss → place < len →
    slice_set ss place s ≡ keep ss s
set_there ss s place len p n l = rw p (keep_there ss s (omega (arith, p, n, l)))

-- where it found none
pub pushed_last : (ss : List Slot) (s : Slot) (place len : ℕ) (r : Result (Unit {0}) Memory) (new : List Slot) →
    place ≡ place_in ss s.client → len ≡ length ss → len ≤ place → OnOk r (new ≡ ss ++ s ∷ []) → OnOk r (new ≡ keep ss s)
pushed_last ss s place len (Ok u) new p n l e = e ∙ keep_last ss s (omega (arith, p, n, l))
pushed_last ss s place len (Err m) new p n l e = tt
