-- Lists that are read from the front.
use Rattle.std.proofs.Common.{◌≡◌, ◌≤◌, ℕ, zero, suc, ◌+◌, ◌++◌, List, [], ◌∷◌, length, drop, refl, ap, ◌∙◌, arith, inl, inr, true, false}
use Rattle.std.specs.Prelude.{nat_lt, is_some, slice_get, Some}
use Rattle.std.proofs.lemmas.Bool.{cases_Bool}
use Rattle.std.proofs.Math.ListN.{drop_of_length-le}
use Rattle.client_rules.specs.declared.grants.Listed.{Listed}
use Rattle.client_rules.specs.Io.{timed_with}
use Rattle.call_commands.specs.State.{TimedOut}
use Rattle.client_rules.specs.Grants.{missing_from}

-- from one member on
pub drop_at : {X : Type 0} (xs : List X) (i : ℕ) (x : X) → slice_get xs i ≡ Some x → drop i xs ≡ x ∷ drop (i + 1) xs
drop_at [] i x e = absurd (cc e)
drop_at (y ∷ xs) zero x e = ap (λ z. z ∷ xs) (cc e)
drop_at (y ∷ xs) (suc i) x e = drop_at xs i x e ∙ (let n : suc i + 1 ≡ suc (i + 1) = omega arith in rw n refl)

pub snoc : {X : Type 0} (xs : List X) (x : X) (ys : List X) → (xs ++ x ∷ []) ++ ys ≡ xs ++ x ∷ ys
snoc [] x ys = refl
snoc (z ∷ xs) x ys = ap (λ w. z ∷ w) (snoc xs x ys)

-- ---- components that timed out

timed_at : (one other : TimedOut) (ts : List TimedOut) → nat_lt one.ask.component other.ask.component ≡ true →
    timed_with one (other ∷ ts) ≡ one ∷ other ∷ ts
unfolding timed_with
timed_at one other ts t = rw t refl

timed_past : (one other : TimedOut) (ts : List TimedOut) → nat_lt one.ask.component other.ask.component ≡ false →
    timed_with one (other ∷ ts) ≡ other ∷ timed_with one ts
unfolding timed_with
timed_past one other ts t = rw t refl

timed_last : (one : TimedOut) (ts : List TimedOut) → ts ≡ [] → timed_with one ts ≡ one ∷ []
unfolding timed_with
timed_last one ts e = rw e refl

pub timed_before : (one : TimedOut) (ts : List TimedOut) (i : ℕ) (other : TimedOut) → slice_get ts i ≡ Some other →
    nat_lt one.ask.component other.ask.component ≡ true → timed_with one (drop i ts) ≡ one ∷ drop i ts
timed_before one ts i other e t = rw (drop_at ts i other e) (timed_at one other (drop (i + 1) ts) t)

pub timed_behind : (one : TimedOut) (ts : List TimedOut) (i : ℕ) (other : TimedOut) → slice_get ts i ≡ Some other →
    nat_lt one.ask.component other.ask.component ≡ false → timed_with one (drop i ts) ≡ other ∷ timed_with one (drop (i + 1) ts)
timed_behind one ts i other e t = ap (timed_with one) (drop_at ts i other e) ∙ timed_past one other (drop (i + 1) ts) t

pub timed_end : (one : TimedOut) (ts : List TimedOut) (i : ℕ) → length ts ≤ i → timed_with one (drop i ts) ≡ one ∷ []
timed_end one ts i l = timed_last one (drop i ts) (drop_of_length-le ts l)

-- ---- of the missing components
pub missing_step : (l : Listed) (ls : List Listed) (k : ℕ) →
    missing_from (l ∷ ls) k ≡ missing_from (l ∷ []) k ++ missing_from ls (k + 1)
unfolding missing_from
missing_step l ls k = elim (cases_Bool (is_some l.credential)) [
  | inl t ↦ rw t refl
  | inr f ↦ rw f refl
]
