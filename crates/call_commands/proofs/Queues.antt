-- The next write to a component, by its place.
use Rattle.std.proofs.Common.{◌≡◌, ◌<◌, ℕ, zero, suc, ◌+◌, ◌==◌, ◌++◌, List, [], ◌∷◌, length, refl, ap, ◌∙◌, arith, inl, inr}
use Rattle.std.specs.Prelude.{filter, slice_index_or, set, option_to_list, Option, Some, None}
use Rattle.std.proofs.lemmas.Bool.{cases_Bool}
use Rattle.call_commands.specs.State.{Store}
use Rattle.client_rules.specs.Writes.{next_to, without_next, without_component}
use Rattle.call_commands.specs.Queue.{present, is_to, is_to_other, NoneBefore, StandBehind, IsFirstTo}

-- behind the first place
tail : (x : Option Store) (xs : List (Option Store)) (k n : ℕ) → NoneBefore (x ∷ xs) k (suc n) → NoneBefore xs k n
tail x xs k n h = λ j l. h (suc j) (omega (arith, l))

pub push_present : (xs : List (Option Store)) (w : Store) → present (xs ++ Some w ∷ []) ≡ present xs ++ w ∷ []
unfolding present
push_present [] w = refl
push_present (None ∷ xs) w = push_present xs w
push_present (Some v ∷ xs) w = ap (λ ws. v ∷ ws) (push_present xs w)

behind : (x : Option Store) (xs : List (Option Store)) (k i : ℕ) → IsFirstTo (x ∷ xs) k (suc i) → IsFirstTo xs k i
behind x xs k i f = record { inside = omega (arith, f.inside); there = f.there; none = tail x xs k i f.none }

-- nowhere
pub none_next : (xs : List (Option Store)) (k : ℕ) → NoneBefore xs k (length xs) → next_to k (present xs) ≡ []
unfolding present next_to
none_next [] k h = refl
none_next (None ∷ xs) k h = none_next xs k (tail None xs k (length xs) h)
none_next (Some w ∷ xs) k h = rw (h 0 (omega arith)) (none_next xs k (tail (Some w) xs k (length xs) h))

pub none_without : (xs : List (Option Store)) (k : ℕ) → NoneBefore xs k (length xs) → without_next k (present xs) ≡ present xs
unfolding present without_next
none_without [] k h = refl
none_without (None ∷ xs) k h = none_without xs k (tail None xs k (length xs) h)
none_without (Some w ∷ xs) k h = rw (h 0 (omega arith)) (ap (λ ws. w ∷ ws) (none_without xs k (tail (Some w) xs k (length xs) h)))

-- at place i
pub there_next : (xs : List (Option Store)) (k i : ℕ) → IsFirstTo xs k i →
    next_to k (present xs) ≡ option_to_list (slice_index_or xs i None)
unfolding present next_to
there_next [] k i f = absurd (omega (arith, f.inside))
there_next (None ∷ xs) k zero f = absurd (cc f.there)
there_next (Some v ∷ xs) k zero f = rw f.there refl
there_next (None ∷ xs) k (suc i) f = there_next xs k i (behind None xs k i f)
there_next (Some v ∷ xs) k (suc i) f = rw (f.none 0 (omega arith)) (there_next xs k i (behind (Some v) xs k i f))

pub there_without : (xs : List (Option Store)) (k i : ℕ) → IsFirstTo xs k i →
    present (set xs i None) ≡ without_next k (present xs)
unfolding present without_next
there_without [] k i f = absurd (omega (arith, f.inside))
there_without (None ∷ xs) k zero f = absurd (cc f.there)
there_without (Some v ∷ xs) k zero f = rw f.there refl
there_without (None ∷ xs) k (suc i) f = there_without xs k i (behind None xs k i f)
there_without (Some v ∷ xs) k (suc i) f =
    rw (f.none 0 (omega arith)) (ap (λ ws. v ∷ ws) (there_without xs k i (behind (Some v) xs k i f)))

-- of the places that are kept
pub kept_present : (xs : List (Option Store)) (k : ℕ) →
    present (filter (λ (x : Option Store). is_to_other x k) xs) ≡ without_component k (present xs)
unfolding present without_component
kept_present [] k = refl
kept_present (None ∷ xs) k = kept_present xs k
kept_present (Some w ∷ xs) k = elim (cases_Bool (w.ask.component == k)) [
  | inl t ↦ rw t (kept_present xs k)
  | inr f ↦ rw f (ap (λ ws. w ∷ ws) (kept_present xs k))
]

-- ---- places where the searches begin

early : (xs ys : List (Option Store)) (j : ℕ) → j < length xs → slice_index_or (xs ++ ys) j None ≡ slice_index_or xs j None
early [] ys j l = absurd (omega (arith, l))
early (x ∷ xs) ys zero l = refl
early (x ∷ xs) ys (suc j) l = early xs ys j (omega (arith, l))

longer : (xs : List (Option Store)) (x : Option Store) → length (xs ++ x ∷ []) ≡ length xs + 1
longer [] x = refl
longer (y ∷ xs) x = omega (arith, longer xs x)

pub push_stand : (es : List (ℕ × ℕ)) (xs : List (Option Store)) (w : Store) → StandBehind es xs →
    StandBehind es (xs ++ Some w ∷ [])
push_stand es xs w h k = (
  omega (arith, longer xs (Some w), (h k).0),
  λ j l. ap (λ x. is_to x k) (early xs (Some w ∷ []) j (omega (arith, l, (h k).0)))
      ∙ (h k).1 j l,
)
