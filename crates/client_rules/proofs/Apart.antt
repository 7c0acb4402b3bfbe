-- Commands to different components.
use Rattle.std.proofs.Common.{◌≡◌, ◌⊎◌, ℕ, ◌+◌, ◌==◌, Bool, true, false, List, [], ◌∷◌, ◌++◌, refl, sym, ◌∙◌, inl, inr, eq-eqb, ne_eqb}
use Rattle.std.specs.Prelude.{not, filter}
use Rattle.std.proofs.lemmas.Bool.{cases_Bool, cases_eq, or_right, or_left}
use Rattle.stripe_plan.specs.Lost.{among}
use Rattle.client_rules.specs.State.{Held, Awaited, Store}
use Rattle.client_rules.specs.Commands.{numbered, write_commands, others, not_of}
use Rattle.client_rules.specs.Writes.{firsts, next_to}
use Rattle.client_rules.specs.Laws.{NoneTo, AreApart}

-- one of these
abbrev pub IsIn : Awaited → List Awaited → Type 0
IsIn a [] = ⊥
IsIn a (x ∷ xs) = (a ≡ x) ⊎ IsIn a xs

none_filter : (k : ℕ) (p : Awaited → Bool) (xs : List Awaited) → NoneTo k xs → NoneTo k (filter p xs)
none_filter k p [] x = tt
none_filter k p (a ∷ xs) x =
    elim (cases_Bool (p a)) [ inl t ↦ rw t (x.0, none_filter k p xs x.1) | inr f ↦ rw f (none_filter k p xs x.1) ]

apart_filter : (p : Awaited → Bool) (xs : List Awaited) → AreApart xs → AreApart (filter p xs)
apart_filter p [] x = tt
apart_filter p (a ∷ xs) x = elim (cases_Bool (p a)) [
  | inl t ↦ rw t (none_filter a.ask.component p xs x.0, apart_filter p xs x.1)
  | inr f ↦ rw f (apart_filter p xs x.1)
]

none_in : (k : ℕ) (xs : List Awaited) (a : Awaited) → NoneTo k xs → IsIn a xs → a.ask.component ≡ k → ⊥
none_in k [] a x i e = i
none_in k (y ∷ xs) a x (inl s) e = let same : y.ask.component ≡ k = rw s at e in x.0 same
none_in k (y ∷ xs) a x (inr i) e = none_in k xs a x.1 i e

-- without a command no other is to its component
gone : (p : Awaited → Bool) (xs : List Awaited) (a : Awaited) → p a ≡ false → AreApart xs → IsIn a xs →
    NoneTo a.ask.component (filter p xs)
gone p [] a f x i = absurd i
gone p (y ∷ xs) a f x (inl s) = rw s (let g : p y ≡ false = rw s at f in rw g (none_filter y.ask.component p xs x.0))
gone p (y ∷ xs) a f x (inr i) = elim (cases_Bool (p y)) [
  | inl t ↦ rw t (λ e. none_in y.ask.component xs a x.0 i (sym e), gone p xs a f x.1 i)
  | inr g ↦ rw g (gone p xs a f x.1 i)
]

pub others_apart : (xs : List Awaited) (nonce : ℕ) → AreApart xs → AreApart (others xs nonce)
unfolding others
others_apart xs nonce x = apart_filter _ xs x

pub rest_apart : (k : ℕ) (xs : List Awaited) → AreApart xs → AreApart (not_of k xs)
unfolding not_of
rest_apart k xs x = apart_filter _ xs x

pub others_none : (xs : List Awaited) (a : Awaited) → AreApart xs → IsIn a xs → NoneTo a.ask.component (others xs a.command.nonce)
unfolding others
others_none xs a x i =
    gone (λ (y : Awaited). not (y.command.nonce == a.command.nonce)) xs a
    (rw (eq-eqb a.command.nonce a.command.nonce refl) refl) x i

-- ---- more commands

none_more : (k : ℕ) (xs : List Awaited) (a : Awaited) → NoneTo k xs → (a.ask.component ≡ k → ⊥) → NoneTo k (xs ++ a ∷ [])
none_more k [] a x n = (n, tt)
none_more k (y ∷ xs) a x n = (x.0, none_more k xs a x.1 n)

apart_more : (xs : List Awaited) (a : Awaited) → AreApart xs → NoneTo a.ask.component xs → AreApart (xs ++ a ∷ [])
apart_more [] a x n = (tt, tt)
apart_more (y ∷ xs) a x n = (none_more y.ask.component xs a x.0 (λ e. n.0 (sym e)), apart_more xs a x.1 n.1)

none_added : (k : ℕ) (xs : List Awaited) → NoneTo k xs → NoneTo k (xs ++ [])
none_added k [] x = tt
none_added k (y ∷ xs) x = (x.0, none_added k xs x.1)

same_apart : (xs : List Awaited) → AreApart xs → AreApart (xs ++ [])
same_apart [] x = tt
same_apart (y ∷ xs) x = (none_added y.ask.component xs x.0, same_apart xs x.1)

-- the next write to a component that is sent none
next_numbered : (h : Held) (count k : ℕ) (queue : List Store) (xs : List Awaited) → AreApart xs → NoneTo k xs →
    AreApart (xs ++ numbered h true count (next_to k queue))
unfolding numbered next_to
next_numbered h count k [] xs x n = same_apart xs x
next_numbered h count k (w ∷ ws) xs x n = elim (cases_eq w.ask.component k) [
  | inl e ↦ rw (eq-eqb w.ask.component k e) (apart_more xs _ x (rw (sym e) at n))
  | inr f ↦ rw (ne_eqb w.ask.component k f) (next_numbered h count k ws xs x n)
]

pub next_apart : (h : Held) (k : ℕ) (queue : List Store) (xs : List Awaited) → AreApart xs → NoneTo k xs →
    AreApart (xs ++ write_commands h (next_to k queue))
unfolding write_commands
next_apart h k queue xs x n = next_numbered h h.count k queue xs x n

-- ---- the first writes

-- none is to a component that was seen
seen_none : (h : Held) (count k : ℕ) (seen : List ℕ) (ws : List Store) → among k seen ≡ true →
    NoneTo k (numbered h true count (firsts seen ws))
unfolding numbered firsts
seen_none h count k seen [] e = tt
seen_none h count k seen (w ∷ ws) e = elim (cases_Bool (among w.ask.component seen)) [
  | inl t ↦ rw t (seen_none h count k seen ws e)
  | inr f ↦ rw f (
    λ same. (let seen_too : among w.ask.component seen ≡ true = rw (sym same) at e in absurd (cc (sym seen_too ∙ f))),
    seen_none h (count + 1) k (w.ask.component ∷ seen) ws (or_right (w.ask.component == k) (among k seen) e),
  )
]

firsts_numbered : (h : Held) (count : ℕ) (seen : List ℕ) (ws : List Store) → AreApart (numbered h true count (firsts seen ws))
unfolding numbered firsts
firsts_numbered h count seen [] = tt
firsts_numbered h count seen (w ∷ ws) = elim (cases_Bool (among w.ask.component seen)) [
  | inl t ↦ rw t (firsts_numbered h count seen ws)
  | inr f ↦ rw f (
    seen_none h (count + 1) w.ask.component (w.ask.component ∷ seen) ws
        (or_left (w.ask.component == w.ask.component) (among w.ask.component seen) (eq-eqb w.ask.component w.ask.component refl)),
    firsts_numbered h (count + 1) (w.ask.component ∷ seen) ws,
  )
]

pub firsts_apart : (h : Held) (ws : List Store) → AreApart (write_commands h (firsts [] ws))
unfolding write_commands
firsts_apart h ws = firsts_numbered h h.count [] ws
