-- Components that timed out rise, and stay below the limit of a grant's components.
use Rattle.std.proofs.Common.{◌≡◌, ◌==◌, ◌≤◌, ◌<◌, ℕ, ◌+◌, true, false, nat_lt, List, [], ◌∷◌, length, map, refl, sym, ◌∙◌, inl, inr, arith}
use Rattle.std.specs.List.{AllByRecursion}
use Rattle.std.proofs.lemmas.Bool.{cases_Bool, cases_lt, eq-eqb, lt-ltb, le-ltb, or_from}
use Rattle.std.proofs.lemmas.Bool.Decides.{nat_tests}
use Rattle.osd_lists.proofs.Tests.{first_false, second_false}
use Rattle.stripe_plan.specs.Lost.{among}
use Rattle.cause_law.specs.State.{Awaited, TimedOut, Ask, Store}
use Rattle.client_rules.specs.Commands.{before, of_component, not_of}
use Rattle.client_rules.specs.Io.{first_of, timed_with}
use Rattle.client_rules.specs.Writes.{without_component}

-- ---- tests

differ : (a b : ℕ) → (a == b) ≡ false → a ≡ b → ⊥
differ a b e s = cc (sym (eq-eqb a b s) ∙ e)

above : (a b : ℕ) → a ≤ b → (a == b) ≡ false → a + 1 ≤ b
above a b l e = elim (cases_lt a b) [
  | inl less ↦ omega (arith, less)
  | inr past ↦ let same : a ≡ b = omega (arith, l, past) in absurd (differ a b e same)
]

-- ---- components that timed out

abbrev pub components : List TimedOut → List ℕ
components ts = map (λ (t : TimedOut). t.ask.component) ts

-- they rise from a number on
abbrev pub Rise : (low : ℕ) → List TimedOut → Type 0
Rise low [] = low ≤ 64
Rise low (t ∷ ts) = (low ≤ t.ask.component) × (t.ask.component < 64) × Rise (t.ask.component + 1) ts

pub are_few : (low : ℕ) (ts : List TimedOut) → Rise low ts → low + length ts ≤ 64
are_few low [] r = omega (arith, r)
are_few low (t ∷ ts) r = omega (arith, r.0, are_few (t.ask.component + 1) ts r.2)

-- a component that may be asked, which didn't time out
abbrev pub Apart : List TimedOut → (k : ℕ) → Type 0
Apart ts k = (k < 64) × (among k (components ts) ≡ false)

abbrev pub AskApart : List TimedOut → Ask → Type 0
AskApart ts a = Apart ts a.component

abbrev pub StoreApart : List TimedOut → Store → Type 0
StoreApart ts w = Apart ts w.ask.component

abbrev pub AwaitedApart : List TimedOut → Awaited → Type 0
AwaitedApart ts a = Apart ts a.ask.component

-- one more that times out
pub rise_with : (low : ℕ) (t : TimedOut) (ts : List TimedOut) → low ≤ t.ask.component → Apart ts t.ask.component
    → Rise low ts → Rise low (timed_with t ts)
unfolding timed_with
rise_with low t [] from new r = (from, new.0, omega (arith, new.0))
rise_with low t (u ∷ us) from new r = elim (cases_lt t.ask.component u.ask.component) [
  | inl less ↦ rw (lt-ltb t.ask.component u.ask.component less) (from, new.0, (omega (arith, less), r.1, r.2))
  | inr past ↦
      let other = first_false (u.ask.component == t.ask.component) _ new.1 in
      let rest = second_false (u.ask.component == t.ask.component) _ new.1 in
      rw (le-ltb t.ask.component u.ask.component past) (
        r.0,
        r.1,
        rise_with (u.ask.component + 1) t us (above u.ask.component t.ask.component past other)
            (new.0, rest) r.2,
      )
]

-- another component is still apart
pub apart_with : (k : ℕ) (t : TimedOut) (ts : List TimedOut) → (t.ask.component == k) ≡ false
    → among k (components ts) ≡ false → among k (components (timed_with t ts)) ≡ false
unfolding timed_with
apart_with k t [] e n = or_from (t.ask.component == k) false e refl
apart_with k t (u ∷ us) e n = elim (cases_Bool (nat_lt t.ask.component u.ask.component)) [
  | inl less ↦ rw less (or_from (t.ask.component == k) _ e n)
  | inr past ↦ rw past (or_from (u.ask.component == k) _ (first_false (u.ask.component == k) _ n)
      (apart_with k t us e (second_false (u.ask.component == k) _ n)))
]

-- ---- what is awaited of a component

abbrev pub IsOf : (k : ℕ) → Awaited → Type 0
IsOf k a = a.ask.component ≡ k

pub all_of : (k : ℕ) (xs : List Awaited) → AllByRecursion (IsOf k) (of_component k xs)
unfolding of_component
all_of k [] = tt
all_of k (a ∷ xs) = elim (cases_Bool (a.ask.component == k)) [
  | inl t ↦ rw t (equal a.ask.component k t, all_of k xs)
  | inr f ↦ rw f (all_of k xs)
]
  where
    equal : (a b : ℕ) → (a == b) ≡ true → a ≡ b
    equal a b e = grind (arith, nat_tests, e)

-- what holds of the commands holds of the first
pub first_holds : (P : Ask → Type 0) (a : Awaited) (xs : List Awaited)
    → AllByRecursion (λ (b : Awaited). P b.ask) (a ∷ xs) → P (first_of a xs).ask
unfolding first_of
first_holds P a [] k = k.0
first_holds P a (b ∷ bs) k = elim (cases_Bool (before b.ask a.ask)) [
  | inl t ↦ rw t (first_holds P b bs k.1)
  | inr f ↦ rw f (first_holds P a bs (k.0, k.1.1))
]

turned : (a k n : ℕ) → n ≡ k → (a == k) ≡ false → (n == a) ≡ false
turned a k n same e = grind (arith, nat_tests, same, e)

-- the commands to other components stay apart
pub rest_apart : (k : ℕ) (t : TimedOut) (ts : List TimedOut) (xs : List Awaited) → t.ask.component ≡ k
    → AllByRecursion (AwaitedApart ts) xs → AllByRecursion (AwaitedApart (timed_with t ts)) (not_of k xs)
unfolding not_of
rest_apart k t ts [] same l = tt
rest_apart k t ts (a ∷ xs) same l = elim (cases_Bool (a.ask.component == k)) [
  | inl it ↦ rw it (rest_apart k t ts xs same l.1)
  | inr other ↦ rw other (
    (l.0.0, apart_with a.ask.component t ts (turned a.ask.component k t.ask.component same other) l.0.1),
    rest_apart k t ts xs same l.1,
  )
]

-- and so do those that are queued
pub queue_apart : (k : ℕ) (t : TimedOut) (ts : List TimedOut) (ws : List Store) → t.ask.component ≡ k
    → AllByRecursion (StoreApart ts) ws → AllByRecursion (StoreApart (timed_with t ts)) (without_component k ws)
unfolding without_component
queue_apart k t ts [] same l = tt
queue_apart k t ts (w ∷ ws) same l = elim (cases_Bool (w.ask.component == k)) [
  | inl it ↦ rw it (queue_apart k t ts ws same l.1)
  | inr other ↦ rw other (
    (l.0.0, apart_with w.ask.component t ts (turned w.ask.component k t.ask.component same other) l.0.1),
    queue_apart k t ts ws same l.1,
  )
]
