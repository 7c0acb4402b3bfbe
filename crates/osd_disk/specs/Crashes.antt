-- What the calls of a disk do to its bytes, and what a crash may leave between two syncs.
use Rattle.std.specs.Prelude.{◌≡◌, ◌⊎◌, ℕ, ◌+◌, ◌≤◌, min, max, Bool, List, ◌++◌, length, take, drop}

-- the bytes now are the old ones with these written over them from a place on
abbrev pub Holds : List ℕ → ℕ → List ℕ → List ℕ → Type 0
Holds old at bytes now = now ≡ take at old ++ bytes ++ drop (at + length bytes) old

-- After a write of n bytes that a crash cuts short: any bytes in its range and past the old end, and the same elsewhere.
pub record Torn (at n : ℕ) (old now : List ℕ) : Type 0 where
  pub before : take (min at (length old)) now ≡ take at old
  pub behind : drop (at + n) now ≡ drop (at + n) old
  pub no_shorter : length old ≤ length now
  pub no_longer : length now ≤ max (length old) (at + n)

-- each content that a crash may leave now is one that it might have left before, after this step
abbrev pub Follows : (List ℕ → List ℕ → Type 0) → (List ℕ → Type 0) → (List ℕ → Type 0) → Type 0
Follows step before now = (c : List ℕ) → now c → (d : List ℕ) × before d × step d c

-- a crash leaves nothing now that it couldn't have left before
abbrev pub Narrows : (List ℕ → Type 0) → (List ℕ → Type 0) → Type 0
Narrows before now = (c : List ℕ) → now c → before c

-- a crash leaves these bytes and nothing else
abbrev pub Only : List ℕ → (List ℕ → Type 0) → Type 0
Only bytes outcomes = (c : List ℕ) → outcomes c → c ≡ bytes

-- Time goes on over a call: what a crash since t might have left is what it might have left before the call, or what it may
-- leave now.
pub record Elapses (before now : ℕ) (past since : ℕ → List ℕ → Type 0) (may_leave : List ℕ → Type 0) : Type 0 where
  pub later : before ≤ now
  pub nothing_else : (t : ℕ) (c : List ℕ) → t ≤ before → since t c → past t c ⊎ may_leave c
  pub keeps : (t : ℕ) (c : List ℕ) → t ≤ before → past t c → since t c

-- A crash at any moment since `old`, during a call or between two, leaves what has P.
pub record LeavesOnly {D : Type 0} (moment : D → ℕ) (left_since : D → ℕ → List ℕ → Type 0) (old new : D)
    (P : List ℕ → Type 0) : Type 0 where
  pub later : moment old ≤ moment new
  pub each : (c : List ℕ) → left_since new (moment old) c → P c
  -- for a run of calls that began earlier
  pub before : (t : ℕ) (c : List ℕ) → t ≤ moment old → left_since new t c → left_since old t c ⊎ P c

-- Calls that wrote nothing: what is told and seen is the same, and a crash meanwhile left nothing that it couldn't have left
-- before.
pub record OnlyRead {D : Type 0} (tells : D → Bool) (seen : D → List ℕ) (may_leave : D → List ℕ → Type 0) (moment : D → ℕ)
    (left_since : D → ℕ → List ℕ → Type 0) (old new : D) : Type 0 where
  pub tells_same : tells new ≡ tells old
  pub seen_same : seen new ≡ seen old
  pub narrows : Narrows (may_leave old) (may_leave new)
  pub later : moment old ≤ moment new
  pub nothing_else : (t : ℕ) (c : List ℕ) → t ≤ moment old → left_since new t c → left_since old t c ⊎ may_leave old c
