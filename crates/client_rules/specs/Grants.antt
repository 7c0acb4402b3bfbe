-- The grants that a client holds, and which calls they cover.
use Rattle.std.specs.Prelude.{ℕ, Bool, false, not, List, [], ◌∷◌, Option, ◌+◌, ◌-◌, ◌==◌, ◌&&◌, ◌||◌, nat_lt, nat_le, min, find, filter, is_some, if◌then◌else◌}
use Rattle.client_rules.specs.declared.limits.TheConstants.{MAX_COUNT}
use Rattle.client_rules.specs.State.{CallOp, Listed, Reach, Held, Span}
use Rattle.client_rules.specs.Calls.{span_of, is_write}

-- ---- the held grants

-- the one on a file: a client holds at most one
unfoldable pub held_of : List Held → (file : ℕ) → Option Held
held_of hs file = find (λ (h : Held). h.file == file) hs

-- a grant in the place of the file's former one; files rise
unfoldable pub put_held : List Held → Held → List Held
put_held [] h = h ∷ []
put_held (g ∷ gs) h =
    if g.file == h.file then h ∷ gs
    else if nat_lt h.file g.file then h ∷ g ∷ gs
    else g ∷ put_held gs h

-- all but the one on a file
unfoldable pub without_held : List Held → (file : ℕ) → List Held
without_held hs file = filter (λ (h : Held). not (h.file == file)) hs

-- ---- cover

-- a range as far as it lies below the size
abbrev pub clipped : (size : ℕ) → Span → Span
clipped size r = record { offset = r.offset; length = min (r.offset + r.length) size - r.offset }

-- the range is inside the grant's bytes
abbrev pub contains : Reach → Span → Bool
contains g r = nat_le g.first r.offset && nat_le (r.offset + r.length) g.end

-- to be written: the grant is for writing, holds the range, and is extending where the range passes the size
unfoldable pub covers_write : Reach → (size : ℕ) → Span → Bool
covers_write g size r = g.rw && (contains g r && (g.extending || nat_le (r.offset + r.length) size))

-- to be read: the grant holds what is below the size, or nothing is
unfoldable pub covers_read : Reach → (size : ℕ) → Span → Bool
covers_read g size r = ((clipped size r).length == 0) || contains g (clipped size r)

-- a grant for these bytes, at this size, is for the call
unfoldable pub is_for : Reach → (size : ℕ) → CallOp → Bool
is_for g size op = if is_write op then covers_write g size (span_of op) else covers_read g size (span_of op)

-- a held grant covers the call; one under which too many commands were sent covers none
unfoldable pub covers : Held → CallOp → Bool
covers h op = if nat_lt MAX_COUNT h.count then false else is_for h.reach h.size op

-- ---- its components

-- the numbers of the missing ones, from number k on
unfoldable pub missing_from : List Listed → (k : ℕ) → List ℕ
missing_from [] k = []
missing_from (l ∷ ls) k = if is_some l.credential then missing_from ls (k + 1) else k ∷ missing_from ls (k + 1)

-- those that the layout lists as missing
abbrev pub missing_of : Held → List ℕ
missing_of h = missing_from h.components 0
