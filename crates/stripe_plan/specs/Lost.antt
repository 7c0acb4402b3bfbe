-- Components that are out, and the positions that are out with them.
use Rattle.std.specs.Prelude.{ℕ, zero, suc, ◌+◌, ◌*◌, ◌/◌, ◌==◌, nat_lt, Bool, false, ◌&&◌, ◌||◌, if◌then◌else◌}
use Rattle.std.specs.Prelude.{List, [], ◌∷◌, length, Option, Some, None, is_none}
use Rattle.std.specs.List.{list_any}
use Rattle.data_map.specs.declared.check.RawMap.{RawMap}
use Rattle.data_map.specs.Striping.{replicas, group_width, parities, data_units, group_of, position_of}
use Rattle.stripe_plan.specs.declared.plan.Span.{Span}
use Rattle.stripe_plan.specs.Touched.{touches}

-- whether a number stands in a list
abbrev pub among : ℕ → List ℕ → Bool
among k ks = list_any (λ (j : ℕ). j == k) ks

-- the first of n components from k on that isn't out
unfoldable pub source_from : List ℕ → (k n : ℕ) → Option ℕ
source_from out k zero = None
source_from out k (suc n) = if among k out then source_from out (k + 1) n else Some k

-- the first replica of a position that isn't out
unfoldable pub source : RawMap → List ℕ → (p : ℕ) → Option ℕ
source m out p = source_from out (p * replicas m) (replicas m)

-- a position is out where all its replicas are
abbrev pub is_out : RawMap → List ℕ → (p : ℕ) → Bool
is_out m out p = is_none (source m out p)

-- those of n positions from p on that are out
unfoldable pub out_from : RawMap → List ℕ → (p n : ℕ) → List ℕ
out_from m out p zero = []
out_from m out p (suc n) = if is_out m out p then p ∷ out_from m out (p + 1) n else out_from m out (p + 1) n

-- the positions out of a group, rising
unfoldable pub positions_out : RawMap → List ℕ → (group : ℕ) → List ℕ
positions_out m out group = out_from m out (group * group_width m) (group_width m)

-- the group of a stripe has more positions out than it has parity
unfoldable pub is_short : RawMap → List ℕ → (s : ℕ) → Bool
is_short m out s = nat_lt (parities m) (length (positions_out m out (group_of m s)))

-- something where a test holds
abbrev pub when : {X : Type 0} → Bool → X → Option X
when t x = if t then Some x else None

-- some position of the stripe's group is out
unfoldable pub is_degraded : RawMap → List ℕ → (s : ℕ) → Bool
is_degraded m out s = nat_lt 0 (length (positions_out m out (group_of m s)))

-- one of n data units from c on is touched and its position out
unfoldable pub hit_from : RawMap → Span → List ℕ → (s c n : ℕ) → Bool
hit_from m r out s c zero = false
hit_from m r out s c (suc n) = (touches m r s c && is_out m out (position_of m s c)) || hit_from m r out s (c + 1) n

-- a touched data position of the stripe is out
abbrev pub is_hit : RawMap → Span → List ℕ → (s : ℕ) → Bool
is_hit m r out s = hit_from m r out s 0 (data_units m)

-- the positions out in the first stripe that can't be read
unfoldable pub unreadable : RawMap → Span → List ℕ → List ℕ → Option (List ℕ)
unreadable m r out [] = None
unreadable m r out (s ∷ ss) =
    if is_hit m r out s && is_short m out s then Some (positions_out m out (group_of m s)) else unreadable m r out ss

-- the positions out in the first stripe that can't be written
unfoldable pub unwritable : RawMap → List ℕ → List ℕ → Option (List ℕ)
unwritable m out [] = None
unwritable m out (s ∷ ss) =
    if is_short m out s then Some (positions_out m out (group_of m s)) else unwritable m out ss

-- how many turns of groups were before that of a stripe
abbrev pub turn_of : RawMap → (s : ℕ) → ℕ
turn_of m s = if m.width == 0 then 0 else s / m.depth
