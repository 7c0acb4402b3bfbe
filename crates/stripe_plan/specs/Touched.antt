-- The stripes and columns that a range of a file touches.
use Rattle.std.specs.Prelude.{ℕ, ◌+◌, ◌-◌, ◌*◌, ◌%◌, ◌==◌, ◌≤◌, ◌&&◌, Bool, nat_le, nat_lt, min, max}
use Rattle.std.specs.Prelude.{if◌then◌else◌, List, [], ◌∷◌}
use Rattle.std.specs.List.{range_with_len}
use Rattle.data_map.specs.declared.check.RawMap.{RawMap}
use Rattle.data_map.specs.declared.ranges.TheConstants.{MAX_FILE_SIZE}
use Rattle.data_map.specs.Striping.{stripe_of, stripe_length}
use Rattle.stripe_plan.specs.declared.plan.Span.{Span}
use Rattle.stripe_plan.specs.declared.plan.Interval.{Interval}

-- the end of a range
abbrev pub end_of : Span → ℕ
end_of r = r.offset + r.length

-- the touched stripes, rising
unfoldable pub stripes : RawMap → Span → List ℕ
stripes m r =
    if r.length == 0 then []
    else range_with_len (stripe_of m r.offset) (stripe_of m (end_of r - 1) + 1 - stripe_of m r.offset)

-- the range touches the stripe
abbrev pub IsTouchedStripe : RawMap → Span → (s : ℕ) → Type 0
IsTouchedStripe m r s = (stripe_of m r.offset ≤ s) × (s ≤ stripe_of m (end_of r - 1))

-- the byte of the range that is next to byte l
abbrev pub clamped : Span → (l : ℕ) → ℕ
clamped r l = min (end_of r) (max r.offset l)

-- the file's byte at which unit c of stripe s begins
abbrev pub unit_start : RawMap → (s c : ℕ) → ℕ
unit_start m s c = s * stripe_length m + c * m.unit

-- the columns of the range's own bytes in data unit c of stripe s
unfoldable pub own : RawMap → Span → (s c : ℕ) → Interval
own m r s c = record {
  first = max r.offset (unit_start m s c) - unit_start m s c;
  end = min (end_of r) (unit_start m s c + m.unit) - unit_start m s c;
}

-- no further than a file is long
abbrev pub IsLow : Interval → Type 0
IsLow i = (i.first ≤ MAX_FILE_SIZE) × (i.end ≤ MAX_FILE_SIZE)

-- whether the range has bytes in data unit c of stripe s
unfoldable pub touches : RawMap → Span → (s c : ℕ) → Bool
touches m r s c = nat_lt (own m r s c).first (own m r s c).end

-- the stripe's own bytes at which the range begins and ends in it
abbrev pub low : RawMap → Span → (s : ℕ) → ℕ
low m r s = max r.offset (s * stripe_length m) - s * stripe_length m

-- and at which it ends there
abbrev pub high : RawMap → Span → (s : ℕ) → ℕ
high m r s = min (end_of r) ((s + 1) * stripe_length m) - s * stripe_length m

-- the columns of bytes a to b of a stripe's data as intervals: a unit or more touches all, less may go round its end
unfoldable pub columns_between : (unit a b : ℕ) → List Interval
columns_between unit a b =
    if nat_le unit (b - a) then record { first = 0; end = unit } ∷ []
    else if nat_lt (a % unit) ((b - 1) % unit + 1)
    then record { first = a % unit; end = (b - 1) % unit + 1 } ∷ []
    else record { first = 0; end = (b - 1) % unit + 1 } ∷ record { first = a % unit; end = unit } ∷ []

-- the touched columns of a stripe, as one or two rising intervals that don't meet
unfoldable pub columns : RawMap → Span → (s : ℕ) → List Interval
columns m r s = columns_between m.unit (low m r s) (high m r s)

-- all data bytes of the stripe are in the range
unfoldable pub whole : RawMap → Span → (s : ℕ) → Bool
whole m r s = nat_le r.offset (s * stripe_length m) && nat_le ((s + 1) * stripe_length m) (end_of r)
