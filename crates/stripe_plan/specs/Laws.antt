-- What the plans promise, for all data that agree with what was fetched.
use Rattle.std.specs.Prelude.{◌≡◌, ◌⊎◌, ℕ, ◌+◌, ◌-◌, ◌<◌, ◌≤◌, nat_le, nat_lt, ◌&&◌, false, if◌then◌else◌}
use Rattle.std.specs.Prelude.{List, [], ◌∷◌, length, map, slice_index, IsTrue}
use Rattle.std.specs.List.{All, range_with_len}
use Rattle.data_map.specs.declared.check.RawMap.{RawMap}
use Rattle.data_map.specs.Striping.{group_width, parities, data_units, position_of, offset_of}
use Rattle.parity_code.specs.Codeword.{codeword}
use Rattle.stripe_plan.specs.declared.plan.Span.{Span}
use Rattle.stripe_plan.specs.declared.plan.Interval.{Interval}
use Rattle.stripe_plan.specs.declared.plan.Column.{Column}
use Rattle.stripe_plan.specs.declared.plan.Aim.{Aim}
use Rattle.stripe_plan.specs.declared.plan.Aim.TheVariants.{Reads, Gathers}
use Rattle.stripe_plan.specs.Touched.{end_of, unit_start, IsTouchedStripe}
use Rattle.stripe_plan.specs.Lost.{is_out}
use Rattle.stripe_plan.specs.Asks.{needed}
use Rattle.stripe_plan.specs.Words.{has_byte, got_at, code_of}

-- ---- data and their words

-- the data of column b of stripe s in a file with these bytes
abbrev pub data_at : RawMap → (ℕ → ℕ) → (s b : ℕ) → List ℕ
data_at m d s b = map (λ (c : ℕ). d (unit_start m s c + b)) (range_with_len 0 (data_units m))

-- what unit c holds in that column
abbrev pub word_of : RawMap → (ℕ → ℕ) → (s b c : ℕ) → ℕ
word_of m d s b c = slice_index (codeword (code_of m) (data_at m d s b)) c

-- a file is given by its bytes, of 8 bits each
abbrev pub AreBytes : (ℕ → ℕ) → Type 0
AreBytes d = (l : ℕ) → d l < 256

-- the file with a call's bytes written
abbrev pub over : Span → List ℕ → (ℕ → ℕ) → ℕ → ℕ
over r bytes d l = if nat_le r.offset l && nat_lt l (end_of r) then slice_index bytes (l - r.offset) else d l

-- ---- what was fetched

-- some piece has the byte of position p at offset o
abbrev pub IsGot : List Column → (p o : ℕ) → Type 0
IsGot [] p o = ⊥
IsGot (c ∷ cs) p o = IsTrue (has_byte c p o) ⊎ IsGot cs p o

-- a column is in one of the intervals
abbrev pub IsWithin : (b : ℕ) → List Interval → Type 0
IsWithin b [] = ⊥
IsWithin b (i ∷ is) = ((i.first ≤ b) × (b < i.end)) ⊎ IsWithin b is

-- all that a plan needs of positions that aren't out
abbrev pub IsFetched : Aim → RawMap → Span → List Column → List ℕ → Type 0
IsFetched aim m r got out =
    (s b c : ℕ) → IsTouchedStripe m r s → c < group_width m → is_out m out (position_of m s c) ≡ false
    → IsWithin b (needed aim m r out s c) → IsGot got (position_of m s c) (offset_of m s b)

-- these data have the bytes that were fetched
abbrev pub Agrees : RawMap → List Column → (ℕ → ℕ) → Type 0
Agrees m got d =
    (s b c : ℕ) → c < group_width m → IsGot got (position_of m s c) (offset_of m s b)
    → got_at m got s b c ≡ word_of m d s b c

-- ---- the laws

-- a read gives each byte of all data that agree with what it fetched
abbrev pub FollowsRead : RawMap → Span → List Column → List ℕ → List ℕ → Type 0
FollowsRead m r got out bytes =
    (d : ℕ → ℕ) → AreBytes d → IsFetched Reads m r got out → Agrees m got d
    → bytes ≡ map d (range_with_len r.offset r.length)

-- these bytes are what a unit of some stripe holds of those data
pub record HoldsWords (m : RawMap) (d : ℕ → ℕ) (x : Column) : Type 0 where
  pub stripe : ℕ
  pub unit : ℕ
  pub first : ℕ
  pub below : unit < group_width m
  pub inside : 0 < length x.bytes → first + length x.bytes ≤ m.unit
  pub position : x.position ≡ position_of m stripe unit
  pub offset : x.offset ≡ offset_of m stripe first
  pub each : (k : ℕ) → k < length x.bytes → slice_index x.bytes k ≡ word_of m d stripe (first + k) unit

-- a write puts what the units hold of the data with the new bytes, for all data that agree with what it gathered,
-- which is nothing without parity
abbrev pub FollowsWrite : RawMap → Span → List ℕ → List Column → List ℕ → List Column → Type 0
FollowsWrite m r bytes got out cols =
    (d : ℕ → ℕ) → AreBytes d → (0 < parities m → IsFetched Gathers m r got out) → Agrees m got d
    → All (HoldsWords m (over r bytes d)) cols
