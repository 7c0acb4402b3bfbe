-- The bytes that a call has of a stripe, and those that it writes there.
use Rattle.std.specs.Prelude.{◌≡◌, ℕ, ◌<◌, ◌≤◌, zero, suc, ◌+◌, ◌-◌, ◌==◌, nat_le, nat_lt, Bool, true, ◌&&◌}
use Rattle.std.specs.Prelude.{if◌then◌else◌, List, [], ◌∷◌, length, map, take, slice_index, replicate}
use Rattle.std.specs.Prelude.{Option, Some, None, unwrap_or}
use Rattle.std.specs.List.{All, range_with_len}
use Rattle.data_map.specs.declared.check.RawMap.{RawMap}
use Rattle.data_map.specs.Striping.{stripe_of, data_unit_of, column_of, group_width, parities, data_units}
use Rattle.data_map.specs.Striping.{position_of, offset_of}
use Rattle.stripe_plan.specs.declared.plan.Span.{Span}
use Rattle.stripe_plan.specs.declared.plan.Interval.{Interval}
use Rattle.stripe_plan.specs.declared.plan.Column.{Column}
use Rattle.stripe_plan.specs.Touched.{own, unit_start, whole}
use Rattle.stripe_plan.specs.Lost.{is_out, is_degraded}
use Rattle.parity_code.specs.declared.code.Code.{Code}
use Rattle.parity_code.specs.declared.code.Code.TheVariants.{Plain, Xor, PandQ}
use Rattle.parity_code.specs.Parity.{column}
use Rattle.parity_code.specs.Decoding.{decoded}
use Rattle.stripe_plan.specs.Parity.{overlaid, parity_of, parity_changed}

-- the code of a map's stripes
abbrev pub code_of : RawMap → Code
code_of m = if m.algorithm == 1 then Plain else if m.algorithm == 4 then PandQ else Xor

-- whether a piece has the byte of position p at offset o
abbrev pub has_byte : Column → (p o : ℕ) → Bool
has_byte c p o = (c.position == p) && (nat_le c.offset o && nat_lt o (c.offset + length c.bytes))

-- the byte of position p at offset o, where it was another before
abbrev pub byte_over : Column → (p o old : ℕ) → ℕ
byte_over c p o old = if has_byte c p o then slice_index c.bytes (o - c.offset) else old

-- the byte of position p at offset o, of the first piece that has it, 0 where no piece has it no piece has it
unfoldable pub byte_at : List Column → (p o : ℕ) → ℕ
byte_at [] p o = 0
byte_at (c ∷ cs) p o = byte_over c p o (byte_at cs p o)

-- the bytes of a position from an offset on
abbrev pub bytes_at : List Column → (p o n : ℕ) → List ℕ
bytes_at cols p o n = map (byte_at cols p) (range_with_len o n)

-- the byte at o after bytes that begin at from were laid over what was there
unfoldable pub laid_at : (from : ℕ) → List ℕ → (o old : ℕ) → ℕ
laid_at from bytes o old = if nat_le from o && nat_lt o (from + length bytes) then slice_index bytes (o - from) else old

-- a buffer, which begins at an offset, over which they were laid
pub record Laid (offset from : ℕ) (bytes old new : List ℕ) : Type 0 where
  pub long : length new ≡ length old
  pub each : (k : ℕ) → k < length old → slice_index new k ≡ laid_at from bytes (offset + k) (slice_index old k)

-- the same of a buffer of position p, over which a column was laid
pub record LaidColumn (p offset : ℕ) (c : Column) (old new : List ℕ) : Type 0 where
  pub long : length new ≡ length old
  pub each : (k : ℕ) → k < length old → slice_index new k ≡ byte_over c p (offset + k) (slice_index old k)

-- what was got of unit c in column b of stripe s
abbrev pub got_at : RawMap → List Column → (s b c : ℕ) → ℕ
got_at m got s b c = byte_at got (position_of m s c) (offset_of m s b)

-- what was got of n units from c on, with 0 for those whose positions are out
unfoldable pub known_from : RawMap → List Column → List ℕ → (s b c n : ℕ) → List ℕ
known_from m got out s b c zero = []
known_from m got out s b c (suc n) =
    (if is_out m out (position_of m s c) then 0 else got_at m got s b c) ∷ known_from m got out s b (c + 1) n

-- those of n units from c on whose positions are out
unfoldable pub lost_from : RawMap → List ℕ → (s c n : ℕ) → List ℕ
lost_from m out s c zero = []
lost_from m out s c (suc n) =
    if is_out m out (position_of m s c) then c ∷ lost_from m out s (c + 1) n else lost_from m out s (c + 1) n

-- column b of stripe s, data, P and Q, with what is out decoded
unfoldable pub decoded_at : RawMap → List Column → List ℕ → (s b : ℕ) → List ℕ
decoded_at m got out s b =
    decoded (data_units m) (lost_from m out s 0 (group_width m)) (known_from m got out s b 0 (group_width m))

-- rows that have these columns, of n units
pub record HasColumns (n : ℕ) (i : Interval) (f : ℕ → List ℕ) (rows : List (List ℕ)) : Type 0 where
  pub long : length rows ≡ n
  pub even : All (λ row. length row ≡ i.end - i.first) rows
  pub each : (k : ℕ) → k < i.end - i.first → column rows k ≡ f (i.first + k)

-- what was got of unit c in some columns, or 0 where its position is out
abbrev pub got_in : RawMap → List Column → (s c : ℕ) → Interval → List ℕ
got_in m got s c i = bytes_at got (position_of m s c) (offset_of m s i.first) (i.end - i.first)

abbrev pub known_in : RawMap → List Column → List ℕ → (s : ℕ) → Interval → (c : ℕ) → List ℕ
known_in m got out s i c =
    if is_out m out (position_of m s c) then replicate (i.end - i.first) 0 else got_in m got s c i

abbrev pub known_rows : RawMap → List Column → List ℕ → (s : ℕ) → Interval → List (List ℕ)
known_rows m got out s i = map (known_in m got out s i) (range_with_len 0 (group_width m))

-- a stripe of which not more positions are out than it has parity, if this one is
abbrev pub IsDecodable : RawMap → List ℕ → (s c : ℕ) → Type 0
IsDecodable m out s c =
    is_out m out (position_of m s c) ≡ true → length (lost_from m out s 0 (group_width m)) ≤ parities m

-- ---- reads

-- the byte that a read gives for column b of data unit c of stripe s
unfoldable pub answer_in : RawMap → List Column → List ℕ → (s c b : ℕ) → ℕ
answer_in m got out s c b =
    if is_out m out (position_of m s c) then slice_index (decoded_at m got out s b) c else got_at m got s b c

-- and those for some columns
abbrev pub answered_in : RawMap → List Column → List ℕ → (s c : ℕ) → Interval → List ℕ
answered_in m got out s c i = map (answer_in m got out s c) (range_with_len i.first (i.end - i.first))

-- the byte that a read gives for byte l of the file, and those from byte a on up to e
abbrev pub answer_at : RawMap → List Column → List ℕ → (l : ℕ) → ℕ
answer_at m got out l = answer_in m got out (stripe_of m l) (data_unit_of m l) (column_of m l)

abbrev pub answered_between : RawMap → List Column → List ℕ → (a e : ℕ) → List ℕ
answered_between m got out a e = map (answer_at m got out) (range_with_len a (e - a))

-- the bytes that a read gives
unfoldable pub answered : RawMap → Span → List Column → List ℕ → List ℕ
answered m r got out = map (answer_at m got out) (range_with_len r.offset r.length)

-- ---- writes

-- the call's byte for unit c in column b of stripe s, if there is one
unfoldable pub new_at : RawMap → Span → List ℕ → (s b c : ℕ) → Option ℕ
new_at m r bytes s b c =
    if nat_le (own m r s c).first b && nat_lt b (own m r s c).end
    then Some (slice_index bytes (unit_start m s c + b - r.offset))
    else None

-- for n units from c on
unfoldable pub news_from : RawMap → Span → List ℕ → (s b c n : ℕ) → List (Option ℕ)
news_from m r bytes s b c zero = []
news_from m r bytes s b c (suc n) = new_at m r bytes s b c ∷ news_from m r bytes s b (c + 1) n

-- for the data units
abbrev pub news_at : RawMap → Span → List ℕ → (s b : ℕ) → List (Option ℕ)
news_at m r bytes s b = news_from m r bytes s b 0 (data_units m)

-- the parity that a write gives column b: of new data alone, of decoded data with the new, or the old parity changed
unfoldable pub parity_at : RawMap → Span → List ℕ → List Column → List ℕ → (s b row : ℕ) → ℕ
parity_at m r bytes got out s b row =
    if whole m r s then parity_of row (overlaid (news_at m r bytes s b) (replicate (data_units m) 0))
    else if is_degraded m out s
    then parity_of row (overlaid (news_at m r bytes s b) (take (data_units m) (decoded_at m got out s b)))
    else parity_changed row (news_at m r bytes s b) (known_from m got [] s b 0 (data_units m))
    (got_at m got s b (data_units m + row))

-- the byte that a write puts into unit c in column b of stripe s
unfoldable pub word_at : RawMap → Span → List ℕ → List Column → List ℕ → (s b c : ℕ) → ℕ
word_at m r bytes got out s b c =
    if nat_lt c (data_units m) then unwrap_or (new_at m r bytes s b c) 0
    else parity_at m r bytes got out s b (c - data_units m)
