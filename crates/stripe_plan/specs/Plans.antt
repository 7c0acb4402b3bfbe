-- The plans: what a read, a gather and a scatter ask of the components, and what they make of the bytes.
use Rattle.std.specs.Prelude.{◌≡◌, ◌⊎◌, ℕ, zero, suc, ◌+◌, ◌-◌, ◌*◌, ◌/◌, ◌==◌, if◌then◌else◌}
use Rattle.std.specs.Prelude.{List, [], ◌∷◌, ◌++◌, map, Option, Some, None, Result, Ok, Err}
use Rattle.std.specs.List.{range_with_len}
use Rattle.data_map.specs.declared.check.RawMap.{RawMap}
use Rattle.data_map.specs.Striping.{replicas, parities, group_width, group_of, offset_of}
use Rattle.data_map.specs.Inverse.{unit_in}
use Rattle.stripe_plan.specs.declared.plan.Span.{Span}
use Rattle.stripe_plan.specs.declared.plan.Interval.{Interval}
use Rattle.stripe_plan.specs.declared.plan.Ask.{Ask}
use Rattle.stripe_plan.specs.declared.plan.Store.{Store}
use Rattle.stripe_plan.specs.declared.plan.Column.{Column}
use Rattle.stripe_plan.specs.declared.plan.Piece.{Piece}
use Rattle.stripe_plan.specs.declared.plan.Part.{Part}
use Rattle.stripe_plan.specs.declared.plan.Aim.TheVariants.{Reads, Gathers, Scatters}
use Rattle.stripe_plan.specs.declared.plan.PlanErr.{PlanErr}
use Rattle.stripe_plan.specs.declared.plan.PlanErr.TheVariants.{TooManyLost, Memory as NoMemory}
use Rattle.stripe_plan.specs.Touched.{stripes}
use Rattle.stripe_plan.specs.Lost.{is_out, unreadable, unwritable}
use Rattle.stripe_plan.specs.Asks.{asks, changed}
use Rattle.stripe_plan.specs.Words.{bytes_at, word_at, answered}

-- ---- asks

-- what a read asks
abbrev pub reads : RawMap → Span → List ℕ → List Ask
reads m r out = asks Reads m r out [] (stripes m r)

-- a file without parity isn't gathered
abbrev pub gathers : RawMap → Span → List ℕ → List Ask
gathers m r out = if parities m == 0 then [] else asks Gathers m r out [] (stripes m r)

-- what a scatter asks
abbrev pub writes : RawMap → Span → List ℕ → List Ask
writes m r out = asks Scatters m r out [] (stripes m r)

-- the range of a component that an ask names
abbrev pub piece_of : Ask → Piece
piece_of a = record { component = a.component; offset = a.offset; length = a.length }

abbrev pub pieces_of : List Ask → List Piece
pieces_of xs = map piece_of xs

-- what came of a component, by its position
abbrev pub part_column : RawMap → Part → Column
part_column m t = record { position = t.component / replicas m; offset = t.offset; bytes = t.bytes }

-- what came of components, by their positions
abbrev pub columns_of : RawMap → List Part → List Column
columns_of m got = map (part_column m) got

-- ---- what is written

-- the new bytes of unit c in these columns of stripe s
abbrev pub written_columns : RawMap → Span → List ℕ → List Column → List ℕ → (s c p : ℕ) → List Interval → List Column
written_columns m r bytes got out s c p is =
    map (λ (i : Interval). record {
      position = p;
      offset = offset_of m s i.first;
      bytes = map (λ (b : ℕ). word_at m r bytes got out s b c) (range_with_len i.first (i.end - i.first));
    }) is

-- of place i of the stripe's group, but for a position that is out
unfoldable pub written_place : RawMap → Span → List ℕ → List Column → List ℕ → (s i : ℕ) → List Column
written_place m r bytes got out s i =
    if is_out m out (group_of m s * group_width m + i) then []
    else written_columns m r bytes got out s (unit_in m s i) (group_of m s * group_width m + i)
    (changed m r s (unit_in m s i))

-- of n places from i on
unfoldable pub written_stripe : RawMap → Span → List ℕ → List Column → List ℕ → (s i n : ℕ) → List Column
written_stripe m r bytes got out s i zero = []
written_stripe m r bytes got out s i (suc n) =
    written_place m r bytes got out s i ++ written_stripe m r bytes got out s (i + 1) n

-- of the stripes
unfoldable pub written : RawMap → Span → List ℕ → List Column → List ℕ → List ℕ → List Column
written m r bytes got out [] = []
written m r bytes got out (s ∷ ss) =
    written_stripe m r bytes got out s 0 (group_width m) ++ written m r bytes got out ss

-- a write with its bytes
abbrev pub filled : List Column → Ask → Store
filled cols a = record { ask = a; bytes = bytes_at cols a.position a.offset a.length }

abbrev pub filled_each : List Column → List Ask → List Store
filled_each cols xs = map (filled cols) xs

-- every write of a scatter with its bytes
unfoldable pub stores : RawMap → Span → List ℕ → List Column → List ℕ → List Store
stores m r bytes got out = map (filled (written m r bytes got out (stripes m r))) (writes m r out)

-- ---- the calls

-- the range of a call
abbrev pub span : (off len : ℕ) → Span
span off len = record { offset = off; length = len }

-- a call gives this, or there was no memory
abbrev pub Gives : {X : Type 0} → Result X PlanErr → Result X PlanErr → Type 0
Gives wanted result = (result ≡ Err NoMemory) ⊎ (result ≡ wanted)

-- a plan, unless a stripe lacks too many positions
abbrev pub unless_lost : {X : Type 0} → Option (List ℕ) → X → Result X PlanErr
unless_lost None x = Ok x
unless_lost (Some ps) x = Err (TooManyLost ps)

-- the pieces of a read
unfoldable pub plan_read : RawMap → Span → List ℕ → Result (List Piece) PlanErr
plan_read m r out = unless_lost (unreadable m r out (stripes m r)) (pieces_of (reads m r out))

-- the pieces of a gather
unfoldable pub plan_gather : RawMap → Span → List ℕ → Result (List Piece) PlanErr
plan_gather m r out = unless_lost (unwritable m out (stripes m r)) (pieces_of (gathers m r out))

-- the new columns of a write, by what was fetched
unfoldable pub apply_and_encode : RawMap → Span → List ℕ → List Part → List ℕ → Result (List Column) PlanErr
apply_and_encode m r bytes got out =
    unless_lost (unwritable m out (stripes m r)) (written m r bytes (columns_of m got) out (stripes m r))

-- a write by its component
abbrev pub part_of : Store → Part
part_of w = record { component = w.ask.component; offset = w.ask.offset; bytes = w.bytes }

abbrev pub parts_of : List Store → List Part
parts_of ws = map part_of ws

abbrev pub writes_of : List Column → List Ask → List Part
writes_of cols xs = map (λ (a : Ask). part_of (filled cols a)) xs

-- the writes of a scatter
unfoldable pub plan_scatter : RawMap → Span → List Column → List ℕ → Result (List Part) PlanErr
plan_scatter m r cols out =
    unless_lost (unwritable m out (stripes m r)) (writes_of cols (writes m r out))

-- the same with their stripes and positions
unfoldable pub plan_stores : RawMap → Span → List Column → List ℕ → Result (List Store) PlanErr
plan_stores m r cols out =
    unless_lost (unwritable m out (stripes m r)) (filled_each cols (writes m r out))

-- the bytes of a read, by what was fetched
unfoldable pub assemble : RawMap → Span → List Part → List ℕ → Result (List ℕ) PlanErr
assemble m r got out = unless_lost (unreadable m r out (stripes m r)) (answered m r (columns_of m got) out)
