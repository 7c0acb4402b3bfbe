-- What the machine of a fenced file asks of writes, reads and repairs, as far as it is of the layout and of bytes, and that
-- the plans give it.
use Rattle.std.specs.Prelude.{◌≡◌, ℕ, ◌+◌, ◌<◌, ◌≤◌, Bool, true, false, List, length, slice_index, Option, Some, None}
use Rattle.std.specs.List.{All}
use Rattle.data_map.specs.declared.check.RawMap.{RawMap}
use Rattle.data_map.specs.Check.{IsChecked}
use Rattle.file_log.specs.Judge.{byte_for}
use Rattle.fence_law.specs.State.{State, Layout}
use Rattle.fence_law.specs.Columns.{AreBytes, overlaid, payload, Agrees, Stands, Short}
use Rattle.stripe_plan.specs.declared.plan.Span.{Span}
use Rattle.stripe_plan.specs.declared.plan.Column.{Column}
use Rattle.stripe_plan.specs.declared.plan.Store.{Store}
use Rattle.stripe_plan.specs.declared.plan.Aim.TheVariants.{Reads}
use Rattle.stripe_plan.specs.Touched.{end_of, stripes}
use Rattle.stripe_plan.specs.Lost.{among, unwritable, unreadable}
use Rattle.stripe_plan.specs.Words.{answer_at}
use Rattle.stripe_plan.specs.Plans.{stores}
use Rattle.stripe_plan.specs.Laws.{IsFetched}
use Rattle.plan_law.specs.FileLayout.{layout_of, column_at, column_of_cell}
use Rattle.plan_law.specs.Writes.{touches_column, hits_cell}
use Rattle.plan_law.specs.Got.{Fits, IsShown}
use Rattle.plan_law.specs.Standing.{column_stands, standing_byte}
use Rattle.plan_law.specs.Sending.{MayScatter}

-- ---- writes

-- What the machine asks of a write's start, of the layout alone: each column of a new byte is touched; a cell that is hit
-- is one of a touched column; the column of each new byte has a cell that is hit; what stands in a cell that the layout
-- lists and that isn't hit doesn't change.
pub record IsStart (y : Layout) (new : ℕ → Option ℕ) (touch : ℕ → Bool) (hit : ℕ → ℕ → Bool) (left : ℕ → Bool) : Type 0
  where
    pub touches : (p v : ℕ) → new p ≡ Some v → touch (y.col p) ≡ true
    pub hits : (k z : ℕ) → hit k z ≡ true → (y.is_cell k z ≡ true) × (touch (y.cell_col k z) ≡ true)
    pub lands : (p v : ℕ) → new p ≡ Some v → (k z : ℕ) × (hit k z ≡ true) × (y.cell_col k z ≡ y.col p)
    pub misses : (k z : ℕ) → y.is_cell k z ≡ true → left k ≡ false → hit k z ≡ false → (e : ℕ → ℕ) →
        y.word k z (overlaid new e) ≡ y.word k z e

-- each component of the map that the layout leaves out is out
abbrev pub AreOut : RawMap → (left : ℕ → Bool) → (out : List ℕ) → Type 0
AreOut m left out = (k : ℕ) → k < m.comps → left k ≡ true → among k out ≡ true

-- So it is of each write of which no touched stripe lacks more positions than it has parity, whatever was got.
abbrev pub StartsAreAllowed : Type 0
StartsAreAllowed =
    (m : RawMap) (tag : ℕ) (r : Span) (bytes : List ℕ) (out : List ℕ) (left : ℕ → Bool) → IsChecked m →
    length bytes ≡ r.length → unwritable m out (stripes m r) ≡ None → AreOut m left out →
    IsStart (layout_of m tag) (byte_for r.offset bytes) (touches_column m r) (hits_cell m r left) left

-- What the machine asks besides, of bytes: there is a last new byte, at the end; new bytes are bytes; and what was seen,
-- as any data that agree with the replies to gather i in a cell's column, gives the cell that is hit its one new word.
pub record MayStart (b : State) (i : ℕ) (left : ℕ → Bool) (new : ℕ → Option ℕ) (touch : ℕ → Bool) (hit : ℕ → ℕ → Bool)
    (seen : ℕ → ℕ) (end_ : ℕ) : Type 0
  where
    pub some : (p v : ℕ) × (new p ≡ Some v) × (p + 1 ≡ end_)
    pub ends : (p v : ℕ) → new p ≡ Some v → p < end_
    pub start : IsStart b.layout new touch hit left
    pub bytes : (p v : ℕ) → new p ≡ Some v → v < 256
    pub sees : (k z : ℕ) → hit k z ≡ true → (e : ℕ → ℕ) → AreBytes e → Agrees b i (b.layout.cell_col k z) e →
        b.layout.word k z (overlaid new seen) ≡ b.layout.word k z (overlaid new e)

-- A write of some bytes may scatter by what its gather, entry i of the log, was shown; and what was seen are bytes that
-- agree with all that the gather was shown of the columns that the write touches.
pub record IsGathered (m : RawMap) (tag : ℕ) (b : State) (i : ℕ) (r : Span) (bytes : List ℕ) (got : List Column)
    (out : List ℕ) (left : ℕ → Bool) (seen : ℕ → ℕ) : Type 0
  where
    pub layout : b.layout ≡ layout_of m tag
    pub may : MayScatter m r bytes got out
    pub some : 0 < r.length
    pub small : All (λ v. v < 256) bytes
    pub left_out : AreOut m left out
    pub shown : IsShown m b i got
    pub seen_bytes : AreBytes seen
    pub seen_agrees : (x : ℕ) → touches_column m r x ≡ true → Agrees b i x seen

-- Such a write may start.
abbrev pub WritesMayStart : Type 0
WritesMayStart =
    (m : RawMap) (tag : ℕ) (b : State) (i : ℕ) (r : Span) (bytes : List ℕ) (got : List Column) (out : List ℕ)
    (left : ℕ → Bool) (seen : ℕ → ℕ) → IsGathered m tag b i r bytes got out left seen →
    MayStart b i left (byte_for r.offset bytes) (touches_column m r) (hits_cell m r left) seen (end_of r)

-- And each byte of a WRITE of its scatter is what its entry has as the cell's content.
abbrev pub ContentsAreCarried : Type 0
ContentsAreCarried =
    (m : RawMap) (tag : ℕ) (b : State) (i : ℕ) (r : Span) (bytes : List ℕ) (got : List Column) (out : List ℕ)
    (left : ℕ → Bool) (seen : ℕ → ℕ) → IsGathered m tag b i r bytes got out left seen →
    All (λ (w : Store). (j : ℕ) → j < length w.bytes →
    payload b.layout (hits_cell m r left) (byte_for r.offset bytes) seen w.ask.component (w.ask.offset + j)
    ≡ Some (slice_index w.bytes j)) (stores m r bytes got out)

-- ---- reads

-- Data that agree with all replies to a call in a column fit what it got of the column.
abbrev pub RepliesFit : Type 0
RepliesFit =
    (m : RawMap) (tag : ℕ) (b : State) (j x : ℕ) (got : List Column) (d : ℕ → ℕ) → b.layout ≡ layout_of m tag →
    IsShown m b j got → Agrees b j x d → Fits m got x d

-- What a read gives for a byte of its range is that byte of all data that fit what it got of the byte's column.
abbrev pub ReadsFit : Type 0
ReadsFit =
    (m : RawMap) (r : Span) (got : List Column) (out : List ℕ) (l : ℕ) (d : ℕ → ℕ) → IsChecked m →
    unreadable m r out (stripes m r) ≡ None → IsFetched Reads m r got out → r.offset ≤ l → l < end_of r → AreBytes d →
    Fits m got (column_at m l) d → answer_at m got out l ≡ d l

-- So what it gives is what the machine asks of its answer, by the replies that its entry was shown.
abbrev pub ReadsMayAnswer : Type 0
ReadsMayAnswer =
    (m : RawMap) (tag : ℕ) (b : State) (j : ℕ) (r : Span) (got : List Column) (out : List ℕ) → b.layout ≡ layout_of m tag →
    IsChecked m → unreadable m r out (stripes m r) ≡ None → IsFetched Reads m r got out → IsShown m b j got →
    (p : ℕ) → r.offset ≤ p → p < end_of r → (d : ℕ → ℕ) → AreBytes d → Agrees b j (b.layout.col p) d →
    answer_at m got out p ≡ d p

-- ---- repairs

-- What the machine asks of a repair's end, of the columns that are done and of their bytes: a column that isn't done is
-- short; each byte of one that is done has a copy that isn't lost, and is that copy's; and where any data stand in such a
-- column these bytes do. That some data stand there is left to the repair.
pub record IsRepaired (b : State) (done : ℕ → Bool) (e : ℕ → ℕ) : Type 0 where
  pub left : (x : ℕ) → done x ≡ false → Short b x
  pub copies : (q : ℕ) → done (b.layout.col q) ≡ true →
      (f y : ℕ) × (b.layout.copy f y q ≡ true) × (b.lost f ≡ false) × (e q ≡ b.cell f y)
  pub right : (x : ℕ) (d : ℕ → ℕ) → done x ≡ true → Stands b x d → Stands b x e

-- So it is of the columns of which each position has a replica that isn't lost, and the bytes of the first such
-- replicas.
abbrev pub RepairsStand : Type 0
RepairsStand =
    (m : RawMap) (tag : ℕ) (b : State) → IsChecked m → b.layout ≡ layout_of m tag →
    IsRepaired b (column_stands m b.lost) (standing_byte m b.lost b.cell)

-- While a repair writes, the bytes of chosen replicas, none of which is gone, are those of copies that aren't gone, in
-- each column of which each position has one: what the machine asks of a repair's WRITEs.
abbrev pub RepairsMayWrite : Type 0
RepairsMayWrite =
    (m : RawMap) (tag : ℕ) (b : State) (lost : ℕ → Bool) → IsChecked m → b.layout ≡ layout_of m tag →
    ((f : ℕ) → f < m.comps → lost f ≡ false → b.gone f ≡ false) → (k z q : ℕ) →
    column_stands m lost (column_of_cell m k z) ≡ true → b.layout.col q ≡ b.layout.cell_col k z →
    (f y : ℕ) × (b.layout.copy f y q ≡ true) × (b.gone f ≡ false) × (standing_byte m lost b.cell q ≡ b.cell f y)
