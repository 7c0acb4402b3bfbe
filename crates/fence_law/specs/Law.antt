-- What is claimed of every run of the machine.
use Rattle.std.specs.Prelude.{cond, max, ◌≡◌, ℕ, zero, suc, ◌<◌, Bool, true, false, List, [], ◌∷◌, Option, Some, None, ◌⊎◌, ◌||◌, Contains}
use Rattle.file_log.specs.declared.entry.Entry.{Entry}
use Rattle.file_log.specs.Judge.{Accepts, candidates}
use Rattle.fence_law.specs.Words.{In, over}
use Rattle.fence_law.specs.State.{State, Layout, Event, Write, Grant}
use Rattle.fence_law.specs.Columns.{IsCalm, Disturbed, Short, Agrees, AreBytes, Stood}
use Rattle.fence_law.specs.Machine.{Lawful, after, after_all, new_file_state, Allowed}
use Rattle.fence_law.specs.State.Call.{Reads}
use Rattle.fence_law.specs.State.Commit.{CommitDone}
use Rattle.fence_law.specs.State.Event.{Performs, Shows, Fenced, Refenced, Repaired}
use Rattle.fence_law.specs.Log.{IsLog, IsPieces}

-- the byte that the performed ones of some writes leave
unfoldable pub chain : (ℕ → Bool) → (ℕ → Option ℕ) → ℕ → ℕ
chain done byte zero = 0
chain done byte (suc j) = over (done j) (byte j) (chain done byte j)

-- the byte that the log leaves at a place before entry j, by the writes that count there
abbrev pub byte_before : State → ℕ → ℕ → ℕ
byte_before b j p = chain (λ i. b.chosen i p) (λ i. (b.start i).data_at p) j

-- and what it leaves in a cell, by what was performed
abbrev pub cell_before : State → ℕ → ℕ → ℕ → ℕ
cell_before b j k z = chain (λ i. b.applied i k z) (λ i. (b.start i).content k z) j

-- a cell speaks of its column alone; a copy is its byte; a column without parity has only copies of one byte
pub record IsCode (m : Layout) : Type 0 where
  pub local : (k z : ℕ) (d f : ℕ → ℕ) → ((q : ℕ) → m.col q ≡ m.cell_col k z → d q ≡ f q) → m.word k z d ≡ m.word k z f
  pub zeros : (k z : ℕ) → m.word k z (λ q. 0) ≡ 0
  pub copies : (k z p : ℕ) → m.copy k z p ≡ true → (m.is_cell k z ≡ true) × (m.cell_col k z ≡ m.col p) ×
      ((d : ℕ → ℕ) → m.word k z d ≡ d p)
  pub has_copy : (p : ℕ) → (k z : ℕ) × (m.copy k z p ≡ true)
  pub plain : (k z f y : ℕ) → m.coded (m.cell_col k z) ≡ false → m.is_cell k z ≡ true → m.is_cell f y ≡ true →
      m.cell_col f y ≡ m.cell_col k z →
      (p : ℕ) × (m.copy k z p ≡ true) × (m.copy f y p ≡ true) × (m.position k ≡ m.position f)

-- each moment is calm
abbrev pub Calms : State → List Event → Type 0
Calms b [] = IsCalm b
Calms b (e ∷ es) = IsCalm b × Calms (after b e) es

-- the machine after these events, from a new file on
abbrev pub reached : Layout → List Event → State
reached m events = after_all (new_file_state m) events

-- The judge accepts the log of every calm run.
abbrev pub IsJudged : Type 0
IsJudged =
    (m : Layout) (events : List Event) (log : List Entry) → IsCode m → Lawful (new_file_state m) events →
    Calms (new_file_state m) events →
    IsLog (reached m events) (reached m events).count log → Accepts log

-- A calm run whose writes are pieces of bytes has such a log, so the judge speaks of it.
abbrev pub IsLogged : Type 0
IsLogged =
    (m : Layout) (events : List Event) → IsCode m → Lawful (new_file_state m) events → Calms (new_file_state m) events →
    IsPieces (reached m events) → (log : List Entry) × IsLog (reached m events) (reached m events).count log

-- a write under an outstanding grant, or under one that the running repair settles, that isn't acknowledged
abbrev pub IsUnsettled : State → ℕ → Type 0
IsUnsettled b j = (j < b.count) × ((b.start j).is_write ≡ true) × ((b.start j).alive ≡ true) ×
    (b.acknowledged j ≡ false) × (((b.start j).tag ≡ b.tag) ⊎ ((b.repairing ≡ true) × ((b.start j).tag ≡ b.ended_tag)))

-- what holds of a state that a calm run has reached
pub record IsWholeAt (b : State) : Type 0 where
  -- the log leaves bytes, each among the judge's values
  pub bytes : AreBytes (byte_before b b.count)
  pub among : (log : List Entry) → IsLog b b.count log → (q : ℕ) →
      Contains ((candidates log).values q) (byte_before b b.count q)
  -- their words stand in a column that isn't disturbed, and in one that no unsettled write touches, on each component
  -- that isn't gone
  pub undisturbed : (x : ℕ) → (Disturbed b x → ⊥) → Stood b x (byte_before b b.count)
  pub settled : (x : ℕ) → ((j : ℕ) → IsUnsettled b j → (b.start j).touch x ≡ true → ⊥) →
      Stood b x (byte_before b b.count)
  -- what isn't lost isn't gone
  pub stands : (k : ℕ) → b.lost k ≡ false → b.gone k ≡ false
  -- what a running read or gather was shown agrees with the bytes that the log left before it, also after a fence ended
  -- its grant
  pub replies : (c j x : ℕ) → b.call c ≡ Reads j → (b.start j).reach x ≡ true → Agrees b j x (byte_before b j) ×
      AreBytes (byte_before b j)

-- In a calm run a column that isn't disturbed is whole: one list of bytes, each among the judge's values, gives the
-- words of all such columns.
abbrev pub IsWhole : Type 0
IsWhole = (m : Layout) (events : List Event) → IsCode m → Lawful (new_file_state m) events →
    Calms (new_file_state m) events → IsWholeAt (reached m events)

-- In a calm run, while no repair runs and no grant is outstanding, each column is whole: what was there when the last
-- job's phase began still holds the words of the log's bytes.
abbrev pub IsAudited : Type 0
IsAudited =
    (m : Layout) (events : List Event) (x : ℕ) → IsCode m → Lawful (new_file_state m) events →
    Calms (new_file_state m) events →
    (reached m events).repairing ≡ false → ((c : ℕ) → (reached m events).outstanding c ≡ None) →
    Stood (reached m events) x (byte_before (reached m events) (reached m events).count)

-- what holds of a state that a run has reached, calm or not
pub record IsKeptAt (b : State) : Type 0 where
  -- a held grant is the outstanding one, of the file's tag, or of an older tag, and then its client has none
  -- outstanding
  pub held : (c : ℕ) (g : Grant) → b.held c ≡ Some g → ((g.tag ≡ b.tag) × (b.outstanding c ≡ Some g)) ⊎
      ((g.tag < b.tag) × (b.outstanding c ≡ None))
  -- but for a repair, the grant of an unsettled write is outstanding, for writing, and covers what the write touches
  pub unsettled : (j : ℕ) → IsUnsettled b j → b.repairing ≡ false →
      (g : Grant) × (b.outstanding (b.start j).client ≡ Some g) × (g.rw ≡ true) ×
      ((x : ℕ) → (b.start j).touch x ≡ true → g.covers x ≡ true)
  -- a component that the layout of an outstanding grant left out is gone
  pub left : (c k : ℕ) (g : Grant) → b.outstanding c ≡ Some g → g.left k ≡ true → b.gone k ≡ true
  -- a client under the file's tag knows the size, unless a commit of its own was carried out and isn't taken yet
  pub knows : (c : ℕ) (g : Grant) → b.held c ≡ Some g → g.tag ≡ b.tag → ((j : ℕ) → b.commit c ≡ CommitDone j → ⊥) →
      b.known_size c ≡ b.size

-- What a proof that follows the program's steps may use of grants, writes and sizes, in every run.
abbrev pub IsKept : Type 0
IsKept = (m : Layout) (events : List Event) → IsCode m → Lawful (new_file_state m) events → IsKeptAt (reached m events)

-- the greatest end of the first entries that are flagged
unfoldable pub grow : (ℕ → Bool) → (ℕ → ℕ) → ℕ → ℕ
grow took end_ zero = 0
grow took end_ (suc j) = cond (took j) (max (grow took end_ j) (end_ j)) (grow took end_ j)

-- the size that the log leaves before entry j
abbrev pub size_before : State → ℕ → ℕ
size_before b j = grow b.committed (λ i. (b.start i).end_) j

-- What a client's call under a grant of its time clips by is the size that the log leaves before it.
abbrev pub IsSized : Type 0
IsSized =
    (m : Layout) (events : List Event) → IsCode m → Lawful (new_file_state m) events →
    (j : ℕ) → j < (reached m events).count → ((reached m events).start j).server ≡ false →
    ((reached m events).start j).alive ≡ true →
    ((reached m events).start j).clip ≡ size_before (reached m events) j

-- No client's WRITE or READ has the tag of a component that was dropped after its grant: a drive refuses it.
abbrev pub IsSpared : Type 0
IsSpared =
    (m : Layout) (events : List Event) → IsCode m → Lawful (new_file_state m) events →
    ((w : Write) → In w (reached m events).writes → (reached m events).dropped w.at ≡ true →
    w.tag < (reached m events).object_tag w.at) ×
    ((j k : ℕ) → j < (reached m events).count → ((reached m events).start j).server ≡ false →
    ((reached m events).start j).left k ≡ false →
    (reached m events).dropped k ≡ true → ((reached m events).start j).tag < (reached m events).object_tag k)

-- Of grants of different clients that are live, or that the running fence ends, none is extending, and those that share
-- a column are both for reading.
abbrev pub IsConflictFree : Type 0
IsConflictFree =
    (m : Layout) (events : List Event) → IsCode m → Lawful (new_file_state m) events →
    (c d : ℕ) (g h : Grant) → (c ≡ d → ⊥) → (reached m events).outstanding c ≡ Some g →
    (reached m events).outstanding d ≡ Some h →
    ((g.extending || h.extending) ≡ false) × ((x : ℕ) → g.covers x ≡ true → h.covers x ≡ true → (g.rw || h.rw) ≡ false)

-- A WRITE that a drive may perform is of an RW grant of the file's tag, which is live or is ended by the fence that
-- runs.
abbrev pub IsGranted : Type 0
IsGranted =
    (m : Layout) (events : List Event) → IsCode m → Lawful (new_file_state m) events → (w : Write) →
    Allowed (reached m events) (Performs w) →
    (w.tag ≡ (reached m events).tag) ×
    ((g : Grant) × ((reached m events).outstanding w.holder ≡ Some g) ×
    (g.number ≡ ((reached m events).start w.entry).grant) × (g.tag ≡ (reached m events).tag) × (g.rw ≡ true))

-- From the end of a fence on, of one that ran again too, no WRITE and no READ is performed of a grant that stood then:
-- each has a tag above theirs.
abbrev pub IsFenced : Type 0
IsFenced =
    (m : Layout) (events later : List Event) (e : Event) → (e ≡ Fenced) ⊎ (e ≡ Refenced) → IsCode m →
    Lawful (new_file_state m) events → Allowed (reached m events) e → Lawful (after (reached m events) e) later →
    ((c : ℕ) (g : Grant) → (reached m events).outstanding c ≡ Some g → g.tag ≡ (reached m events).tag) ×
    ((w : Write) → Allowed (after_all (after (reached m events) e) later) (Performs w) →
    (reached m events).tag < w.tag) ×
    ((j k : ℕ) → Allowed (after_all (after (reached m events) e) later) (Shows j k) →
    (reached m events).tag < ((after_all (after (reached m events) e) later).start j).tag)

-- Right after a repair a column that it counts as repaired isn't disturbed; if nothing is short, none is.
abbrev pub IsRestored : Type 0
IsRestored =
    (m : Layout) (events : List Event) (done : ℕ → Bool) (e : ℕ → ℕ) → IsCode m → Lawful (new_file_state m) events →
    Allowed (reached m events) (Repaired done e) →
    ((x : ℕ) → done x ≡ true → Disturbed (after (reached m events) (Repaired done e)) x → ⊥) ×
    (((x : ℕ) → Short (reached m events) x → ⊥) → (x : ℕ) → Disturbed (after (reached m events) (Repaired done e)) x →
    ⊥)
