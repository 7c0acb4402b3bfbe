-- The repairs and rebuilds of a file, over the messages that were ever sent for them.
use Rattle.std.specs.Prelude.{◌≡◌, ◌⊎◌, ℕ, ◌+◌, ◌-◌, ◌%◌, ◌<◌, ◌≤◌, Bool, true, false, List, [], ◌∷◌, length, get_or, slice_get, slice_index, Option, Some, None, if◌then◌else◌}
use Rattle.osd_lists.specs.declared.node.Node.TheVariants as node
use Rattle.data_map.specs.declared.check.RawMap.{RawMap}
use Rattle.data_map.specs.Striping.{group_of, offset_of, column_of}
use Rattle.data_map.specs.Inverse.{stripe_at}
use Rattle.osd_objects.specs.declared.object.StoredObject.{StoredObject}
use Rattle.osd_objects.specs.Store.{lane_or_none}
use Rattle.osd_commands.specs.declared.actions.Action.TheVariants.{Write}
use Rattle.osd_commands.specs.declared.commands.Command.{Command}
use Rattle.osd_commands.specs.declared.replies.Reply.{Reply}
use Rattle.server_rules.specs.declared.limits.TheConstants.{SERVER_HOLDER, PERFORMED}
use Rattle.server_rules.specs.Laws.{In}
use Rattle.server_rules.specs.Maps.{group_with, pieces_in}
use Rattle.server_rules.specs.Messages.{awaited_by}
use Rattle.server_rules.specs.Replies.{answers}
use Rattle.world_history.specs.ServerNames.{File, Component, Piece, Job, JobKind, Making, Target, Work, Fetches, Stores, Targets, Gathers, Fills, Checks, Awaited, Heard, Phase, Still, Fencing, Repairing, FencingAgain}
use Rattle.world_history.specs.declared.messages.Body.TheVariants.{Reply as OfReply}
use Rattle.world_history.specs.State.{World, at_number}
use Rattle.exchange_law.specs.Doing.{said}
use Rattle.exchange_law.specs.Sent.{HasSent}
use Rattle.history_law.specs.Spent.{IsSpent, HasPassed}
use Rattle.fence_law.specs.State as machine
use Rattle.fence_law.specs.Columns.{Short, Stands}
use Rattle.fence_law.specs.Law.{byte_before}
use Rattle.plan_law.specs.FileLayout.{has_parity, position_in, stripe_of_column, column_of_cell}
use Rattle.plan_law.specs.Known.{HasSource}
use Rattle.file_simulation.specs.Components.{object_on, object_of, has_failed}
use Rattle.file_simulation.specs.Phases.{IsEndedAt}
use Rattle.file_simulation.specs.Messages.{HasCommanded}

-- ---- pieces

-- the offset of a column in its stripe's units
unfoldable pub offset_of_column : RawMap → (x : ℕ) → ℕ
offset_of_column m x = if has_parity m then x % m.unit else column_of m x

-- a piece has the column
pub record HasColumn (m : RawMap) (p : Piece) (x : ℕ) : Type 0 where
  pub stripe : stripe_of_column m x ≡ p.stripe
  pub first : p.column ≤ offset_of_column m x
  pub past : offset_of_column m x < p.column + p.count

-- bytes of component k lie in a piece
pub record LieIn (m : RawMap) (p : Piece) (k first end : ℕ) : Type 0 where
  pub group : group_with m k ≡ group_of m p.stripe
  pub low : offset_of m p.stripe p.column ≤ first
  pub high : end ≤ offset_of m p.stripe p.column + p.count

-- the bytes that a command carries lie in a piece
abbrev pub IsInPiece : RawMap → Piece → (k : ℕ) → Command → Type 0
IsInPiece m p k x = LieIn m p k x.offset (x.offset + length x.payload)

-- ---- commands that may still come

-- The server sent this WRITE to the present object of component k, which isn't lost, and its drive may still perform it.
pub record IsFresh (s : machine.State) (w : World) (f : File) (k : ℕ) (x : Command) : Type 0 where
  pub component : Component
  pub there : slice_get f.kept.components k ≡ Some component
  pub sent : HasCommanded w component.drive x
  pub write : x.action ≡ Write
  pub object : x.object ≡ component.object
  pub unspent : IsSpent (at_number w.drives component.drive) x → ⊥
  pub stands : s.lost k ≡ false

-- ---- whose they are

-- the job awaits this command of component k, but for the check value with which it was sealed
abbrev pub IsAwaitedFor : List Awaited → (k : ℕ) → Command → Type 0
IsAwaitedFor awaited k x =
    (a : Awaited) × In a awaited × (a.component ≡ k) × (x ≡ record a.command { check = x.check })

-- a repair awaits it, in its first piece; no other work does
abbrev pub IsOfWork : RawMap → List Awaited → (k : ℕ) → Command → Work → Type 0
IsOfWork m awaited k x (Stores (p ∷ ps) short broken) = IsAwaitedFor awaited k x × IsInPiece m p k x
IsOfWork m awaited k x work = ⊥

-- it is the job's, or anyone's if no job runs, as after a stop of the server in a repair
abbrev pub IsOfJob : RawMap → (k : ℕ) → Command → Option Job → Type 0
IsOfJob m k x None = Unit {0}
IsOfJob m k x (Some j) = IsOfWork m j.awaited k x j.work

-- by the phase: it is of the repair that runs, or of one that was cut off; in the other phases there is none
abbrev pub IsOfPhase : File → (k : ℕ) → Command → Phase → Type 0
IsOfPhase f k x Repairing = IsOfJob f.kept.map k x f.job
IsOfPhase f k x FencingAgain = Unit {0}
IsOfPhase f k x Still = ⊥
IsOfPhase f k x Fencing = ⊥

-- so it is of each command that may still come
abbrev pub AreOwned : machine.State → World → File → Type 0
AreOwned s w f = (k : ℕ) (x : Command) → IsFresh s w f k x → IsOfPhase f k x f.kept.phase

-- ---- what they carry

-- these bytes of component k are words of e
abbrev pub AreWords : machine.State → (e : ℕ → ℕ) → (k offset : ℕ) → List ℕ → Type 0
AreWords s e k offset bytes =
    (i : ℕ) → i < length bytes → slice_index bytes i ≡ s.layout.word k (offset + i) e

-- each byte of e in the column is that of a copy that isn't gone
abbrev pub IsSourced : machine.State → (e : ℕ → ℕ) → (x : ℕ) → Type 0
IsSourced s e x =
    (q : ℕ) → s.layout.col q ≡ x →
    (k y : ℕ) × (s.layout.copy k y q ≡ true) × (s.gone k ≡ false) × (e q ≡ s.cell k y)

-- so it is in each column of what the command writes
abbrev pub AreSourced : machine.State → (e : ℕ → ℕ) → (k offset : ℕ) → List ℕ → Type 0
AreSourced s e k offset bytes =
    (i : ℕ) → i < length bytes → IsSourced s e (s.layout.cell_col k (offset + i))

-- ---- what a repair still owes

-- an awaited WRITE has this cell, and its drive hasn't performed it yet
pub record IsDue (s : machine.State) (w : World) (at : Component) (e : ℕ → ℕ) (awaited : List Awaited) (k z : ℕ) : Type 0
  where
    pub command : Awaited
    pub awaits : In command awaited
    pub component : command.component ≡ k
    pub first : command.command.offset ≤ z
    pub past : z < command.command.offset + length command.command.payload
    pub word : slice_index command.command.payload (z - command.command.offset) ≡ s.layout.word k z e
    pub ahead : HasPassed (lane_or_none (object_of w at) SERVER_HOLDER) command.command.nonce → ⊥

-- each cell of the piece that isn't lost has its word, or is due
abbrev pub AreDue : machine.State → World → File → (e : ℕ → ℕ) → List Awaited → Piece → Type 0
AreDue s w f e awaited p =
    (k z : ℕ) (at : Component) → slice_get f.kept.components k ≡ Some at → s.lost k ≡ false →
    HasColumn f.kept.map p (column_of_cell f.kept.map k z) →
    (s.cell k z ≡ s.layout.word k z e) ⊎ IsDue s w at e awaited k z

-- Each of these awaited WRITEs, spent or not, has words of e, each byte of which is that of a copy that isn't gone: a drive may
-- refuse one for its format, and then the server sends it again.
abbrev pub AreWritten : machine.State → (e : ℕ → ℕ) → List Awaited → Type 0
AreWritten s e ws =
    (a : Awaited) → In a ws → AreWords s e a.component a.command.offset a.command.payload ×
    AreSourced s e a.component a.command.offset a.command.payload

-- by the work; only a repair that writes owes words
abbrev pub DueIn : machine.State → World → File → (e : ℕ → ℕ) → List Awaited → Work → Type 0
DueIn s w f e awaited (Stores (p ∷ ps) short broken) = AreDue s w f e awaited p × AreWritten s e awaited
DueIn s w f e awaited work = Unit {0}

-- by the job, if one runs
abbrev pub DueOf : machine.State → World → File → (e : ℕ → ℕ) → Option Job → Type 0
DueOf s w f e None = Unit {0}
DueOf s w f e (Some j) = DueIn s w f e j.awaited j.work

-- There are bytes of which all that may still come writes words, in one piece, and of which the repair owes
-- what isn't there yet
pub record OweWords (s : machine.State) (w : World) (f : File) : Type 0 where
  pub bytes : ℕ → ℕ
  pub piece : Piece
  pub inside : (k : ℕ) (x : Command) → IsFresh s w f k x → IsInPiece f.kept.map piece k x
  pub words : (k : ℕ) (x : Command) → IsFresh s w f k x → AreWords s bytes k x.offset x.payload
  pub sources : (k : ℕ) (x : Command) → IsFresh s w f k x → AreSourced s bytes k x.offset x.payload
  pub due : DueOf s w f bytes f.job

-- ---- rows that were read

-- these bytes of component k, zeros behind them, are its cells, and it isn't gone
pub record IsRow (s : machine.State) (k offset count : ℕ) (payload : List ℕ) : Type 0 where
  pub stands : s.gone k ≡ false
  pub cells : (i : ℕ) → i < count → get_or payload i 0 ≡ s.cell k (offset + i)

-- a drive replied so to the server
abbrev pub HasToldServer : World → (drive : ℕ) → Reply → Type 0
HasToldServer w d r = In (record { from = node.Drive d; to = node.Server; body = OfReply r }) (said w.network.messages)

-- what was heard of piece p are such rows, and so is each performed reply to an awaited READ
pub record AreRows (s : machine.State) (w : World) (f : File) (j : Job) (p : Piece) : Type 0 where
  pub heard : (x : Heard) → In x j.heard →
      IsRow s x.component (offset_of f.kept.map p.stripe p.column) p.count x.payload
  pub replied : (a : Awaited) (r : Reply) → In a j.awaited → HasToldServer w a.drive r → answers a.drive r a ≡ true →
      r.verdict ≡ PERFORMED → IsRow s a.component a.command.offset a.command.length r.payload

-- so it is of the first piece of each work that reads
abbrev pub RowsIn : machine.State → World → File → Job → Work → Type 0
RowsIn s w f j (Fetches (p ∷ ps) short) = AreRows s w f j p
RowsIn s w f j (Gathers t (p ∷ ps)) = AreRows s w f j p
RowsIn s w f j (Checks (p ∷ ps) tally) = AreRows s w f j p
RowsIn s w f j work = Unit {0}

-- ---- what a repair has done

-- a column is in none of these pieces
abbrev pub IsDone : RawMap → List Piece → (x : ℕ) → Type 0
IsDone m todo x = (p : Piece) → In p todo → HasColumn m p x → ⊥

-- one that the repair is behind, and that isn't short, stands as the words of some bytes
abbrev pub AreDone : machine.State → File → List Piece → Type 0
AreDone s f todo =
    (x : ℕ) → IsEndedAt f x → IsDone f.kept.map todo x → (Short s x → ⊥) → (d : ℕ → ℕ) × Stands s x d

-- by the work of a repair
abbrev pub DoneIn : machine.State → File → Work → Type 0
DoneIn s f (Fetches todo short) = AreDone s f todo
DoneIn s f (Stores todo short broken) = AreDone s f todo
DoneIn s f work = Unit {0}

-- ---- the target of a rebuild

-- the word of a cell that the log's bytes give
abbrev pub word_now : machine.State → (k z : ℕ) → ℕ
word_now s k z = s.layout.word k z (byte_before s s.count)

-- the first of these pieces has what the command carries
abbrev pub IsInHead : RawMap → List Piece → (k : ℕ) → Command → Type 0
IsInHead m [] k x = ⊥
IsInHead m (p ∷ ps) k x = IsInPiece m p k x

-- the server sent this WRITE to the target
pub record IsFill (w : World) (t : Target) (x : Command) : Type 0 where
  pub sent : HasCommanded w t.drive x
  pub write : x.action ≡ Write
  pub object : x.object ≡ t.object

-- the stripe of an offset of the component
abbrev pub stripe_for : RawMap → (k z : ℕ) → ℕ
stripe_for m k z = stripe_at m (position_in m k) z

-- the target's object has the words in pieces that are done, words or zeros elsewhere, and zeros above
pub record IsFilled (s : machine.State) (f : File) (t : Target) (todo : List Piece) (o : StoredObject) : Type 0 where
  pub tag : o.tag ≡ f.kept.tag
  pub done : (z : ℕ) → stripe_for f.kept.map t.component z < f.kept.high →
      IsDone f.kept.map todo (column_of_cell f.kept.map t.component z) →
      get_or o.content.bytes z 0 ≡ word_now s t.component z
  pub others : (z : ℕ) → (get_or o.content.bytes z 0 ≡ word_now s t.component z) ⊎ (get_or o.content.bytes z 0 ≡ 0)
  pub above : (z : ℕ) → f.kept.high ≤ stripe_for f.kept.map t.component z → get_or o.content.bytes z 0 ≡ 0

-- a piece of the rebuild is done
pub record HasBegun (f : File) (t : Target) (todo : List Piece) : Type 0 where
  pub piece : Piece
  pub planned : In piece (pieces_in f.kept.map (group_with f.kept.map t.component) f.kept.high)
  pub done : In piece todo → ⊥

-- a rebuild's target is no component; what was sent to it are words of the log's bytes
pub record IsTarget (s : machine.State) (w : World) (f : File) (t : Target) (todo : List Piece) : Type 0 where
  pub apart : (k : ℕ) (at : Component) → slice_get f.kept.components k ≡ Some at → at.object ≡ t.object → ⊥
  pub words : (x : Command) → IsFill w t x → AreWords s (byte_before s s.count) t.component x.offset x.payload
  pub head : (x : Command) → IsFill w t x → (IsSpent (at_number w.drives t.drive) x → ⊥) →
      IsInHead f.kept.map todo t.component x
  pub object : has_failed (at_number w.drives t.drive) ≡ false → (o : StoredObject) →
      object_on (at_number w.drives t.drive) t.object ≡ Some o → IsFilled s f t todo o
  -- where a piece was done, there was something to make it of: a replica that isn't gone, or enough of each stripe
  pub source : HasBegun f t todo → (out : List ℕ) × ((z : ℕ) → HasSource f.kept.map s.gone out t.component z)

-- what a WRITE to the target leaves out of a piece is zeros
abbrev pub HasAllOf : machine.State → RawMap → Piece → (k : ℕ) → Command → Type 0
HasAllOf s m p k x =
    (z : ℕ) → HasColumn m p (column_of_cell m k z) →
    ((x.offset ≤ z) × (z < x.offset + length x.payload)) ⊎ (word_now s k z ≡ 0)

-- so it is of each WRITE that the file's job awaits, and the first of these pieces, of which it has the words
abbrev pub AwaitedHaveAll : machine.State → File → Target → List Piece → Type 0
AwaitedHaveAll s f t [] = Unit {0}
AwaitedHaveAll s f t (p ∷ ps) =
    (a : Awaited) → In a (awaited_by f.job) →
    AreWords s (byte_before s s.count) t.component a.command.offset a.command.payload
    × HasAllOf s f.kept.map p t.component a.command

-- There is something to make each cell of the target of: a replica that isn't gone, or enough of each stripe.
pub record HasSources (s : machine.State) (f : File) (t : Target) : Type 0 where
  pub out : List ℕ
  pub each : (z : ℕ) → HasSource f.kept.map s.gone out t.component z

-- a rebuild writes the first of these pieces
pub record IsFilling (s : machine.State) (w : World) (f : File) (t : Target) (todo : List Piece) : Type 0 where
  pub target : IsTarget s w f t todo
  pub awaited : AwaitedHaveAll s f t todo
  pub sources : HasSources s f t

-- by the work of a rebuild; before its object is made all pieces are to be done
abbrev pub TargetIn : machine.State → World → File → Work → Type 0
TargetIn s w f (Targets t) =
    IsTarget s w f t (pieces_in f.kept.map (group_with f.kept.map t.component) f.kept.high)
TargetIn s w f (Gathers t todo) = IsTarget s w f t todo
TargetIn s w f (Fills t todo) = IsFilling s w f t todo
TargetIn s w f work = Unit {0}

-- ---- no client's WRITE comes any more

-- the job makes a new file
abbrev pub is_making : JobKind → Bool
is_making Making = true
is_making kind = false

-- a job that isn't that one runs
abbrev pub is_at_work : Option Job → Bool
is_at_work None = false
is_at_work (Some j) = if is_making j.kind then false else true

-- no grant of the file's tag was issued yet
abbrev pub is_quiet : Option Job → Phase → Bool
is_quiet job Still = is_at_work job
is_quiet job Fencing = false
is_quiet job Repairing = true
is_quiet job FencingAgain = true

-- then each client's WRITE to the object of a component that isn't lost is spent
abbrev pub AreQuiet : machine.State → World → File → Type 0
AreQuiet s w f =
    is_quiet f.job f.kept.phase ≡ true → (c k : ℕ) (x : Command) (at : Component) →
    slice_get f.kept.components k ≡ Some at → s.lost k ≡ false → HasSent w c at.drive x → x.action ≡ Write →
    x.object ≡ at.object → IsSpent (at_number w.drives at.drive) x

-- ---- all of them

-- what the machine has of the job that runs
pub record IsJob (s : machine.State) (w : World) (f : File) (j : Job) : Type 0 where
  pub rows : RowsIn s w f j j.work
  pub done : f.kept.phase ≡ Repairing → DoneIn s f j.work
  pub target : TargetIn s w f j.work

-- if one runs
abbrev pub JobIs : machine.State → World → File → Option Job → Type 0
JobIs s w f None = Unit {0}
JobIs s w f (Some j) = IsJob s w f j

-- what it has of all that jobs did on the file, whether one runs or not
pub record AreJobs (s : machine.State) (w : World) (f : File) : Type 0 where
  pub owned : AreOwned s w f
  pub owe : OweWords s w f
  pub job : JobIs s w f f.job
  pub quiet : AreQuiet s w f
