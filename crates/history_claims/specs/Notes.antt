-- Why the server notes what it notes of a file, in the words of the file's book.
use Rattle.std.specs.Prelude.{◌≡◌, ◌≢◌, ◌⊎◌, ℕ, Bool, true, false, not, ◌&&◌, nat_lt, ◌/◌, List, [], ◌∷◌, ◌++◌, length, filter, slice_get, Option, Some, None, if◌then◌else◌}
use Rattle.data_map.specs.Striping.{group_of, replicas}
use Rattle.server_rules.specs.declared.limits.TheConstants.{GREATEST_TAG}
use Rattle.server_rules.specs.Audit.{lengths_of, present_lengths}
use Rattle.server_rules.specs.Files.{file_at}
use Rattle.server_rules.specs.History.{Input, Opens}
use Rattle.server_rules.specs.Laws.{In}
use Rattle.server_rules.specs.Maps.{group_with, pieces_along}
use Rattle.server_rules.specs.Messages.{awaited_by, counters_have_room}
use Rattle.server_rules.specs.Numbers.{among, marked}
use Rattle.server_rules.specs.Pieces.{stores}
use Rattle.server_rules.specs.Replies.{Full, Done, hearing}
use Rattle.server_rules.specs.Standing.{is_short, is_beyond, lacking}
use Rattle.server_rules.specs.Zoning.{zone_has_room}
use Rattle.scenario_text.specs.declared.line.Note.{Note}
use Rattle.scenario_text.specs.declared.line.Note.TheVariants as note
use Rattle.scenario_text.specs.declared.line.Line.{Line}
use Rattle.scenario_text.specs.declared.line.Line.TheVariants as line
use Rattle.world_history.specs.ServerNames.{Server, Drive, File, Kept, Component, Still, Job, Rebuilding, Auditing, Work, Creates, Lengths, Checks, Target, Awaited, Heard, Piece, Tally, OrderKind, ToRebuild, ToAudit, Get, Return, IoErr}
use Rattle.world_history.specs.Book.{server_after}
use Rattle.world_history.specs.State.{World}
use Rattle.world_history.specs.History.{StandsFor}
use Rattle.history_law.specs.Moves.{IsFileRefusal}
use Rattle.history_law.specs.Read.{AreWritten}
use Rattle.history_law.specs.Steps.{IsOrder}
use Rattle.component_law.specs.Going.{taken_out, IsMaking}
use Rattle.component_law.specs.Objects.{target_of}
use Rattle.cause_law.specs.Answers.{asking}
use Rattle.cause_law.specs.Awaiting.{Answers}
use Rattle.cause_law.specs.Changes.{IsFencing, TakesOrder, IsAskedOf}
use Rattle.cause_law.specs.Commits.{HasGrant}
use Rattle.cause_law.specs.Gets.{IsLowest, TagSpent, IsFirst}
use Rattle.cause_law.specs.Returns.{LosesSome}
use Rattle.cause_law.specs.Steps.{AtInputs}

-- ---- a file is made

-- the job awaits the CREATEs of a new file
abbrev pub are_creates : Work → Bool
are_creates Creates = true
are_creates work = false

abbrev pub awaits_creates : Option Job → Bool
awaits_creates None = false
awaits_creates (Some j) = are_creates j.work

-- the file has a grant that nothing ended, or a fence that no repair followed
abbrev pub IsLeftOpen : Kept → Type 0
IsLeftOpen f = (f.grants ≢ []) ⊎ (f.phase ≢ Still)

-- each of them is missing
abbrev pub AllMissing : List Component → Type 0
AllMissing cs = (at : Component) → In at cs → at.missing ≡ true

-- Nothing of the file is awaited any more behind the step: its CREATEs were before; or they are to go out in the step, of a file
-- that is made or opened, and there is no component to which one goes.
pub data IsMade (i : Input) (g : File) : (before : Option File) → Type 0 where
  WithLast : (f : File) → awaits_creates f.job ≡ true → IsMade i g (Some f)
  AtMaking : IsMaking i g.kept.number → AllMissing g.kept.components → IsMade i g None
  AtOpening : (f : File) → i ≡ Opens → f.kept.ready ≡ false → (IsLeftOpen f.kept → ⊥) → AllMissing g.kept.components
      → IsMade i g (Some f)

-- and it counts as made from then on
pub record IsReady (i : Input) (before : Option File) (g : File) : Type 0 where
  pub made : IsMade i g before
  pub over : g.job ≡ None
  pub ready : g.kept.ready ≡ true

-- ---- a job is refused

-- It is ordered while another job waits; the lowest component for which that waits.
pub record IsBusy (s : Server) (i : Input) (f : File) (component : ℕ) : Type 0 where
  pub kind : OrderKind
  pub begins : IsFencing kind
  pub order : IsOrder i kind f.kept.number
  pub takes : TakesOrder s i
  pub lowest : IsLowest (awaited_by f.job) component

-- What needs a fence of the file: an order, while no job waits; the opening of a file that was left open; a LAYOUTGET that comes
-- to the row for it; or a LAYOUTRETURN whose report isn't taken as a loss. (That row says that there is no further tag.)
pub data NeedsOne (s : Server) (i : Input) (f g : File) : Type 0 where
  ByOrder : (kind : OrderKind) → IsFencing kind → IsOrder i kind f.kept.number → TakesOrder s i → f.job ≡ None
      → NeedsOne s i f g
  ByOpening : i ≡ Opens → counters_have_room s ≡ true → IsLeftOpen f.kept → NeedsOne s i f g
  ByGet : (a : IsAskedOf s i f.kept.number) (iomode offset count : ℕ) → a.request.args ≡ Get iomode offset count
      → IsFirst (asking f g s.next_grant a.now a.request.client iomode offset count) TagSpent → NeedsOne s i f g
  ByReturn : (a : IsAskedOf s i f.kept.number) (report : List IoErr) → a.request.args ≡ Return report → report ≢ []
      → HasGrant f.kept a.request.client → (LosesSome f.kept a.request.client report → ⊥) → NeedsOne s i f g

-- A fence is needed, and refused: there is no further tag. Nothing changes of what is kept of the file, and its job is as it was.
pub record IsRefused (s : Server) (i : Input) (f g : File) : Type 0 where
  pub tag : f.kept.tag ≡ GREATEST_TAG
  pub needs : NeedsOne s i f g
  pub kept : g.kept ≡ f.kept
  pub job : g.job ≡ f.job

-- ---- a component is made anew

-- the file is rebuilt: by the job that runs, or by one that is ordered now
pub data IsRebuilt (s : Server) (i : Input) (f : File) : Type 0 where
  Runs : (j : Job) → f.job ≡ Some j → j.kind ≡ Rebuilding → IsRebuilt s i f
  Aims : (t : Target) → target_of f.job ≡ Some t → IsRebuilt s i f
  IsTold : IsOrder i ToRebuild f.kept.number → TakesOrder s i → f.job ≡ None → IsRebuilt s i f

-- The drive may take component k of the file: it is online, no component of the file stands or last stood on it, and if the file
-- is zoned, its zone has room.
pub record MayTake (ds : List Drive) (f : Kept) (k : ℕ) (d : Drive) : Type 0 where
  pub online : d.online ≡ true
  pub free : (at : Component) → In at f.components → at.drive ≢ d.number
  pub room : f.zoned ≡ true → zone_has_room ds f k d.zone ≡ true

-- No drive takes component k: it is missing, and none of the server's may; or its new object was to be on a drive that what comes
-- takes out.
pub data HasNoDrive (s : Server) (ds : List Drive) (i : Input) (f g : File) (k : ℕ) : Type 0 where
  NoneMay : (at : Component) → slice_get g.kept.components k ≡ Some at → at.missing ≡ true
      → ((d : Drive) → In d ds → MayTake ds g.kept k d → ⊥) → HasNoDrive s ds i f g k
  ItsIsGone : (t : Target) → target_of f.job ≡ Some t → t.component ≡ k → taken_out s i ≡ Some t.drive
      → HasNoDrive s ds i f g k

-- none of the group's components is present
abbrev pub NoneIn : Kept → (group : ℕ) → Type 0
NoneIn f group =
    (n : ℕ) (at : Component) → slice_get f.components n ≡ Some at → group_with f.map n ≡ group → at.missing ≡ true

-- Component k can't be made anew from the others: no replica of its position is present, and of its group more positions have
-- none than the code brings back, or no component at all is present. The positions are those that have none.
pub record IsBeyond (f : Kept) (k : ℕ) (positions : List ℕ) : Type 0 where
  pub alone : (n : ℕ) (at : Component) → slice_get f.components n ≡ Some at → n / replicas f.map ≡ k / replicas f.map
      → at.missing ≡ true
  pub group : (is_beyond f.map f.components (group_with f.map k) ≡ true) ⊎ NoneIn f (group_with f.map k)
  pub positions_are : positions ≡ lacking f.map f.components (group_with f.map k)

-- the component that a WRITE of a job is to fill: the one that is made anew, or that of the WRITE
abbrev pub fills_at : Awaited → Option Target → ℕ
fills_at a None = a.component
fills_at a (Some t) = t.component

-- What comes says that there is no space for a WRITE that the job awaits, and that is to fill the component.
pub record IsFull (s : Server) (i : Input) (f : File) (k : ℕ) : Type 0 where
  pub awaited : Awaited
  pub there : In awaited (awaited_by f.job)
  pub answers : Answers s i f awaited
  pub full : hearing f.kept awaited answers.reply ≡ Full
  pub component : k ≡ fills_at awaited (target_of f.job)

-- a report that is taken as a loss names the component
pub record IsReported (s : Server) (i : Input) (f : File) (k : ℕ) : Type 0 where
  pub asked : IsAskedOf s i f.kept.number
  pub report : List IoErr
  pub args : asked.request.args ≡ Return report
  pub some : report ≢ []
  pub loss : LosesSome f.kept asked.request.client report
  pub named : In k loss.components
  pub at : Component
  pub found : slice_get f.kept.components k ≡ Some at

-- ---- an audit

-- the file is audited: by the job that runs, or by one that is ordered now
pub data IsAudited (s : Server) (i : Input) (f : File) : Type 0 where
  RunsAudit : (j : Job) → f.job ≡ Some j → j.kind ≡ Auditing → IsAudited s i f
  OrdersAudit : IsOrder i ToAudit f.kept.number → TakesOrder s i → f.job ≡ None → IsAudited s i f

-- what comes lets the job lose a component
pub data LosesOne (s : Server) (i : Input) (f : File) : Type 0 where
  ByDrive : (d : ℕ) → taken_out s i ≡ Some d → LosesOne s i f
  BySpace : (k : ℕ) → IsFull s i f k → LosesOne s i f

-- What the job has heard when nothing of what it asked is awaited any more: the last reply is what comes, or the last drive is
-- taken out.
pub data HasHeard (s : Server) (i : Input) (f : File) (j : Job) : List Heard → Type 0 where
  WithReply : (a : Awaited) → In a j.awaited → (x : Answers s i f a) → hearing f.kept a x.reply ≡ Done
      → HasHeard s i f j (j.heard ++ (record { component = a.component; payload = x.reply.payload } ∷ []))
  WithLoss : LosesOne s i f → HasHeard s i f j j.heard

-- what an audit found before its first piece
abbrev pub found_first : List Heard → Tally
found_first heard = record { lengths = lengths_of heard; short = []; bad = [] }

-- what it found with the begin of a piece: that its stripe is short, if it is
abbrev pub with_short : Kept → Piece → Tally → Tally
with_short f p t =
    record t {
      short = if is_short f.map f.components (group_of f.map p.stripe) then marked p.stripe t.short else t.short;
    }

-- and with its rows: that the stripe is bad, if it isn't short and a repair would write something
abbrev pub with_bad : Kept → Piece → List Heard → Tally → Tally
with_bad f p heard t =
    if not (is_short f.map f.components (group_of f.map p.stripe)) && nat_lt 0 (length (stores f p heard 0))
    then record t { bad = marked p.stripe t.bad } else t

-- the pieces of all stripes below `high`
abbrev pub all_pieces : Kept → List Piece
all_pieces f = pieces_along f.map.unit 0 f.high

-- With which pieces an audit goes on in the step, and what it found so far: with all, where it begins and no component is there
-- whose length it could ask, or has heard the lengths; with those behind the piece whose rows it has heard; or with the same,
-- since a component was lost. Of the file as the book has it before the step, and of what it keeps behind it.
pub data GoesOnWith (s : Server) (i : Input) (f : File) (g : Kept) : List Piece → Tally → Type 0 where
  AtOnce : IsAudited s i f → AllMissing g.components → GoesOnWith s i f g (all_pieces g) (found_first [])
  Measured : (j : Job) → f.job ≡ Some j → j.work ≡ Lengths → (heard : List Heard) → HasHeard s i f j heard
      → GoesOnWith s i f g (all_pieces g) (found_first heard)
  Checked : (j : Job) (p : Piece) (ps : List Piece) (t : Tally) → f.job ≡ Some j → j.work ≡ Checks (p ∷ ps) t
      → (heard : List Heard) → HasHeard s i f j heard → GoesOnWith s i f g ps (with_bad g p heard t)
  Ended : (j : Job) (t : Tally) → f.job ≡ Some j → j.work ≡ Checks [] t → GoesOnWith s i f g [] t
  Again : (j : Job) (todo : List Piece) (t : Tally) → f.job ≡ Some j → j.work ≡ Checks todo t → LosesOne s i f
      → GoesOnWith s i f g todo t

-- It goes through pieces: it passes over those of whose groups no component is present, and reads the first of what is left. And
-- what it has found then.
abbrev pub Through : Kept → List Piece → Tally → (left : List Piece) → Tally → Type 0
Through f [] t left found = (left ≡ []) × (found ≡ t)
Through f (p ∷ ps) t left found =
    ((NoneIn f (group_of f.map p.stripe) → ⊥) × (left ≡ p ∷ ps) × (found ≡ with_short f p t))
    ⊎ (NoneIn f (group_of f.map p.stripe) × Through f ps (with_short f p t) left found)

-- So it goes in the step until these pieces are left, with this found.
pub record GoesThrough (s : Server) (i : Input) (f : File) (g : Kept) (left : List Piece) (found : Tally) : Type 0 where
  pub pieces : List Piece
  pub first : Tally
  pub on : GoesOnWith s i f g pieces first
  pub through : Through g pieces first left found

-- An audit is over: no piece is left. It tells the stripes below `high`, how many it found short, how many bad that it didn't
-- find short too, and the lengths that it heard of components which are there.
pub record IsAudit (s : Server) (i : Input) (f g : File) (stripes short bad bytes : ℕ) : Type 0 where
  pub found : Tally
  pub goes : GoesThrough s i f g.kept [] found
  pub over : g.job ≡ None
  pub stripes_are : stripes ≡ g.kept.high
  pub short_are : short ≡ length found.short
  pub bad_are : bad ≡ length (filter (λ n. not (among n found.short)) found.bad)
  pub bytes_are : bytes ≡ present_lengths found.lengths g.kept.components 0

-- ---- the cause of a note

-- Why a file is noted so in a step: of the file as the book has it before the step and behind it, and of the drives behind it.
-- (The notes of fences, repairs and components that were made anew, and those that a file isn't made, are told of elsewhere.)
abbrev pub CausedOf : Server → (ds : List Drive) → Input → (f g : File) → Note → Type 0
CausedOf s ds i f g note.Ready = IsReady i (Some f) g
CausedOf s ds i f g (note.Busy k) = IsBusy s i f k
CausedOf s ds i f g note.Spent = IsRefused s i f g
CausedOf s ds i f g (note.NoDrive k) = IsRebuilt s i f × HasNoDrive s ds i f g k
CausedOf s ds i f g (note.Lost k positions) = IsRebuilt s i f × IsBeyond g.kept k positions
CausedOf s ds i f g (note.NoSpace k) = IsFull s i f k
CausedOf s ds i f g (note.Reported k) = IsReported s i f k
CausedOf s ds i f g (note.Audited stripes short bad bytes) = IsAudit s i f g stripes short bad bytes
CausedOf s ds i f g n = Unit {0}

-- a file that wasn't there is made, and counts as made at once
abbrev pub CausedAtFirst : Input → (g : File) → Note → Type 0
CausedAtFirst i g note.Ready = IsReady i None g
CausedAtFirst i g n = ⊥

-- ---- in the lines

-- Of servers before and behind a step: a note of the file has its cause in what the books have of it.
pub data HasCause (s t : Server) (i : Input) (file : ℕ) (n : Note) : Type 0 where
  Of : (f g : File) → file_at s.files file ≡ Some f → file_at t.files file ≡ Some g → CausedOf s t.drives i f g n
      → HasCause s t i file n
  AtFirst : (g : File) → file_at s.files file ≡ None → file_at t.files file ≡ Some g → CausedAtFirst i g n
      → HasCause s t i file n
  NotMade : IsFileRefusal n → HasCause s t i file n

-- so has each among these lines of the step
abbrev pub NotesAreCaused : (before : List Line) → Line → Input → (rest : List Line) → Type 0
NotesAreCaused before l i rest =
    (file : ℕ) (n : Note) → In (line.Note file n) rest
    → HasCause (server_after before) (server_after (before ++ l ∷ rest)) i file n

abbrev pub NotesHaveCauses : List Line → Type 0
NotesHaveCauses h = AtInputs NotesAreCaused h

-- in each whole history whose events a text may have
abbrev pub EachNoteHasItsCause : Type 0
EachNoteHasItsCause = (w : World) (h : List Line) → StandsFor w h → AreWritten h → NotesHaveCauses h
