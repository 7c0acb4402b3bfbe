-- A client's call on the file, by its phase, and the grant that it holds.
use Rattle.std.specs.Prelude.{◌≡◌, ◌⊎◌, ℕ, ◌+◌, ◌*◌, ◌<◌, ◌≤◌, ◌==◌, ◌&&◌, not, max, Bool, true, false, List, [], ◌∷◌, length, slice_index, Option, Some, None, if◌then◌else◌}
use Rattle.data_map.specs.declared.check.RawMap.{RawMap}
use Rattle.layout_ops.specs.declared.statuses.TheConstants.{NFS4_OK}
use Rattle.layout_ops.specs.declared.messages.Answer.{Answer}
use Rattle.file_log.specs.Judge.{byte_for}
use Rattle.server_rules.specs.Laws.{In}
use Rattle.client_rules.specs.declared.limits.TheConstants.{NONCES}
use Rattle.client_rules.specs.Calls.{file_of, span_of, bytes_of}
use Rattle.client_rules.specs.Grants.{held_of}
use Rattle.client_rules.specs.Results.{status_of}
use Rattle.client_rules.specs.Answers.{is_loss_taken}
use Rattle.world_history.specs.ClientNames.{Client, Call, CallOp, Held, Request, Awaited, TimedOut, Store, Io, Need, First, Get, Commit, Report, Close, Phase, Starts, Needs, Waits, Reads, Probes, Gathers, Scatters}
use Rattle.world_history.specs.Calm.{returned_in}
use Rattle.fence_law.specs.State as machine
use Rattle.fence_law.specs.State.Call.{Idle, Broken, Writes as AtWrite, Reads as AtRead}
use Rattle.fence_law.specs.State.Commit.{NoCommit, CommitAsked, CommitDone, CommitRefused}
use Rattle.fence_law.specs.State.PartState.{NotSent, Sent, Done}
use Rattle.fence_law.specs.Words.{In as InRun}
use Rattle.file_simulation.specs.EventLists.{write_of}
use Rattle.file_simulation.specs.Grants.{LayoutIs}
use Rattle.plan_law.specs.Writes.{touches_column}

-- ---- entries

-- an entry started under this grant
pub record IsOfGrant (e : machine.Start) (x : machine.Grant) : Type 0 where
  pub number : e.grant ≡ x.number
  pub tag : e.tag ≡ x.tag
  pub left : (k : ℕ) → e.left k ≡ x.left k

-- entry j is client c's, under the grant that it holds, and isn't acknowledged
pub record IsRunning (s : machine.State) (c j : ℕ) : Type 0 where
  pub below : j < s.count
  pub client : (s.start j).client ≡ c
  pub under : (x : machine.Grant) → s.held c ≡ Some x → IsOfGrant (s.start j) x
  pub unfinished : s.acknowledged j ≡ false

-- client c is at entry j, a read of the call's range at the size that it knows
pub record IsReading (s : machine.State) (c : ℕ) (op : CallOp) (j : ℕ) : Type 0 where
  pub at_ : s.call c ≡ AtRead j
  pub commit : s.commit c ≡ NoCommit
  pub running : IsRunning s c j
  pub first : (s.start j).from_ ≡ (span_of op).offset
  pub past : (s.start j).to_ ≡ (span_of op).offset + (span_of op).length
  pub clip : (s.start j).clip ≡ s.known_size c

-- client c is at entry j, which gathers for the call's write: it reaches each column that the call touches
pub record IsGathering (m : RawMap) (s : machine.State) (c : ℕ) (op : CallOp) (j : ℕ) : Type 0 where
  pub at_ : s.call c ≡ AtRead j
  pub commit : s.commit c ≡ NoCommit
  pub running : IsRunning s c j
  pub reach : (x : ℕ) → touches_column m (span_of op) x ≡ true → (s.start j).reach x ≡ true

-- entry j is the call's write
pub record IsWriteOf (s : machine.State) (op : CallOp) (j : ℕ) : Type 0 where
  pub write : (s.start j).is_write ≡ true
  pub bytes : (p : ℕ) → (s.start j).data_at p ≡ byte_for (span_of op).offset (bytes_of op) p
  pub past : (s.start j).end_ ≡ (span_of op).offset + (span_of op).length
  -- nothing of it is for a component that its layout leaves out
  pub listed : (k z v : ℕ) → (s.start j).content k z ≡ Some v → (s.start j).left k ≡ false

-- ---- the WRITEs of a call

-- one of these awaited commands is the WRITE of a part to component k
abbrev pub IsAwaited : List Awaited → (k part : ℕ) → Type 0
IsAwaited awaited k i = (a : Awaited) × In a awaited × (a.ask.component ≡ k) × (a.ask.offset ≡ i)

-- one of these is queued for it
abbrev pub IsQueued : List Store → (k part : ℕ) → Type 0
IsQueued queue k i = (q : Store) × In q queue × (q.ask.component ≡ k) × (q.ask.offset ≡ i)

-- component k timed out
abbrev pub IsTimedOut : List TimedOut → (k : ℕ) → Type 0
IsTimedOut timed k = (t : TimedOut) × In t timed × (t.ask.component ≡ k)

-- nothing of the part is under way: it was performed, or its component is left out or timed out
abbrev pub IsOver : machine.State → (c j : ℕ) → List TimedOut → (k part : ℕ) → Type 0
IsOver s c j timed k i = (s.out c k i ≡ Done) ⊎ (((s.start j).left k ≡ true) ⊎ IsTimedOut timed k)

-- the machine knows of each WRITE of the call's write what the client knows
pub record AreOut (s : machine.State) (c j : ℕ) (awaited : List Awaited) (queue : List Store) (timed : List TimedOut) : Type 0
  where
    pub sent : (a : Awaited) → In a awaited → s.out c a.ask.component a.ask.offset ≡ Sent a.command.nonce
    pub queued : (q : Store) → In q queue → s.out c q.ask.component q.ask.offset ≡ NotSent
    pub others : (k z v : ℕ) → (s.start j).content k z ≡ Some v →
        IsAwaited awaited k ((s.start j).part k z) ⊎ (IsQueued queue k ((s.start j).part k z)
        ⊎ IsOver s c j timed k ((s.start j).part k z))
    -- and none is under way of which the client doesn't know
    pub known : (k i v : ℕ) → s.out c k i ≡ Sent v → IsAwaited awaited k i ⊎ IsTimedOut timed k

-- no two of these are for one part
abbrev pub PartsDiffer : List Store → Type 0
PartsDiffer [] = Unit {0}
PartsDiffer (w ∷ ws) =
    ((q : Store) → In q ws → q.ask.component ≡ w.ask.component → q.ask.offset ≡ w.ask.offset → ⊥) × PartsDiffer ws

-- what is queued carries the entry's content, as its part and all of it, to a component that the layout lists
pub record CarriesContent (e : machine.Start) (q : Store) : Type 0 where
  pub bytes : (i : ℕ) → i < length q.bytes →
      e.content q.ask.component (q.ask.offset + i) ≡ Some (slice_index q.bytes i)
  pub part : (i : ℕ) → i < length q.bytes → e.part q.ask.component (q.ask.offset + i) ≡ q.ask.offset
  pub just : (z v : ℕ) → e.content q.ask.component z ≡ Some v → e.part q.ask.component z ≡ q.ask.offset →
      (q.ask.offset ≤ z) × (z < q.ask.offset + length q.bytes)
  pub listed : e.left q.ask.component ≡ false

-- ---- writes

-- the client is at entry j, which is its call's write, with this commit
pub record IsWriting (s : machine.State) (c : ℕ) (op : CallOp) (commit : machine.Commit) (j : ℕ) : Type 0 where
  pub at_ : s.call c ≡ AtWrite j
  pub commit_is : s.commit c ≡ commit
  pub running : IsRunning s c j
  pub write : IsWriteOf s op j
  pub last : write_of s c ≡ j

-- it sends WRITEs, at the size that it knows
pub record IsScattering (s : machine.State) (c : ℕ) (op : CallOp) (io : Io) (queue : List Store) (j : ℕ) : Type 0 where
  pub writing : IsWriting s c op NoCommit j
  pub clip : (s.start j).clip ≡ s.known_size c
  pub out : AreOut s c j io.awaited queue io.timed
  pub content : (q : Store) → In q queue → CarriesContent (s.start j) q
  pub differ : PartsDiffer queue

-- the write lies below the size that its client knew, or its commit was carried out
abbrev pub Fits : machine.State → (j : ℕ) → Type 0
Fits s j = ((s.start j).end_ ≤ (s.start j).clip) ⊎ (s.committed j ≡ true)

-- all its WRITEs are answered or timed out, and it needs a commit
pub record NeedsCommit (s : machine.State) (c : ℕ) (op : CallOp) (timed : List TimedOut) (j : ℕ) : Type 0 where
  pub writing : IsWriting s c op NoCommit j
  pub out : AreOut s c j [] [] timed

-- how far the commit of entry j is, by the answer that the server keeps
abbrev pub commit_at : (j : ℕ) → Option Answer → machine.Commit
commit_at j None = CommitAsked j
commit_at j (Some a) = if status_of a.results == NFS4_OK then CommitDone j else CommitRefused j

-- where it was carried out, the answer has the greater size, and the entry counts as committed
abbrev pub CommittedAs : machine.State → (c j : ℕ) → Option Answer → Type 0
CommittedAs s c j None = Unit {0}
CommittedAs s c j (Some a) =
    status_of a.results ≡ NFS4_OK → (a.size ≡ max (s.known_size c) (s.start j).end_) × (s.committed j ≡ true)

-- it waits for the commit
pub record WaitsCommit (s : machine.State) (c : ℕ) (op : CallOp) (timed : List TimedOut) (o : Option Answer) (j : ℕ) : Type 0
  where
    pub writing : IsWriting s c op (commit_at j o) j
    pub out : AreOut s c j [] [] timed
    pub committed : CommittedAs s c j o

-- it reports the components that timed out
pub record IsReporting (s : machine.State) (c : ℕ) (op : CallOp) (timed : List TimedOut) (j : ℕ) : Type 0 where
  pub writing : IsWriting s c op NoCommit j
  pub out : AreOut s c j [] [] timed
  pub fits : Fits s j

-- its report was taken as a loss: the write is acknowledged, and the machine's client is idle
pub record IsTaken (s : machine.State) (c : ℕ) (op : CallOp) (j : ℕ) : Type 0 where
  pub at_ : s.call c ≡ Idle
  pub commit : s.commit c ≡ NoCommit
  pub below : j < s.count
  pub client : (s.start j).client ≡ c
  pub write : IsWriteOf s op j
  pub last : write_of s c ≡ j
  pub acknowledged : s.acknowledged j ≡ true

-- the report waits for its answer, was answered without a loss, or was taken
abbrev pub ReportIs : machine.State → (c : ℕ) → CallOp → List TimedOut → (taken : Bool) → (j : ℕ) → Type 0
ReportIs s c op timed false j = IsReporting s c op timed j
ReportIs s c op timed true j = IsTaken s c op j

-- an answer that takes a report as a loss
abbrev pub is_taken : Option Answer → Bool
is_taken None = false
is_taken (Some a) = is_loss_taken a

-- ---- the phases

-- the machine's client is at nothing
pub record IsIdle (s : machine.State) (c : ℕ) : Type 0 where
  pub at_ : s.call c ≡ Idle
  pub commit : s.commit c ≡ NoCommit

-- or at a write that broke off
pub record IsBroken (s : machine.State) (c : ℕ) : Type 0 where
  pub at_ : s.call c ≡ Broken
  pub commit : s.commit c ≡ NoCommit

-- what it is at where the call has something to ask
abbrev pub NeedIs : machine.State → (c : ℕ) → CallOp → Need → Type 0
NeedIs s c op First = IsIdle s c
NeedIs s c op (Get tries) = IsIdle s c
NeedIs s c op (Commit timed) = (j : ℕ) × NeedsCommit s c op timed j
NeedIs s c op (Report timed) = (j : ℕ) × IsReporting s c op timed j
NeedIs s c op (Close outcome []) = IsIdle s c
NeedIs s c op (Close outcome (e ∷ es)) = IsBroken s c

-- and where it waits for the answer
abbrev pub WaitIs : machine.State → (c : ℕ) → CallOp → Option Answer → Need → Type 0
WaitIs s c op o First = IsIdle s c
WaitIs s c op o (Get tries) = IsIdle s c
WaitIs s c op o (Commit timed) = (j : ℕ) × WaitsCommit s c op timed o j
WaitIs s c op o (Report timed) = (j : ℕ) × ReportIs s c op timed (is_taken o) j
WaitIs s c op o (Close outcome report) = IsIdle s c

-- in each phase of a call; `o` is the answer to its request, where the server has one
abbrev pub CallIs : RawMap → machine.State → (c : ℕ) → CallOp → Option Answer → Phase → Type 0
CallIs m s c op o Starts = IsIdle s c
CallIs m s c op o (Needs need) = NeedIs s c op need
CallIs m s c op o (Waits need) = WaitIs s c op o need
CallIs m s c op o (Reads io) = (j : ℕ) × IsReading s c op j
CallIs m s c op o (Probes io) = (j : ℕ) × IsReading s c op j
CallIs m s c op o (Gathers io) = (j : ℕ) × IsGathering m s c op j
CallIs m s c op o (Scatters io queue) = (j : ℕ) × IsScattering s c op io queue j

-- a call on another file is none
abbrev pub CallOn : (here : Bool) → RawMap → machine.State → (c : ℕ) → Call → Option Answer → Type 0
CallOn true m s c call o = CallIs m s c call.op o call.phase
CallOn false m s c call o = IsIdle s c

-- of the call that is pending, if one is
abbrev pub CallAt : (file : ℕ) → RawMap → machine.State → (c : ℕ) → Option Answer → Option Call → Type 0
CallAt file m s c o None = IsIdle s c
CallAt file m s c o (Some call) = CallOn (file_of call.op == file) m s c call o

-- ---- the grant that is held

-- a client holds a grant as the machine has it, knows the file's size, and has used its nonces alone
pub record IsHolding (m : RawMap) (s : machine.State) (c : ℕ) (h : Held) : Type 0 where
  pub grant : machine.Grant
  pub held : s.held c ≡ Some grant
  pub same : LayoutIs m grant h
  pub size : s.known_size c ≡ h.size
  pub nonce : s.nonce c ≤ h.number * NONCES + h.count

-- the phase waits for the answer to a report that may be taken
abbrev pub waits_report : Phase → Bool
waits_report (Waits (Report timed)) = true
waits_report phase = false

-- so does a call on the file
abbrev pub reports_on : (file : ℕ) → Option Call → Bool
reports_on file None = false
reports_on file (Some call) = (file_of call.op == file) && waits_report call.phase

-- the machine's client still holds the grant that its request returns
pub record HoldsReported (s : machine.State) (c : ℕ) (o : Option Request) : Type 0 where
  pub grant : machine.Grant
  pub held : s.held c ≡ Some grant
  pub returned : (r : Request) → o ≡ Some r → returned_in r.args ≡ Some grant.number

-- without a grant none is held, but while a report waits that wasn't taken
abbrev pub HoldsNone : machine.State → (c : ℕ) → Option Request → (reporting : Bool) → Type 0
HoldsNone s c o true = HoldsReported s c o
HoldsNone s c o false = s.held c ≡ None

-- by whether a grant is held on the file
abbrev pub HeldIs : (file : ℕ) → RawMap → machine.State → (c : ℕ) → Client → Option Answer → Option Held → Type 0
HeldIs file m s c x o (Some h) = IsHolding m s c h
HeldIs file m s c x o None = HoldsNone s c x.outstanding (reports_on file x.call && not (is_taken o))

-- What the machine has of a client: the grant that it holds, the call that it is at, and nonces that are below those of a
-- grant that it is to take and of each that is still to be given. `o` is the server's answer to its outstanding request, where
-- there is one.
pub record IsClient (file : ℕ) (m : RawMap) (s : machine.State) (c : ℕ) (x : Client) (o : Option Answer) : Type 0 where
  pub held : HeldIs file m s c x o (held_of x.held file)
  pub call : CallAt file m s c o x.call
  pub fresh : (g : machine.Grant) (size : ℕ) → s.waiting c ≡ true →
      InRun (record { client = c; sequence = s.sequence c; grant = Some g; size = size }) s.answers →
      s.nonce c < g.number * NONCES
  pub used : s.nonce c < s.next * NONCES
