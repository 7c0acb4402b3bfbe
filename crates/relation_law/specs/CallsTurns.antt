-- What the machine has of a client in the middle of its turn: behind the first line of the turn, and before what it sends.
use Rattle.std.specs.Prelude.{◌≡◌, ◌⊎◌, ◌==◌, ◌++◌, ◌*◌, ◌<◌, ◌≤◌, ℕ, Bool, true, false, List, [], map, Option, Some, None}
use Rattle.data_map.specs.declared.check.RawMap.{RawMap}
use Rattle.layout_ops.specs.declared.messages.Answer.{Answer}
use Rattle.server_rules.specs.Laws.{In}
use Rattle.client_rules.specs.declared.limits.TheConstants.{NONCES}
use Rattle.client_rules.specs.Calls.{file_of, span_of, bytes_of}
use Rattle.client_rules.specs.Grants.{held_of}
use Rattle.client_rules.specs.Laws.{Awaiting}
use Rattle.exchange_law.specs.Calls.{Has}
use Rattle.client_rules.specs.Going.{begins}
use Rattle.client_rules.specs.Io.{outs}
use Rattle.client_rules.specs.Replies.{timed_after}
use Rattle.client_rules.specs.Writes.{is_too_short}
use Rattle.stripe_plan.specs.Plans.{stores}
use Rattle.world_history.specs.ClientNames.{Call, CallOp, Held, Awaited, TimedOut, Store, Io, Need, First, Get, Column, Moved, Phase, Starts, Needs, Waits, Reads, Probes, Gathers, Scatters, Outcome, WriteOk, ReadOk, Turn, Goes, Ends, Forgets, Done}
use Rattle.fence_law.specs.State as machine
use Rattle.fence_law.specs.State.{State}
use Rattle.fence_law.specs.State.Commit.{NoCommit}
use Rattle.fence_law.specs.Words.{In as InRun}
use Rattle.file_simulation.specs.Calls.{IsReading, IsGathering, IsWriting, IsScattering, AreOut, Fits, IsTaken, IsIdle, NeedIs, WaitIs, HeldIs}

-- ---- commands that are still to be sent

-- what a command carries, as the plan has it
abbrev pub store_of : Awaited → Store
store_of a = record { ask = a.ask; bytes = a.command.payload }

abbrev pub stores_of : List Awaited → List Store
stores_of cs = map store_of cs

-- READs of the call run, or its first one is still to be sent
abbrev pub PendsRead : State → (c : ℕ) → CallOp → List Awaited → Type 0
PendsRead s c op cs = ((j : ℕ) × IsReading s c op j) ⊎ (IsIdle s c × Awaiting cs)

-- so it is of a gather
abbrev pub PendsGather : RawMap → State → (c : ℕ) → CallOp → List Awaited → Type 0
PendsGather m s c op cs = ((j : ℕ) × IsGathering m s c op j) ⊎ (IsIdle s c × Awaiting cs)

-- the write runs, and some of its WRITEs are still to be sent
pub record IsSending (s : State) (c : ℕ) (op : CallOp) (io : Io) (queue : List Store) (cs : List Awaited) : Type 0 where
  pub entry : ℕ
  pub before : List Awaited
  pub awaited : io.awaited ≡ before ++ cs
  pub scattering : IsScattering s c op (record { awaited = before; got = io.got; timed = io.timed }) (stores_of cs ++ queue)
      entry

-- the write is still to start, behind its gather or without one: its first WRITEs are still to be sent
pub record IsStarting (m : RawMap) (s : State) (c : ℕ) (op : CallOp) (io : Io) (queue : List Store) (cs : List Awaited) :
    Type 0 where
  pub from : ((i : ℕ) × IsGathering m s c op i) ⊎ IsIdle s c
  pub some : Awaiting cs
  pub all : io.awaited ≡ cs

abbrev pub PendsWrite : RawMap → State → (c : ℕ) → CallOp → Io → List Store → List Awaited → Type 0
PendsWrite m s c op io queue cs = IsSending s c op io queue cs ⊎ IsStarting m s c op io queue cs

-- ---- the call

-- each phase, with the commands that are still to be sent; `o` is the answer to the client's request
abbrev pub PhasePends : RawMap → State → (c : ℕ) → CallOp → Option Answer → List Awaited → Phase → Type 0
PhasePends m s c op o cs Starts = (cs ≡ []) × IsIdle s c
PhasePends m s c op o cs (Needs need) = (cs ≡ []) × NeedIs s c op need
PhasePends m s c op o cs (Waits need) = (cs ≡ []) × WaitIs s c op o need
PhasePends m s c op o cs (Reads io) = PendsRead s c op cs
PhasePends m s c op o cs (Probes io) = PendsRead s c op cs
PhasePends m s c op o cs (Gathers io) = PendsGather m s c op cs
PhasePends m s c op o cs (Scatters io queue) = PendsWrite m s c op io queue cs

-- each WRITE of the write was performed, and it needs no commit any more
pub record IsWritten (s : State) (c : ℕ) (op : CallOp) (j : ℕ) : Type 0 where
  pub writing : IsWriting s c op NoCommit j
  pub out : AreOut s c j [] [] []
  pub fits : Fits s j

-- a write that is over: the machine acknowledges it at the line that tells so, or has when its report was taken; one without
-- bytes has no entry
abbrev pub WriteEnds : State → (c : ℕ) → CallOp → (count : ℕ) → Type 0
WriteEnds s c op count =
    ((count ≡ 0) × IsIdle s c)
    ⊎ ((count ≡ (span_of op).length) × (((j : ℕ) × IsWritten s c op j) ⊎ ((j : ℕ) × IsTaken s c op j)))

-- how a call ends
abbrev pub OutcomeIs : State → (c : ℕ) → CallOp → Outcome → Type 0
OutcomeIs s c op (WriteOk count) = WriteEnds s c op count
OutcomeIs s c op (ReadOk bytes) = (j : ℕ) × IsReading s c op j
OutcomeIs s c op u = IsIdle s c

-- a call on another file is none
abbrev pub PhaseOn : (here : Bool) → RawMap → State → (c : ℕ) → Call → Option Answer → List Awaited → Type 0
PhaseOn true m s c call o cs = PhasePends m s c call.op o cs call.phase
PhaseOn false m s c call o cs = IsIdle s c

abbrev pub OutcomeOn : (here : Bool) → State → (c : ℕ) → CallOp → Outcome → Type 0
OutcomeOn true s c op u = OutcomeIs s c op u
OutcomeOn false s c op u = IsIdle s c

-- where no call is pending, the one that the turn is about may have ended
abbrev pub EndIs : (file : ℕ) → State → (c : ℕ) → Option CallOp → Option Outcome → Type 0
EndIs file s c (Some op) (Some u) = OutcomeOn (file_of op == file) s c op u
EndIs file s c op u = IsIdle s c

-- the call, if one is pending
abbrev pub PendsAt : (file : ℕ) → RawMap → State → (c : ℕ) → Option Answer → Option CallOp → Option Outcome → List Awaited →
    Option Call → Type 0
PendsAt file m s c o op u cs None = EndIs file s c op u
PendsAt file m s c o op u cs (Some call) = PhaseOn (file_of call.op == file) m s c call o cs

-- what a call needs of the server it needs under a grant, but for a grant
abbrev pub NeedHas : Need → Option Held → Type 0
NeedHas First h = Unit {0}
NeedHas (Get tries) h = Unit {0}
NeedHas n h = Has h

-- What the machine has of a client that has done so much of its turn. `op` is the call that the turn is about.
pub record IsMid (file : ℕ) (m : RawMap) (s : State) (c : ℕ) (o : Option Answer) (op : Option CallOp) (d : Done) : Type 0
  where
    pub held : HeldIs file m s c d.client o (held_of d.client.held file)
    pub call : PendsAt file m s c o op d.outcome d.commands d.client.call
    pub fresh : (g : machine.Grant) (size : ℕ) → s.waiting c ≡ true →
        InRun (record { client = c; sequence = s.sequence c; grant = Some g; size = size }) s.answers →
        s.nonce c < g.number * NONCES
    pub used : s.nonce c < s.next * NONCES
    -- the call that is pending is that one, and none is where one has ended
    pub about : (call : Call) → d.client.call ≡ Some call → op ≡ Some call.op
    pub ended : (u : Outcome) → d.outcome ≡ Some u → d.client.call ≡ None
    -- nothing was asked yet, and what the call needs it needs under its grant
    pub unasked : d.requests ≡ []
    pub needs : (call_op : CallOp) (n : Need) → d.client.call ≡ Some (record { op = call_op; phase = Needs n }) →
        (file_of call_op == file) ≡ true → NeedHas n (held_of d.client.held file)

-- ---- what became of a call

-- by how it goes on, with the commands that are still to be sent; a grant that is forgotten isn't held
abbrev pub TurnIs : RawMap → State → (c : ℕ) → CallOp → Option Answer → List Awaited → Turn → Type 0
TurnIs m s c op o cs (Goes p) = PhasePends m s c op o cs p
TurnIs m s c op o cs (Ends u) = OutcomeIs s c op u
TurnIs m s c op o cs (Forgets u) = OutcomeIs s c op u × (s.held c ≡ None)

-- the same grant, under which more commands were sent
pub record IsCounted (h k : Held) : Type 0 where
  pub same : k ≡ record h { count = k.count }
  pub more : h.count ≤ k.count

-- what its dealings with the drives did
pub record MovedIs (m : RawMap) (s : State) (c : ℕ) (op : CallOp) (o : Option Answer) (h : Held) (mv : Moved) : Type 0 where
  pub held : IsCounted h mv.held
  pub turn : TurnIs m s c op o mv.sent mv.turn

-- ---- what is asked of plans and of the client

-- a write sends something, whatever it got
abbrev pub WritesSome : Held → CallOp → List TimedOut → Type 0
WritesSome h op timed = (got : List Column) → stores h.map (span_of op) (bytes_of op) got (outs h timed) ≡ [] → ⊥

-- no read is answered at its begin
abbrev pub ReadsWait : Held → CallOp → Type 0
ReadsWait h op = (bytes : List ℕ) → (begins h op).turn ≡ Ends (ReadOk bytes) → ⊥

-- each WRITE that is queued stands behind one that is awaited of its component
abbrev pub IsQueueBehind : List Awaited → List Store → Type 0
IsQueueBehind awaited queue =
    (q : Store) → In q queue → (a : Awaited) × In a awaited × (a.ask.component ≡ q.ask.component)

-- the call works with the drives
abbrev pub IsWorking : Phase → Type 0
IsWorking (Reads io) = Unit {0}
IsWorking (Probes io) = Unit {0}
IsWorking (Gathers io) = Unit {0}
IsWorking (Scatters io queue) = Unit {0}
IsWorking p = ⊥

-- What a reply needs of the client: its commands differ by their nonces, what is queued stands behind what is awaited, and a
-- gather that is over sends something.
abbrev pub ReplyFits : Held → CallOp → Phase → Awaited → Type 0
ReplyFits h op (Scatters io queue) a =
    In a io.awaited × ((b : Awaited) → In b io.awaited → b.command.nonce ≡ a.command.nonce → b ≡ a)
    × IsQueueBehind io.awaited queue
ReplyFits h op (Gathers io) a = WritesSome h op io.timed
ReplyFits h op p a = Unit {0}

-- and a timeout
abbrev pub TimeFits : Held → CallOp → Phase → Awaited → List Awaited → Type 0
TimeFits h op (Scatters io queue) a xs = IsQueueBehind io.awaited queue
TimeFits h op (Gathers io) a xs =
    is_too_short h op (timed_after io.timed a xs) ≡ false → WritesSome h op (timed_after io.timed a xs)
TimeFits h op p a xs = Unit {0}
