-- Clients' requests: which the machine of a file knows as its own, and how far the server is with them.
use Rattle.std.specs.Prelude.{◌≡◌, ℕ, ◌==◌, true, false, ◌∷◌, Option, Some, None, Ok, if◌then◌else◌}
use Rattle.data_map.specs.declared.check.RawMap.{RawMap}
use Rattle.layout_ops.specs.declared.args.Args.{Args}
use Rattle.layout_ops.specs.declared.args.Args.TheVariants as args
use Rattle.layout_ops.specs.declared.statuses.TheConstants.{LAYOUTIOMODE4_RW}
use Rattle.layout_ops.specs.declared.messages.Answer.{Answer}
use Rattle.layout_ops.specs.declared.results.LayoutGetOk.{LayoutGetOk}
use Rattle.server_rules.specs.Slots.{slot_of}
use Rattle.server_rules.specs.Laws.{last_of}
use Rattle.client_rules.specs.Results.{layouts_in}
use Rattle.client_rules.specs.Layouts.{taken}
use Rattle.world_history.specs.ServerNames.{Server, Slot}
use Rattle.world_history.specs.ClientNames.{Client, Call, CallOp, Held, Request, Phase, Waits, Report, Close}
use Rattle.world_history.specs.Handed.{pending_op}
use Rattle.exchange_law.specs.Messages.{last_before}
use Rattle.fence_law.specs.State as machine
use Rattle.fence_law.specs.State.RequestKind.{Get, Return}
use Rattle.fence_law.specs.Words.{In as InRun}
use Rattle.file_simulation.specs.Grants.{LayoutIs}

-- ---- what a request is to the machine

-- A request is one that the machine has as its own, of this kind, or another, of which it only takes the number: one of
-- another file, a commit, or a report that may be taken as a loss.
pub data RequestClass : Type 0 where
  Own : machine.RequestKind → RequestClass
  Other : RequestClass

-- the phase of a call
abbrev pub phase_of : Option Call → Option Phase
phase_of None = None
phase_of (Some call) = Some call.phase

-- a return, by what the call waits for; one that was due is clean
abbrev pub return_class : Option Phase → RequestClass
return_class (Some (Waits (Report timed))) = Other
return_class (Some (Waits (Close outcome (e ∷ es)))) = Own (Return false)
return_class phase = Own (Return true)

-- a request on the file, where its client's call is in this phase
abbrev pub class_by : Option Phase → Args → RequestClass
class_by phase (args.LayoutGet a) = Own (Get (a.iomode == LAYOUTIOMODE4_RW))
class_by phase (args.LayoutCommit a) = Other
class_by phase (args.LayoutReturn a) = return_class phase

-- the outstanding request of client x, for the machine of a file
unfoldable pub class_of : (file : ℕ) → Client → Request → RequestClass
class_of file x r = if r.file == file then class_by (phase_of x.call) r.args else Other

-- ---- what the server has of it

-- the answer that the server keeps, where it is to this request
abbrev pub kept_by : Option Slot → Request → Option Answer
kept_by None r = None
kept_by (Some t) r = if t.last == r.sequence then Some t.kept else None

-- the answer to the outstanding request, where the server has carried it out
abbrev pub kept_for : Option Slot → Option Request → Option Answer
kept_for t None = None
kept_for t (Some r) = kept_by t r

-- the grant that a client takes from an answer that gives layouts; other answers give none
abbrev pub GivesIn : RawMap → Answer → Option CallOp → Option LayoutGetOk → Option machine.Grant → Type 0
GivesIn m a op None o = o ≡ None
GivesIn m a None (Some ok) o = ⊥
GivesIn m a (Some op) (Some ok) o =
    (x : machine.Grant) × (h : Held) × (o ≡ Some x) × (taken a op ≡ Ok h) × LayoutIs m x h

-- so it is of an answer to a client whose pending call this is
abbrev pub Gives : RawMap → Answer → Option CallOp → Option machine.Grant → Type 0
Gives m a op o = GivesIn m a op (layouts_in a.results) o

-- The machine has sent this answer to client c.
pub record HasSentAnswer (m : RawMap) (s : machine.State) (c : ℕ) (x : Client) (a : Answer) : Type 0 where
  pub grant : Option machine.Grant
  pub gives : Gives m a (pending_op x) grant
  pub sent : InRun (record { client = c; sequence = s.sequence c; grant = grant; size = a.size }) s.answers

-- so it is, if the server has answered
abbrev pub AnswerIs : RawMap → machine.State → (c : ℕ) → Client → Option Answer → Type 0
AnswerIs m s c x None = Unit {0}
AnswerIs m s c x (Some a) = HasSentAnswer m s c x a

-- ---- a client's outstanding request

-- it waits for an answer of this file: what it asked was sent, and its answer too once the server has it
pub record IsWaiting (m : RawMap) (s : machine.State) (c : ℕ) (x : Client) (kind : machine.RequestKind) (o : Option Answer)
    : Type 0 where
  pub waiting : s.waiting c ≡ true
  pub away : s.away c ≡ false
  pub asked : s.asked c ≡ kind
  pub request : InRun (record { client = c; sequence = s.sequence c; kind = kind }) s.requests
  pub answer : AnswerIs m s c x o

-- it waits for the answer to another request
pub record IsAway (s : machine.State) (c : ℕ) : Type 0 where
  pub waiting : s.waiting c ≡ false
  pub away : s.away c ≡ true

-- by what the request is to the machine
abbrev pub ClassIs : RawMap → machine.State → (c : ℕ) → Client → Option Answer → RequestClass → Type 0
ClassIs m s c x o (Own kind) = IsWaiting m s c x kind o
ClassIs m s c x o Other = IsAway s c

-- it waits for nothing: all that it asked was answered, and the server has nothing of it to carry out
pub record AwaitsNothing (s : machine.State) (c : ℕ) : Type 0 where
  pub waiting : s.waiting c ≡ false
  pub away : s.away c ≡ false
  pub served : s.slot c ≡ s.sequence c

-- its outstanding request has the last number that it took
pub record IsOutstanding (file : ℕ) (m : RawMap) (s : machine.State) (t : Option Slot) (c : ℕ) (x : Client) (r : Request) : Type 0
  where
    pub sequence : r.sequence ≡ s.sequence c
    pub waits : ClassIs m s c x (kept_by t r) (class_of file x r)

-- by whether a request is outstanding; `t` is the server's slot for the client
abbrev pub RequestIs : (file : ℕ) → RawMap → machine.State → Option Slot → (c : ℕ) → Client → Option Request → Type 0
RequestIs file m s t c x None = AwaitsNothing s c
RequestIs file m s t c x (Some r) = IsOutstanding file m s t c x r

-- the machine has the client's sequence number, the server's slot for it, and its outstanding request
pub record RequestsAgree (file : ℕ) (m : RawMap) (s : machine.State) (server : Server) (c : ℕ) (x : Client) : Type 0 where
  pub slot : s.slot c ≡ last_of (slot_of server.slots c)
  pub sequence : s.sequence c ≡ last_before x.next
  pub request : RequestIs file m s (slot_of server.slots c) c x x.outstanding
