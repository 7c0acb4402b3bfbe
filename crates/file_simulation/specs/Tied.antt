-- What ties a client's pending call and its WRITEs to entries of the machine, beside the pairs, and which grants are over.
use Rattle.std.specs.Prelude.{◌≡◌, ℕ, ◌<◌, ◌/◌, ◌==◌, true, false, List, slice_get, Option, Some, None, Ok}
use Rattle.layout_ops.specs.declared.envelope.Envelope.TheVariants as envelope
use Rattle.layout_ops.specs.declared.messages.Request.{Request}
use Rattle.osd_lists.specs.declared.node.Node.TheVariants as node
use Rattle.osd_commands.specs.declared.actions.Action.TheVariants.{Write}
use Rattle.osd_commands.specs.declared.commands.Command.{Command}
use Rattle.scenario_text.specs.declared.line.Line.{Line}
use Rattle.scenario_text.specs.declared.names.TheConstants.{CLIENTS}
use Rattle.server_rules.specs.Laws.{In}
use Rattle.server_rules.specs.Slots.{slot_of}
use Rattle.client_rules.specs.Answers.{is_loss_taken}
use Rattle.client_rules.specs.Calls.{file_of}
use Rattle.world_history.specs.Drives.{command_in}
use Rattle.world_history.specs.ServerNames.{File, Component, Grant, Slot}
use Rattle.world_history.specs.ClientNames.{Call, Need, First, Get, Commit, Report, Close, Phase, Starts, Needs, Waits, Reads, Probes, Gathers, Scatters}
use Rattle.world_history.specs.declared.messages.Body.TheVariants.{Envelope as OfEnvelope}
use Rattle.world_history.specs.State.{World, at_number}
use Rattle.world_history.specs.declared.messages.Posted.{Posted}
use Rattle.world_history.specs.ReadLog.{Log, entry_in, log_in}
use Rattle.world_history.specs.Calm.{returned_in}
use Rattle.exchange_law.specs.Doing.{said}
use Rattle.fence_law.specs.State as machine
use Rattle.fence_law.specs.State.{State}
use Rattle.fence_law.specs.Words.{In as InRun}
use Rattle.file_simulation.specs.EventLists.{entry_of, write_of}
use Rattle.file_simulation.specs.Relation.{client_of}
use Rattle.file_simulation.specs.Showing.{Pairs, IsPair}

-- An entry of the log is one entry of the machine.
abbrev pub IsSingle : Pairs → Type 0
IsSingle pairs = (i j k : ℕ) → IsPair pairs i j → IsPair pairs i k → j ≡ k

-- ---- a pending call

-- the call has an entry in the log, which is entry j of the machine
abbrev pub HasEntry : Pairs → (j : ℕ) → Option ℕ → Type 0
HasEntry pairs j o = (n : ℕ) × (o ≡ Some n) × IsPair pairs n j

-- by what it has to ask: before its first command it has none
abbrev pub NeedTied : State → (c : ℕ) → Pairs → Option ℕ → Need → Type 0
NeedTied s c pairs o First = o ≡ None
NeedTied s c pairs o (Get tries) = o ≡ None
NeedTied s c pairs o (Commit timed) = HasEntry pairs (write_of s c) o
NeedTied s c pairs o (Report timed) = HasEntry pairs (write_of s c) o
NeedTied s c pairs o (Close outcome report) = Unit {0}

-- by its phase: of a write the log has no entry before its first WRITE
abbrev pub PhaseTied : State → (c : ℕ) → Pairs → Option ℕ → Phase → Type 0
PhaseTied s c pairs o Starts = o ≡ None
PhaseTied s c pairs o (Needs need) = NeedTied s c pairs o need
PhaseTied s c pairs o (Waits need) = NeedTied s c pairs o need
PhaseTied s c pairs o (Reads io) = HasEntry pairs (entry_of s c) o
PhaseTied s c pairs o (Probes io) = HasEntry pairs (entry_of s c) o
PhaseTied s c pairs o (Gathers io) = o ≡ None
PhaseTied s c pairs o (Scatters io queue) = HasEntry pairs (write_of s c) o

-- if a call on the file is pending
abbrev pub CallTied : State → (file c : ℕ) → Pairs → Option ℕ → Option Call → Type 0
CallTied s file c pairs o None = Unit {0}
CallTied s file c pairs o (Some call) = (file_of call.op == file) ≡ true → PhaseTied s c pairs o call.phase

-- so it is of each client
abbrev pub CallsTied : World → List Line → State → (file : ℕ) → Pairs → Type 0
CallsTied w h s file pairs =
    (c : ℕ) → c < CLIENTS →
    CallTied s file c pairs (entry_in (at_number (log_in h).pending c)) (client_of w c).call

-- ---- grants that are over

-- No grant that the machine ever answered is live in another file.
abbrev pub GrantsApart : World → State → (file : ℕ) → Type 0
GrantsApart w s file =
    (a : machine.Answer) (x : machine.Grant) → InRun a s.answers → a.grant ≡ Some x →
    (f : File) (g : Grant) → In f w.server.files → (f.kept.number ≡ file → ⊥) → In g f.kept.grants → g.number ≡ x.number → ⊥

-- A grant is over: its writes are acknowledged, and no client holds it or can take it any more.
pub record IsOver (w : World) (s : State) (number : ℕ) : Type 0 where
  pub low : number < w.server.next_grant
  pub acknowledged : (j : ℕ) → j < s.count → (s.start j).is_write ≡ true → (s.start j).grant ≡ number →
      s.acknowledged j ≡ true
  pub unheld : (c : ℕ) (x : machine.Grant) → s.held c ≡ Some x → x.number ≡ number → ⊥
  pub untaken : (c size : ℕ) (x : machine.Grant) → s.waiting c ≡ true →
      InRun (record { client = c; sequence = s.sequence c; grant = Some x; size = size }) s.answers → x.number ≡ number → ⊥

-- the client sent this request
abbrev pub HasAsked : World → (c : ℕ) → Request → Type 0
HasAsked w c q =
    In (record { from = node.Client c; to = node.Server; body = OfEnvelope (envelope.Request q) }) (said w.network.messages)

-- Where the server keeps an answer that takes a loss, the grant that the request returned is over.
abbrev pub ReturnsOver : World → State → Type 0
ReturnsOver w s =
    (c number : ℕ) (t : Slot) (q : Request) → slot_of w.server.slots c ≡ Some t → is_loss_taken t.kept ≡ true →
    HasAsked w c q → q.sequence ≡ t.last → returned_in q.args ≡ Some number → IsOver w s number

-- ---- between two moves

-- what is known of entries at a moment beside what is shown
pub record AreTied (w : World) (h : List Line) (s : State) (file : ℕ) (pairs : Pairs) : Type 0 where
  pub single : IsSingle pairs
  pub calls : CallsTied w h s file pairs
  pub apart : GrantsApart w s file
  pub over : ReturnsOver w s

-- ---- WRITEs

-- Message n is one of client c to drive d, and a drive reads command x in its bytes.
pub record WasPosted (w : World) (n c d : ℕ) (x : Command) : Type 0 where
  pub posted : Posted
  pub there : slice_get w.network.messages n ≡ Some posted
  pub sender : posted.message.from ≡ node.Client c
  pub receiver : posted.message.to ≡ node.Drive d
  pub reads : command_in posted.message.body ≡ Ok x

-- Message n of command x to component k, which is WRITE m of the machine, was sent for the machine's entry of it; and what the
-- WRITE carries is in the unit in which it begins.
pub record HasItsEntry (l : Log) (s : State) (f : File) (pairs : Pairs) (n k : ℕ) (x : Command) (m : machine.Write) : Type 0
  where
    pub entry : ℕ
    pub logged : at_number l.writes n ≡ Some entry
    pub pair : IsPair pairs entry m.entry
    pub unit : (z v : ℕ) → (s.start m.entry).content k z ≡ Some v → (s.start m.entry).part k z ≡ m.part →
        z / f.kept.map.unit ≡ x.offset / f.kept.map.unit

-- So it is of each WRITE that a client sent to the object of a component that isn't lost.
abbrev pub WritesAreTied : World → List Line → State → File → Pairs → Type 0
WritesAreTied w h s f pairs =
    (n c d k : ℕ) (x : Command) (at : Component) → WasPosted w n c d x → x.action ≡ Write →
    slice_get f.kept.components k ≡ Some at → x.object ≡ at.object → s.lost k ≡ false → (m : machine.Write) →
    InRun m s.writes → m.holder ≡ c → m.nonce ≡ x.nonce → m.at ≡ k → HasItsEntry (log_in h) s f pairs n k x m
