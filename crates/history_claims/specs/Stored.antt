-- What an acknowledged write has stored, in the words of the lines.
use Rattle.std.specs.Prelude.{◌≡◌, ◌⊎◌, ℕ, ◌+◌, ◌-◌, ◌/◌, ◌<◌, ◌≤◌, true, false, List, [], ◌∷◌, map, length, slice_index, Some}
use Rattle.data_map.specs.Check.{IsChecked}
use Rattle.data_map.specs.Striping.{replicas, group_width, data_units, stripe_of, data_unit_of, column_of, position_of, offset_of}
use Rattle.stripe_plan.specs.Lost.{among}
use Rattle.stripe_plan.specs.Laws.{AreBytes, Agrees, over, word_of}
use Rattle.osd_commands.specs.declared.actions.Action.TheVariants.{Write}
use Rattle.server_rules.specs.Laws.{In}
use Rattle.client_rules.specs.declared.limits.TheConstants.{PERFORMED}
use Rattle.client_rules.specs.Answers.{is_loss_taken}
use Rattle.client_rules.specs.Calls.{file_of, span_of, bytes_of, is_write}
use Rattle.client_rules.specs.Commands.{credential_of}
use Rattle.client_rules.specs.Grants.{held_of}
use Rattle.client_rules.specs.Requests.{object_of, return_args}
use Rattle.world_history.specs.ClientNames.{CallOp, Held, Awaited, Request, Reply, IoErr}
use Rattle.scenario_text.specs.declared.line.Outcome.TheVariants.{WriteOk}
use Rattle.scenario_text.specs.declared.line.Line.{Line}
use Rattle.scenario_text.specs.declared.line.Line.TheVariants as line
use Rattle.world_history.specs.History.{Lawful}
use Rattle.history_law.specs.Safe.{AtEachLine}
use Rattle.cause_law.specs.Met.{Met, Answered, Replied, TimedOut, out_in, timed_in}
use Rattle.cause_law.specs.Read.{read_in}
use Rattle.cause_law.specs.ReadCalls.{LastStep, call_seen}

-- ---- bytes that were written

-- The reply to a WRITE, by its nonce, says that it was performed. The WRITE went to component k, on the drive and for the
-- object that the grant lists for it, under its capability, and carried v at offset o.
pub record Keeps (h : Held) (a : Awaited) (r : Reply) (k o v : ℕ) : Type 0 where
  pub performed : r.verdict ≡ PERFORMED
  pub nonce : r.nonce ≡ a.command.nonce
  pub write : a.command.action ≡ Write
  pub drive : a.drive ≡ (credential_of h k).drive
  pub capability : a.command.capability ≡ (credential_of h k).capability
  pub partition : a.command.partition ≡ (object_of h k).oid_partition_id
  pub object : a.command.object ≡ (object_of h k).oid_object_id
  pub first : a.command.offset ≤ o
  pub end : o < a.command.offset + length a.command.payload
  pub byte : v ≡ slice_index a.command.payload (o - a.command.offset)

-- so does a reply that the call took
abbrev pub IsKept : Held → List Met → (k o v : ℕ) → Type 0
IsKept h [] k o v = ⊥
IsKept h (Answered r a ∷ ms) k o v = IsKept h ms k o v
IsKept h (Replied a r ∷ ms) k o v = Keeps h a r k o v ⊎ IsKept h ms k o v
IsKept h (TimedOut g j ∷ ms) k o v = IsKept h ms k o v

-- a WRITE for component k carries something at offset o
pub record IsFor (a : Awaited) (k o : ℕ) : Type 0 where
  pub component : a.ask.component ≡ k
  pub write : a.command.action ≡ Write
  pub first : a.command.offset ≤ o
  pub end : o < a.command.offset + length a.command.payload

-- no such WRITE of the call to which a reply was taken carries anything but v there
abbrev pub IsAlone : List Met → (k o v : ℕ) → Type 0
IsAlone [] k o v = Unit {0}
IsAlone (Answered r a ∷ ms) k o v = IsAlone ms k o v
IsAlone (Replied a r ∷ ms) k o v =
    (IsFor a k o → v ≡ slice_index a.command.payload (o - a.command.offset)) × IsAlone ms k o v
IsAlone (TimedOut g j ∷ ms) k o v = IsAlone ms k o v

-- byte v of unit u of stripe s, in column b, is kept by each replica of the unit's position that isn't out, and nothing else
abbrev pub IsStored : Held → List Met → (s u b v : ℕ) → Type 0
IsStored h ms s u b v =
    (k : ℕ) → k < h.map.comps → k / replicas h.map ≡ position_of h.map s u → among k (out_in h ms) ≡ false →
    IsKept h ms k (offset_of h.map s b) v × IsAlone ms k (offset_of h.map s b) v

-- and it is the byte there of each file that agrees with what the call read of the drives, with the call's bytes written over
abbrev pub FitsReplies : Held → CallOp → List Met → (s u b v : ℕ) → Type 0
FitsReplies h op ms s u b v =
    (d : ℕ → ℕ) → AreBytes d → Agrees h.map (read_in ms) d →
    v ≡ word_of h.map (over (span_of op) (bytes_of op) d) s b u

-- each byte of the write is stored so, in its own data unit; and in the same column of each unit of parity a byte that fits
pub record AreStored (h : Held) (op : CallOp) (ms : List Met) : Type 0 where
  pub own : (i l : ℕ) → i < length (bytes_of op) → l ≡ (span_of op).offset + i →
      IsStored h ms (stripe_of h.map l) (data_unit_of h.map l) (column_of h.map l) (slice_index (bytes_of op) i)
  pub parity : (i l u : ℕ) → i < length (bytes_of op) → l ≡ (span_of op).offset + i → data_units h.map ≤ u →
      u < group_width h.map → (v : ℕ) × IsStored h ms (stripe_of h.map l) u (column_of h.map l) v ×
      FitsReplies h op ms (stripe_of h.map l) u (column_of h.map l) v

-- ---- components that timed out

-- the grant goes back with a report of just these components of the call's file
pub record Reports (h : Held) (op : CallOp) (ks : List ℕ) (r : Request) : Type 0 where
  pub file : r.file ≡ file_of op
  pub errors : List IoErr
  pub args : r.args ≡ return_args h.number errors
  pub are : map (λ (e : IoErr). e.oer_component) errors ≡ map (object_of h) ks

-- the last that a call met is that the server took such a report as a loss
abbrev pub IsLossTaken : Held → CallOp → (ks : List ℕ) → List Met → Type 0
IsLossTaken h op ks [] = ⊥
IsLossTaken h op ks (Answered r a ∷ ms) = Reports h op ks r × (is_loss_taken a ≡ true)
IsLossTaken h op ks (Replied a r ∷ ms) = ⊥
IsLossTaken h op ks (TimedOut g j ∷ ms) = ⊥

-- ---- a write that is acknowledged

-- the grant under which the call worked: it is held still, or a component timed out under it
abbrev pub WorkedUnder : LastStep → CallOp → Held → Type 0
WorkedUnder t op h = (held_of t.held (file_of op) ≡ Some h) ⊎ ((k : ℕ) × In (TimedOut h k) t.met)

-- The call of a client's last step is a write, and stored its bytes under its grant, whose map can be used. If components
-- timed out in it, these were reported, and the server took that as a loss.
pub record HasStored (t : LastStep) : Type 0 where
  pub op : CallOp
  pub call : t.call ≡ Some op
  pub write : is_write op ≡ true
  pub held : Held
  pub under : WorkedUnder t op held
  pub checked : IsChecked held.map
  pub stored : AreStored held op t.met
  pub reported : (timed_in t.met ≡ []) ⊎ IsLossTaken held op (timed_in t.met) t.met

-- so it is where a line tells that some bytes were written
abbrev pub StoredAt : List Line → Line → Type 0
StoredAt before (line.Ended c (WriteOk count)) = (count ≡ 0 → ⊥) → HasStored (call_seen c before).last
StoredAt before l = Unit {0}

-- in each lawful history
abbrev pub WritesAreStored : Type 0
WritesAreStored = (h : List Line) → Lawful h → AtEachLine StoredAt h
