-- Where each byte of an answered read comes from, in the words of the lines.
use Rattle.std.specs.Prelude.{◌≡◌, ◌⊎◌, ℕ, ◌+◌, ◌-◌, ◌/◌, ◌<◌, ◌≤◌, true, false, List, [], ◌∷◌, length, slice_index, Some}
use Rattle.std.specs.List.{All}
use Rattle.data_map.specs.Striping.{replicas, group_width, data_units, stripe_of, data_unit_of, column_of, position_of, offset_of}
use Rattle.parity_code.specs.Codeword.{codeword}
use Rattle.stripe_plan.specs.Lost.{is_out}
use Rattle.stripe_plan.specs.Words.{code_of, lost_from}
use Rattle.osd_commands.specs.declared.actions.Action.TheVariants.{Read}
use Rattle.client_rules.specs.declared.limits.TheConstants.{PERFORMED}
use Rattle.world_history.specs.ClientNames.{CallOp, Held, Awaited, Reply, RawMap}
use Rattle.client_rules.specs.Requests.{object_of}
use Rattle.client_rules.specs.Commands.{credential_of}
use Rattle.scenario_text.specs.declared.line.Outcome.TheVariants.{ReadOk}
use Rattle.scenario_text.specs.declared.line.Line.{Line}
use Rattle.scenario_text.specs.declared.line.Line.TheVariants as line
use Rattle.world_history.specs.History.{Lawful}
use Rattle.history_law.specs.Safe.{AtEachLine}
use Rattle.cause_law.specs.Met.{Met, Answered, Replied, TimedOut, out_in, grant_under}
use Rattle.cause_law.specs.ReadCalls.{LastStep, call_seen}
use Rattle.cause_law.specs.Read.{range_under}

-- ---- bytes that were read

-- The reply to a READ that was performed, by its nonce, gives v as the byte of position p at offset o. The READ went to a
-- replica of this position, on the drive and for the object that the grant lists for it, under its capability, and was for
-- this byte among others. What the reply doesn't carry is 0.
pub record Gives (h : Held) (a : Awaited) (r : Reply) (p o v : ℕ) : Type 0 where
  pub performed : r.verdict ≡ PERFORMED
  pub nonce : r.nonce ≡ a.command.nonce
  pub read : a.command.action ≡ Read
  pub component : ℕ
  pub below : component < h.map.comps
  pub replica : component / replicas h.map ≡ p
  pub drive : a.drive ≡ (credential_of h component).drive
  pub capability : a.command.capability ≡ (credential_of h component).capability
  pub partition : a.command.partition ≡ (object_of h component).oid_partition_id
  pub object : a.command.object ≡ (object_of h component).oid_object_id
  pub first : a.command.offset ≤ o
  pub end : o < a.command.offset + a.command.length
  pub byte : v ≡ slice_index r.payload (o - a.command.offset)

-- so does a reply that the call took
abbrev pub IsGiven : Held → List Met → (p o v : ℕ) → Type 0
IsGiven h [] p o v = ⊥
IsGiven h (Answered r a ∷ ms) p o v = IsGiven h ms p o v
IsGiven h (Replied a r ∷ ms) p o v = Gives h a r p o v ⊎ IsGiven h ms p o v
IsGiven h (TimedOut g k ∷ ms) p o v = IsGiven h ms p o v

-- what replies carry are bytes
abbrev pub CarryBytes : List Met → Type 0
CarryBytes [] = Unit {0}
CarryBytes (Answered r a ∷ ms) = CarryBytes ms
CarryBytes (Replied a r ∷ ms) = ((i : ℕ) → slice_index r.payload i < 256) × CarryBytes ms
CarryBytes (TimedOut g k ∷ ms) = CarryBytes ms

-- ---- bytes that were decoded

-- Of the units of stripe s, the data first, then P, then Q, unit k is one of the first whose positions aren't out, as many
-- as there are data.
pub record IsSource (m : RawMap) (out : List ℕ) (s k : ℕ) : Type 0 where
  pub unit : k < group_width m
  pub there : is_out m out (position_of m s k) ≡ false
  pub early : k < data_units m + length (lost_from m out s 0 k)

-- The codeword of these data has, in column b of stripe s, at each source a byte that a reply gave there, and no other
-- codeword has all these bytes.
pub record IsTheOne (h : Held) (ms : List Met) (s b : ℕ) (ds : List ℕ) : Type 0 where
  pub bytes : All (λ d. d < 256) ds
  pub long : length ds ≡ data_units h.map
  pub given : (k : ℕ) → IsSource h.map (out_in h ms) s k →
      IsGiven h ms (position_of h.map s k) (offset_of h.map s b) (slice_index (codeword (code_of h.map) ds) k)
  pub one : (es : List ℕ) → All (λ e. e < 256) es → length es ≡ data_units h.map →
      ((k : ℕ) → IsSource h.map (out_in h ms) s k →
      slice_index (codeword (code_of h.map) es) k ≡ slice_index (codeword (code_of h.map) ds) k) → es ≡ ds

-- ---- each byte

-- Byte v of data unit c of stripe s, in column b: if the unit's position isn't out, a reply gave it. If it is out, v is the
-- data byte of the one codeword that has what replies gave at each source.
pub record HasCause (h : Held) (ms : List Met) (s c b v : ℕ) : Type 0 where
  pub read : is_out h.map (out_in h ms) (position_of h.map s c) ≡ false →
      IsGiven h ms (position_of h.map s c) (offset_of h.map s b) v
  pub decoded : is_out h.map (out_in h ms) (position_of h.map s c) ≡ true → CarryBytes ms →
      (ds : List ℕ) × IsTheOne h ms s b ds × (v ≡ slice_index ds c)

-- The call of a client's last step was answered with just as many bytes as its range has below the size that the client
-- knows, and each of them has its cause in what the call met.
pub record HaveCauses (t : LastStep) (bytes : List ℕ) : Type 0 where
  pub op : CallOp
  pub call : t.call ≡ Some op
  pub held : Held
  pub under : grant_under t.held op t.met ≡ Some held
  pub long : length bytes ≡ (range_under held op).length
  pub each : (i l : ℕ) → i < length bytes → l ≡ (range_under held op).offset + i →
      HasCause held t.met (stripe_of held.map l) (data_unit_of held.map l) (column_of held.map l) (slice_index bytes i)

-- so it is where a line tells that a read was answered
abbrev pub BytesAt : List Line → Line → Type 0
BytesAt before (line.Ended c (ReadOk bytes)) = HaveCauses (call_seen c before).last bytes
BytesAt before l = Unit {0}

-- in each lawful history
abbrev pub EachByteHasItsCause : Type 0
EachByteHasItsCause = (h : List Line) → Lawful h → AtEachLine BytesAt h
