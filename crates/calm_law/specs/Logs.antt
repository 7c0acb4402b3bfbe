-- The log that is kept, and the one that the lines tell.
use Rattle.std.specs.Prelude.{◌≡◌, ◌<◌, ℕ, Bool, true, false, not, List, length, map, slice_get, Option, Some}
use Rattle.file_log.specs.declared.entry.Entry.{Entry}
use Rattle.file_log.specs.declared.entry.Entry.TheVariants as entry
use Rattle.scenario_text.specs.declared.line.Line.{Line}
use Rattle.server_rules.specs.Numbers.{among}
use Rattle.world_history.specs.State.{at_number}
use Rattle.world_history.specs.ReadLog.{Pending, Logged, Log, log_after, empty_log}
use Rattle.world_history.specs.Stripes.{is_unfinished}
use Rattle.world_history.specs.Calm.{taken_by, is_told_taken}
use Rattle.world_calm.specs.declared.calls.PendingCall.{PendingCall}
use Rattle.world_calm.specs.declared.calls.LogEntry.{LogEntry}
use Rattle.world_calm.specs.Log.{LogState, no_log}
use Rattle.world_calm.specs.Seeing.{CalmState, writes, logs, numbers_in, taken_by as takes_by}
use Rattle.component_law.specs.Words.{Each}

-- ---- what is kept of calls and entries

abbrev pub pending_view : Pending → PendingCall
pending_view p = record { writes = writes p.call; started = p.entry }

abbrev pub keyed : List (ℕ × Pending) → List (ℕ × PendingCall)
keyed ps = map (λ (e : ℕ × Pending). (e.0, pending_view e.1)) ps

abbrev pub view : Logged → LogEntry
view e = record { client = e.client; grant = e.grant; finished = not (is_unfinished e) }

-- ---- what ties calls, entries and grants to each other

-- an entry writes
abbrev pub is_write_entry : Entry → Bool
is_write_entry (entry.Write offset bytes acknowledged) = true
is_write_entry (entry.Read offset count answer) = false

-- of an entry: its grant, whether it was taken, and whether it writes
pub record Key : Type 0 where
  pub grant : ℕ
  pub taken : Bool
  pub writes : Bool

abbrev pub key : Logged → Key
key e = record { grant = e.grant; taken = e.taken; writes = is_write_entry e.entry }

-- the entry of a pending call is one of the log, and of the call's kind
abbrev pub HasEntry : List Key → Pending → Type 0
HasEntry ks p = (n : ℕ) → p.entry ≡ Some n → (k : Key) × (slice_get ks n ≡ Some k) × (k.writes ≡ writes p.call)

-- an entry of that number is under the grant
abbrev pub IsUnder : List Key → (grant n : ℕ) → Type 0
IsUnder ks g n = (k : Key) × (slice_get ks n ≡ Some k) × (k.grant ≡ g)

-- those that are listed under a grant are, and each that wasn't taken is listed
pub record KeepsKeys (ks : List Key) (ps : List (ℕ × Pending)) (by_grant : List (ℕ × List ℕ)) : Type 0 where
  pub kinds : Each (λ (e : ℕ × Pending). HasEntry ks e.1) ps
  pub grants : Each (λ (t : ℕ × List ℕ). Each (λ n. IsUnder ks t.0 n) t.1) by_grant
  pub under : (n : ℕ) (k : Key) → slice_get ks n ≡ Some k → k.taken ≡ false
      → among n (numbers_in (at_number by_grant k.grant)) ≡ true

-- ---- what stands for what

pub record KeepsLog (l : Log) (s : LogState) : Type 0 where
  pub pending : s.pending ≡ keyed l.pending
  pub entries : s.entries ≡ map view l.entries
  pub sent_for : s.sent_for ≡ l.writes
  pub keys : KeepsKeys (map key l.entries) l.pending s.by_grant
  pub below : Each (λ (t : ℕ × ℕ). t.1 < length l.entries) l.writes

-- ---- what holds of it

-- a line more
abbrev pub LinesAlike : Type 0
LinesAlike = (l : Log) (c : CalmState) (x : Line) → KeepsLog l c.log → KeepsLog (log_after l x) (logs c x).log

-- a report that is taken as a loss
abbrev pub TakenAlike : Type 0
TakenAlike =
    (l : Log) (c : CalmState) (rest : List Line) (returned : Option ℕ) → KeepsLog l c.log
    → KeepsLog (taken_by l (is_told_taken rest) returned) (takes_by c rest returned).log

pub record LogIsKept : Type 0 where
  pub first : KeepsLog empty_log no_log
  pub lines : LinesAlike
  pub taken : TakenAlike
