-- The pending calls, and the entries of the log: what is kept of them, and how it goes on.
use Rattle.std.specs.Prelude.{ℕ, Bool, true, false, not, List, [], ◌∷◌, ◌++◌, length, slice_get, slice_set, Option, Some, None, if◌then◌else◌}
use Rattle.osd_commands.specs.declared.actions.Action.{Action}
use Rattle.osd_commands.specs.declared.actions.Action.TheVariants as action
use Rattle.osd_commands.specs.declared.commands.Command.{Command}
use Rattle.world_history.specs.State.{at_number, with_number, and_number, without_number}
use Rattle.world_history.specs.ReadLog.{number_then}
pub use Rattle.world_calm.specs.declared.calls.PendingCall.{PendingCall}
pub use Rattle.world_calm.specs.declared.calls.LogEntry.{LogEntry}

-- the pending calls by client; the entries in order of start; the entry for which each WRITE was sent, by the number of
-- its message; and the entries under each grant that none of them was taken under
pub record LogState : Type 0 where
  pub pending : List (ℕ × PendingCall)
  pub entries : List LogEntry
  pub sent_for : List (ℕ × ℕ)
  pub by_grant : List (ℕ × List ℕ)

abbrev pub no_log : LogState
no_log = record { pending = []; entries = []; sent_for = []; by_grant = [] }

-- ---- calls

-- a client is called; where a call of it is pending, this one is refused
abbrev pub called_with : LogState → (client : ℕ) → (writes : Bool) → Option PendingCall → LogState
called_with l c writes (Some p) = l
called_with l c writes None = record l { pending = and_number l.pending c (record { writes = writes; started = None }) }

abbrev pub called : LogState → (client : ℕ) → (writes : Bool) → LogState
called l c writes = called_with l c writes (at_number l.pending c)

-- its pending call is over
abbrev pub forgot : LogState → (client : ℕ) → LogState
forgot l c = record l { pending = without_number l.pending c }

-- the write that it started
abbrev pub written_by : PendingCall → Option ℕ
written_by p = if p.writes then p.started else None

abbrev pub written_in : Option PendingCall → Option ℕ
written_in None = None
written_in (Some p) = written_by p

abbrev pub write_by : LogState → (client : ℕ) → Option ℕ
write_by l c = written_in (at_number l.pending c)

-- ---- entries

-- an entry is finished
abbrev pub finished_with : List LogEntry → (number : ℕ) → Option LogEntry → List LogEntry
finished_with es n None = es
finished_with es n (Some e) = slice_set es n (record e { finished = true })

abbrev pub finished : LogState → (number : ℕ) → LogState
finished l n = record l { entries = finished_with l.entries n (slice_get l.entries n) }

-- an entry more under a grant
abbrev pub under_with : List (ℕ × List ℕ) → (grant number : ℕ) → Option (List ℕ) → List (ℕ × List ℕ)
under_with t g n None = and_number t g (n ∷ [])
under_with t g n (Some ns) = with_number t g (ns ++ n ∷ [])

-- the pending call of a client starts its entry
abbrev pub started : LogState → (client grant : ℕ) → (writes : Bool) → LogState
started l c g writes = record {
  pending = and_number l.pending c (record { writes = writes; started = Some (length l.entries) });
  entries = l.entries ++ record { client = c; grant = g; finished = false } ∷ [];
  sent_for = l.sent_for;
  by_grant = under_with l.by_grant g (length l.entries) (at_number l.by_grant g);
}

-- ---- a WRITE or a READ is sent

-- the call is one that writes, or one that reads
abbrev pub is_for : (writes : Bool) → PendingCall → Bool
is_for true p = p.writes
is_for false p = not p.writes

-- the entry for which it is, unless the client has no such call
abbrev pub number_for : LogState → (writes : Bool) → Option PendingCall → Option ℕ
number_for l writes None = None
number_for l writes (Some p) =
    if is_for writes p then Some (number_then (length l.entries) p.started) else None

-- it starts with the first
abbrev pub begun_by : LogState → (client grant : ℕ) → (writes : Bool) → Option ℕ → LogState
begun_by l c g writes None = started l c g writes
begun_by l c g writes (Some n) = l

abbrev pub begun_for : LogState → (client grant : ℕ) → (writes : Bool) → Option PendingCall → LogState
begun_for l c g writes None = l
begun_for l c g writes (Some p) = if is_for writes p then begun_by l c g writes p.started else l

abbrev pub reads : LogState → (client grant : ℕ) → LogState
reads l c g = begun_for l c g false (at_number l.pending c)

abbrev pub sent_with : LogState → (message : ℕ) → Option ℕ → LogState
sent_with l message None = l
sent_with l message (Some n) = record l { sent_for = and_number l.sent_for message n }

abbrev pub sends : LogState → (client message grant : ℕ) → LogState
sends l c message g =
    sent_with (begun_for l c g true (at_number l.pending c)) message (number_for l true (at_number l.pending c))

-- of a command
abbrev pub sent_as : LogState → (client message : ℕ) → Command → Action → LogState
sent_as l c message x action.Write = sends l c message x.capability.grant
sent_as l c message x action.Read = reads l c x.capability.grant
sent_as l c message x other = l
