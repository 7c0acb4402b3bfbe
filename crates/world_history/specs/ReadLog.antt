-- The log of a file, read off the lines.
use Rattle.std.specs.Prelude.{ℕ, Bool, false, true, ◌==◌, List, [], ◌∷◌, ◌++◌, map, filter, length, slice_get, slice_set, Option, Some, None, Result, Ok, Err}
use Rattle.std.specs.List.{fold}
use Rattle.osd_commands.specs.declared.actions.Action.{Action}
use Rattle.osd_commands.specs.declared.actions.Action.TheVariants as action
use Rattle.osd_commands.specs.declared.commands.Command.{Command}
use Rattle.osd_commands.specs.declared.commands.CommandErr.{CommandErr}
use Rattle.osd_commands.specs.Commands as commands
use Rattle.file_log.specs.declared.entry.Entry.{Entry}
use Rattle.file_log.specs.declared.entry.Entry.TheVariants as entry
use Rattle.scenario_text.specs.declared.event.Call.{Call}
use Rattle.scenario_text.specs.declared.event.Call.TheVariants as call
use Rattle.scenario_text.specs.declared.event.Event.{Event}
use Rattle.scenario_text.specs.declared.event.Event.TheVariants as event
use Rattle.scenario_text.specs.declared.line.Party.{Party}
use Rattle.scenario_text.specs.declared.line.Party.TheVariants as party
use Rattle.scenario_text.specs.declared.line.Ending.TheVariants as ending
use Rattle.scenario_text.specs.declared.line.Outcome.{Outcome}
use Rattle.scenario_text.specs.declared.line.Outcome.TheVariants as outcome
use Rattle.scenario_text.specs.declared.line.Refusal.{Refusal}
use Rattle.scenario_text.specs.declared.line.Refusal.TheVariants as refusal
use Rattle.scenario_text.specs.declared.line.Line.{Line}
use Rattle.scenario_text.specs.declared.line.Line.TheVariants as line
use Rattle.world_history.specs.State.{at_number, and_number, without_number}

-- ---- what is kept on the way

-- a call that is pending, and the number of its entry, once it has one
pub record Pending : Type 0 where
  pub call : Call
  pub entry : Option ℕ

-- an entry of the log: whose it is, on which file and under which grant, and whether its report was taken as a loss
pub record Logged : Type 0 where
  pub client : ℕ
  pub file : ℕ
  pub grant : ℕ
  pub taken : Bool
  pub entry : Entry

-- the pending calls by client; the entries of all files in order of start; and, by its message's number, the entry for
-- which each WRITE of a call was sent
pub record Log : Type 0 where
  pub pending : List (ℕ × Pending)
  pub entries : List Logged
  pub writes : List (ℕ × ℕ)

-- ---- calls

-- a client is called; where a call of it is pending, this one is refused
abbrev pub called_beside : Log → (client : ℕ) → Call → Option Pending → Log
called_beside l c x None = record l { pending = and_number l.pending c (record { call = x; entry = None }) }
called_beside l c x (Some p) = l

abbrev pub called : Log → (client : ℕ) → Call → Log
called l c x = called_beside l c x (at_number l.pending c)

abbrev pub log_after_event : Log → Event → Log
log_after_event l (event.Do c x) = called l c x
log_after_event l (event.Call c x) = called l c x
log_after_event l e = l

-- a call is refused; where it was busy, the former one is still pending
abbrev pub refused : Log → (client : ℕ) → Refusal → Log
refused l c refusal.Busy = l
refused l c why = record l { pending = without_number l.pending c }

-- ---- the end of a call

-- what an entry says once its call has ended so
abbrev pub ended_entry : Entry → Outcome → Entry
ended_entry (entry.Write offset bytes acknowledged) (outcome.WriteOk count) = entry.Write offset bytes true
ended_entry (entry.Read offset count answer) (outcome.ReadOk bytes) = entry.Read offset count (Some bytes)
ended_entry e o = e

abbrev pub closed : Outcome → Logged → Logged
closed o e = record e { entry = ended_entry e.entry o }

-- entry number n says so, where there is one
abbrev pub closed_with : List Logged → (n : ℕ) → Outcome → Option Logged → List Logged
closed_with es n o None = es
closed_with es n o (Some e) = slice_set es n (closed o e)

abbrev pub closed_at : List Logged → Outcome → Option ℕ → List Logged
closed_at es o None = es
closed_at es o (Some n) = closed_with es n o (slice_get es n)

-- the entry of a pending call
abbrev pub entry_in : Option Pending → Option ℕ
entry_in None = None
entry_in (Some p) = p.entry

-- a client's call has ended
abbrev pub ends : Log → (client : ℕ) → Outcome → Log
ends l c o = record l {
  pending = without_number l.pending c;
  entries = closed_at l.entries o (entry_in (at_number l.pending c));
}

-- a line that a call is left pending ends nothing
abbrev pub ended : Log → (client : ℕ) → Outcome → Log
ended l c (outcome.Failed kind ending.Pending) = l
ended l c o = ends l c o

-- ---- the start of a call

-- an entry of a pending call begins
abbrev pub starts : Log → (client : ℕ) → Pending → (file grant : ℕ) → Entry → Log
starts l c p f g e = record l {
  pending = and_number l.pending c (record p { entry = Some (length l.entries) });
  entries = l.entries ++ record { client = c; file = f; grant = g; taken = false; entry = e } ∷ [];
}

-- unless the call has one
abbrev pub begins_beside : Log → (client : ℕ) → Pending → (file grant : ℕ) → Entry → Option ℕ → Log
begins_beside l c p f g e None = starts l c p f g e
begins_beside l c p f g e (Some n) = l

abbrev pub begins : Log → (client : ℕ) → Pending → (file grant : ℕ) → Entry → Log
begins l c p f g e = begins_beside l c p f g e p.entry

-- the number of its entry then
abbrev pub number_then : (next : ℕ) → Option ℕ → ℕ
number_then next None = next
number_then next (Some n) = n

-- a WRITE is sent in a call: a write starts with its first
abbrev pub sends_write : Log → (number client : ℕ) → Pending → Command → Call → Log
sends_write l number c p x (call.Write f offset bytes) =
    record (begins l c p f x.capability.grant (entry.Write offset bytes false)) {
      writes = and_number l.writes number (number_then (length l.entries) p.entry);
    }
sends_write l number c p x (call.Read f offset count) = l

-- a READ is sent in a call: a read starts with its first
abbrev pub sends_read : Log → (client : ℕ) → Pending → Command → Call → Log
sends_read l c p x (call.Write f offset bytes) = l
sends_read l c p x (call.Read f offset count) = begins l c p f x.capability.grant (entry.Read offset count None)

-- a command is sent in a call
abbrev pub sends_command : Log → (number client : ℕ) → Pending → Command → Action → Log
sends_command l number c p x action.Write = sends_write l number c p x p.call
sends_command l number c p x action.Read = sends_read l c p x p.call
sends_command l number c p x other = l

-- without a pending call nothing starts
abbrev pub sends_in : Log → (number client : ℕ) → Command → Option Pending → Log
sends_in l number c x None = l
sends_in l number c x (Some p) = sends_command l number c p x x.action

abbrev pub sends_as : Log → (number client : ℕ) → Result Command CommandErr → Log
sends_as l number c (Ok x) = sends_in l number c x (at_number l.pending c)
sends_as l number c (Err e) = l

-- a message of a client to a drive
abbrev pub sends : Log → (number : ℕ) → (from to : Party) → (bytes : List ℕ) → Log
sends l number (party.Client c) (party.Drive d) bytes = sends_as l number c (commands.reading bytes)
sends l number from to bytes = l

-- ---- the log

-- after a line
abbrev pub log_after : Log → Line → Log
log_after l (line.Event e) = log_after_event l e
log_after l (line.Refused c why) = refused l c why
log_after l (line.Ended c o) = ended l c o
log_after l (line.Message number from to bytes) = sends l number from to bytes
log_after l other = l

abbrev pub empty_log : Log
empty_log = record { pending = []; entries = []; writes = [] }

-- the entries of all files
abbrev pub log_in : List Line → Log
log_in h = fold log_after empty_log h

-- the log of a file, as its judge reads it
abbrev pub log_of : List Line → (file : ℕ) → List Entry
log_of h f = map (λ (e : Logged). e.entry) (filter (λ (e : Logged). e.file == f) (log_in h).entries)
