-- A call that was answered, or that wrote some bytes and was acknowledged, has its entry in the log of its file.
use Rattle.std.specs.Prelude.{◌≡◌, ℕ, Bool, true, false, List, slice_get, Some}
use Rattle.client_rules.specs.Calls.{file_of, is_write}
use Rattle.file_log.specs.declared.entry.Entry.{Entry}
use Rattle.file_log.specs.declared.entry.Entry.TheVariants as entry
use Rattle.scenario_text.specs.declared.event.Call.{Call}
use Rattle.scenario_text.specs.declared.event.Call.TheVariants as call
use Rattle.scenario_text.specs.declared.line.Outcome.TheVariants.{WriteOk, ReadOk}
use Rattle.scenario_text.specs.declared.line.Line.{Line}
use Rattle.scenario_text.specs.declared.line.Line.TheVariants as line
use Rattle.world_history.specs.Moves.{op_of}
use Rattle.world_history.specs.ReadLog.{Pending, Logged, Log, log_in}
use Rattle.world_history.specs.State.{at_number}
use Rattle.world_history.specs.History.{Lawful}
use Rattle.history_law.specs.Read.{AreWritten}
use Rattle.history_law.specs.Safe.{AtEachLine}
use Rattle.exchange_law.specs.Text.{AreOfText, AreFew}

-- an entry is a call's: it has the bytes of the write, or the range of the read
abbrev pub IsOfCall : Call → Entry → Type 0
IsOfCall (call.Write file offset bytes) (entry.Write at its acknowledged) = (at ≡ offset) × (its ≡ bytes)
IsOfCall (call.Read file offset count) (entry.Read at long answer) = (at ≡ offset) × (long ≡ count)
IsOfCall x e = ⊥

-- Entry number n is the call's own: of its client and file, and with its bytes, or its range.
pub record IsOwnEntry (entries : List Logged) (client : ℕ) (x : Call) (n : ℕ) : Type 0 where
  pub logged : Logged
  pub there : slice_get entries n ≡ Some logged
  pub sender : logged.client ≡ client
  pub file : logged.file ≡ file_of (op_of x)
  pub says : IsOfCall x logged.entry

-- A call of the client is pending by the log.
abbrev pub IsCalled : Log → (client : ℕ) → Type 0
IsCalled l c = (p : Pending) × (at_number l.pending c ≡ Some p)

-- The pending call of a client, a write or a read, has its own entry in the log.
pub record HasItsEntry (l : Log) (client : ℕ) (write : Bool) : Type 0 where
  pub pending : Pending
  pub there : at_number l.pending client ≡ Some pending
  pub kind : is_write (op_of pending.call) ≡ write
  pub number : ℕ
  pub entry : pending.entry ≡ Some number
  pub own : IsOwnEntry l.entries client pending.call number

-- So it is where a line tells that a read was answered, or that some bytes were written. The line fills its answer, or its
-- acknowledgement, in. Where it tells that no byte was written, the call is pending too, and may have no entry.
abbrev pub IsLoggedAt : List Line → Line → Type 0
IsLoggedAt before (line.Ended c (ReadOk bytes)) = HasItsEntry (log_in before) c false
IsLoggedAt before (line.Ended c (WriteOk count)) =
    IsCalled (log_in before) c × ((count ≡ 0 → ⊥) → HasItsEntry (log_in before) c true)
IsLoggedAt before l = Unit {0}

-- so it is in each lawful history of a scenario's text with few messages
abbrev pub EndedAreLogged : Type 0
EndedAreLogged =
    (h : List Line) → Lawful h → AreWritten h → AreOfText h → AreFew h → AtEachLine IsLoggedAt h
