-- What lines make of the calls that are pending by the log.
use Rattle.std.proofs.Common.{◌≡◌, ℕ, ◌+◌, true, List, [], ◌∷◌, Option, Some, None, Result, Ok, Err, refl, sym, ap, ◌∙◌, inl, inr}
use Rattle.std.specs.List.{fold}
use Rattle.std.proofs.lemmas.Bool.{cases_eq}
use Rattle.osd_objects.proofs.Entries.{lookup_inserted, lookup_beside}
use Rattle.osd_commands.specs.declared.actions.Action.{Action}
use Rattle.osd_commands.specs.declared.actions.Action.TheVariants as action
use Rattle.osd_commands.specs.declared.commands.Command.{Command}
use Rattle.osd_commands.specs.declared.commands.CommandErr.{CommandErr}
use Rattle.osd_commands.specs.Commands as commands
use Rattle.file_log.specs.declared.entry.Entry.{Entry}
use Rattle.scenario_text.specs.declared.event.Call.{Call}
use Rattle.scenario_text.specs.declared.event.Call.TheVariants as call
use Rattle.scenario_text.specs.declared.line.Ending.TheVariants as ending
use Rattle.scenario_text.specs.declared.line.Outcome.TheVariants as outcome
use Rattle.scenario_text.specs.declared.line.Refusal.TheVariants as refusal
use Rattle.scenario_text.specs.declared.line.Party.{Party}
use Rattle.scenario_text.specs.declared.line.Party.TheVariants as party
use Rattle.scenario_text.specs.declared.line.Line.{Line}
use Rattle.scenario_text.specs.declared.line.Line.TheVariants as line
use Rattle.world_history.specs.ClientNames as client_rules
use Rattle.world_history.specs.ClientNames.{CallOp, Outcome}
use Rattle.world_history.specs.State.{at_number}
use Rattle.world_history.specs.Told.{told_outcome, kind_of}
use Rattle.world_history.specs.Names.{is_tellable}
use Rattle.world_history.specs.Handed.{Post, ended_by}
use Rattle.world_history.specs.ReadLog.{Pending, Log, starts, begins, begins_beside, sends_write, sends_read, sends_command, sends_in, sends_as, sends, ends, ended, log_after}
use Rattle.world_history.specs.Sending.{sent_line, sent_lines}
use Rattle.history_law.specs.Moves.{IsQuiet, AreQuiet}
use Rattle.exchange_law.specs.Pending.{logged_op}
use Rattle.exchange_law.proofs.PendingEntries.{AreRising, rising_inserted}

abbrev pub Calls : Type 0
Calls = List (ℕ × Pending)

-- the same calls are pending
abbrev pub Keeps : Log → Log → Type 0
Keeps l m = (AreRising l.pending → AreRising m.pending)
    × ((c : ℕ) → logged_op (at_number m.pending c) ≡ logged_op (at_number l.pending c))

nothing_new : (l : Log) → Keeps l l
nothing_new l = (λ r. r, λ c. refl)

keeps_on : (l m n : Log) → Keeps l m → Keeps m n → Keeps l n
keeps_on l m n a b = (λ r. b.0 (a.0 r), λ c. b.1 c ∙ a.1 c)

-- ---- messages

starts_keeps : (l : Log) (c : ℕ) (p : Pending) (f g : ℕ) (e : Entry) → at_number l.pending c ≡ Some p →
    Keeps l (starts l c p f g e)
starts_keeps l c p f g e is = (
  rising_inserted c _ l.pending,
  λ q. elim (cases_eq q c) [
    | inl same ↦
        ap (λ (n : ℕ). logged_op (at_number (starts l c p f g e).pending n)) same
        ∙ ap logged_op (lookup_inserted l.pending c _)
        ∙ sym (ap (λ (n : ℕ). logged_op (at_number l.pending n)) same ∙ ap logged_op is)
    | inr other ↦ ap logged_op (lookup_beside l.pending c q _ other)
  ],
)

begins_keeps : (l : Log) (c : ℕ) (p : Pending) (f g : ℕ) (e : Entry) → at_number l.pending c ≡ Some p →
    Keeps l (begins l c p f g e)
begins_keeps l c p f g e is = by p.entry
  where
    by : (n : Option ℕ) → Keeps l (begins_beside l c p f g e n)
    by None = starts_keeps l c p f g e is
    by (Some n) = nothing_new l

command_keeps : (l : Log) (n c : ℕ) (p : Pending) (x : Command) → at_number l.pending c ≡ Some p → (a : Action) →
    Keeps l (sends_command l n c p x a)
command_keeps l n c p x is action.Write = by p.call
  where
    by : (y : Call) → Keeps l (sends_write l n c p x y)
    by (call.Write f offset bytes) = begins_keeps l c p f x.capability.grant _ is
    by (call.Read f offset count) = nothing_new l
command_keeps l n c p x is action.Read = by p.call
  where
    by : (y : Call) → Keeps l (sends_read l c p x y)
    by (call.Write f offset bytes) = nothing_new l
    by (call.Read f offset count) = begins_keeps l c p f x.capability.grant _ is
command_keeps l n c p x is a = nothing_new l

in_keeps : (l : Log) (n c : ℕ) (x : Command) (o : Option Pending) → at_number l.pending c ≡ o → Keeps l (sends_in l n c x o)
in_keeps l n c x None is = nothing_new l
in_keeps l n c x (Some p) is = command_keeps l n c p x is x.action

read_keeps : (l : Log) (n c : ℕ) (r : Result Command CommandErr) → Keeps l (sends_as l n c r)
read_keeps l n c (Ok x) = in_keeps l n c x (at_number l.pending c) refl
read_keeps l n c (Err e) = nothing_new l

message_keeps : (l : Log) (n : ℕ) (from to : Party) (bytes : List ℕ) → Keeps l (sends l n from to bytes)
message_keeps l n (party.Client c) (party.Drive d) bytes = read_keeps l n c (commands.reading bytes)
message_keeps l n from to bytes = nothing_new l

-- messages change no pending call
pub sent_keeps : (l : Log) (n : ℕ) (ps : List Post) → Keeps l (fold log_after l (sent_lines n ps))
unfolding sent_lines
sent_keeps l n [] = nothing_new l
sent_keeps l n (p ∷ ps) =
    let next : Log = log_after l (sent_line n p.message) in
    keeps_on l next (fold log_after next (sent_lines (n + 1) ps)) (message_keeps l n _ _ _) (sent_keeps next (n + 1) ps)

-- ---- other lines

line_same : (l : Log) (x : Line) → IsQuiet x → log_after l x ≡ l
line_same l (line.Delivered number d) q = refl
line_same l (line.Refused c refusal.Busy) q = refl
line_same l (line.Ended c (outcome.Failed kind ending.Pending)) q = refl
line_same l (line.Note f n) q = refl
line_same l x q = absurd q

pub quiet_same : (l : Log) (ls : List Line) → AreQuiet ls → fold log_after l ls ≡ l
quiet_same l [] q = refl
quiet_same l (x ∷ xs) q =
    ap (λ (m : Log). fold log_after m xs) (line_same l x q.0) ∙ quiet_same l xs q.1

-- ---- the end of a call

ended_told : (l : Log) (c : ℕ) (op : CallOp) (o : Outcome) →
    ended l c (told_outcome (kind_of op) o) ≡ ends l c (told_outcome (kind_of op) o)
ended_told l c op (client_rules.WriteOk count) = refl
ended_told l c op (client_rules.ReadOk bytes) = refl
ended_told l c op client_rules.NoFile = refl
ended_told l c op (client_rules.HeldBy d) = refl
ended_told l c op (client_rules.Fencing k) = refl
ended_told l c op (client_rules.Degraded k) = refl
ended_told l c op client_rules.Spent = refl
ended_told l c op (client_rules.Status status detail) = refl
ended_told l c op (client_rules.Refused d n detail) = refl
ended_told l c op (client_rules.Silent k) = refl
ended_told l c op (client_rules.Lost ps) = refl
ended_told l c op (client_rules.BadLayout why) = refl

-- the line that tells it takes the call away
pub end_takes : (l : Log) (c : ℕ) (op : CallOp) (o : Outcome) → is_tellable o ≡ true →
    fold log_after l (ended_by c (Some op) (Some o)) ≡ ends l c (told_outcome (kind_of op) o)
end_takes l c op o told = rw told (ended_told l c op o)
