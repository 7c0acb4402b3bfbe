-- For which entry a WRITE was sent stays in the log: the lines of a move number their messages anew.
use Rattle.std.proofs.Common.{◌≡◌, ◌<◌, ◌+◌, ℕ, List, [], ◌∷◌, Option, Some, None, Result, Ok, Err, refl, ap, ◌∙◌, arith}
use Rattle.std.specs.List.{fold}
use Rattle.osd_objects.proofs.Entries.{lookup_beside}
use Rattle.osd_commands.specs.declared.actions.Action.{Action}
use Rattle.osd_commands.specs.declared.actions.Action.TheVariants as action
use Rattle.osd_commands.specs.declared.commands.Command.{Command}
use Rattle.osd_commands.specs.declared.commands.CommandErr.{CommandErr}
use Rattle.osd_commands.specs.Commands as commands
use Rattle.file_log.specs.declared.entry.Entry.{Entry}
use Rattle.scenario_text.specs.declared.event.Call.{Call}
use Rattle.scenario_text.specs.declared.event.Call.TheVariants as call
use Rattle.scenario_text.specs.declared.event.Event.{Event}
use Rattle.scenario_text.specs.declared.event.Event.TheVariants as event
use Rattle.scenario_text.specs.declared.line.Ending.TheVariants as ending
use Rattle.scenario_text.specs.declared.line.Outcome.{Outcome}
use Rattle.scenario_text.specs.declared.line.Outcome.TheVariants as outcome
use Rattle.scenario_text.specs.declared.line.Party.{Party}
use Rattle.scenario_text.specs.declared.line.Party.TheVariants as party
use Rattle.scenario_text.specs.declared.line.Refusal.{Refusal}
use Rattle.scenario_text.specs.declared.line.Refusal.TheVariants as refusal
use Rattle.scenario_text.specs.declared.line.Line.{Line}
use Rattle.scenario_text.specs.declared.line.Line.TheVariants as line
use Rattle.world_history.specs.Handed.{Post}
use Rattle.world_history.specs.ReadLog.{Log, Pending, log_after, log_after_event, called_beside, refused, ended, begins_beside, sends, sends_as, sends_in, sends_command, sends_write, sends_read}
use Rattle.world_history.specs.Sending.{sent_line, sent_lines}
use Rattle.world_history.specs.State.{at_number}
use Rattle.history_law.specs.Answered.{IsNoMessage}
use Rattle.headline_law.proofs.NotLoggedLines.{NoMessages}

-- ---- lines that are no messages

called_writes : (l : Log) (c : ℕ) (x : Call) (o : Option Pending) → (called_beside l c x o).writes ≡ l.writes
called_writes l c x None = refl
called_writes l c x (Some p) = refl

event_writes : (l : Log) (e : Event) → (log_after_event l e).writes ≡ l.writes
event_writes l (event.Do c x) = called_writes l c x (at_number l.pending c)
event_writes l (event.Call c x) = called_writes l c x (at_number l.pending c)
event_writes l e = refl

refused_writes : (l : Log) (c : ℕ) (r : Refusal) → (refused l c r).writes ≡ l.writes
refused_writes l c refusal.Busy = refl
refused_writes l c r = refl

ended_writes : (l : Log) (c : ℕ) (o : Outcome) → (ended l c o).writes ≡ l.writes
ended_writes l c (outcome.Failed kind ending.Pending) = refl
ended_writes l c o = refl

pub told_writes : (l : Log) (ls : List Line) → NoMessages ls → (fold log_after l ls).writes ≡ l.writes
told_writes l [] none = refl
told_writes l (x ∷ ls) none = told_writes (log_after l x) ls none.1 ∙ one x none.0
  where
    one : (y : Line) → IsNoMessage y → (log_after l y).writes ≡ l.writes
    one (line.Event e) k = event_writes l e
    one (line.Refused c why) k = refused_writes l c why
    one (line.Ended c o) k = ended_writes l c o
    one (line.Message number from_ to bytes) k = absurd k
    one y k = refl

-- ---- a message

module _ (l : Log) (number c n : ℕ) (other : n ≡ number → ⊥) where
  begins_writes : (p : Pending) (f g : ℕ) (e : Entry) (o : Option ℕ) → (begins_beside l c p f g e o).writes ≡ l.writes
  begins_writes p f g e None = refl
  begins_writes p f g e (Some i) = refl

  by_write : (p : Pending) (x : Command) (y : Call) → at_number (sends_write l number c p x y).writes n ≡ at_number l.writes n
  by_write p x (call.Write f offset bytes) = lookup_beside l.writes number n _ other
  by_write p x (call.Read f offset count) = refl

  by_read : (p : Pending) (x : Command) (y : Call) → at_number (sends_read l c p x y).writes n ≡ at_number l.writes n
  by_read p x (call.Write f offset bytes) = refl
  by_read p x (call.Read f offset count) =
      ap (λ (ws : List (ℕ × ℕ)). at_number ws n) (begins_writes p f x.capability.grant _ p.entry)

  by_command : (p : Pending) (x : Command) (a : Action) →
      at_number (sends_command l number c p x a).writes n ≡ at_number l.writes n
  by_command p x action.Write = by_write p x p.call
  by_command p x action.Read = by_read p x p.call
  by_command p x a = refl

  by_pending : (x : Command) (o : Option Pending) → at_number (sends_in l number c x o).writes n ≡ at_number l.writes n
  by_pending x None = refl
  by_pending x (Some p) = by_command p x x.action

  by_bytes : (r : Result Command CommandErr) → at_number (sends_as l number c r).writes n ≡ at_number l.writes n
  by_bytes (Ok x) = by_pending x (at_number l.pending c)
  by_bytes (Err e) = refl

sent_beside : (l : Log) (number n : ℕ) (from_ to : Party) (bytes : List ℕ) → (n ≡ number → ⊥) →
    at_number (sends l number from_ to bytes).writes n ≡ at_number l.writes n
sent_beside l number n (party.Client c) (party.Drive d) bytes other = by_bytes l number c n other (commands.reading bytes)
sent_beside l number n from_ to bytes other = refl

-- the lines of messages from a number on
pub sent_before : (l : Log) (number n : ℕ) (ps : List Post) → n < number →
    at_number (fold log_after l (sent_lines number ps)).writes n ≡ at_number l.writes n
unfolding sent_lines
sent_before l number n [] low = refl
sent_before l number n (p ∷ ps) low =
    sent_before (log_after l (sent_line number p.message)) (number + 1) n ps (omega (arith, low))
    ∙ sent_beside l number n _ _ _ (λ e. absurd (omega (arith, low, e)))
