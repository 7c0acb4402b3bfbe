-- Which lines bring entries into the log: those of commands of clients with pending calls, whose files they are on.
-- Towards `NoneIsLoggedBehind` (`specs/NotLogged.antt`).
use Rattle.std.proofs.Common.{◌≡◌, ◌==◌, ◌+◌, ℕ, zero, suc, List, [], ◌∷◌, map, filter, slice_get, slice_set, Option, Some, None, Result, Ok, Err, refl, sym, ap, subst, ◌∙◌, inl, inr}
use Rattle.std.specs.List.{fold}
use Rattle.std.proofs.lemmas.Bool.{cases_Bool, eqb-true}
use Rattle.osd_lists.specs.declared.node.Node.{Node}
use Rattle.osd_lists.specs.declared.node.Node.TheVariants as node
use Rattle.osd_lists.proofs.Slices.{found_more}
use Rattle.osd_commands.specs.declared.actions.Action.{Action}
use Rattle.osd_commands.specs.declared.actions.Action.TheVariants as action
use Rattle.osd_commands.specs.declared.commands.Command.{Command}
use Rattle.osd_commands.specs.declared.commands.CommandErr.{CommandErr}
use Rattle.osd_commands.specs.Commands as commands
use Rattle.file_log.specs.declared.entry.Entry.{Entry}
use Rattle.scenario_text.specs.declared.event.Call.{Call}
use Rattle.scenario_text.specs.declared.event.Call.TheVariants as call
use Rattle.scenario_text.specs.declared.event.Event.{Event}
use Rattle.scenario_text.specs.declared.event.Event.TheVariants as event
use Rattle.scenario_text.specs.declared.line.Ending.TheVariants as ending
use Rattle.scenario_text.specs.declared.line.Outcome.{Outcome}
use Rattle.scenario_text.specs.declared.line.Outcome.TheVariants as outcome
use Rattle.scenario_text.specs.declared.line.Refusal.{Refusal}
use Rattle.scenario_text.specs.declared.line.Refusal.TheVariants as refusal
use Rattle.scenario_text.specs.declared.line.Line.{Line}
use Rattle.scenario_text.specs.declared.line.Line.TheVariants as line
use Rattle.server_rules.specs.Laws.{In}
use Rattle.client_rules.specs.Calls.{file_of}
use Rattle.world_history.specs.ClientNames.{CallOp}
use Rattle.world_history.specs.Handed.{Post}
use Rattle.world_history.specs.Moves.{op_of}
use Rattle.world_history.specs.ReadLog.{Pending, Logged, Log, called_beside, log_after_event, refused, closed, closed_with, closed_at, entry_in, ended, starts, begins_beside, sends_write, sends_read, sends_command, sends_in, sends_as, sends, log_after}
use Rattle.world_history.specs.Sending.{sent_line, sent_lines}
use Rattle.world_history.specs.Spelled.{party_of}
use Rattle.world_history.specs.State.{at_number}
use Rattle.history_law.specs.Answered.{IsNoMessage}
use Rattle.exchange_law.specs.Pending.{logged_op}
use Rattle.exchange_law.proofs.PendingLines.{sent_keeps}
use Rattle.headline_law.proofs.EntriesCalls.{begun_entry}

-- no message is among the lines
abbrev pub NoMessages : List Line → Type 0
NoMessages [] = Unit {0}
NoMessages (x ∷ xs) = IsNoMessage x × NoMessages xs

module _ (E : ℕ → Type 0) where
  -- E holds of the file of each of these entries.
  abbrev pub AllOn : List Logged → Type 0
  AllOn es = (n : ℕ) (x : Logged) → slice_get es n ≡ Some x → E x.file

  -- E holds of the file of the call that a client has pending by the log.
  abbrev pub CallIsOn : Log → (client : ℕ) → Type 0
  CallIsOn l c = (op : CallOp) → logged_op (at_number l.pending c) ≡ Some op → E (file_of op)

  -- ---- an entry begins

  starts_on : (l : Log) (c : ℕ) (p : Pending) (f g : ℕ) (e : Entry) → E f → AllOn l.entries → AllOn (starts l c p f g e).entries
  starts_on l c p f g e fine all n x is = elim (found_more l.entries (begun_entry c f g e) n x is) [
    | inl old ↦ all n x old
    | inr new ↦ subst E (ap (λ (z : Logged). z.file) new) fine
  ]

  begins_on : (l : Log) (c : ℕ) (p : Pending) (f g : ℕ) (e : Entry) (o : Option ℕ) → E f → AllOn l.entries →
      AllOn (begins_beside l c p f g e o).entries
  begins_on l c p f g e None fine all = starts_on l c p f g e fine all
  begins_on l c p f g e (Some n) fine all = all

  write_on : (l : Log) (number c : ℕ) (p : Pending) (x : Command) (y : Call) → E (file_of (op_of y)) → AllOn l.entries →
      AllOn (sends_write l number c p x y).entries
  write_on l number c p x (call.Write f offset bytes) fine all = begins_on l c p f _ _ p.entry fine all
  write_on l number c p x (call.Read f offset count) fine all = all

  read_on : (l : Log) (c : ℕ) (p : Pending) (x : Command) (y : Call) → E (file_of (op_of y)) → AllOn l.entries →
      AllOn (sends_read l c p x y).entries
  read_on l c p x (call.Write f offset bytes) fine all = all
  read_on l c p x (call.Read f offset count) fine all = begins_on l c p f _ _ p.entry fine all

  command_on : (l : Log) (number c : ℕ) (p : Pending) (x : Command) (a : Action) → E (file_of (op_of p.call)) → AllOn l.entries →
      AllOn (sends_command l number c p x a).entries
  command_on l number c p x action.Write fine all = write_on l number c p x p.call fine all
  command_on l number c p x action.Read fine all = read_on l c p x p.call fine all
  command_on l number c p x a fine all = all

  in_on : (l : Log) (number c : ℕ) (x : Command) (o : Option Pending) → at_number l.pending c ≡ o → CallIsOn l c →
      AllOn l.entries → AllOn (sends_in l number c x o).entries
  in_on l number c x None is fine all = all
  in_on l number c x (Some p) is fine all = command_on l number c p x x.action (fine (op_of p.call) (ap logged_op is)) all

  as_on : (l : Log) (number c : ℕ) (r : Result Command CommandErr) → CallIsOn l c → AllOn l.entries →
      AllOn (sends_as l number c r).entries
  as_on l number c (Ok x) fine all = in_on l number c x (at_number l.pending c) refl fine all
  as_on l number c (Err e) fine all = all

  -- ---- a call ends

  set_on : (es : List Logged) (n : ℕ) (e x : Logged) → slice_get es n ≡ Some e → x.file ≡ e.file → AllOn es →
      AllOn (slice_set es n x)
  set_on [] n e x there same all k z is = absurd (cc there)
  set_on (y ∷ es) zero e x there same all zero z is =
      let old : y ≡ e = cc there in
      let new : x ≡ z = cc is in
      subst E (ap (λ (q : Logged). q.file) old ∙ sym same ∙ ap (λ (q : Logged). q.file) new) (all 0 y refl)
  set_on (y ∷ es) zero e x there same all (suc k) z is = all (suc k) z is
  set_on (y ∷ es) (suc n) e x there same all zero z is = all zero z is
  set_on (y ∷ es) (suc n) e x there same all (suc k) z is = set_on es n e x there same (λ j. all (suc j)) k z is

  closed_on : (es : List Logged) (o : Outcome) (n : Option ℕ) → AllOn es → AllOn (closed_at es o n)
  closed_on es o None all = all
  closed_on es o (Some n) all = at_ (slice_get es n) refl
    where
      at_ : (e : Option Logged) → slice_get es n ≡ e → AllOn (closed_with es n o e)
      at_ None is = all
      at_ (Some e) is = set_on es n e (closed o e) is refl all

  ended_on : (l : Log) (c : ℕ) (o : Outcome) → AllOn l.entries → AllOn (ended l c o).entries
  ended_on l c (outcome.Failed kind ending.Pending) all = all
  ended_on l c o all = closed_on l.entries o (entry_in (at_number l.pending c)) all

  -- ---- a line

  called_on : (l : Log) (c : ℕ) (x : Call) (o : Option Pending) → AllOn l.entries → AllOn (called_beside l c x o).entries
  called_on l c x None all = all
  called_on l c x (Some p) all = all

  event_on : (l : Log) (e : Event) → AllOn l.entries → AllOn (log_after_event l e).entries
  event_on l (event.Do c x) all = called_on l c x (at_number l.pending c) all
  event_on l (event.Call c x) all = called_on l c x (at_number l.pending c) all
  event_on l e all = all

  refused_on : (l : Log) (c : ℕ) (r : Refusal) → AllOn l.entries → AllOn (refused l c r).entries
  refused_on l c refusal.Busy all = all
  refused_on l c r all = all

  line_on : (l : Log) (x : Line) → IsNoMessage x → AllOn l.entries → AllOn (log_after l x).entries
  line_on l (line.Message number from to bytes) none all = absurd none
  line_on l (line.Event e) none all = event_on l e all
  line_on l (line.Refused c why) none all = refused_on l c why all
  line_on l (line.Ended c o) none all = ended_on l c o all
  line_on l x none all = all

  -- Lines without a message bring none.
  pub told_on : (l : Log) (xs : List Line) → NoMessages xs → AllOn l.entries → AllOn (fold log_after l xs).entries
  told_on l [] none all = all
  told_on l (x ∷ xs) none all = told_on (log_after l x) xs none.1 (line_on l x none.0 all)

  -- ---- messages

  -- E holds of the call of each client that sends some of these to a drive.
  abbrev pub CallsAreOn : Log → List Post → Type 0
  CallsAreOn l ps =
      (p : Post) → In p ps → (c d : ℕ) → p.message.from ≡ node.Client c → p.message.to ≡ node.Drive d → CallIsOn l c

  message_on : (l : Log) (number : ℕ) (bytes : List ℕ) (from to : Node) → AllOn l.entries →
      ((c d : ℕ) → from ≡ node.Client c → to ≡ node.Drive d → CallIsOn l c) →
      AllOn (sends l number (party_of from) (party_of to) bytes).entries
  message_on l number bytes node.Server to all fine = all
  message_on l number bytes (node.Drive d) to all fine = all
  message_on l number bytes (node.Client c) node.Server all fine = all
  message_on l number bytes (node.Client c) (node.Client d) all fine = all
  message_on l number bytes (node.Client c) (node.Drive d) all fine =
      as_on l number c (commands.reading bytes) (fine c d refl refl) all

  -- one message changes no pending call
  same_calls : (l : Log) (number c : ℕ) (p : Post) → CallIsOn l c → CallIsOn (log_after l (sent_line number p.message)) c
  unfolding sent_lines
  same_calls l number c p fine op is = fine op (sym ((sent_keeps l number (p ∷ [])).1 c) ∙ is)

  pub sent_on : (l : Log) (number : ℕ) (ps : List Post) → CallsAreOn l ps → AllOn l.entries →
      AllOn (fold log_after l (sent_lines number ps)).entries
  unfolding sent_lines
  sent_on l number [] fine all = all
  sent_on l number (p ∷ ps) fine all =
      sent_on (log_after l (sent_line number p.message)) (number + 1) ps
      (λ q i c d from to. same_calls l number c p (fine q (inr i) c d from to))
      (message_on l number _ p.message.from p.message.to all (fine p (inl refl)))

-- ---- the log of a file

-- that of a file with no entry is empty
pub none_on : (es : List Logged) (file : ℕ) → AllOn (λ (n : ℕ). n ≡ file → ⊥) es →
    map (λ (e : Logged). e.entry) (filter (λ (e : Logged). e.file == file) es) ≡ []
none_on [] file away = refl
none_on (e ∷ es) file away = elim (cases_Bool (e.file == file)) [
  | inl here ↦ absurd (away zero e refl (eqb-true e.file file here))
  | inr other ↦ rw other (none_on es file (λ n. away (suc n)))
]
