-- The entry of a pending call in the log: it stays until a line tells that the call has ended.
use Rattle.std.proofs.Common.{◌≡◌, ◌⊎◌, ℕ, false, List, [], ◌∷◌, fold, length, Option, Some, None, Result, Ok, Err, refl, sym, ap, subst, ◌∙◌, inl, inr}
use Rattle.std.proofs.lemmas.Bool.{true≢false, cases_eq}
use Rattle.osd_objects.proofs.Entries.{lookup_inserted, lookup_beside}
use Rattle.osd_commands.specs.declared.actions.Action.{Action}
use Rattle.osd_commands.specs.declared.actions.Action.TheVariants as action
use Rattle.osd_commands.specs.declared.commands.Command.{Command}
use Rattle.osd_commands.specs.declared.commands.CommandErr.{CommandErr}
use Rattle.osd_commands.specs.Commands as commands
use Rattle.file_log.specs.declared.entry.Entry.{Entry}
use Rattle.file_log.specs.declared.entry.Entry.TheVariants as entry
use Rattle.scenario_text.specs.declared.event.Call.{Call}
use Rattle.scenario_text.specs.declared.event.Call.TheVariants as call
use Rattle.scenario_text.specs.declared.event.Event.{Event}
use Rattle.scenario_text.specs.declared.event.Event.TheVariants as event
use Rattle.scenario_text.specs.declared.line.Ending.TheVariants as ending
use Rattle.scenario_text.specs.declared.line.Outcome.{Outcome}
use Rattle.scenario_text.specs.declared.line.Outcome.TheVariants as outcome
use Rattle.scenario_text.specs.declared.line.Party.{Party}
use Rattle.scenario_text.specs.declared.line.Party.TheVariants as party
use Rattle.scenario_text.specs.declared.line.Refusal.{Refusal}
use Rattle.scenario_text.specs.declared.line.Refusal.TheVariants as refusal
use Rattle.scenario_text.specs.declared.line.Line.{Line}
use Rattle.scenario_text.specs.declared.line.Line.TheVariants as line
use Rattle.world_history.specs.State.{at_number, without_number}
use Rattle.world_history.specs.ReadLog.{Pending, Log, log_after, log_after_event, called_beside, refused, ended, ends, starts, begins_beside, sends, sends_as, sends_in, sends_command, sends_write, sends_read, empty_log, log_in}
use Rattle.cause_law.specs.Lines.{is_event}
use Rattle.cause_law.proofs.Eventless.{NoEvent, first_plain}
use Rattle.exchange_law.specs.Pending.{logged_op}
use Rattle.exchange_law.proofs.PendingEntries.{AreRising, rising_inserted, rising_removed, removed_there, removed_beside}

-- the pending call of a client has an entry
abbrev pub IsIn : Log → (client : ℕ) → Type 0
IsIn l c = (p : Pending) × (at_number l.pending c ≡ Some p) × ((n : ℕ) × (p.entry ≡ Some n))

-- From one log to another the client's call is pending still, with its entry if it has one, or is pending no more.
pub record Goes (c : ℕ) (l m : Log) : Type 0 where
  pub rises : AreRising m.pending
  pub logged : IsIn l c → IsIn m c ⊎ (at_number m.pending c ≡ None)
  pub op : (logged_op (at_number m.pending c) ≡ logged_op (at_number l.pending c)) ⊎ (at_number m.pending c ≡ None)
  pub none : at_number l.pending c ≡ None → at_number m.pending c ≡ None

stays : (c : ℕ) (l : Log) → AreRising l.pending → Goes c l l
stays c l r = record { rises = r; logged = λ k. inl k; op = inl refl; none = λ n. n }

goes_on : (c : ℕ) (l m n : Log) → Goes c l m → Goes c m n → Goes c l n
goes_on c l m n a b = record {
  rises = b.rises;
  logged = λ k. elim (a.logged k) [
    | inl i ↦ b.logged i
    | inr gone ↦ inr (b.none gone)
  ];
  op = elim b.op [
    | inr gone ↦ inr gone
    | inl same ↦ elim a.op [
      | inl before ↦ inl (same ∙ before)
      | inr gone ↦ inr (b.none gone)
    ]
  ];
  none = λ k. b.none (a.none k);
}

-- another's call is taken away, or it is the client's own
gone : (c k : ℕ) (l m : Log) → AreRising l.pending → m.pending ≡ without_number l.pending k → Goes c l m
gone c k l m r is = elim (cases_eq c k) [
  | inl same ↦
      let none : at_number m.pending c ≡ None =
      ap (λ (ps : List (ℕ × Pending)). at_number ps c) is ∙ ap (at_number (without_number l.pending k)) same
      ∙ removed_there k l.pending r in
      record {
        rises = subst AreRising (sym is) (rising_removed k l.pending r);
        logged = λ i. inr none;
        op = inr none;
        none = λ n. none;
      }
  | inr other ↦
      let beside : at_number m.pending c ≡ at_number l.pending c =
      ap (λ (ps : List (ℕ × Pending)). at_number ps c) is ∙ removed_beside k c l.pending other in
      record {
        rises = subst AreRising (sym is) (rising_removed k l.pending r);
        logged = λ i. inl (i.0, beside ∙ i.1, i.2);
        op = inl (ap logged_op beside);
        none = λ n. beside ∙ n;
      }
]

-- an entry begins
begins_goes : (c k : ℕ) (l : Log) (p : Pending) (f g : ℕ) (e : Entry) (o : Option ℕ) → AreRising l.pending →
    at_number l.pending k ≡ Some p → Goes c l (begins_beside l k p f g e o)
begins_goes c k l p f g e (Some n) r is = stays c l r
begins_goes c k l p f g e None r is = elim (cases_eq c k) [
  | inl same ↦
      let its : at_number (starts l k p f g e).pending c ≡ Some (record p { entry = Some (length l.entries) }) =
      ap (at_number (starts l k p f g e).pending) same ∙ lookup_inserted l.pending k _ in
      let was : at_number l.pending c ≡ Some p = ap (at_number l.pending) same ∙ is in
      record {
        rises = rising_inserted k _ l.pending r;
        logged = λ i. inl (record p { entry = Some (length l.entries) }, its, (length l.entries, refl));
        op = inl (ap logged_op its ∙ sym (ap logged_op was));
        none = λ n. absurd (cc (sym was ∙ n));
      }
  | inr other ↦
      let beside : at_number (starts l k p f g e).pending c ≡ at_number l.pending c = lookup_beside l.pending k c _ other in
      record {
        rises = rising_inserted k _ l.pending r;
        logged = λ i. inl (i.0, beside ∙ i.1, i.2);
        op = inl (ap logged_op beside);
        none = λ n. beside ∙ n;
      }
]

module _ (c : ℕ) (l : Log) (r : AreRising l.pending) where
  write_goes : (n k : ℕ) (p : Pending) (x : Command) (y : Call) → at_number l.pending k ≡ Some p →
      Goes c l (sends_write l n k p x y)
  write_goes n k p x (call.Write f offset bytes) is =
      let b = begins_goes c k l p f x.capability.grant (entry_write offset bytes) p.entry r is in
      record { rises = b.rises; logged = b.logged; op = b.op; none = b.none }
    where
      entry_write : ℕ → List ℕ → Entry
      entry_write o b = entry.Write o b false
  write_goes n k p x (call.Read f offset count) is = stays c l r

  read_goes : (k : ℕ) (p : Pending) (x : Command) (y : Call) → at_number l.pending k ≡ Some p →
      Goes c l (sends_read l k p x y)
  read_goes k p x (call.Write f offset bytes) is = stays c l r
  read_goes k p x (call.Read f offset count) is = begins_goes c k l p f x.capability.grant _ p.entry r is

  command_goes : (n k : ℕ) (p : Pending) (x : Command) (a : Action) → at_number l.pending k ≡ Some p →
      Goes c l (sends_command l n k p x a)
  command_goes n k p x action.Write is = write_goes n k p x p.call is
  command_goes n k p x action.Read is = read_goes k p x p.call is
  command_goes n k p x a is = stays c l r

  in_goes : (n k : ℕ) (x : Command) (o : Option Pending) → at_number l.pending k ≡ o → Goes c l (sends_in l n k x o)
  in_goes n k x None is = stays c l r
  in_goes n k x (Some p) is = command_goes n k p x x.action is

  bytes_go : (n k : ℕ) (b : Result Command CommandErr) → Goes c l (sends_as l n k b)
  bytes_go n k (Ok x) = in_goes n k x (at_number l.pending k) refl
  bytes_go n k (Err e) = stays c l r

  message_goes : (n : ℕ) (from to : Party) (bytes : List ℕ) → Goes c l (sends l n from to bytes)
  message_goes n (party.Client k) (party.Drive d) bytes = bytes_go n k (commands.reading bytes)
  message_goes n from to bytes = stays c l r

  ended_goes : (k : ℕ) (o : Outcome) → Goes c l (ended l k o)
  ended_goes k (outcome.Failed kind ending.Pending) = stays c l r
  ended_goes k o = gone c k l (ends l k o) r refl

  refused_goes : (k : ℕ) (why : Refusal) → Goes c l (refused l k why)
  refused_goes k refusal.Busy = stays c l r
  refused_goes k why = gone c k l (refused l k why) r refl

  line_goes : (x : Line) → is_event x ≡ false → Goes c l (log_after l x)
  line_goes (line.Event e) plain = absurd (true≢false plain)
  line_goes (line.Refused k why) plain = refused_goes k why
  line_goes (line.Ended k o) plain = ended_goes k o
  line_goes (line.Message n from to bytes) plain = message_goes n from to bytes
  line_goes x plain = stays c l r

-- Lines without an event take a call on so.
pub lines_go : (c : ℕ) (ls : List Line) (l : Log) → AreRising l.pending → NoEvent ls → Goes c l (fold log_after l ls)
lines_go c [] l r plain = stays c l r
lines_go c (x ∷ ls) l r plain =
    let p = first_plain x ls plain in
    let one = line_goes c l r x p.0 in
    goes_on c l (log_after l x) (fold log_after (log_after l x) ls) one (lines_go c ls (log_after l x) one.rises p.1)

-- ---- an event

called_rises : (l : Log) (k : ℕ) (y : Call) (o : Option Pending) → AreRising l.pending → AreRising (called_beside l k y o).pending
called_rises l k y None r = rising_inserted k _ l.pending r
called_rises l k y (Some p) r = r

pub event_rises : (l : Log) (e : Event) → AreRising l.pending → AreRising (log_after_event l e).pending
event_rises l (event.Do k y) r = called_rises l k y (at_number l.pending k) r
event_rises l (event.Call k y) r = called_rises l k y (at_number l.pending k) r
event_rises l e r = r

called_keeps : (c : ℕ) (l : Log) (k : ℕ) (y : Call) (p : Pending) → at_number l.pending c ≡ Some p →
    (o : Option Pending) → at_number l.pending k ≡ o → at_number (called_beside l k y o).pending c ≡ Some p
called_keeps c l k y p is (Some q) there = is
called_keeps c l k y p is None none = elim (cases_eq c k) [
  | inl same ↦ absurd (cc (sym is ∙ ap (at_number l.pending) same ∙ none))
  | inr other ↦ lookup_beside l.pending k c _ other ∙ is
]

-- An event leaves a pending call.
pub event_keeps : (c : ℕ) (l : Log) (e : Event) (p : Pending) → at_number l.pending c ≡ Some p →
    at_number (log_after_event l e).pending c ≡ Some p
event_keeps c l (event.Do k y) p is = called_keeps c l k y p is (at_number l.pending k) refl
event_keeps c l (event.Call k y) p is = called_keeps c l k y p is (at_number l.pending k) refl
event_keeps c l e p is = is

-- ---- any lines

any_rises : (l : Log) (x : Line) → AreRising l.pending → AreRising (log_after l x).pending
any_rises l (line.Event e) r = event_rises l e r
any_rises l (line.Refused k why) r = (refused_goes 0 l r k why).rises
any_rises l (line.Ended k o) r = (ended_goes 0 l r k o).rises
any_rises l (line.Message n from to bytes) r = (message_goes 0 l r n from to bytes).rises
any_rises l x r = r

all_rise : (ls : List Line) (l : Log) → AreRising l.pending → AreRising (fold log_after l ls).pending
all_rise [] l r = r
all_rise (x ∷ ls) l r = all_rise ls (log_after l x) (any_rises l x r)

-- The pending calls are by rising clients, whatever the lines are.
pub log_rises : (h : List Line) → AreRising (log_in h).pending
log_rises h = all_rise h empty_log tt
