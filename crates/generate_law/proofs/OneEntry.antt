-- The log behind the lines of a call's event, where no other call is pending: its entry alone is new.
use Rattle.std.proofs.Common.{◌≡◌, ◌⊎◌, ◌==◌, ℕ, true, false, List, [], ◌∷◌, ◌++◌, length, slice_get, slice_set, Option, Some, None, Result, Ok, Err, refl, sym, ap, subst, ◌∙◌, inl, inr, arith}
use Rattle.std.proofs.lemmas.Bool.{true≢false, cases_eq, eq-eqb, le-ltb}
use Rattle.osd_objects.proofs.Entries.{is_at_equal, is_at_other}
use Rattle.osd_commands.specs.declared.actions.Action.{Action}
use Rattle.osd_commands.specs.declared.actions.Action.TheVariants as action
use Rattle.osd_commands.specs.declared.commands.Command.{Command}
use Rattle.osd_commands.specs.declared.commands.CommandErr.{CommandErr}
use Rattle.osd_commands.specs.Commands as commands
use Rattle.file_log.specs.declared.entry.Entry.{Entry}
use Rattle.client_rules.specs.Calls.{file_of}
use Rattle.scenario_text.specs.declared.event.Call.{Call}
use Rattle.scenario_text.specs.declared.event.Call.TheVariants as call
use Rattle.scenario_text.specs.declared.event.Event.TheVariants as event
use Rattle.scenario_text.specs.declared.line.Ending.TheVariants as ending
use Rattle.scenario_text.specs.declared.line.Outcome.{Outcome}
use Rattle.scenario_text.specs.declared.line.Outcome.TheVariants as outcome
use Rattle.scenario_text.specs.declared.line.Party.TheVariants as party
use Rattle.scenario_text.specs.declared.line.Refusal.{Refusal}
use Rattle.scenario_text.specs.declared.line.Refusal.TheVariants as refusal
use Rattle.scenario_text.specs.declared.line.Line.{Line}
use Rattle.scenario_text.specs.declared.line.Line.TheVariants as line
use Rattle.world_history.specs.Moves.{op_of}
use Rattle.world_history.specs.State.{at_number, and_number, without_number}
use Rattle.world_history.specs.ReadLog.{Pending, Logged, Log, called_beside, closed_with, closed_at, ended, ended_entry, ends, entry_in, log_after, refused, sends_as, sends_command, sends_in, sends_read, sends_write, starts}
use Rattle.cause_law.specs.Lines.{is_event}
use Rattle.ready_law.specs.Answered.{IsOk, ends_call}
use Rattle.generate_law.proofs.PlainSums.{first_entry}

-- ---- logs in which a client has no pending call

-- it has none, and none is taken away
abbrev pub HasNone : Log → (client : ℕ) → Type 0
HasNone l k = (at_number l.pending k ≡ None) × (without_number l.pending k ≡ l.pending)

-- the same calls are pending, and the entries are the same
abbrev pub IsAlike : (l m : Log) → Type 0
IsAlike l m = (m.pending ≡ l.pending) × (m.entries ≡ l.entries)

refused_alike : (l : Log) (k : ℕ) (why : Refusal) → HasNone l k → IsAlike l (refused l k why)
refused_alike l k refusal.Busy none = (refl, refl)
refused_alike l k why none = (none.1, refl)

ends_alike : (l : Log) (k : ℕ) (o : Outcome) → HasNone l k → IsAlike l (ends l k o)
ends_alike l k o none = (none.1, ap (λ (p : Option Pending). closed_at l.entries o (entry_in p)) none.0)

ended_alike : (l : Log) (k : ℕ) (o : Outcome) → HasNone l k → IsAlike l (ended l k o)
ended_alike l k (outcome.Failed kind ending.Pending) none = (refl, refl)
ended_alike l k o none = ends_alike l k o none

sent_alike : (l : Log) (n k : ℕ) (r : Result Command CommandErr) → HasNone l k → IsAlike l (sends_as l n k r)
sent_alike l n k (Err e) none = (refl, refl)
sent_alike l n k (Ok y) none =
    subst (λ (o : Option Pending). IsAlike l (sends_in l n k y o)) (sym none.0) (refl, refl)

-- ---- one pending call

-- a call that alone is pending
abbrev pub Alone : (client : ℕ) → Pending → List (ℕ × Pending)
Alone c p = (c, p) ∷ []

alone_there : (c : ℕ) (p : Pending) → at_number (Alone c p) c ≡ Some p
alone_there c p = rw (is_at_equal c c refl) refl

alone_again : (c : ℕ) (p q : Pending) → and_number (Alone c p) c q ≡ Alone c q
alone_again c p q = rw (le-ltb c c (omega arith), eq-eqb c c refl) refl

alone_over : (c : ℕ) (p : Pending) → without_number (Alone c p) c ≡ []
alone_over c p = rw (is_at_equal c c refl) refl

alone_none : (c k : ℕ) (p : Pending) → (k ≡ c → ⊥) → at_number (Alone c p) k ≡ None
alone_none c k p other = rw (is_at_other k c other) refl

alone_stays : (c k : ℕ) (p : Pending) → (k ≡ c → ⊥) → without_number (Alone c p) k ≡ Alone c p
alone_stays c k p other = rw (is_at_other k c other) refl

-- ---- no pending call

-- nothing is pending, and these are the entries
pub record IsStill (es : List Logged) (l : Log) : Type 0 where
  pub pending : l.pending ≡ []
  pub entries : l.entries ≡ es

pub still_none : (es : List Logged) (l : Log) (k : ℕ) → IsStill es l → HasNone l k
still_none es l k s = (
  ap (λ (ps : List (ℕ × Pending)). at_number ps k) s.pending,
  ap (λ (ps : List (ℕ × Pending)). without_number ps k) s.pending ∙ sym s.pending,
)

still_alike : (es : List Logged) (l m : Log) → IsAlike l m → IsStill es l → IsStill es m
still_alike es l m a s = record { pending = a.0 ∙ s.pending; entries = a.1 ∙ s.entries }

-- so it is behind a line that begins no event
pub still_line : (es : List Logged) (l : Log) (y : Line) → is_event y ≡ false → IsStill es l → IsStill es (log_after l y)
still_line es l (line.Event e) plain s = absurd (true≢false plain)
still_line es l (line.Refused k why) plain s =
    still_alike es l (refused l k why) (refused_alike l k why (still_none es l k s)) s
still_line es l (line.Ended k o) plain s = still_alike es l (ended l k o) (ended_alike l k o (still_none es l k s)) s
still_line es l (line.Message n (party.Client k) (party.Drive d) bytes) plain s =
    still_alike es l (sends_as l n k (commands.reading bytes))
    (sent_alike l n k (commands.reading bytes) (still_none es l k s)) s
still_line es l y plain s = s

-- ---- the call and its entry

module _ (c : ℕ) (old : List Logged) where
  -- the pending call, with this entry
  abbrev pub Its : Call → Option ℕ → Pending
  Its x o = record { call = x; entry = o }

  -- its entry under a grant
  abbrev pub logged : Call → (grant : ℕ) → Entry → Logged
  logged x g e = record { client = c; file = file_of (op_of x); grant = g; taken = false; entry = e }

  -- nothing of it is in the log yet
  pub record IsUnlogged (x : Call) (l : Log) : Type 0 where
    pub pending : l.pending ≡ Alone c (Its x None)
    pub entries : l.entries ≡ old

  -- its entry is the last one
  pub record HasBegun (x : Call) (l : Log) : Type 0 where
    pub grant : ℕ
    pub pending : l.pending ≡ Alone c (Its x (Some (length old)))
    pub entries : l.entries ≡ old ++ logged x grant (first_entry x) ∷ []

  abbrev pub Runs : Call → Log → Type 0
  Runs x l = IsUnlogged x l ⊎ HasBegun x l

  -- ---- its begin

  pub call_runs : (x : Call) (l : Log) → IsStill old l → Runs x (log_after l (line.Event (event.Do c x)))
  call_runs x l s =
      let none : at_number l.pending c ≡ None = (still_none old l c s).0 in
      subst (λ (o : Option Pending). Runs x (called_beside l c x o)) (sym none) (inl (record {
        pending = ap (λ (ps : List (ℕ × Pending)). and_number ps c (Its x None)) s.pending;
        entries = s.entries;
      }))

  -- ---- its commands

  starts_it : (x : Call) (l : Log) (g : ℕ) → IsUnlogged x l
      → HasBegun x (starts l c (Its x None) (file_of (op_of x)) g (first_entry x))
  starts_it x l g k = record {
    grant = g;
    pending =
        ap (λ (ps : List (ℕ × Pending)). and_number ps c (Its x (Some (length l.entries)))) k.pending
        ∙ alone_again c (Its x None) (Its x (Some (length l.entries)))
        ∙ ap (λ (es : List Logged). Alone c (Its x (Some (length es)))) k.entries;
    entries = ap (λ (es : List Logged). es ++ logged x g (first_entry x) ∷ []) k.entries;
  }

  write_begins : (x : Call) (l : Log) (n : ℕ) (y : Command) → IsUnlogged x l
      → Runs x (sends_write l n c (Its x None) y x)
  write_begins (call.Write file offset bytes) l n y k =
      let b = starts_it (call.Write file offset bytes) l y.capability.grant k in
      inr (record { grant = b.grant; pending = b.pending; entries = b.entries })
  write_begins (call.Read file offset count) l n y k = inl k

  write_stays : (x : Call) (l : Log) (n m : ℕ) (y : Command) → HasBegun x l
      → HasBegun x (sends_write l n c (Its x (Some m)) y x)
  write_stays (call.Write file offset bytes) l n m y k =
      record { grant = k.grant; pending = k.pending; entries = k.entries }
  write_stays (call.Read file offset count) l n m y k = k

  read_begins : (x : Call) (l : Log) (y : Command) → IsUnlogged x l → Runs x (sends_read l c (Its x None) y x)
  read_begins (call.Write file offset bytes) l y k = inl k
  read_begins (call.Read file offset count) l y k =
      inr (starts_it (call.Read file offset count) l y.capability.grant k)

  read_stays : (x : Call) (l : Log) (m : ℕ) (y : Command) → HasBegun x l → HasBegun x (sends_read l c (Its x (Some m)) y x)
  read_stays (call.Write file offset bytes) l m y k = k
  read_stays (call.Read file offset count) l m y k = k

  command_begins : (x : Call) (l : Log) (n : ℕ) (y : Command) (a : Action) → IsUnlogged x l
      → Runs x (sends_command l n c (Its x None) y a)
  command_begins x l n y action.Write k = write_begins x l n y k
  command_begins x l n y action.Read k = read_begins x l y k
  command_begins x l n y a k = inl k

  command_stays : (x : Call) (l : Log) (n m : ℕ) (y : Command) (a : Action) → HasBegun x l
      → HasBegun x (sends_command l n c (Its x (Some m)) y a)
  command_stays x l n m y action.Write k = write_stays x l n m y k
  command_stays x l n m y action.Read k = read_stays x l m y k
  command_stays x l n m y a k = k

  -- what is pending by the log
  there : (l : Log) (p : Pending) → l.pending ≡ Alone c p → at_number l.pending c ≡ Some p
  there l p is = ap (λ (ps : List (ℕ × Pending)). at_number ps c) is ∙ alone_there c p

  bytes_run : (x : Call) (l : Log) (n : ℕ) (r : Result Command CommandErr) → Runs x l → Runs x (sends_as l n c r)
  bytes_run x l n (Err e) k = k
  bytes_run x l n (Ok y) (inl k) =
      subst (λ (o : Option Pending). Runs x (sends_in l n c y o)) (sym (there l (Its x None) k.pending))
      (command_begins x l n y y.action k)
  bytes_run x l n (Ok y) (inr k) =
      subst (λ (o : Option Pending). Runs x (sends_in l n c y o)) (sym (there l (Its x (Some (length old))) k.pending))
      (inr (command_stays x l n (length old) y y.action k))

  -- ---- lines before its end

  one_pending : (x : Call) (l : Log) → Runs x l → (p : Pending) × (l.pending ≡ Alone c p)
  one_pending x l (inl k) = (Its x None, k.pending)
  one_pending x l (inr k) = (Its x (Some (length old)), k.pending)

  others_none : (x : Call) (l : Log) (k : ℕ) → (k ≡ c → ⊥) → Runs x l → HasNone l k
  others_none x l k other r =
      let p = one_pending x l r in (
        ap (λ (ps : List (ℕ × Pending)). at_number ps k) p.1 ∙ alone_none c k p.0 other,
        ap (λ (ps : List (ℕ × Pending)). without_number ps k) p.1 ∙ alone_stays c k p.0 other ∙ sym p.1,
      )

  runs_alike : (x : Call) (l m : Log) → IsAlike l m → Runs x l → Runs x m
  runs_alike x l m a (inl k) = inl (record { pending = a.0 ∙ k.pending; entries = a.1 ∙ k.entries })
  runs_alike x l m a (inr k) = inr (record { grant = k.grant; pending = a.0 ∙ k.pending; entries = a.1 ∙ k.entries })

  differs : (k : ℕ) → (k == c) ≡ false → k ≡ c → ⊥
  differs k silent same = true≢false (sym (eq-eqb k c same) ∙ silent)

  -- a line that begins no event and ends no call of the client leaves it running
  pub runs_line : (x : Call) (l : Log) (y : Line) → is_event y ≡ false → ends_call c y ≡ false → Runs x l
      → Runs x (log_after l y)
  runs_line x l (line.Event e) plain silent r = absurd (true≢false plain)
  runs_line x l (line.Refused k why) plain silent r =
      runs_alike x l (refused l k why) (refused_alike l k why (others_none x l k (differs k silent) r)) r
  runs_line x l (line.Ended k o) plain silent r =
      runs_alike x l (ended l k o) (ended_alike l k o (others_none x l k (differs k silent) r)) r
  runs_line x l (line.Message n (party.Client k) (party.Drive d) bytes) plain silent r = elim (cases_eq k c) [
    | inl same ↦
        subst (λ (q : ℕ). Runs x (sends_as l n q (commands.reading bytes))) (sym same)
        (bytes_run x l n (commands.reading bytes) r)
    | inr other ↦
        runs_alike x l (sends_as l n k (commands.reading bytes))
        (sent_alike l n k (commands.reading bytes) (others_none x l k other r)) r
  ]
  runs_line x l y plain silent r = r

  -- ---- its end

  last_there : (es : List Logged) (e : Logged) → slice_get (es ++ e ∷ []) (length es) ≡ Some e
  last_there [] e = refl
  last_there (d ∷ es) e = last_there es e

  last_set : (es : List Logged) (e f : Logged) → slice_set (es ++ e ∷ []) (length es) f ≡ es ++ f ∷ []
  last_set [] e f = refl
  last_set (d ∷ es) e f = ap (λ (l : List Logged). d ∷ l) (last_set es e f)

  -- its entry, as it is once the call has ended so, is behind the old ones, and nothing is pending
  pub record HasEnded (x : Call) (o : Outcome) (l : Log) : Type 0 where
    pub grant : ℕ
    pub still : IsStill (old ++ logged x grant (ended_entry (first_entry x) o) ∷ []) l

  closes : (x : Call) (o : Outcome) (l : Log) → HasBegun x l → HasEnded x o (ends l c o)
  closes x o l k = record {
    grant = k.grant;
    still = record {
      pending =
          ap (λ (ps : List (ℕ × Pending)). without_number ps c) k.pending ∙ alone_over c (Its x (Some (length old)));
      entries =
          ap (λ (p : Option Pending). closed_at l.entries o (entry_in p)) (there l (Its x (Some (length old))) k.pending)
          ∙ ap (λ (es : List Logged). closed_with es (length old) o (slice_get es (length old))) k.entries
          ∙ ap (closed_with (old ++ logged x k.grant (first_entry x) ∷ []) (length old) o)
          (last_there old (logged x k.grant (first_entry x)))
          ∙ last_set old (logged x k.grant (first_entry x)) (logged x k.grant (ended_entry (first_entry x) o));
    };
  }

  pub end_closes : (x : Call) (o : Outcome) (l : Log) → IsOk (op_of x) o → HasBegun x l
      → HasEnded x o (log_after l (line.Ended c o))
  end_closes (call.Write file offset bytes) (outcome.WriteOk n) l ok k = closes _ (outcome.WriteOk n) l k
  end_closes (call.Read file offset count) (outcome.ReadOk bytes) l ok k = closes _ (outcome.ReadOk bytes) l k
  end_closes (call.Write file offset bytes) (outcome.ReadOk answer) l ok k = absurd ok
  end_closes (call.Write file offset bytes) (outcome.Failed kind why) l ok k = absurd ok
  end_closes (call.Read file offset count) (outcome.WriteOk n) l ok k = absurd ok
  end_closes (call.Read file offset count) (outcome.Failed kind why) l ok k = absurd ok

  -- ---- the client of the pending call

  -- a call that is pending while this one runs is the client's
  pub runs_one : (x : Call) (l : Log) (k : ℕ) (p : Pending) → Runs x l → at_number l.pending k ≡ Some p → k ≡ c
  runs_one x l k p r found = elim (cases_eq k c) [
    | inl same ↦ same
    | inr other ↦ absurd (cc (sym (others_none x l k other r).0 ∙ found))
  ]

  -- and one without an entry isn't logged
  pub unlogged_none : (x : Call) (l : Log) (p : Pending) (n : ℕ) → IsUnlogged x l → at_number l.pending c ≡ Some p
      → p.entry ≡ Some n → ⊥
  unlogged_none x l p n k found has =
      let one : Some (Its x None) ≡ Some p = sym (there l (Its x None) k.pending) ∙ found in
      let same : Its x None ≡ p = cc one in
      let none : None ≡ Some n = ap (λ (q : Pending). q.entry) same ∙ has in absurd (cc none)
