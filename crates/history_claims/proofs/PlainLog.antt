-- The log behind the lines of one client's read: its entry alone is new.
use Rattle.std.proofs.Common.{◌≡◌, ◌⊎◌, ◌==◌, ℕ, Bool, false, List, [], ◌∷◌, ◌++◌, fold, length, map, filter, slice_get, slice_set, Option, Some, None, Result, Ok, Err, refl, sym, ap, subst, ◌∙◌, append_assoc, inl, inr, if◌then◌else◌}
use Rattle.std.specs.List.{list_any}
use Rattle.std.proofs.lemmas.Bool.{true≢false, eq-eqb, or_parts}
use Rattle.std.proofs.lemmas.List.{map-append}
use Rattle.std.proofs.lemmas.List.Elements.{filter-append}
use Rattle.osd_objects.proofs.Entries.{lookup_inserted}
use Rattle.osd_commands.specs.declared.actions.Action.{Action}
use Rattle.osd_commands.specs.declared.actions.Action.TheVariants as action
use Rattle.osd_commands.specs.declared.commands.Command.{Command}
use Rattle.osd_commands.specs.declared.commands.CommandErr.{CommandErr}
use Rattle.osd_commands.specs.Commands as commands
use Rattle.file_log.specs.declared.entry.Entry.{Entry}
use Rattle.file_log.specs.declared.entry.Entry.TheVariants as entry
use Rattle.scenario_text.specs.declared.event.Call.TheVariants as call
use Rattle.scenario_text.specs.declared.event.Event.TheVariants as event
use Rattle.scenario_text.specs.declared.line.Outcome.TheVariants as outcome
use Rattle.scenario_text.specs.declared.line.Party.{Party}
use Rattle.scenario_text.specs.declared.line.Party.TheVariants as party
use Rattle.scenario_text.specs.declared.line.Line.{Line}
use Rattle.scenario_text.specs.declared.line.Line.TheVariants as line
use Rattle.world_history.specs.State.{at_number}
use Rattle.world_history.specs.ReadLog.{Pending, Logged, Log, log_after, called_beside, begins_beside, sends, sends_as, sends_in, sends_command, sends_write, sends_read, closed_with, closed_at, entry_in}
use Rattle.exchange_law.proofs.PendingLines.{quiet_same}
use Rattle.cause_law.specs.Lines.{is_event}
use Rattle.ready_law.specs.Answered.{ends_call}
use Rattle.history_claims.specs.Plain.{IsBy, IsOnlyOf, AreOnlyOf}

-- ---- lists

last_there : {A : Type 0} (xs : List A) (x : A) → slice_get (xs ++ x ∷ []) (length xs) ≡ Some x
last_there [] x = refl
last_there (y ∷ xs) x = last_there xs x

last_set : {A : Type 0} (xs : List A) (x y : A) → slice_set (xs ++ x ∷ []) (length xs) y ≡ xs ++ y ∷ []
last_set [] x y = refl
last_set (z ∷ xs) x y = ap (λ (l : List _). z ∷ l) (last_set xs x y)

module _ (c file offset count : ℕ) (old : List Logged) where
  -- the pending call, with this entry
  abbrev pub Its : Option ℕ → Pending
  Its o = record { call = call.Read file offset count; entry = o }

  -- its entry under a grant, with this answer
  abbrev pub logged : ℕ → Option (List ℕ) → Logged
  logged g answer = record { client = c; file = file; grant = g; taken = false; entry = entry.Read offset count answer }

  -- ---- before its end

  -- nothing of it is in the log yet
  pub record IsUnlogged (l : Log) : Type 0 where
    pub pending : at_number l.pending c ≡ Some (Its None)
    pub entries : l.entries ≡ old

  -- its entry is the last one
  pub record HasBegun (l : Log) : Type 0 where
    pub grant : ℕ
    pub pending : at_number l.pending c ≡ Some (Its (Some (length old)))
    pub entries : l.entries ≡ old ++ logged grant None ∷ []

  abbrev pub Runs : Log → Type 0
  Runs l = IsUnlogged l ⊎ HasBegun l

  -- a command of the call is sent
  read_begins : (l : Log) (g : ℕ) → IsUnlogged l →
      HasBegun (begins_beside l c (Its None) file g (entry.Read offset count None) None)
  read_begins l g k = record {
    grant = g;
    pending = lookup_inserted l.pending c _ ∙ ap (λ (es : List Logged). Some (Its (Some (length es)))) k.entries;
    entries = ap (λ (es : List Logged). es ++ logged g None ∷ []) k.entries;
  }

  command_runs : (l : Log) (number : ℕ) (x : Command) (a : Action) (o : Option ℕ) →
      at_number l.pending c ≡ Some (Its o) → Runs l → Runs (sends_command l number c (Its o) x a)
  command_runs l number x action.Write o is k = k
  command_runs l number x action.Read None is (inl k) = inr (read_begins l x.capability.grant k)
  command_runs l number x action.Read None is (inr k) =
      let same : Its None ≡ Its (Some (length old)) = cc (sym is ∙ k.pending) in
      let none : None ≡ Some (length old) = ap (λ (p : Pending). p.entry) same in
      absurd (cc none)
  command_runs l number x action.Read (Some n) is k = k
  command_runs l number x a o is k = k

  pending_in : (l : Log) → Runs l → (o : Option ℕ) × (at_number l.pending c ≡ Some (Its o))
  pending_in l (inl k) = (None, k.pending)
  pending_in l (inr k) = (Some (length old), k.pending)

  bytes_run : (l : Log) (number : ℕ) (r : Result Command CommandErr) → Runs l → Runs (sends_as l number c r)
  bytes_run l number (Err e) k = k
  bytes_run l number (Ok x) k =
      let p = pending_in l k in
      subst (λ (o : Option Pending). Runs (sends_in l number c x o)) (sym p.1) (command_runs l number x x.action p.0 p.1 k)

  message_runs : (l : Log) (number : ℕ) (from to : Party) (bytes : List ℕ) →
      IsBy c (line.Message number from to bytes) → Runs l → Runs (sends l number from to bytes)
  message_runs l number (party.Client k) (party.Drive d) bytes only r =
      subst (λ (q : ℕ). Runs (sends_as l number q (commands.reading bytes))) (sym only)
      (bytes_run l number (commands.reading bytes) r)
  message_runs l number from to bytes only r = r

  ends_none : {A : Type 0} (k : ℕ) → k ≡ c → (k == c) ≡ false → A
  ends_none k same n = absurd (true≢false (sym (eq-eqb k c same) ∙ n))

  by_line : (l : Log) (x : Line) → is_event x ≡ false → ends_call c x ≡ false → IsBy c x → Runs l → Runs (log_after l x)
  by_line l (line.Event e) plain silent only r = absurd (true≢false plain)
  by_line l (line.Refused k why) plain silent only r = ends_none k only silent
  by_line l (line.Ended k o) plain silent only r = ends_none k only silent
  by_line l (line.Message number from to bytes) plain silent only r = message_runs l number from to bytes only r
  by_line l x plain silent only r = r

  line_runs : (l : Log) (x : Line) → is_event x ≡ false → ends_call c x ≡ false → IsOnlyOf c x → Runs l →
      Runs (log_after l x)
  line_runs l x plain silent (inl quiet) r = subst Runs (sym (quiet_same l (x ∷ []) (quiet, tt))) r
  line_runs l x plain silent (inr only) r = by_line l x plain silent only r

  -- behind lines that are of its client alone, and don't tell its end, the call still runs
  pub lines_run : (ls : List Line) (l : Log) → list_any is_event ls ≡ false → list_any (ends_call c) ls ≡ false →
      AreOnlyOf c ls → Runs l → Runs (fold log_after l ls)
  lines_run [] l plain silent only r = r
  lines_run (x ∷ ls) l plain silent only r =
      let p = or_parts (is_event x) (list_any is_event ls) plain in
      let q = or_parts (ends_call c x) (list_any (ends_call c) ls) silent in
      lines_run ls (log_after l x) p.1 q.1 (λ y i. only y (inr i)) (line_runs l x p.0 q.0 (only x (inl refl)) r)

  -- ---- its begin

  pub call_runs : (l : Log) → at_number l.pending c ≡ None → l.entries ≡ old →
      Runs (log_after l (line.Event (event.Do c (call.Read file offset count))))
  call_runs l none entries =
      subst (λ (o : Option Pending). Runs (called_beside l c (call.Read file offset count) o)) (sym none)
      (inl (record { pending = lookup_inserted l.pending c _; entries = entries }))

  -- ---- its end

  -- its entry, with its answer, is behind the old ones, and further ones are behind it
  pub record IsAnsweredIn (bytes : List ℕ) (l : Log) : Type 0 where
    pub grant : ℕ
    pub more : List Logged
    pub entries : l.entries ≡ old ++ logged grant (Some bytes) ∷ more

  pub end_answers : (l : Log) (bytes : List ℕ) → HasBegun l →
      IsAnsweredIn bytes (log_after l (line.Ended c (outcome.ReadOk bytes)))
  end_answers l bytes k = record {
    grant = k.grant;
    more = [];
    entries =
        ap (λ (o : Option Pending). closed_at l.entries (outcome.ReadOk bytes) (entry_in o)) k.pending
        ∙ ap (λ (es : List Logged). closed_with es (length old) (outcome.ReadOk bytes) (slice_get es (length old))) k.entries
        ∙ ap (closed_with (old ++ logged k.grant None ∷ []) (length old) (outcome.ReadOk bytes))
        (last_there old (logged k.grant None))
        ∙ last_set old (logged k.grant None) (logged k.grant (Some bytes));
  }

  -- ---- behind its end

  module _ (bytes : List ℕ) where
    abbrev Answered : Log → Type 0
    Answered l = IsAnsweredIn bytes l

    begins_behind : (l : Log) (q : ℕ) (p : Pending) (f g : ℕ) (e : Entry) (o : Option ℕ) → Answered l →
        Answered (begins_beside l q p f g e o)
    begins_behind l q p f g e None k = record {
      grant = k.grant;
      more = k.more ++ record { client = q; file = f; grant = g; taken = false; entry = e } ∷ [];
      entries =
          ap (λ (es : List Logged). es ++ record { client = q; file = f; grant = g; taken = false; entry = e } ∷ []) k.entries
          ∙ append_assoc old (logged k.grant (Some bytes) ∷ k.more) _;
    }
    begins_behind l q p f g e (Some n) k = k

    command_behind : (l : Log) (number q : ℕ) (p : Pending) (x : Command) (a : Action) → Answered l →
        Answered (sends_command l number q p x a)
    command_behind l number q p x action.Write k = by p.call
      where
        by : (y : _) → Answered (sends_write l number q p x y)
        by (call.Write f o d) =
            let r = begins_behind l q p f x.capability.grant (entry.Write o d false) p.entry k in
            record { grant = r.grant; more = r.more; entries = r.entries }
        by (call.Read f o n) = k
    command_behind l number q p x action.Read k = by p.call
      where
        by : (y : _) → Answered (sends_read l q p x y)
        by (call.Write f o d) = k
        by (call.Read f o n) = begins_behind l q p f x.capability.grant (entry.Read o n None) p.entry k
    command_behind l number q p x a k = k

    in_behind : (l : Log) (number q : ℕ) (x : Command) (o : Option Pending) → Answered l → Answered (sends_in l number q x o)
    in_behind l number q x None k = k
    in_behind l number q x (Some p) k = command_behind l number q p x x.action k

    read_behind : (l : Log) (number q : ℕ) (r : Result Command CommandErr) → Answered l → Answered (sends_as l number q r)
    read_behind l number q (Ok x) k = in_behind l number q x (at_number l.pending q) k
    read_behind l number q (Err e) k = k

    message_behind : (l : Log) (number : ℕ) (from to : Party) (bs : List ℕ) → Answered l →
        Answered (sends l number from to bs)
    message_behind l number (party.Client q) (party.Drive d) bs k = read_behind l number q (commands.reading bs) k
    message_behind l number from to bs k = k

    by_behind : (l : Log) (x : Line) → is_event x ≡ false → ends_call c x ≡ false → IsBy c x → Answered l →
        Answered (log_after l x)
    by_behind l (line.Event e) plain silent only k = absurd (true≢false plain)
    by_behind l (line.Refused q why) plain silent only k = ends_none q only silent
    by_behind l (line.Ended q o) plain silent only k = ends_none q only silent
    by_behind l (line.Message number from to bs) plain silent only k = message_behind l number from to bs k
    by_behind l x plain silent only k = k

    line_behind : (l : Log) (x : Line) → is_event x ≡ false → ends_call c x ≡ false → IsOnlyOf c x → Answered l →
        Answered (log_after l x)
    line_behind l x plain silent (inl quiet) k = subst Answered (sym (quiet_same l (x ∷ []) (quiet, tt))) k
    line_behind l x plain silent (inr only) k = by_behind l x plain silent only k

    -- lines that are of its client alone leave the entry
    pub lines_behind : (ls : List Line) (l : Log) → list_any is_event ls ≡ false → list_any (ends_call c) ls ≡ false →
        AreOnlyOf c ls → Answered l → Answered (fold log_after l ls)
    lines_behind [] l plain silent only k = k
    lines_behind (x ∷ ls) l plain silent only k =
        let p = or_parts (is_event x) (list_any is_event ls) plain in
        let q = or_parts (ends_call c x) (list_any (ends_call c) ls) silent in
        lines_behind ls (log_after l x) p.1 q.1 (λ y i. only y (inr i)) (line_behind l x p.0 q.0 (only x (inl refl)) k)

  -- ---- the log of its file

  abbrev entry_of : Logged → Entry
  entry_of e = e.entry

  abbrev here : Logged → Bool
  here e = e.file == file

  -- what the judge reads of these entries
  abbrev pub read_of : List Logged → List Entry
  read_of es = map entry_of (filter here es)

  pub file_log : (bytes : List ℕ) (l : Log) (k : IsAnsweredIn bytes l) →
      read_of l.entries ≡ read_of old ++ entry.Read offset count (Some bytes) ∷ read_of k.more
  file_log bytes l k =
      ap read_of k.entries
      ∙ ap (map entry_of) (filter-append here old (logged k.grant (Some bytes) ∷ k.more)
      ∙ ap
      (λ (b : Bool). filter here old ++ (if b then logged k.grant (Some bytes) ∷ filter here k.more else filter here k.more))
      (eq-eqb file file refl))
      ∙ map-append entry_of (filter here old) (logged k.grant (Some bytes) ∷ filter here k.more)
