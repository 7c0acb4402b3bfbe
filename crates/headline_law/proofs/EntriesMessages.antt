-- The lines of all messages of a client's turn, up to any of them.
-- Towards `CutsShowEntries` (`specs/Parts.antt`).
use Rattle.std.proofs.Common.{◌≡◌, ◌==◌, ◌||◌, ◌&&◌, not, ℕ, zero, suc, ◌+◌, Bool, true, false, List, [], ◌∷◌, ◌++◌, length, take, map, Option, Some, None, Result, Ok, Err, refl, sym, ap, subst, ◌∙◌, inl, inr, if◌then◌else◌}
use Rattle.std.specs.List.{fold}
use Rattle.osd_lists.proofs.Slices.{get_more}
use Rattle.component_law.proofs.Lists.{get_either}
use Rattle.osd_objects.proofs.Entries.{lookup_inserted}
use Rattle.layout_ops.specs.declared.args.Args.{Args}
use Rattle.layout_ops.specs.declared.args.Args.TheVariants as args
use Rattle.osd_commands.specs.declared.actions.Action.{Action}
use Rattle.osd_commands.specs.declared.actions.Action.TheVariants as action
use Rattle.osd_commands.specs.declared.commands.Command.{Command}
use Rattle.osd_commands.specs.declared.commands.CommandErr.{CommandErr}
use Rattle.osd_commands.specs.Commands as commands
use Rattle.file_log.specs.declared.entry.Entry.{Entry}
use Rattle.file_log.specs.declared.entry.Entry.TheVariants as entry
use Rattle.scenario_text.specs.declared.event.Call.{Call as ToldCall}
use Rattle.scenario_text.specs.declared.event.Call.TheVariants as told
use Rattle.server_rules.specs.Laws.{In}
use Rattle.client_rules.specs.Calls.{file_of, is_write}
use Rattle.client_rules.specs.Grants.{held_of}
use Rattle.client_rules.specs.Messages.{to_drive}
use Rattle.client_rules.specs.Steps.{awaited_component}
use Rattle.world_history.specs.ClientNames as client_rules
use Rattle.world_history.specs.ClientNames.{Client, Held, Awaited, Outgoing, Phase}
use Rattle.world_history.specs.State.{at_number}
use Rattle.world_history.specs.Moves.{op_of}
use Rattle.world_history.specs.Handed.{client_posts, client_post, is_write_out}
use Rattle.world_history.specs.Sending.{sent_line, sent_lines}
use Rattle.world_history.specs.ReadLog.{Pending, Logged, Log, log_after, starts, begins_beside, sends_in, sends_as, sends_command}
use Rattle.fence_law.specs.Machine.{after_all}
use Rattle.fence_law.specs.State.{State, Grant, Event}
use Rattle.fence_law.specs.State.RequestKind.{Get, Return}
use Rattle.file_simulation.specs.ClientEvents as table
use Rattle.file_simulation.specs.Events.{joined}
use Rattle.file_simulation.specs.Requests.{RequestClass, Own, Other, phase_of, return_class}
use Rattle.file_simulation.specs.Showing.{Pairs}
use Rattle.relation_law.specs.Frames.{AreAll}
use Rattle.relation_law.proofs.FramesClient.{either_all, grant_all}
use Rattle.relation_law.proofs.KeptNotes.{after_both}
use Rattle.headline_law.proofs.EntriesPairs.{IsSilent, same_entries}
use Rattle.headline_law.proofs.EntriesCalls.{Stands, CallAs, IsOfCall, begun_entry, starts_named}
use Rattle.headline_law.proofs.EntriesSends.{other_writes, CommandIs, CommandGoes, command_goes, under_grant}

-- ---- to the server

-- it goes to the server
abbrev pub ToServer : Outgoing → Type 0
ToServer (client_rules.ToDrive d x) = ⊥
ToServer o = Unit {0}

abbrev pub AllToServer : List Outgoing → Type 0
AllToServer [] = Unit {0}
AllToServer (o ∷ os) = ToServer o × AllToServer os

returns_silent : (t : State) (c : ℕ) (class : RequestClass) → AreAll IsSilent (table.returns t c class)
returns_silent t c (Own (Return true)) = grant_all IsSilent (t.held c) _ (λ g. (tt, tt))
returns_silent t c (Own (Return false)) = grant_all IsSilent (t.held c) _ (λ g. (tt, tt))
returns_silent t c (Own (Get rw)) = tt
returns_silent t c Other = (tt, tt)

asks_silent : (t : State) (c : ℕ) (p : Option Phase) (a : Args) → AreAll IsSilent (table.asks_here t c p a)
asks_silent t c p (args.LayoutGet x) = (tt, tt)
asks_silent t c p (args.LayoutCommit x) = (tt, (tt, tt))
asks_silent t c p (args.LayoutReturn x) = returns_silent t c (return_class p)

pub server_silent : (t : State) (file c : ℕ) (x : Client) (o : Outgoing) → ToServer o → AreAll IsSilent (table.sends t file c x o)
server_silent t file c x (client_rules.AnswersRecall a) k = tt
server_silent t file c x (client_rules.Asks r) k =
    either_all IsSilent (r.file == file) _ _ (asks_silent t c (phase_of x.call) r.args) (tt, tt)
server_silent t file c x (client_rules.ToDrive d y) k = absurd k

pub server_logs : (l : Log) (n c logged : ℕ) (o : Outgoing) → ToServer o →
    log_after l (sent_line n (client_post c logged o).message) ≡ l
server_logs l n c logged (client_rules.AnswersRecall a) k = refl
server_logs l n c logged (client_rules.Asks r) k = refl
server_logs l n c logged (client_rules.ToDrive d y) k = absurd k

-- ---- up to a line

-- the machine behind the first messages
abbrev pub machine_to : State → (file c : ℕ) → Client → List Outgoing → (n : ℕ) → State
machine_to t file c x os n = after_all t (joined (take n (table.sends_all t file c x os)))

-- the log behind their lines
abbrev pub log_to : Log → (c : ℕ) → (wrote : Bool) → (logged number : ℕ) → List Outgoing → (n : ℕ) → Log
log_to l c wrote logged number os n = fold log_after l (take n (sent_lines number (client_posts c wrote logged os)))

-- one message and those behind it
pub machine_next : (t : State) (file c : ℕ) (x : Client) (o : Outgoing) (os : List Outgoing) (n : ℕ) →
    machine_to t file c x (o ∷ os) (suc n) ≡ machine_to (after_all t (table.sends t file c x o)) file c x os n
unfolding table.sends_all
machine_next t file c x o os n =
    after_both t (table.sends t file c x o) (joined (take n (table.sends_all (after_all t
    (table.sends t file c x o)) file c x os)))

pub log_next : (l : Log) (c : ℕ) (wrote : Bool) (logged number : ℕ) (o : Outgoing) (os : List Outgoing) (n : ℕ) →
    log_to l c wrote logged number (o ∷ os) (suc n)
    ≡ log_to (log_after l (sent_line number (client_post c (if is_write_out o && not wrote then logged else 0) o).message)) c
    (wrote || is_write_out o) logged (number + 1) os n
unfolding sent_lines
log_next l c wrote logged number o os n = refl

pub none_machine : (t : State) (file c : ℕ) (x : Client) (n : ℕ) → machine_to t file c x [] n ≡ t
unfolding table.sends_all
none_machine t file c x zero = refl
none_machine t file c x (suc n) = refl

pub none_log : (l : Log) (c : ℕ) (wrote : Bool) (logged number n : ℕ) → log_to l c wrote logged number [] n ≡ l
unfolding sent_lines
none_log l c wrote logged number zero = refl
none_log l c wrote logged number (suc n) = refl

-- ---- commands of a call on the file

pub goes_more : (file c : ℕ) (t u v : State) (m z : Log) (old : Pairs) (x : ToldCall) → (k : CommandGoes file c t u m old x) →
    CommandGoes file c u v z k.pairs x → CommandGoes file c t v z old x
goes_more file c t u v m z old x k r = record {
  pairs = r.pairs;
  more = λ i j n. r.more i j (k.more i j n);
  stands = r.stands;
  entry_now = r.entry_now;
  has = r.has;
  as_ = r.as_;
  held = r.held ∙ k.held;
}

module _ (file c : ℕ) (x : Client) (y : ToldCall) (p : Phase) (call_is : x.call ≡ Some (record { op = op_of y; phase = p }))
    (here : (file_of (op_of y) == file) ≡ true) (is_file : file_of (op_of y) ≡ file) (h : Held) (g : Grant)
    (holds : held_of x.held file ≡ Some h) where
  command_events : (t : State) (a : Awaited) → t.held c ≡ Some g →
      table.sends t file c x (to_drive a)
      ≡ under_grant c t h g (awaited_component x a.command.nonce) a.command (op_of y) a.command.action
  command_events t a has = rw (call_is, here, holds, has) refl

  -- the line of a command, whose bytes are read as it is
  command_line : (l : Log) (n logged : ℕ) (a : Awaited) (o : Option ℕ) →
      at_number l.pending c ≡ Some (record { call = y; entry = o }) →
      commands.reading (commands.spelling a.command) ≡ Ok a.command →
      log_after l (sent_line n (client_post c logged (to_drive a)).message)
      ≡ sends_command l n c (record { call = y; entry = o }) a.command a.command.action
  command_line l n logged a o has read =
      ap (sends_as l n c) read ∙ ap (sends_in l n c a.command) has

  one_command : (t : State) (l : Log) (pairs : Pairs) (k : Stands file t l pairs) (n logged : ℕ) (a : Awaited) (o : Option ℕ) →
      at_number l.pending c ≡ Some (record { call = y; entry = o }) → t.held c ≡ Some g →
      CommandIs g (is_write (op_of y)) a.command → CallAs pairs (is_write (op_of y)) o (t.call c) →
      CommandGoes file c t (after_all t (table.sends t file c x (to_drive a)))
      (log_after l (sent_line n (client_post c logged (to_drive a)).message)) pairs y
  one_command t l pairs k n logged a o has held is as_ =
      subst (λ (es : List Event). CommandGoes file c t (after_all t es)
      (log_after l (sent_line n (client_post c logged (to_drive a)).message)) pairs y) (sym (command_events t a held))
      (subst (λ (m : Log). CommandGoes file c t
      (after_all t (under_grant c t h g (awaited_component x a.command.nonce) a.command (op_of y) a.command.action)) m pairs y)
      (sym (command_line l n logged a o has is.read))
      (command_goes file c t l pairs k h g n (awaited_component x a.command.nonce) a.command y o is_file has is as_))

  -- Commands, up to any of them.
  pub all_commands : (cs : List Awaited) → ((a : Awaited) → In a cs → CommandIs g (is_write (op_of y)) a.command) →
      (t : State) (l : Log) (pairs : Pairs) → Stands file t l pairs → (o : Option ℕ) →
      at_number l.pending c ≡ Some (record { call = y; entry = o }) → t.held c ≡ Some g →
      CallAs pairs (is_write (op_of y)) o (t.call c) → (wrote : Bool) (logged number n : ℕ) →
      CommandGoes file c t (machine_to t file c x (map to_drive cs) n) (log_to l c wrote logged number (map to_drive cs) n)
      pairs y
  all_commands [] each t l pairs k o has held as_ wrote logged number n =
      subst (λ (u : State). CommandGoes file c t u (log_to l c wrote logged number [] n) pairs y)
      (sym (none_machine t file c x n))
      (subst (λ (m : Log). CommandGoes file c t t m pairs y) (sym (none_log l c wrote logged number n)) (record {
        pairs = pairs;
        more = λ i j q. q;
        stands = k;
        entry_now = o;
        has = has;
        as_ = as_;
        held = refl;
      }))
  all_commands (a ∷ cs) each t l pairs k o has held as_ wrote logged number zero = record {
    pairs = pairs;
    more = λ i j q. q;
    stands = k;
    entry_now = o;
    has = has;
    as_ = as_;
    held = refl;
  }
  all_commands (a ∷ cs) each t l pairs k o has held as_ wrote logged number (suc n) =
      let w : Bool = is_write_out (to_drive a) in
      let size : ℕ = if w && not wrote then logged else 0 in
      let u : State = after_all t (table.sends t file c x (to_drive a)) in
      let m : Log = log_after l (sent_line number (client_post c size (to_drive a)).message) in
      let one : CommandGoes file c t u m pairs y =
      one_command t l pairs k number size a o has held (each a (inl refl)) as_ in
      let rest : CommandGoes file c u (machine_to u file c x (map to_drive cs) n)
      (log_to m c (wrote || w) logged (number + 1) (map to_drive cs) n) one.pairs y =
      all_commands cs (λ b q. each b (inr q)) u m one.pairs one.stands one.entry_now one.has (one.held ∙ held) one.as_
      (wrote || w) logged (number + 1) n in
      subst (λ (v : State). CommandGoes file c t v (log_to l c wrote logged number (map to_drive (a ∷ cs)) (suc n)) pairs y)
      (sym (machine_next t file c x (to_drive a) (map to_drive cs) n))
      (subst (λ (z : Log). CommandGoes file c t (machine_to u file c x (map to_drive cs) n) z pairs y)
      (sym (log_next l c wrote logged number (to_drive a) (map to_drive cs) n))
      (goes_more file c t u (machine_to u file c x (map to_drive cs) n) m
      (log_to m c (wrote || w) logged (number + 1) (map to_drive cs) n) pairs y one rest))

-- ---- commands of a call on another file, or without one

-- client c has no pending call on the file
abbrev pub NotHere : (file c : ℕ) → Log → Type 0
NotHere file c l = (p : Pending) → at_number l.pending c ≡ Some p → file_of (op_of p.call) ≡ file → ⊥

module _ (file c : ℕ) (t : State) where
  -- behind a line that begins no entry of the file
  record KeepsAll (l m : Log) (pairs : Pairs) : Type 0 where
    stands : Stands file t m pairs
    off : NotHere file c m

  begins_off : (l : Log) (pairs : Pairs) → Stands file t l pairs → NotHere file c l → (p : Pending) →
      at_number l.pending c ≡ Some p → (f g : ℕ) (e : Entry) → f ≡ file_of (op_of p.call) → IsOfCall e p.call →
      KeepsAll l (starts l c p f g e) pairs
  begins_off l pairs k off p has f g e is kind = record {
    stands = record {
      paired =
          same_entries t file l.entries (l.entries ++ begun_entry c f g e ∷ []) pairs
          (λ i x q here. get_more l.entries (begun_entry c f g e ∷ []) i x q)
          (λ i x q here. elim (get_either l.entries (begun_entry c f g e) x i q) [
            | inl old ↦ old
            | inr new ↦ absurd (off p has (sym is ∙ ap (λ (z : Logged). z.file) new.1 ∙ here))
          ]) k.paired;
      single = k.single;
      named = starts_named l c p f g e has is kind k.named;
      untold = k.untold;
    };
    off = λ q there here.
        let found : Some (record p { entry = Some (length l.entries) }) ≡ Some q =
        sym (lookup_inserted l.pending c _) ∙ there in
        let it : record p { entry = Some (length l.entries) } ≡ q = cc found in
        off p has (ap (λ (z : Pending). file_of (op_of z.call)) it ∙ here);
  }

  begins_by : (l : Log) (pairs : Pairs) → Stands file t l pairs → NotHere file c l → (p : Pending) →
      at_number l.pending c ≡ Some p → (f g : ℕ) (e : Entry) → f ≡ file_of (op_of p.call) → IsOfCall e p.call →
      (o : Option ℕ) → KeepsAll l (begins_beside l c p f g e o) pairs
  begins_by l pairs k off p has f g e is kind None = begins_off l pairs k off p has f g e is kind
  begins_by l pairs k off p has f g e is kind (Some n) = record { stands = k; off = off }

  command_off : (l : Log) (pairs : Pairs) → Stands file t l pairs → NotHere file c l → (y : ToldCall) (o : Option ℕ) →
      at_number l.pending c ≡ Some (record { call = y; entry = o }) → (number : ℕ) (x : Command) (a : Action) →
      KeepsAll l (sends_command l number c (record { call = y; entry = o }) x a) pairs
  command_off l pairs k off (told.Write f offset bytes) o has number x action.Write =
      let r = begins_by l pairs k off (record { call = told.Write f offset bytes; entry = o }) has f x.capability.grant
      (entry.Write offset bytes false) refl tt o in
      record {
        stands =
            other_writes file t
            (begins_beside l c (record { call = told.Write f offset bytes; entry = o }) f x.capability.grant
            (entry.Write offset bytes false) o) pairs _ r.stands;
        off = r.off;
      }
  command_off l pairs k off (told.Read f offset count) o has number x action.Write = record { stands = k; off = off }
  command_off l pairs k off (told.Write f offset bytes) o has number x action.Read = record { stands = k; off = off }
  command_off l pairs k off (told.Read f offset count) o has number x action.Read =
      begins_by l pairs k off (record { call = told.Read f offset count; entry = o }) has f x.capability.grant
      (entry.Read offset count None) refl refl o
  command_off l pairs k off y o has number x a = record { stands = k; off = off }

  read_off : (l : Log) (pairs : Pairs) → Stands file t l pairs → NotHere file c l → (number : ℕ) (x : Command)
      (p : Option Pending) → at_number l.pending c ≡ p → KeepsAll l (sends_in l number c x p) pairs
  read_off l pairs k off number x None e = record { stands = k; off = off }
  read_off l pairs k off number x (Some p) e = command_off l pairs k off p.call p.entry e number x x.action

  line_off : (l : Log) (pairs : Pairs) → Stands file t l pairs → NotHere file c l → (number : ℕ)
      (r : Result Command CommandErr) → KeepsAll l (sends_as l number c r) pairs
  line_off l pairs k off number (Ok x) = read_off l pairs k off number x (at_number l.pending c) refl
  line_off l pairs k off number (Err e) = record { stands = k; off = off }

  -- Commands of which the machine knows nothing, up to any of them.
  pub all_off : (x : Client) (cs : List Awaited) → ((a : Awaited) → table.sends t file c x (to_drive a) ≡ []) → (l : Log)
      (pairs : Pairs) → Stands file t l pairs → NotHere file c l → (wrote : Bool) (logged number n : ℕ) →
      (machine_to t file c x (map to_drive cs) n ≡ t) × Stands file t (log_to l c wrote logged number (map to_drive cs) n) pairs
      × NotHere file c (log_to l c wrote logged number (map to_drive cs) n)
  all_off x [] none l pairs k off wrote logged number n = (
    none_machine t file c x n,
    subst (λ (m : Log). Stands file t m pairs) (sym (none_log l c wrote logged number n)) k,
    subst (λ (m : Log). NotHere file c m) (sym (none_log l c wrote logged number n)) off,
  )
  all_off x (a ∷ cs) none l pairs k off wrote logged number zero = (refl, k, off)
  all_off x (a ∷ cs) none l pairs k off wrote logged number (suc n) =
      let w : Bool = is_write_out (to_drive a) in
      let one = line_off l pairs k off number (commands.reading (commands.spelling a.command)) in
      let m : Log = sends_as l number c (commands.reading (commands.spelling a.command)) in
      let rest = all_off x cs none m pairs one.stands one.off (wrote || w) logged (number + 1) n in
      let next = log_next l c wrote logged number (to_drive a) (map to_drive cs) n in (
        machine_next t file c x (to_drive a) (map to_drive cs) n
            ∙ ap (λ (es : List Event). machine_to (after_all t es) file c x (map to_drive cs) n) (none a) ∙ rest.0,
        subst (λ (z : Log). Stands file t z pairs) (sym next) rest.1,
        subst (λ (z : Log). NotHere file c z) (sym next) rest.2,
      )
