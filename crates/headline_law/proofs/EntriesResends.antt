-- A client that sends its messages again begins no entry: each command is of a call that has its entry, or a READ of a write.
-- Towards `CutsShowEntries` (`specs/Parts.antt`).
use Rattle.std.proofs.Common.{◌≡◌, ◌⊎◌, ◌==◌, ◌||◌, ◌&&◌, not, ℕ, zero, suc, ◌+◌, Bool, true, false, List, [], ◌∷◌, ◌++◌, map, Option, Some, None, Result, Ok, Err, refl, sym, ap, subst, ◌∙◌, inl, inr, eq-eqb, if◌then◌else◌}
use Rattle.std.specs.Prelude.{option_map}
use Rattle.std.proofs.lemmas.Bool.{true≢false, cases_Bool}
use Rattle.osd_commands.specs.declared.actions.Action.{Action}
use Rattle.osd_commands.specs.declared.actions.Action.TheVariants as action
use Rattle.osd_commands.specs.declared.commands.Command.{Command}
use Rattle.osd_commands.specs.declared.commands.CommandErr.{CommandErr}
use Rattle.osd_commands.specs.Commands as commands
use Rattle.file_log.specs.declared.entry.Entry.{Entry}
use Rattle.file_log.specs.declared.entry.Entry.TheVariants as entry
use Rattle.scenario_text.specs.declared.event.Call.{Call as ToldCall}
use Rattle.scenario_text.specs.declared.event.Call.TheVariants as told
use Rattle.server_rules.specs.Laws.{In}
use Rattle.client_rules.specs.Calls.{file_of, is_write}
use Rattle.client_rules.specs.Io.{awaited_in}
use Rattle.client_rules.specs.Messages.{to_drive, awaited_of}
use Rattle.client_rules.specs.Steps.{outstanding_sends, resent}
use Rattle.client_rules.specs.Commands.{in_order}
use Rattle.world_history.specs.ClientNames as client_rules
use Rattle.world_history.specs.ClientNames.{Client, Call, Awaited, Outgoing, Request, Phase, Starts, Needs, Waits, Reads, Probes, Gathers, Scatters}
use Rattle.world_history.specs.State.{at_number}
use Rattle.world_history.specs.Moves.{op_of}
use Rattle.world_history.specs.Handed.{client_post, is_write_out, pending_op}
use Rattle.world_history.specs.Sending.{sent_line}
use Rattle.world_history.specs.ReadLog.{Pending, Logged, Log, log_after, begins_beside, entry_in, sends_read, sends_in, sends_as, sends_command}
use Rattle.history_law.proofs.Spelled.{command_reads}
use Rattle.exchange_law.proofs.RefusalSending.{IsOf, resent_awaited}
use Rattle.fence_law.specs.State.{State}
use Rattle.file_simulation.specs.Messages.{is_scatter}
use Rattle.file_simulation.specs.Showing.{Pairs, ArePaired}
use Rattle.file_simulation.specs.Tied.{PhaseTied, CallTied}
use Rattle.relation_law.specs.CallsTurns.{IsWorking}
use Rattle.exchange_law.specs.Pending.{logged_op}
use Rattle.relation_law.specs.ReadsDrive.{IsReadOf}
use Rattle.relation_law.specs.Working.{CallWorks, ClientWorks}
use Rattle.relation_law.proofs.MessagesClients.{GathersFor, IsFit}
use Rattle.relation_law.proofs.MessagesRun.{CallFits, IsFine}
use Rattle.headline_law.proofs.EntriesCalls.{Stands}
use Rattle.headline_law.proofs.EntriesMessages.{log_to, none_log, log_next, NotHere, all_off}

-- ---- the line of a command

-- the entries and the pending calls are those of before
pub record LeavesCalls (l m : Log) : Type 0 where
  pub entries : m.entries ≡ l.entries
  pub pending : m.pending ≡ l.pending

same_calls : (l : Log) → LeavesCalls l l
same_calls l = record { entries = refl; pending = refl }

-- A command begins no entry for this pending call: there is none, it has an entry, or the command is a READ of a write.
abbrev pub BeginsNone : Command → Option Pending → Type 0
BeginsNone x None = Unit {0}
BeginsNone x (Some p) = ((n : ℕ) × (p.entry ≡ Some n)) ⊎ ((x.action ≡ action.Read) × (is_write (op_of p.call) ≡ true))

begins_not : (l : Log) (c : ℕ) (p : Pending) (f g : ℕ) (e : Entry) (o : Option ℕ) (n : ℕ) → o ≡ Some n →
    begins_beside l c p f g e o ≡ l
begins_not l c p f g e None n is = absurd (cc is)
begins_not l c p f g e (Some k) n is = refl

of_same : (l m : Log) → m ≡ l → LeavesCalls l m
of_same l m e = record { entries = ap (λ (q : Log). q.entries) e; pending = ap (λ (q : Log). q.pending) e }

has_entry : (l : Log) (number c : ℕ) (x : Command) (y : ToldCall) (o : Option ℕ) (n : ℕ) → o ≡ Some n → (a : Action) →
    LeavesCalls l (sends_command l number c (record { call = y; entry = o }) x a)
has_entry l number c x (told.Write f offset bytes) o n is action.Write =
    let e = begins_not l c (record { call = told.Write f offset bytes; entry = o }) f x.capability.grant
    (entry.Write offset bytes false) o n is in
    record { entries = ap (λ (q : Log). q.entries) e; pending = ap (λ (q : Log). q.pending) e }
has_entry l number c x (told.Read f offset count) o n is action.Write = same_calls l
has_entry l number c x (told.Write f offset bytes) o n is action.Read = same_calls l
has_entry l number c x (told.Read f offset count) o n is action.Read =
    of_same l _
    (begins_not l c (record { call = told.Read f offset count; entry = o }) f x.capability.grant
    (entry.Read offset count None) o n is)
has_entry l number c x y o n is a = same_calls l

of_write : (l : Log) (c : ℕ) (x : Command) (y : ToldCall) (o : Option ℕ) → is_write (op_of y) ≡ true →
    LeavesCalls l (sends_read l c (record { call = y; entry = o }) x y)
of_write l c x (told.Write f offset bytes) o w = same_calls l
of_write l c x (told.Read f offset count) o w = absurd (true≢false (sym w))

in_call : (l : Log) (number c : ℕ) (x y : Command) → y.action ≡ x.action → (q : Option Pending) → BeginsNone x q →
    LeavesCalls l (sends_in l number c y q)
in_call l number c x y same None k = same_calls l
in_call l number c x y same (Some p) (inl e) = has_entry l number c y p.call p.entry e.0 e.1 y.action
in_call l number c x y same (Some p) (inr r) =
    subst (λ (a : Action). LeavesCalls l (sends_command l number c p y a)) (sym (same ∙ r.0))
    (of_write l c y p.call p.entry r.1)

as_read : (l : Log) (number c : ℕ) (x : Command) (q : Option Pending) → at_number l.pending c ≡ q → BeginsNone x q →
    (r : Result Command CommandErr) → commands.reading (commands.spelling x) ≡ r → LeavesCalls l (sends_as l number c r)
as_read l number c x q has k (Ok y) e =
    subst (λ (o : Option Pending). LeavesCalls l (sends_in l number c y o)) (sym has)
    (in_call l number c x y (command_reads x y e).action q k)
as_read l number c x q has k (Err w) e = same_calls l

-- ---- messages

one_leaves : (c : ℕ) (q : Option Pending) (o : Outgoing) →
    ((d : ℕ) (x : Command) → client_rules.ToDrive d x ≡ o → BeginsNone x q) → (l : Log) → at_number l.pending c ≡ q →
    (size number : ℕ) → LeavesCalls l (log_after l (sent_line number (client_post c size o).message))
one_leaves c q (client_rules.ToDrive d x) each l has size number =
    as_read l number c x q has (each d x refl) (commands.reading (commands.spelling x)) refl
one_leaves c q (client_rules.AnswersRecall a) each l has size number = same_calls l
one_leaves c q (client_rules.Asks r) each l has size number = same_calls l

-- Messages of client c, up to any of them.
pub messages_leave : (c : ℕ) (q : Option Pending) (os : List Outgoing) →
    ((d : ℕ) (x : Command) → In (client_rules.ToDrive d x) os → BeginsNone x q) → (l : Log) → at_number l.pending c ≡ q →
    (wrote : Bool) (logged number n : ℕ) → LeavesCalls l (log_to l c wrote logged number os n)
messages_leave c q [] each l has wrote logged number n =
    subst (LeavesCalls l) (sym (none_log l c wrote logged number n)) (same_calls l)
messages_leave c q (o ∷ os) each l has wrote logged number zero = same_calls l
messages_leave c q (o ∷ os) each l has wrote logged number (suc n) =
    let size : ℕ = if is_write_out o && not wrote then logged else 0 in
    let m : Log = log_after l (sent_line number (client_post c size o).message) in
    let one : LeavesCalls l m = one_leaves c q o (λ d x e. each d x (inl e)) l has size number in
    let rest = messages_leave c q os (λ d x i. each d x (inr i)) m
    (ap (λ (ps : List (ℕ × Pending)). at_number ps c) one.pending ∙ has) (wrote || is_write_out o) logged (number + 1) n in
    subst (LeavesCalls l) (sym (log_next l c wrote logged number o os n)) (record {
      entries = rest.entries ∙ one.entries;
      pending = rest.pending ∙ one.pending;
    })

-- ---- those of a client

module _ (s : State) (file c : ℕ) (pairs : Pairs) (x : Client) (l : Log) (stands : Stands file s l pairs)
    (agrees : logged_op (at_number l.pending c) ≡ pending_op x)
    (tied : CallTied s file c pairs (entry_in (at_number l.pending c)) x.call) (fine : IsFine x) (works : ClientWorks x) where
  abbrev q_ : Option Pending
  q_ = at_number l.pending c

  -- what a call on the file awaits
  awaited_begin : (call : Call) → x.call ≡ Some call → (file_of call.op == file) ≡ true → (a : Awaited) →
      In a (awaited_in call.phase) → BeginsNone a.command q_
  awaited_begin call is here a i = by q_ agrees tied
    where
      in_phase : (p : Pending) → op_of p.call ≡ call.op → PhaseTied s c pairs p.entry call.phase → (f : Phase) →
          call.phase ≡ f → BeginsNone a.command (Some p)
      in_phase p op t Starts e = absurd (subst (λ (f : Phase). In a (awaited_in f)) e i)
      in_phase p op t (Needs n) e = absurd (subst (λ (f : Phase). In a (awaited_in f)) e i)
      in_phase p op t (Waits n) e = absurd (subst (λ (f : Phase). In a (awaited_in f)) e i)
      in_phase p op t (Reads io) e =
          let z = subst (PhaseTied s c pairs p.entry) e t in inl (z.0, z.1)
      in_phase p op t (Probes io) e =
          let z = subst (PhaseTied s c pairs p.entry) e t in inl (z.0, z.1)
      in_phase p op t (Scatters io queue) e =
          let z = subst (PhaseTied s c pairs p.entry) e t in inl (z.0, z.1)
      in_phase p op t (Gathers io) e =
          let all : CallWorks x.held (Some call) = subst (CallWorks x.held) is works in
          let h = all.0 (subst IsWorking (sym e) tt) in
          let read : IsReadOf a = ((all.1 h.0 h.1).ones a i).read (ap is_scatter e) in
          let fits : CallFits x.held (Some call) = subst (CallFits x.held) is fine.call in
          let gathers : GathersFor h.0 call.op io = subst (IsFit h.0 call.op) e (fits.1 h.0 h.1) in
          inr (read.action_is, ap is_write op ∙ gathers.is)

      by : (o : Option Pending) → logged_op o ≡ pending_op x → CallTied s file c pairs (entry_in o) x.call →
          BeginsNone a.command o
      by None same t = tt
      by (Some p) same t =
          let ops : Some (op_of p.call) ≡ Some call.op = same ∙ ap (option_map (λ (y : Call). y.op)) is in
          in_phase p (cc ops) (subst (CallTied s file c pairs p.entry) is t here) call.phase refl

  -- each command that it sends again, if its call is on the file
  resent_begin : ((call : Call) → x.call ≡ Some call → (file_of call.op == file) ≡ true) → (d : ℕ) (y : Command) →
      In (client_rules.ToDrive d y) (resent x) → BeginsNone y q_
  resent_begin here d y i = by x.call refl
    where
      r : IsOf (awaited_of x.call) d y
      r = resent_awaited x d y i

      by : (o : Option Call) → x.call ≡ o → BeginsNone y q_
      by None is = absurd (subst (λ (o : Option Call). In r.awaited (awaited_of o)) is r.there)
      by (Some call) is =
          subst (λ (z : Command). BeginsNone z q_) r.command
          (awaited_begin call is (here call is) r.awaited
          (subst (λ (o : Option Call). In r.awaited (awaited_of o)) is r.there))

  abbrev Paired : Log → Type 0
  Paired m = ArePaired s file m.entries pairs

  resent_here : ((call : Call) → x.call ≡ Some call → (file_of call.op == file) ≡ true) →
      (wrote : Bool) (logged number n : ℕ) → Paired (log_to l c wrote logged number (resent x) n)
  resent_here here wrote logged number n =
      subst (λ (es : List Logged). ArePaired s file es pairs)
      (sym (messages_leave c q_ (resent x) (resent_begin here) l refl wrote logged number n).entries) stands.paired

  -- a call on another file
  resent_elsewhere : (call : Call) → x.call ≡ Some call → (file_of call.op == file) ≡ false →
      (wrote : Bool) (logged number n : ℕ) → Paired (log_to l c wrote logged number (resent x) n)
  unfolding resent
  resent_elsewhere call is other wrote logged number n =
      behind x.outstanding (in_order (awaited_of x.call)) wrote logged number n
    where
      off : NotHere file c l
      off p there here =
          let ops : Some (op_of p.call) ≡ Some call.op =
          ap logged_op (sym there) ∙ agrees ∙ ap (option_map (λ (y : Call). y.op)) is in
          let op : op_of p.call ≡ call.op = cc ops in
          true≢false (sym (eq-eqb (file_of call.op) file (ap file_of (sym op) ∙ here)) ∙ other)

      alone : (cs : List Awaited) (wrote : Bool) (logged number n : ℕ) →
          Paired (log_to l c wrote logged number (map to_drive cs) n)
      alone cs wrote logged number n =
          (all_off file c s (record x { call = None }) cs (λ a. refl) l pairs stands off wrote logged number n).1.paired

      behind : (o : Option Request) (cs : List Awaited) (wrote : Bool) (logged number n : ℕ) →
          Paired (log_to l c wrote logged number (outstanding_sends o ++ map to_drive cs) n)
      behind None cs wrote logged number n = alone cs wrote logged number n
      behind (Some r) cs wrote logged number zero = stands.paired
      behind (Some r) cs wrote logged number (suc n) =
          subst Paired (sym (log_next l c wrote logged number (client_rules.Asks r) (map to_drive cs) n))
          (alone cs (wrote || is_write_out (client_rules.Asks r)) logged (number + 1) n)

  -- Its messages sent again leave the entries paired, up to any of them.
  -- and so are the pending calls, where its call is on the file
  pub resent_pending : ((call : Call) → x.call ≡ Some call → (file_of call.op == file) ≡ true) → (wrote : Bool)
      (logged number n : ℕ) → (log_to l c wrote logged number (resent x) n).pending ≡ l.pending
  resent_pending here wrote logged number n =
      (messages_leave c q_ (resent x) (resent_begin here) l refl wrote logged number n).pending

  pub resent_paired : (wrote : Bool) (logged number n : ℕ) → Paired (log_to l c wrote logged number (resent x) n)
  resent_paired wrote logged number n = by x.call refl
    where
      by : (o : Option Call) → x.call ≡ o → Paired (log_to l c wrote logged number (resent x) n)
      by None is = resent_here (λ call now. absurd (cc (sym is ∙ now))) wrote logged number n
      by (Some call) is = elim (cases_Bool (file_of call.op == file)) [
        | inl t ↦
            resent_here
            (λ call2 now.
            (let same : Some call ≡ Some call2 = sym is ∙ now in
            let it : call ≡ call2 = cc same in
            subst (λ (y : Call). (file_of y.op == file) ≡ true) it t)) wrote logged number n
        | inr f ↦ resent_elsewhere call is f wrote logged number n
      ]
