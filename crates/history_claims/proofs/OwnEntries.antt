-- Behind any lines the entry of each pending call is the call's own.
use Rattle.std.proofs.Common.{◌≡◌, ℕ, zero, suc, false, List, [], ◌∷◌, length, slice_get, slice_set, Option, Some, None, Result, Ok, Err, refl, sym, ap, subst, ◌∙◌, inl, inr}
use Rattle.std.specs.List.{fold}
use Rattle.std.proofs.lemmas.Bool.{cases_eq}
use Rattle.std.proofs.lemmas.Option.{slice_get_within}
use Rattle.osd_lists.proofs.Slices.{get_set, get_last, get_more}
use Rattle.osd_objects.proofs.Entries.{lookup_inserted, lookup_beside}
use Rattle.osd_commands.specs.declared.actions.Action.{Action}
use Rattle.osd_commands.specs.declared.actions.Action.TheVariants as action
use Rattle.osd_commands.specs.declared.commands.Command.{Command}
use Rattle.osd_commands.specs.declared.commands.CommandErr.{CommandErr}
use Rattle.osd_commands.specs.Commands as commands
use Rattle.file_log.specs.declared.entry.Entry.{Entry}
use Rattle.file_log.specs.declared.entry.Entry.TheVariants as entry
use Rattle.scenario_text.specs.declared.event.Call.{Call}
use Rattle.scenario_text.specs.declared.event.Call.TheVariants as call
use Rattle.scenario_text.specs.declared.event.Event.{Event}
use Rattle.scenario_text.specs.declared.event.Event.TheVariants as event
use Rattle.scenario_text.specs.declared.line.Party.{Party}
use Rattle.scenario_text.specs.declared.line.Party.TheVariants as party
use Rattle.scenario_text.specs.declared.line.Ending.TheVariants as ending
use Rattle.scenario_text.specs.declared.line.Outcome.{Outcome}
use Rattle.scenario_text.specs.declared.line.Outcome.TheVariants as outcome
use Rattle.scenario_text.specs.declared.line.Refusal.{Refusal}
use Rattle.scenario_text.specs.declared.line.Refusal.TheVariants as refusal
use Rattle.scenario_text.specs.declared.line.Line.{Line}
use Rattle.scenario_text.specs.declared.line.Line.TheVariants as line
use Rattle.client_rules.specs.Calls.{file_of}
use Rattle.world_history.specs.Moves.{op_of}
use Rattle.world_history.specs.State.{at_number, and_number, without_number}
use Rattle.world_history.specs.ReadLog.{Pending, Logged, Log, called_beside, log_after_event, refused, ended, ends, ended_entry, closed, closed_with, closed_at, entry_in, starts, begins_beside, sends_write, sends_read, sends_command, sends_in, sends_as, sends, log_after, log_in, empty_log}
use Rattle.exchange_law.proofs.PendingEntries.{AreRising, rising_inserted, rising_removed, removed_there, removed_beside}
use Rattle.history_claims.specs.Logged.{IsOfCall, IsOwnEntry}

abbrev pub AreOwn : Log → Type 0
AreOwn l = (c n : ℕ) (p : Pending) → at_number l.pending c ≡ Some p → p.entry ≡ Some n → IsOwnEntry l.entries c p.call n

-- another place of a list that is set
get_beside : {A : Type 0} (xs : List A) (n i : ℕ) (x : A) → (i ≡ n → ⊥) → slice_get (slice_set xs n x) i ≡ slice_get xs i
get_beside [] n i x ne = refl
get_beside (y ∷ xs) zero zero x ne = absurd (ne refl)
get_beside (y ∷ xs) zero (suc i) x ne = refl
get_beside (y ∷ xs) (suc n) zero x ne = refl
get_beside (y ∷ xs) (suc n) (suc i) x ne = get_beside xs n i x (λ e. ne (ap suc e))

-- both
abbrev pub IsWell : Log → Type 0
IsWell l = AreRising l.pending × AreOwn l

-- ---- a call begins, or is refused

called_well : (l : Log) (c : ℕ) (x : Call) (o : Option Pending) → IsWell l → IsWell (called_beside l c x o)
called_well l c x (Some p) k = k
called_well l c x None k = (
  rising_inserted c new l.pending k.0,
  λ d n p there is. elim (cases_eq d c) [
    | inl same ↦
        let found : Some new ≡ Some p =
        sym (lookup_inserted l.pending c new) ∙ sym (ap (at_number (and_number l.pending c new)) same) ∙ there in
        let it : new ≡ p = cc found in
        let none : None ≡ Some n = ap (λ (q : Pending). q.entry) it ∙ is in absurd (cc none)
    | inr other ↦ k.1 d n p (sym (lookup_beside l.pending c d new other) ∙ there) is
  ],
)
  where
    new : Pending
    new = record { call = x; entry = None }

event_well : (l : Log) (e : Event) → IsWell l → IsWell (log_after_event l e)
event_well l (event.Do c x) k = called_well l c x (at_number l.pending c) k
event_well l (event.Call c x) k = called_well l c x (at_number l.pending c) k
event_well l e k = k

-- the call of a client is pending no more, and the others have their entries still
without_well : (l : Log) (c : ℕ) (es : List Logged) → IsWell l →
    ((d n : ℕ) (x : Call) → IsOwnEntry l.entries d x n → IsOwnEntry es d x n) →
    IsWell (record l { pending = without_number l.pending c; entries = es })
without_well l c es k stay = (
  rising_removed c l.pending k.0,
  λ d n p there is. elim (cases_eq d c) [
    | inl same ↦
        let none : at_number (without_number l.pending c) d ≡ None =
        ap (at_number (without_number l.pending c)) same ∙ removed_there c l.pending k.0 in
        absurd (cc (sym there ∙ none))
    | inr other ↦ stay d n p.call (k.1 d n p (sym (removed_beside c d l.pending other) ∙ there) is)
  ],
)

refused_well : (l : Log) (c : ℕ) (r : Refusal) → IsWell l → IsWell (refused l c r)
refused_well l c refusal.Busy k = k
refused_well l c r k = without_well l c l.entries k (λ d n x own. own)

-- ---- a call ends

-- an entry that is filled in is its call's still
filled_says : (x : Call) (e : Entry) (o : Outcome) → IsOfCall x e → IsOfCall x (ended_entry e o)
filled_says (call.Write f b c) (entry.Write offset bytes a) (outcome.WriteOk n) k = k
filled_says (call.Write f b c) (entry.Write offset bytes a) o k = k
filled_says (call.Read f b c) (entry.Read offset count a) (outcome.ReadOk bytes) k = k
filled_says (call.Read f b c) (entry.Read offset count a) o k = k
filled_says (call.Read f b c) (entry.Write offset bytes a) o k = absurd k
filled_says (call.Write f b c) (entry.Read offset count a) o k = absurd k

closed_own : (es : List Logged) (o : Outcome) (m : ℕ) (e : Option Logged) → slice_get es m ≡ e → (d n : ℕ) (x : Call) →
    IsOwnEntry es d x n → IsOwnEntry (closed_with es m o e) d x n
closed_own es o m None at_ d n x k = k
closed_own es o m (Some e) at_ d n x k = elim (cases_eq n m) [
  | inl is ↦
      let both : Some k.logged ≡ Some e = sym k.there ∙ ap (slice_get es) is ∙ at_ in
      let one : k.logged ≡ e = cc both in
      record {
        logged = closed o e;
        there = ap (slice_get (slice_set es m (closed o e))) is ∙ get_set es m (closed o e) (slice_get_within es m e at_);
        sender = ap (λ (z : Logged). z.client) (sym one) ∙ k.sender;
        file = ap (λ (z : Logged). z.file) (sym one) ∙ k.file;
        says = filled_says x e.entry o (subst (λ (z : Logged). IsOfCall x z.entry) one k.says);
      }
  | inr ne ↦ record {
    logged = k.logged;
    there = get_beside es m n (closed o e) ne ∙ k.there;
    sender = k.sender;
    file = k.file;
    says = k.says;
  }
]

ends_well : (l : Log) (c : ℕ) (o : Outcome) → IsWell l → IsWell (ends l c o)
ends_well l c o k =
    let w = without_well l c (closed_at l.entries o (entry_in (at_number l.pending c))) k
    (closed_all (entry_in (at_number l.pending c))) in (w.0, w.1)
  where
    closed_all : (m : Option ℕ) → (d n : ℕ) (x : Call) → IsOwnEntry l.entries d x n →
        IsOwnEntry (closed_at l.entries o m) d x n
    closed_all None d n x own = own
    closed_all (Some m) d n x own = closed_own l.entries o m (slice_get l.entries m) refl d n x own

ended_well : (l : Log) (c : ℕ) (o : Outcome) → IsWell l → IsWell (ended l c o)
ended_well l c (outcome.Failed kind ending.Pending) k = k
ended_well l c o k = ends_well l c o k

-- ---- an entry begins

begins_well : (l : Log) (c : ℕ) (p : Pending) (g : ℕ) (e : Entry) → IsOfCall p.call e → (o : Option ℕ) → IsWell l →
    IsWell (begins_beside l c p (file_of (op_of p.call)) g e o)
begins_well l c p g e says (Some m) k = k
begins_well l c p g e says None k = (
  rising_inserted c new l.pending k.0,
  λ d n q there is. elim (cases_eq d c) [
    | inl same ↦ mine d n q there is same
    | inr other ↦ older d n q there is other
  ],
)
  where
    new : Pending
    new = record p { entry = Some (length l.entries) }

    begun : Logged
    begun = record { client = c; file = file_of (op_of p.call); grant = g; taken = false; entry = e }

    more : Log
    more = starts l c p (file_of (op_of p.call)) g e

    mine : (d n : ℕ) (q : Pending) → at_number more.pending d ≡ Some q → q.entry ≡ Some n → d ≡ c →
        IsOwnEntry more.entries d q.call n
    mine d n q there is same =
        let found : Some new ≡ Some q =
        sym (lookup_inserted l.pending c new) ∙ sym (ap (at_number (and_number l.pending c new)) same) ∙ there in
        let it : new ≡ q = cc found in
        let at_ : length l.entries ≡ n = cc (ap (λ (z : Pending). z.entry) it ∙ is) in
        let call : p.call ≡ q.call = ap (λ (z : Pending). z.call) it in
        subst (λ (z : Call). IsOwnEntry more.entries d z n) call (record {
          logged = begun;
          there = subst (λ (i : ℕ). slice_get more.entries i ≡ Some begun) at_ (get_last l.entries begun);
          sender = sym same;
          file = refl;
          says = says;
        })

    older : (d n : ℕ) (q : Pending) → at_number more.pending d ≡ Some q → q.entry ≡ Some n → (d ≡ c → ⊥) →
        IsOwnEntry more.entries d q.call n
    older d n q there is other =
        let own = k.1 d n q (sym (lookup_beside l.pending c d new other) ∙ there) is in
        record {
          logged = own.logged;
          there = get_more l.entries (begun ∷ []) n own.logged own.there;
          sender = own.sender;
          file = own.file;
          says = own.says;
        }

write_well : (l : Log) (number c : ℕ) (y : Call) (o : Option ℕ) (x : Command) → IsWell l →
    IsWell (sends_write l number c (record { call = y; entry = o }) x y)
write_well l number c (call.Write f offset bytes) o x k =
    let w = begins_well l c (record { call = call.Write f offset bytes; entry = o }) x.capability.grant
    (entry.Write offset bytes false) (refl, refl) o k in (w.0, w.1)
write_well l number c (call.Read f offset count) o x k = k

read_well : (l : Log) (c : ℕ) (y : Call) (o : Option ℕ) (x : Command) → IsWell l →
    IsWell (sends_read l c (record { call = y; entry = o }) x y)
read_well l c (call.Write f offset bytes) o x k = k
read_well l c (call.Read f offset count) o x k =
    begins_well l c (record { call = call.Read f offset count; entry = o }) x.capability.grant
    (entry.Read offset count None) (refl, refl) o k

command_well : (l : Log) (number c : ℕ) (p : Pending) (x : Command) (a : Action) → IsWell l →
    IsWell (sends_command l number c p x a)
command_well l number c p x action.Write k = write_well l number c p.call p.entry x k
command_well l number c p x action.Read k = read_well l c p.call p.entry x k
command_well l number c p x a k = k

in_well : (l : Log) (number c : ℕ) (x : Command) (o : Option Pending) → IsWell l → IsWell (sends_in l number c x o)
in_well l number c x None k = k
in_well l number c x (Some p) k = command_well l number c p x x.action k

as_well : (l : Log) (number c : ℕ) (r : Result Command CommandErr) → IsWell l → IsWell (sends_as l number c r)
as_well l number c (Ok x) k = in_well l number c x (at_number l.pending c) k
as_well l number c (Err e) k = k

message_well : (l : Log) (number : ℕ) (from to : Party) (bytes : List ℕ) → IsWell l → IsWell (sends l number from to bytes)
message_well l number (party.Client c) (party.Drive d) bytes k = as_well l number c (commands.reading bytes) k
message_well l number from to bytes k = k

-- ---- lines

after_well : (l : Log) (x : Line) → IsWell l → IsWell (log_after l x)
after_well l (line.Event e) k = event_well l e k
after_well l (line.Refused c why) k = refused_well l c why k
after_well l (line.Ended c o) k = ended_well l c o k
after_well l (line.Message number from to bytes) k = message_well l number from to bytes k
after_well l other k = k

lines_well : (l : Log) (xs : List Line) → IsWell l → IsWell (fold log_after l xs)
lines_well l [] k = k
lines_well l (x ∷ xs) k = lines_well (log_after l x) xs (after_well l x k)

-- The entry of each pending call is its own.
pub entries_are_own : (h : List Line) → AreOwn (log_in h)
entries_are_own h = (lines_well empty_log h (tt, λ c n p there is. absurd (cc there))).1
