-- Behind any lines the pending calls stand by rising clients, and the entry of each is of its file and kind.
-- Towards `CutsShowEntries` (`specs/Parts.antt`).
use Rattle.std.proofs.Common.{◌≡◌, ℕ, false, List, [], ◌∷◌, map, slice_get, Option, Some, None, Result, Ok, Err, refl, sym, ap, subst, ◌∙◌, inl, inr}
use Rattle.std.specs.List.{fold}
use Rattle.std.specs.Prelude.{option_map}
use Rattle.std.proofs.lemmas.Bool.{cases_eq}
use Rattle.osd_objects.proofs.Entries.{lookup_inserted, lookup_beside}
use Rattle.component_law.proofs.Lists.{get_map}
use Rattle.osd_commands.specs.declared.actions.Action.{Action}
use Rattle.osd_commands.specs.declared.actions.Action.TheVariants as action
use Rattle.osd_commands.specs.declared.commands.Command.{Command}
use Rattle.osd_commands.specs.declared.commands.CommandErr.{CommandErr}
use Rattle.osd_commands.specs.Commands as commands
use Rattle.file_log.specs.declared.entry.Entry.{Entry}
use Rattle.file_log.specs.declared.entry.Entry.TheVariants as entry
use Rattle.scenario_text.specs.declared.event.Call.{Call}
use Rattle.scenario_text.specs.declared.event.Call.TheVariants as call
use Rattle.scenario_text.specs.declared.event.Event.{Event}
use Rattle.scenario_text.specs.declared.event.Event.TheVariants as event
use Rattle.scenario_text.specs.declared.line.Party.{Party}
use Rattle.scenario_text.specs.declared.line.Party.TheVariants as party
use Rattle.scenario_text.specs.declared.line.Ending.TheVariants as ending
use Rattle.scenario_text.specs.declared.line.Outcome.{Outcome}
use Rattle.scenario_text.specs.declared.line.Outcome.TheVariants as outcome
use Rattle.scenario_text.specs.declared.line.Refusal.{Refusal}
use Rattle.scenario_text.specs.declared.line.Refusal.TheVariants as refusal
use Rattle.scenario_text.specs.declared.line.Line.{Line}
use Rattle.scenario_text.specs.declared.line.Line.TheVariants as line
use Rattle.client_rules.specs.Calls.{file_of}
use Rattle.world_history.specs.Moves.{op_of}
use Rattle.world_history.specs.State.{at_number, and_number, without_number}
use Rattle.world_history.specs.ReadLog.{Pending, Logged, Log, called_beside, log_after_event, refused, ended, ends, begins_beside, sends_write, sends_read, sends_command, sends_in, sends_as, sends, log_after, log_in, empty_log}
use Rattle.exchange_law.proofs.PendingEntries.{AreRising, rising_inserted, rising_removed, removed_there, removed_beside}
use Rattle.headline_law.proofs.EntriesCalls.{IsEntryOf, IsOfCall, AreNamed, starts_named}
use Rattle.headline_law.proofs.EntriesEnds.{ends_named}
use Rattle.headline_law.proofs.EntriesRead.{untaken, plain}

-- both
abbrev pub IsWell : Log → Type 0
IsWell l = AreRising l.pending × AreNamed l

-- ---- lines

called_well : (l : Log) (c : ℕ) (x : Call) (o : Option Pending) → IsWell l → IsWell (called_beside l c x o)
called_well l c x (Some p) k = k
called_well l c x None k = (
  rising_inserted c new l.pending k.0,
  λ d n p there is. elim (cases_eq d c) [
    | inl same ↦
        let found : Some new ≡ Some p =
        sym (lookup_inserted l.pending c new) ∙ sym (ap (at_number (and_number l.pending c new)) same) ∙ there in
        let it : new ≡ p = cc found in
        let none : None ≡ Some n = ap (λ (q : Pending). q.entry) it ∙ is in absurd (cc none)
    | inr other ↦ k.1 d n p (sym (lookup_beside l.pending c d new other) ∙ there) is
  ],
)
  where
    new : Pending
    new = record { call = x; entry = None }

event_well : (l : Log) (e : Event) → IsWell l → IsWell (log_after_event l e)
event_well l (event.Do c x) k = called_well l c x (at_number l.pending c) k
event_well l (event.Call c x) k = called_well l c x (at_number l.pending c) k
event_well l e k = k

without_well : (l : Log) (c : ℕ) → IsWell l → IsWell (record l { pending = without_number l.pending c })
without_well l c k = (
  rising_removed c l.pending k.0,
  λ d n p there is. elim (cases_eq d c) [
    | inl same ↦
        let none : at_number (without_number l.pending c) d ≡ None =
        ap (at_number (without_number l.pending c)) same ∙ removed_there c l.pending k.0 in
        absurd (cc (sym there ∙ none))
    | inr other ↦ k.1 d n p (sym (removed_beside c d l.pending other) ∙ there) is
  ],
)

refused_well : (l : Log) (c : ℕ) (r : Refusal) → IsWell l → IsWell (refused l c r)
refused_well l c refusal.Busy k = k
refused_well l c r k = without_well l c k

ends_well : (l : Log) (c : ℕ) (o : Outcome) → IsWell l → IsWell (ends l c o)
ends_well l c o k = (rising_removed c l.pending k.0, ends_named l c o k.0 k.1)

ended_well : (l : Log) (c : ℕ) (o : Outcome) → IsWell l → IsWell (ended l c o)
ended_well l c (outcome.Failed kind ending.Pending) k = k
ended_well l c o k = ends_well l c o k

begins_well : (l : Log) (c : ℕ) (p : Pending) → at_number l.pending c ≡ Some p → (f g : ℕ) (e : Entry) →
    f ≡ file_of (op_of p.call) → IsOfCall e p.call → (o : Option ℕ) → IsWell l → IsWell (begins_beside l c p f g e o)
begins_well l c p has f g e is kind None k = (rising_inserted c _ l.pending k.0, starts_named l c p f g e has is kind k.1)
begins_well l c p has f g e is kind (Some n) k = k

write_well : (l : Log) (number c : ℕ) (y : Call) (o : Option ℕ) → at_number l.pending c ≡ Some (record { call = y; entry = o }) →
    (x : Command) → IsWell l → IsWell (sends_write l number c (record { call = y; entry = o }) x y)
write_well l number c (call.Write f offset bytes) o has x k =
    begins_well l c (record { call = call.Write f offset bytes; entry = o }) has f x.capability.grant
    (entry.Write offset bytes false) refl tt o k
write_well l number c (call.Read f offset count) o has x k = k

read_well : (l : Log) (c : ℕ) (y : Call) (o : Option ℕ) → at_number l.pending c ≡ Some (record { call = y; entry = o }) →
    (x : Command) → IsWell l → IsWell (sends_read l c (record { call = y; entry = o }) x y)
read_well l c (call.Write f offset bytes) o has x k = k
read_well l c (call.Read f offset count) o has x k =
    begins_well l c (record { call = call.Read f offset count; entry = o }) has f x.capability.grant
    (entry.Read offset count None) refl refl o k

command_well : (l : Log) (number c : ℕ) (p : Pending) → at_number l.pending c ≡ Some p → (x : Command) (a : Action) →
    IsWell l → IsWell (sends_command l number c p x a)
command_well l number c p has x action.Write k = write_well l number c p.call p.entry has x k
command_well l number c p has x action.Read k = read_well l c p.call p.entry has x k
command_well l number c p has x a k = k

in_well : (l : Log) (number c : ℕ) (x : Command) (o : Option Pending) → at_number l.pending c ≡ o → IsWell l →
    IsWell (sends_in l number c x o)
in_well l number c x None e k = k
in_well l number c x (Some p) e k = command_well l number c p e x x.action k

as_well : (l : Log) (number c : ℕ) (r : Result Command CommandErr) → IsWell l → IsWell (sends_as l number c r)
as_well l number c (Ok x) k = in_well l number c x (at_number l.pending c) refl k
as_well l number c (Err e) k = k

message_well : (l : Log) (number : ℕ) (from to : Party) (bytes : List ℕ) → IsWell l → IsWell (sends l number from to bytes)
message_well l number (party.Client c) (party.Drive d) bytes k = as_well l number c (commands.reading bytes) k
message_well l number from to bytes k = k

pub after_well : (l : Log) (x : Line) → IsWell l → IsWell (log_after l x)
after_well l (line.Event e) k = event_well l e k
after_well l (line.Refused c why) k = refused_well l c why k
after_well l (line.Ended c o) k = ended_well l c o k
after_well l (line.Message number from to bytes) k = message_well l number from to bytes k
after_well l other k = k

pub lines_well : (l : Log) (xs : List Line) → IsWell l → IsWell (fold log_after l xs)
lines_well l [] k = k
lines_well l (x ∷ xs) k = lines_well (log_after l x) xs (after_well l x k)

-- so it is of each history
pub log_well : (h : List Line) → IsWell (log_in h)
log_well h = lines_well empty_log h (tt, λ c n p there is. absurd (cc there))

-- and of a log that is the same but for what was taken
pub plain_well : (l : Log) → IsWell (plain l) → IsWell l
plain_well l k = (k.0, λ c n p there is. older p n (k.1 c n p there is))
  where
    found : (o : Option Logged) (e : Logged) → option_map untaken o ≡ Some e → (x : Logged) × (o ≡ Some x) × (untaken x ≡ e)
    found None e q = absurd (cc q)
    found (Some x) e q = (x, refl, cc q)

    older : (p : Pending) (n : ℕ) → IsEntryOf (map untaken l.entries) p.call n → IsEntryOf l.entries p.call n
    older p n z =
        let r = found (slice_get l.entries n) z.logged (sym (get_map untaken l.entries n) ∙ z.there) in
        record {
          logged = r.0;
          there = r.1;
          file = ap (λ (e : Logged). e.file) r.2 ∙ z.file;
          kind = subst (λ (e : Entry). IsOfCall e p.call) (sym (ap (λ (e : Logged). e.entry) r.2)) z.kind;
        }
