-- Marks go on where entries change.
use Rattle.std.proofs.Common.{◌≡◌, ◌⊎◌, ℕ, zero, suc, ◌<◌, ◌≤◌, ◌==◌, ◌||◌, ◌&&◌, ◌++◌, ◌∷◌, [], List, Bool, true, false, Option, Some, None, length, slice_get, slice_set, refl, sym, ap, ◌∙◌, arith, inl, inr, eq-eqb, ne_eqb}
use Rattle.std.specs.List.{fold}
use Rattle.std.proofs.lemmas.Bool.{cases_Bool, cases_eq, and_parts, or_cases}
use Rattle.std.proofs.lemmas.Option.{slice_get_within}
use Rattle.std.proofs.lemmas.List.{length-append}
use Rattle.osd_lists.proofs.Tests.{same_number}
use Rattle.osd_lists.proofs.Slices.{length_set}
use Rattle.osd_commands.specs.declared.actions.Action.{Action}
use Rattle.osd_commands.specs.declared.actions.Action.TheVariants as action
use Rattle.osd_commands.specs.declared.commands.Command.{Command}
use Rattle.osd_commands.specs.Commands.{reading}
use Rattle.scenario_text.specs.declared.event.Event.{Event}
use Rattle.scenario_text.specs.declared.event.Event.TheVariants as event
use Rattle.scenario_text.specs.declared.line.Party.{Party}
use Rattle.scenario_text.specs.declared.line.Party.TheVariants as party
use Rattle.scenario_text.specs.declared.line.Ending.TheVariants as ending
use Rattle.scenario_text.specs.declared.line.Outcome.{Outcome}
use Rattle.scenario_text.specs.declared.line.Outcome.TheVariants as outcome
use Rattle.scenario_text.specs.declared.line.Refusal.{Refusal}
use Rattle.scenario_text.specs.declared.line.Refusal.TheVariants as refusal
use Rattle.scenario_text.specs.declared.line.Line.TheVariants as line
use Rattle.server_rules.specs.Numbers.{among}
use Rattle.world_history.specs.ServerNames.{File}
use Rattle.world_history.specs.State.{at_number, without_number}
use Rattle.world_history.specs.Calm.{is_told_taken}
use Rattle.world_history.specs.Stripes.{Mark}
use Rattle.world_calm.specs.declared.calls.LogEntry.{LogEntry}
use Rattle.world_calm.specs.declared.calls.PendingCall.{PendingCall}
use Rattle.world_calm.specs.declared.marks.Marked.{Marked}
use Rattle.world_calm.specs.Read.{command_of}
use Rattle.world_calm.specs.Log.{LogState, called_with, finished_with, finished, is_for, begun_by, begun_for, sent_as, sent_with, number_for, write_by}
use Rattle.world_calm.specs.Marking.{is_of, unmarked}
use Rattle.world_calm.specs.Seeing.{CalmState, writes, numbers_in, logs_event, refused, acknowledged, ended, sent_by, sent, taken_if}
use Rattle.component_law.specs.Words.{Each, is_there}
use Rattle.calm_law.specs.Marks.{any_mark, any_marked, is_open, open_at, IsReal, KeepsMarks, LinesMark, TakenMarks}
use Rattle.component_law.proofs.Lists.{each_more, get_before, get_either}

-- ---- tests

-- ---- what is kept is of entries that aren't finished

-- marks that are kept of an entry show it
pub marked_entry : (there : List File) (es : List LogEntry) (ms : List Marked) (f s n : ℕ)
    → Each (λ m. IsReal es m × (is_there there m.file ≡ true)) ms → any_marked f s n ms ≡ true → open_at es n ≡ true
marked_entry there es [] f s n h e = absurd (cc e)
marked_entry there es (m ∷ ms) f s n h e =
    elim (or_cases (is_of n f m && among s m.stripes) (any_marked f s n ms) e) [
      | inl a ↦
          let of : is_of n f m ≡ true = (and_parts (is_of n f m) (among s m.stripes) a).0 in
          let same : m.write ≡ n = same_number m.write n (and_parts (m.write == n) (m.file == f) of).0 in
          ap (λ (k : ℕ). open_at es k) (sym same) ∙ ap is_open h.0.0
      | inr b ↦ marked_entry there es ms f s n h.1 b
    ]

-- and that its file is there
pub marked_there : (there : List File) (es : List LogEntry) (ms : List Marked) (f s n : ℕ)
    → Each (λ m. IsReal es m × (is_there there m.file ≡ true)) ms → any_marked f s n ms ≡ true → is_there there f ≡ true
marked_there there es [] f s n h e = absurd (cc e)
marked_there there es (m ∷ ms) f s n h e =
    elim (or_cases (is_of n f m && among s m.stripes) (any_marked f s n ms) e) [
      | inl a ↦
          let of : is_of n f m ≡ true = (and_parts (is_of n f m) (among s m.stripes) a).0 in
          let same : m.file ≡ f = same_number m.file f (and_parts (m.write == n) (m.file == f) of).1 in
          ap (is_there there) (sym same) ∙ h.0.1
      | inr b ↦ marked_there there es ms f s n h.1 b
    ]

open_within : (es : List LogEntry) (n : ℕ) (o : Option LogEntry) → slice_get es n ≡ o → is_open o ≡ true → n < length es
open_within es n None e q = absurd (cc q)
open_within es n (Some x) e q = slice_get_within es n x e

-- ---- entries change, and marks with them

-- an entry that isn't finished wasn't, or is new
record Later (es fs : List LogEntry) : Type 0 where
  opens : (n : ℕ) → open_at fs n ≡ true → (open_at es n ≡ true) ⊎ (length es ≤ n)
  long : length es ≤ length fs

later_marks : (there : List File) (es fs : List LogEntry) (ks : List Mark) (ms ns : List Marked) → Later es fs
    → ((f s n : ℕ) → open_at fs n ≡ true → any_marked f s n ns ≡ any_marked f s n ms)
    → Each (λ m. IsReal fs m × (is_there there m.file ≡ true)) ns
    → KeepsMarks there es ks ms → KeepsMarks there fs ks ns
later_marks there es fs ks ms ns l a r h = record {
  same = λ f s n p o. elim (l.opens n o) [
    | inl was ↦ h.same f s n p was ∙ sym (a f s n o)
    | inr new ↦ no_mark f s n new ∙ sym (a f s n o ∙ no_marked f s n new)
  ];
  known = λ f s n e.
      let k : (is_there there f ≡ true) × (n < length es) = h.known f s n e in
      (k.0, omega (arith, k.1, l.long));
  real = r;
}
  where
    no_mark : (f s n : ℕ) → length es ≤ n → any_mark f s n ks ≡ false
    no_mark f s n new = elim (cases_Bool (any_mark f s n ks)) [
      | inl e ↦ absurd (omega (arith, (h.known f s n e).1, new))
      | inr e ↦ e
    ]

    no_marked : (f s n : ℕ) → length es ≤ n → any_marked f s n ms ≡ false
    no_marked f s n new = elim (cases_Bool (any_marked f s n ms)) [
      | inl e ↦ absurd (omega (arith, open_within es n (slice_get es n) refl (marked_entry there es ms f s n h.real e), new))
      | inr e ↦ e
    ]

-- ---- an entry is finished

-- entry i of a list in which entry n was set
set_get : (es : List LogEntry) (n i : ℕ) (y : LogEntry)
    → (slice_get (slice_set es n y) i ≡ slice_get es i) ⊎ ((n ≡ i) × (slice_get (slice_set es n y) i ≡ Some y))
set_get [] n i y = inl refl
set_get (e ∷ es) zero zero y = inr (refl, refl)
set_get (e ∷ es) zero (suc i) y = inl refl
set_get (e ∷ es) (suc n) zero y = inl refl
set_get (e ∷ es) (suc n) (suc i) y = elim (set_get es n i y) [
  | inl a ↦ inl a
  | inr b ↦ inr (ap (λ (k : ℕ). suc k) b.0, b.1)
]

other_get : (es : List LogEntry) (n i : ℕ) (y : LogEntry) → (n ≡ i → ⊥) → slice_get (slice_set es n y) i ≡ slice_get es i
other_get es n i y other = elim (set_get es n i y) [ inl a ↦ a | inr b ↦ absurd (other b.0) ]

later_finished : (es : List LogEntry) (n : ℕ) (o : Option LogEntry) → slice_get es n ≡ o → Later es (finished_with es n o)
later_finished es n None e = record { opens = λ i q. inl q; long = omega arith }
later_finished es n (Some x) e = record {
  opens = λ i q. elim (set_get es n i (record x { finished = true })) [
    | inl a ↦ inl (ap is_open (sym a) ∙ q)
    | inr b ↦ absurd (cc (sym q ∙ ap is_open b.1))
  ];
  long = omega (arith, length_set es n (record x { finished = true }));
}

-- it isn't open then
closed_then : (es : List LogEntry) (n : ℕ) (o : Option LogEntry) → slice_get es n ≡ o
    → open_at (finished_with es n o) n ≡ false
closed_then es n None e = ap is_open e
closed_then es n (Some x) e = elim (set_get es n n (record x { finished = true })) [
  | inl a ↦ ap is_open a ∙ closed_set es n x e a
  | inr b ↦ ap is_open b.1
]
  where
    closed_set : (es : List LogEntry) (n : ℕ) (x : LogEntry) → slice_get es n ≡ Some x
        → slice_get (slice_set es n (record x { finished = true })) n ≡ slice_get es n → is_open (slice_get es n) ≡ false
    closed_set [] n x e a = refl
    closed_set (y ∷ es) zero x e a = ap is_open (sym a)
    closed_set (y ∷ es) (suc n) x e a = closed_set es n x e a

-- marks of other entries stay
unmarked_others : (ms : List Marked) (w f s n : ℕ) → (n ≡ w → ⊥)
    → any_marked f s n (unmarked ms w) ≡ any_marked f s n ms
unmarked_others [] w f s n other = refl
unmarked_others (m ∷ ms) w f s n other = elim (cases_eq m.write w) [
  | inl same ↦ rw (eq-eqb m.write w same)
      (unmarked_others ms w f s n other
      ∙ sym (rw (ne_eqb m.write n (λ q. other (sym q ∙ same))) refl))
  | inr apart ↦ rw (ne_eqb m.write w apart)
      (ap (λ (b : Bool). (is_of n f m && among s m.stripes) || b) (unmarked_others ms w f s n other))
]

pub real_still : (es : List LogEntry) (m : Marked) (w : ℕ) (o : Option LogEntry) → (w ≡ m.write → ⊥) → IsReal es m
    → IsReal (finished_with es w o) m
real_still es m w None other h = h
real_still es m w (Some x) other h = other_get es w m.write (record x { finished = true }) other ∙ h

real_unmarked : (there : List File) (es : List LogEntry) (ms : List Marked) (w : ℕ) (o : Option LogEntry)
    → Each (λ m. IsReal es m × (is_there there m.file ≡ true)) ms
    → Each (λ m. IsReal (finished_with es w o) m × (is_there there m.file ≡ true)) (unmarked ms w)
real_unmarked there es [] w o h = tt
real_unmarked there es (m ∷ ms) w o h = elim (cases_eq m.write w) [
  | inl same ↦ rw (eq-eqb m.write w same) (real_unmarked there es ms w o h.1)
  | inr apart ↦ rw (ne_eqb m.write w apart)
      ((real_still es m w o (λ q. apart (sym q)) h.0.0, h.0.1), real_unmarked there es ms w o h.1)
]

finish_one : (there : List File) (ks : List Mark) (es : List LogEntry) (ms : List Marked) (n : ℕ)
    → KeepsMarks there es ks ms → KeepsMarks there (finished_with es n (slice_get es n)) ks (unmarked ms n)
finish_one there ks es ms n h =
    later_marks there es (finished_with es n (slice_get es n)) ks ms (unmarked ms n)
    (later_finished es n (slice_get es n) refl)
    (λ f s i o. unmarked_others ms n f s i
    (λ q. absurd (cc (sym o ∙ ap (λ (k : ℕ). open_at (finished_with es n (slice_get es n)) k) q
    ∙ closed_then es n (slice_get es n) refl))))
    (real_unmarked there es ms n (slice_get es n) h.real) h

finish_all : (there : List File) (ks : List Mark) (l : LogState) (ms : List Marked) (ns : List ℕ)
    → KeepsMarks there l.entries ks ms → KeepsMarks there (fold finished l ns).entries ks (fold unmarked ms ns)
finish_all there ks l ms [] h = h
finish_all there ks l ms (n ∷ ns) h =
    finish_all there ks (finished l n) (unmarked ms n) ns (finish_one there ks l.entries ms n h)

-- ---- an entry begins

open_end : (es : List LogEntry) (e : LogEntry) (n : ℕ) (o : Option LogEntry) → slice_get (es ++ e ∷ []) n ≡ o
    → is_open o ≡ true → (open_at es n ≡ true) ⊎ (length es ≤ n)
open_end es e n None q t = absurd (cc t)
open_end es e n (Some x) q t = elim (get_either es e x n q) [
  | inl a ↦ inl (ap is_open a ∙ t)
  | inr b ↦ inr (omega (arith, b.0))
]

start_one : (there : List File) (ks : List Mark) (es : List LogEntry) (ms : List Marked) (e : LogEntry)
    → KeepsMarks there es ks ms → KeepsMarks there (es ++ e ∷ []) ks ms
start_one there ks es ms e h =
    later_marks there es (es ++ e ∷ []) ks ms ms
    (record {
      opens = λ n o. open_end es e n (slice_get (es ++ e ∷ []) n) refl o;
      long = omega (arith, length-append es (e ∷ []));
    })
    (λ f s n o. refl)
    (each_more (λ m. IsReal es m × (is_there there m.file ≡ true))
    (λ m. IsReal (es ++ e ∷ []) m × (is_there there m.file ≡ true))
    (λ m r. (get_before es e (record { client = m.client; grant = m.grant; finished = false }) m.write r.0, r.1)) ms h.real)
    h

begun_marks : (there : List File) (ks : List Mark) (ms : List Marked) (l : LogState) (c g : ℕ) (w : Bool)
    (o : Option PendingCall) → KeepsMarks there l.entries ks ms → KeepsMarks there (begun_for l c g w o).entries ks ms
begun_marks there ks ms l c g w None h = h
begun_marks there ks ms l c g w (Some p) h = elim (cases_Bool (is_for w p)) [
  | inl t ↦ rw t (by_start p.started)
  | inr f ↦ rw f h
]
  where
    by_start : (n : Option ℕ) → KeepsMarks there (begun_by l c g w n).entries ks ms
    by_start None = start_one there ks l.entries ms (record { client = c; grant = g; finished = false }) h
    by_start (Some n) = h

sent_entries : (l : LogState) (message : ℕ) (o : Option ℕ) → (sent_with l message o).entries ≡ l.entries
sent_entries l message None = refl
sent_entries l message (Some n) = refl

-- ---- lines

called_entries : (l : LogState) (c : ℕ) (w : Bool) (o : Option PendingCall) → (called_with l c w o).entries ≡ l.entries
called_entries l c w None = refl
called_entries l c w (Some p) = refl

event_marks : (there : List File) (ks : List Mark) (c : CalmState) (e : Event) → KeepsMarks there c.log.entries ks c.marks
    → KeepsMarks there (logs_event c e).log.entries ks (logs_event c e).marks
event_marks there ks c (event.Do k x) h =
    rw (called_entries c.log k (writes x) (at_number c.log.pending k)) h
event_marks there ks c (event.Call k x) h =
    rw (called_entries c.log k (writes x) (at_number c.log.pending k)) h
event_marks there ks c e h = h

refused_marks : (there : List File) (ks : List Mark) (c : CalmState) (k : ℕ) (r : Refusal)
    → KeepsMarks there c.log.entries ks c.marks → KeepsMarks there (refused c k r).log.entries ks (refused c k r).marks
refused_marks there ks c k refusal.Busy h = h
refused_marks there ks c k r h = h

acknowledged_marks : (there : List File) (ks : List Mark) (c : CalmState) (o : Option ℕ)
    → KeepsMarks there c.log.entries ks c.marks
    → KeepsMarks there (acknowledged c o).log.entries ks (acknowledged c o).marks
acknowledged_marks there ks c None h = h
acknowledged_marks there ks c (Some n) h = finish_one there ks c.log.entries c.marks n h

ended_marks : (there : List File) (ks : List Mark) (c : CalmState) (k : ℕ) (o : Outcome)
    → KeepsMarks there c.log.entries ks c.marks → KeepsMarks there (ended c k o).log.entries ks (ended c k o).marks
ended_marks there ks c k (outcome.WriteOk n) h = acknowledged_marks there ks c (write_by c.log k) h
ended_marks there ks c k (outcome.Failed kind ending.Pending) h = h
ended_marks there ks c k o h = h

command_marks : (there : List File) (ks : List Mark) (c : CalmState) (k message : ℕ) (x : Command) (a : Action)
    → KeepsMarks there c.log.entries ks c.marks
    → KeepsMarks there (sent_as c.log k message x a).entries ks c.marks
command_marks there ks c k message x action.Write h =
    rw (sent_entries (begun_for c.log k x.capability.grant true (at_number c.log.pending k)) message
    (number_for c.log true (at_number c.log.pending k)))
    (begun_marks there ks c.marks c.log k x.capability.grant true (at_number c.log.pending k) h)
command_marks there ks c k message x action.Read h =
    begun_marks there ks c.marks c.log k x.capability.grant false (at_number c.log.pending k) h
command_marks there ks c k message x a h = h

read_marks : (there : List File) (ks : List Mark) (c : CalmState) (k message : ℕ) (o : Option Command)
    → KeepsMarks there c.log.entries ks c.marks
    → KeepsMarks there (sent_by c k message o).log.entries ks (sent_by c k message o).marks
read_marks there ks c k message None h = h
read_marks there ks c k message (Some x) h = command_marks there ks c k message x x.action h

message_marks : (there : List File) (ks : List Mark) (c : CalmState) (message : ℕ) (from to : Party) (bytes : List ℕ)
    → KeepsMarks there c.log.entries ks c.marks
    → KeepsMarks there (sent c message from to bytes).log.entries ks (sent c message from to bytes).marks
message_marks there ks c message (party.Client k) (party.Drive d) bytes h =
    read_marks there ks c k message (command_of (reading bytes)) h
message_marks there ks c message from to bytes h = h

pub lines_mark : LinesMark
lines_mark there ks c (line.Event e) h = event_marks there ks c e h
lines_mark there ks c (line.Refused k r) h = refused_marks there ks c k r h
lines_mark there ks c (line.Ended k o) h = ended_marks there ks c k o h
lines_mark there ks c (line.Message message from to bytes) h = message_marks there ks c message from to bytes h
lines_mark there ks c x h = h

-- ---- a report that is taken as a loss

told_marks : (there : List File) (ks : List Mark) (c : CalmState) (told : Bool) (g : ℕ)
    → KeepsMarks there c.log.entries ks c.marks
    → KeepsMarks there (taken_if c told g).log.entries ks (taken_if c told g).marks
told_marks there ks c false g h = h
told_marks there ks c true g h =
    finish_all there ks (record c.log { by_grant = without_number c.log.by_grant g }) c.marks
    (numbers_in (at_number c.log.by_grant g)) h

pub taken_marks : TakenMarks
taken_marks there ks c rest None h = h
taken_marks there ks c rest (Some g) h = told_marks there ks c (is_told_taken rest) g h
