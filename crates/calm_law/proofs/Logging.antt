-- The log goes on with a line as it is kept.
use Rattle.std.proofs.Common.{◌≡◌, ℕ, ◌<◌, ◌==◌, ◌||◌, ◌&&◌, ◌++◌, ◌∷◌, [], List, Bool, true, false, not, Option, Some, None, Result, Ok, Err, length, map, slice_get, slice_set, refl, sym, ap, subst, ◌∙◌, arith, inl, inr, eq-eqb}
use Rattle.std.specs.Option.{option_map}
use Rattle.std.specs.Ordering.{nat_cmp}
use Rattle.std.specs.BTreeMap.{is_at}
use Rattle.std.proofs.lemmas.Bool.{cases_eq}
use Rattle.std.proofs.lemmas.Map.Made.{lookup-map_values}
use Rattle.std.proofs.lemmas.Option.{slice_get_within}
use Rattle.std.proofs.lemmas.List.{length-append}
use Rattle.osd_lists.proofs.Slices.{get_last}
use Rattle.osd_objects.proofs.Entries.{lookup_inserted, lookup_beside, lookup_set, lookup_set_beside}
use Rattle.osd_commands.specs.declared.actions.Action.{Action}
use Rattle.osd_commands.specs.declared.actions.Action.TheVariants as action
use Rattle.osd_commands.specs.declared.commands.Command.{Command}
use Rattle.osd_commands.specs.declared.commands.CommandErr.{CommandErr}
use Rattle.osd_commands.specs.Commands.{reading}
use Rattle.file_log.specs.declared.entry.Entry.{Entry}
use Rattle.file_log.specs.declared.entry.Entry.TheVariants as entry
use Rattle.scenario_text.specs.declared.event.Call.{Call}
use Rattle.scenario_text.specs.declared.event.Call.TheVariants as call
use Rattle.scenario_text.specs.declared.event.Event.{Event}
use Rattle.scenario_text.specs.declared.event.Event.TheVariants as event
use Rattle.scenario_text.specs.declared.line.Party.{Party}
use Rattle.scenario_text.specs.declared.line.Party.TheVariants as party
use Rattle.scenario_text.specs.declared.line.Ending.TheVariants as ending
use Rattle.scenario_text.specs.declared.line.Outcome.{Outcome}
use Rattle.scenario_text.specs.declared.line.Outcome.TheVariants as outcome
use Rattle.scenario_text.specs.declared.line.Refusal.{Refusal}
use Rattle.scenario_text.specs.declared.line.Refusal.TheVariants as refusal
use Rattle.scenario_text.specs.declared.line.Line.TheVariants as line
use Rattle.server_rules.specs.Numbers.{among}
use Rattle.world_history.specs.State.{at_number, and_number, without_number}
use Rattle.world_history.specs.ReadLog.{Pending, Logged, Log, called_beside, refused as refused_in, ended_entry, closed, closed_with, closed_at, entry_in, ends, ended as ended_in, starts, begins_beside, begins, number_then, sends_write, sends_command, sends_in, sends_as, log_after_event, log_after}
use Rattle.world_history.specs.Stripes.{is_acknowledged}
use Rattle.world_calm.specs.declared.calls.PendingCall.{PendingCall}
use Rattle.world_calm.specs.declared.calls.LogEntry.{LogEntry}
use Rattle.world_calm.specs.Read.{command_of}
use Rattle.world_calm.specs.Log.{LogState, begun_by, called_with, forgot, written_by, written_in, write_by, finished_with, under_with, started, number_for, begun_for, sent_as, sent_with}
use Rattle.world_calm.specs.Seeing.{CalmState, writes, numbers_in, logs_event, refused, acknowledged, ended, sent_by, logs}
use Rattle.component_law.specs.Words.{Each}
use Rattle.calm_law.specs.Logs.{pending_view, keyed, view, is_write_entry, Key, key, HasEntry, IsUnder, KeepsKeys, KeepsLog, LinesAlike}
use Rattle.calm_law.proofs.Tables.{among_end}
use Rattle.component_law.proofs.Lists.{each_more, each_end, get_before, get_either, map_set_same, map_set, map_end, map_length, get_map, insert_seen, remove_seen, each_inserted, each_removed, each_found, each_set}

-- ---- a pending call

pub pending_at : (l : Log) (s : LogState) (c : ℕ) → s.pending ≡ keyed l.pending
    → at_number s.pending c ≡ option_map pending_view (at_number l.pending c)
pending_at l s c e =
    ap (λ (t : List (ℕ × PendingCall)). at_number t c) e
    ∙ lookup-map_values pending_view (is_at (nat_cmp c)) l.pending

called_keeps : (l : Log) (s : LogState) (c : ℕ) (x : Call) (o : Option Pending) (p : Option PendingCall)
    → p ≡ option_map pending_view o → KeepsLog l s → KeepsLog (called_beside l c x o) (called_with s c (writes x) p)
called_keeps l s c x None None e h = record {
  pending = ap (λ (t : List (ℕ × PendingCall)). and_number t c (record { writes = writes x; started = None })) h.pending
      ∙ insert_seen pending_view l.pending c (record { call = x; entry = None });
  entries = h.entries;
  sent_for = h.sent_for;
  keys = record {
    kinds = each_inserted (λ (e : ℕ × Pending). HasEntry (map key l.entries) e.1) l.pending c
        (record { call = x; entry = None }) h.keys.kinds (λ j i n q. absurd (cc q));
    grants = h.keys.grants;
    under = h.keys.under;
  };
  below = h.below;
}
called_keeps l s c x (Some q) (Some p) e h = h
called_keeps l s c x (Some q) None e h = absurd (cc e)
called_keeps l s c x None (Some p) e h = absurd (cc e)

forgot_keeps : (l : Log) (s : LogState) (c : ℕ) → KeepsLog l s
    → KeepsLog (record l { pending = without_number l.pending c }) (forgot s c)
forgot_keeps l s c h = record {
  pending = ap (λ (t : List (ℕ × PendingCall)). without_number t c) h.pending
      ∙ remove_seen pending_view (is_at (nat_cmp c)) l.pending;
  entries = h.entries;
  sent_for = h.sent_for;
  keys = record {
    kinds = each_removed (λ (e : ℕ × Pending). HasEntry (map key l.entries) e.1) (is_at (nat_cmp c)) l.pending h.keys.kinds;
    grants = h.keys.grants;
    under = h.keys.under;
  };
  below = h.below;
}

event_keeps : (l : Log) (c : CalmState) (e : Event) → KeepsLog l c.log
    → KeepsLog (log_after_event l e) (logs_event c e).log
event_keeps l c (event.Do k x) h =
    called_keeps l c.log k x (at_number l.pending k) (at_number c.log.pending k) (pending_at l c.log k h.pending) h
event_keeps l c (event.Call k x) h =
    called_keeps l c.log k x (at_number l.pending k) (at_number c.log.pending k) (pending_at l c.log k h.pending) h
event_keeps l c e h = h

refused_keeps : (l : Log) (c : CalmState) (k : ℕ) (r : Refusal) → KeepsLog l c.log
    → KeepsLog (refused_in l k r) (refused c k r).log
refused_keeps l c k refusal.Busy h = h
refused_keeps l c k r h = forgot_keeps l c.log k h

-- ---- the end of a call

kind_stays : (e : Entry) (o : Outcome) → is_write_entry (ended_entry e o) ≡ is_write_entry e
kind_stays (entry.Write offset bytes a) (outcome.WriteOk n) = refl
kind_stays (entry.Write offset bytes a) o = refl
kind_stays (entry.Read offset count a) (outcome.ReadOk bytes) = refl
kind_stays (entry.Read offset count a) o = refl

pub key_stays : (o : Outcome) (e : Logged) → key (closed o e) ≡ key e
key_stays o e = ap (λ (b : Bool). record { grant = e.grant; taken = e.taken; writes = b }) (kind_stays e.entry o)

-- the entries that an end leaves are of the same keys
pub keys_closed : (es : List Logged) (n : ℕ) (o : Outcome) (e : Option Logged) → slice_get es n ≡ e
    → map key (closed_with es n o e) ≡ map key es
keys_closed es n o None q = refl
keys_closed es n o (Some e) q = map_set_same key es n e (closed o e) q (key_stays o e)

pub keys_closed_at : (es : List Logged) (o : Outcome) (n : Option ℕ) → map key (closed_at es o n) ≡ map key es
keys_closed_at es o None = refl
keys_closed_at es o (Some n) = keys_closed es n o (slice_get es n) refl

closed_length : (es : List Logged) (o : Outcome) (n : Option ℕ) → length (closed_at es o n) ≡ length es
closed_length es o n =
    sym (map_length key (closed_at es o n)) ∙ ap (λ (ks : List Key). length ks) (keys_closed_at es o n) ∙ map_length key es

-- a call of another kind, or another outcome, leaves what is kept of an entry
read_stays : (e : Entry) (o : Outcome) → is_write_entry e ≡ false
    → is_acknowledged (ended_entry e o) ≡ is_acknowledged e
read_stays (entry.Write offset bytes a) o q = absurd (cc q)
read_stays (entry.Read offset count a) (outcome.ReadOk bytes) q = refl
read_stays (entry.Read offset count a) o q = refl

abbrev pub is_done : Outcome → Bool
is_done (outcome.WriteOk n) = true
is_done o = false

other_stays : (e : Entry) (o : Outcome) → is_done o ≡ false
    → is_acknowledged (ended_entry e o) ≡ is_acknowledged e
other_stays e (outcome.WriteOk n) q = absurd (cc q)
other_stays (entry.Write offset bytes a) (outcome.ReadOk got) q = refl
other_stays (entry.Read offset count a) (outcome.ReadOk got) q = refl
other_stays (entry.Write offset bytes a) (outcome.Failed kind why) q = refl
other_stays (entry.Read offset count a) (outcome.Failed kind why) q = refl

pub view_stays : (e : Logged) (o : Outcome) → is_acknowledged (ended_entry e.entry o) ≡ is_acknowledged e.entry
    → view (closed o e) ≡ view e
view_stays e o q =
    ap (λ (b : Bool). record { client = e.client; grant = e.grant; finished = not (not b && not e.taken) }) q

seen_stays : (es : List Logged) (n : ℕ) (o : Outcome) (e : Option Logged) → slice_get es n ≡ e
    → ((x : Logged) → e ≡ Some x → is_acknowledged (ended_entry x.entry o) ≡ is_acknowledged x.entry)
    → map view (closed_with es n o e) ≡ map view es
seen_stays es n o None q s = refl
seen_stays es n o (Some e) q s = map_set_same view es n e (closed o e) q (view_stays e o (s e refl))

seen_stays_at : (es : List Logged) (o : Outcome) (n : Option ℕ)
    → ((m : ℕ) (x : Logged) → n ≡ Some m → slice_get es m ≡ Some x
    → is_acknowledged (ended_entry x.entry o) ≡ is_acknowledged x.entry)
    → map view (closed_at es o n) ≡ map view es
seen_stays_at es o None s = refl
seen_stays_at es o (Some m) s = seen_stays es m o (slice_get es m) refl (λ x q. s m x refl q)

-- it ends
ends_keeps : (l : Log) (s t : LogState) (c : ℕ) (o : Outcome) → KeepsLog l s → t.pending ≡ s.pending
    → t.sent_for ≡ s.sent_for → t.by_grant ≡ s.by_grant
    → t.entries ≡ map view (closed_at l.entries o (entry_in (at_number l.pending c)))
    → KeepsLog (ends l c o) (forgot t c)
ends_keeps l s t c o h p q b e = record {
  pending = ap (λ (t : List (ℕ × PendingCall)). without_number t c) (p ∙ h.pending)
      ∙ remove_seen pending_view (is_at (nat_cmp c)) l.pending;
  entries = e;
  sent_for = q ∙ h.sent_for;
  keys = rw (keys_closed_at l.entries o (entry_in (at_number l.pending c)), b) (record {
    kinds = each_removed (λ (e : ℕ × Pending). HasEntry (map key l.entries) e.1) (is_at (nat_cmp c)) l.pending h.keys.kinds;
    grants = h.keys.grants;
    under = h.keys.under;
  });
  below = rw (closed_length l.entries o (entry_in (at_number l.pending c))) h.below;
}

other_ends : (l : Log) (s : LogState) (c : ℕ) (o : Outcome) → is_done o ≡ false → KeepsLog l s
    → KeepsLog (ends l c o) (forgot s c)
other_ends l s c o d h =
    ends_keeps l s s c o h refl refl refl
    (h.entries ∙ sym (seen_stays_at l.entries o (entry_in (at_number l.pending c)) (λ m x a b. other_stays x.entry o d)))

-- a write is acknowledged
done_seen : (e : Logged) (n : ℕ) → is_write_entry e.entry ≡ true
    → view (closed (outcome.WriteOk n) e) ≡ record (view e) { finished = true }
done_seen e n q = done_of e e.entry n refl q
  where
    done_of : (e : Logged) (x : Entry) (n : ℕ) → e.entry ≡ x → is_write_entry e.entry ≡ true
        → view (closed (outcome.WriteOk n) e) ≡ record (view e) { finished = true }
    done_of e (entry.Write offset bytes a) n s q = rw s refl
    done_of e (entry.Read offset count a) n s q = absurd (cc (rw s at q))

done_at : (es : List Logged) (n m : ℕ) (e : Logged) → slice_get es m ≡ Some e → is_write_entry e.entry ≡ true
    → finished_with (map view es) m (slice_get (map view es) m) ≡ map view (closed_with es m (outcome.WriteOk n) (Some e))
done_at es n m e q w =
    ap (λ (o : Option LogEntry). finished_with (map view es) m o) (get_map view es m ∙ ap (option_map view) q)
    ∙ ap (λ (x : LogEntry). slice_set (map view es) m x) (sym (done_seen e n w))
    ∙ sym (map_set view es m (closed (outcome.WriteOk n) e))

-- the entry that a pending call has
entry_of : (l : Log) (c : ℕ) (p : Pending) (n : ℕ)
    → Each (λ (e : ℕ × Pending). HasEntry (map key l.entries) e.1) l.pending
    → at_number l.pending c ≡ Some p → p.entry ≡ Some n
    → (e : Logged) × (slice_get l.entries n ≡ Some e) × (is_write_entry e.entry ≡ writes p.call)
entry_of l c p n k a q =
    let f : (j : ℕ) × (c ≡ j) × HasEntry (map key l.entries) p =
    each_found (λ (e : ℕ × Pending). HasEntry (map key l.entries) e.1) l.pending c p k a in
    let has : (k : Key) × (slice_get (map key l.entries) n ≡ Some k) × (k.writes ≡ writes p.call) = f.2 n q in
    of_key (slice_get l.entries n) has.0 refl (sym (get_map key l.entries n) ∙ has.1) has.2
  where
    of_key : (o : Option Logged) (k : Key) → slice_get l.entries n ≡ o → option_map key o ≡ Some k
        → k.writes ≡ writes p.call
        → (e : Logged) × (slice_get l.entries n ≡ Some e) × (is_write_entry e.entry ≡ writes p.call)
    of_key None k s e w = absurd (cc e)
    of_key (Some e) k s i w = let same : key e ≡ k = cc i in (e, s, ap (λ (x : Key). x.writes) same ∙ w)

done_ends : (l : Log) (c : CalmState) (k n : ℕ) (o : Option Pending) (p : Option PendingCall)
    → at_number l.pending k ≡ o → p ≡ option_map pending_view o → KeepsLog l c.log
    → (acknowledged c (written_in p)).log.entries ≡ map view (closed_at l.entries (outcome.WriteOk n) (entry_in o))
done_ends l c k n None None a e h = h.entries
done_ends l c k n None (Some p) a e h = absurd (cc e)
done_ends l c k n (Some q) None a e h = absurd (cc e)
done_ends l c k n (Some q) (Some p) a e h =
    let same : p ≡ pending_view q = cc e in
    rw same (done_call (writes q.call) q.entry refl refl)
  where
    done_call : (w : Bool) (i : Option ℕ) → writes q.call ≡ w → q.entry ≡ i
        → (acknowledged c (written_by (record { writes = w; started = i }))).log.entries
        ≡ map view (closed_at l.entries (outcome.WriteOk n) i)
    done_call true None w i = h.entries
    done_call false None w i = h.entries
    done_call true (Some m) w i =
        let f : (e : Logged) × (slice_get l.entries m ≡ Some e) × (is_write_entry e.entry ≡ writes q.call) =
        entry_of l k q m h.keys.kinds a i in
        rw (h.entries, f.1) (done_at l.entries n m f.0 f.1 (f.2 ∙ w))
    done_call false (Some m) w i =
        let f : (e : Logged) × (slice_get l.entries m ≡ Some e) × (is_write_entry e.entry ≡ writes q.call) =
        entry_of l k q m h.keys.kinds a i in
        h.entries ∙ sym (seen_stays_at l.entries (outcome.WriteOk n) (Some m) (λ j x s t.
        let here : m ≡ j = cc s in
        let it : f.0 ≡ x = cc (sym f.1 ∙ ap (λ (z : ℕ). slice_get l.entries z) here ∙ t) in
        read_stays x.entry (outcome.WriteOk n) (ap (λ (y : Logged). is_write_entry y.entry) (sym it) ∙ f.2 ∙ w)))

acknowledged_rest : (c : CalmState) (o : Option ℕ) → ((acknowledged c o).log.pending ≡ c.log.pending)
    × ((acknowledged c o).log.sent_for ≡ c.log.sent_for) × ((acknowledged c o).log.by_grant ≡ c.log.by_grant)
acknowledged_rest c None = (refl, refl, refl)
acknowledged_rest c (Some n) = (refl, refl, refl)

ended_keeps : (l : Log) (c : CalmState) (k : ℕ) (o : Outcome) → KeepsLog l c.log
    → KeepsLog (ended_in l k o) (ended c k o).log
ended_keeps l c k (outcome.WriteOk n) h =
    let r : ((acknowledged c (write_by c.log k)).log.pending ≡ c.log.pending)
    × ((acknowledged c (write_by c.log k)).log.sent_for ≡ c.log.sent_for)
    × ((acknowledged c (write_by c.log k)).log.by_grant ≡ c.log.by_grant) = acknowledged_rest c (write_by c.log k) in
    ends_keeps l c.log (acknowledged c (write_by c.log k)).log k (outcome.WriteOk n) h r.0 r.1 r.2
    (done_ends l c k n (at_number l.pending k) (at_number c.log.pending k) refl (pending_at l c.log k h.pending) h)
ended_keeps l c k (outcome.ReadOk bytes) h = other_ends l c.log k (outcome.ReadOk bytes) refl h
ended_keeps l c k (outcome.Failed kind ending.Pending) h = h
ended_keeps l c k (outcome.Failed kind why) h = other_ends l c.log k (outcome.Failed kind why) refl h

-- ---- the start of a call

under_more : (ks : List Key) (k : Key) (g n : ℕ) → IsUnder ks g n → IsUnder (ks ++ k ∷ []) g n
under_more ks k g n u = (u.0, get_before ks k u.0 n u.1, u.2)

has_more : (ks : List Key) (k : Key) (p : Pending) → HasEntry ks p → HasEntry (ks ++ k ∷ []) p
has_more ks k p h n e =
    let u : (x : Key) × (slice_get ks n ≡ Some x) × (x.writes ≡ writes p.call) = h n e in
    (u.0, get_before ks k u.0 n u.1, u.2)

grants_more : (ks : List Key) (k : Key) (t : List (ℕ × List ℕ))
    → Each (λ (e : ℕ × List ℕ). Each (λ n. IsUnder ks e.0 n) e.1) t
    → Each (λ (e : ℕ × List ℕ). Each (λ n. IsUnder (ks ++ k ∷ []) e.0 n) e.1) t
grants_more ks k t h =
    each_more (λ (e : ℕ × List ℕ). Each (λ n. IsUnder ks e.0 n) e.1)
    (λ (e : ℕ × List ℕ). Each (λ n. IsUnder (ks ++ k ∷ []) e.0 n) e.1)
    (λ e x. each_more (λ n. IsUnder ks e.0 n) (λ n. IsUnder (ks ++ k ∷ []) e.0 n) (λ n u. under_more ks k e.0 n u) e.1 x)
    t h

grants_with : (ks : List Key) (k : Key) (t : List (ℕ × List ℕ)) (o : Option (List ℕ)) → at_number t k.grant ≡ o
    → Each (λ (e : ℕ × List ℕ). Each (λ n. IsUnder ks e.0 n) e.1) t
    → Each (λ (e : ℕ × List ℕ). Each (λ n. IsUnder (ks ++ k ∷ []) e.0 n) e.1) (under_with t k.grant (length ks) o)
grants_with ks k t None a h =
    each_inserted (λ (e : ℕ × List ℕ). Each (λ n. IsUnder (ks ++ k ∷ []) e.0 n) e.1) t k.grant (length ks ∷ [])
    (grants_more ks k t h) (λ j i. ((k, get_last ks k, i), tt))
grants_with ks k t (Some ns) a h =
    let f : (j : ℕ) × (k.grant ≡ j) × Each (λ n. IsUnder (ks ++ k ∷ []) j n) ns =
    each_found (λ (e : ℕ × List ℕ). Each (λ n. IsUnder (ks ++ k ∷ []) e.0 n) e.1) t k.grant ns (grants_more ks k t h) a in
    each_set (λ (e : ℕ × List ℕ). Each (λ n. IsUnder (ks ++ k ∷ []) e.0 n) e.1) t k.grant (ns ++ length ks ∷ [])
    (grants_more ks k t h)
    (λ j i. each_end (λ n. IsUnder (ks ++ k ∷ []) j n) ns (length ks)
    (subst (λ (q : ℕ). Each (λ n. IsUnder (ks ++ k ∷ []) q n) ns) (sym f.1 ∙ i) f.2) (k, get_last ks k, i))

-- what is listed under a grant behind one number more
listed_here : (t : List (ℕ × List ℕ)) (g n : ℕ) (o : Option (List ℕ)) → at_number t g ≡ o
    → numbers_in (at_number (under_with t g n o) g) ≡ numbers_in o ++ n ∷ []
listed_here t g n None a = ap numbers_in (lookup_inserted t g (n ∷ []))
listed_here t g n (Some ns) a = ap numbers_in (lookup_set t g (ns ++ n ∷ []) (rw a refl))

listed_beside : (t : List (ℕ × List ℕ)) (g n q : ℕ) (o : Option (List ℕ)) → (q ≡ g → ⊥)
    → at_number (under_with t g n o) q ≡ at_number t q
listed_beside t g n q None other = lookup_beside t g q (n ∷ []) other
listed_beside t g n q (Some ns) other = lookup_set_beside t g q (ns ++ n ∷ []) other

listed_more : (t : List (ℕ × List ℕ)) (g n q m : ℕ) → among m (numbers_in (at_number t q)) ≡ true
    → among m (numbers_in (at_number (under_with t g n (at_number t g)) q)) ≡ true
listed_more t g n q m h = elim (cases_eq q g) [
  | inl same ↦ rw same (rw (listed_here t g n (at_number t g) refl)
      (rw (among_end m n (numbers_in (at_number t g))) (either_true (m == n) _ (rw same at h))))
  | inr other ↦ rw (listed_beside t g n q (at_number t g) other) h
]
  where
    either_true : (a b : Bool) → b ≡ true → (a || b) ≡ true
    either_true true b e = refl
    either_true false b e = e

listed_new : (t : List (ℕ × List ℕ)) (g n : ℕ)
    → among n (numbers_in (at_number (under_with t g n (at_number t g)) g)) ≡ true
listed_new t g n =
    rw (listed_here t g n (at_number t g) refl) (rw (among_end n n (numbers_in (at_number t g)))
    (rw (eq-eqb n n refl) refl))

keys_start : (ks : List Key) (ps : List (ℕ × Pending)) (t : List (ℕ × List ℕ)) (c : ℕ) (p : Pending) (k : Key)
    → KeepsKeys ks ps t → k.writes ≡ writes p.call
    → KeepsKeys (ks ++ k ∷ []) (and_number ps c (record p { entry = Some (length ks) }))
    (under_with t k.grant (length ks) (at_number t k.grant))
keys_start ks ps t c p k h w = record {
  kinds = each_inserted (λ (e : ℕ × Pending). HasEntry (ks ++ k ∷ []) e.1) ps c
      (record p { entry = Some (length ks) })
      (each_more (λ (e : ℕ × Pending). HasEntry ks e.1) (λ (e : ℕ × Pending). HasEntry (ks ++ k ∷ []) e.1)
      (λ e x. has_more ks k e.1 x) ps h.kinds)
      (λ j i n q. let same : length ks ≡ n = cc q in
      (k, ap (λ (z : ℕ). slice_get (ks ++ k ∷ []) z) (sym same) ∙ get_last ks k, w));
  grants = grants_with ks k t (at_number t k.grant) refl h.grants;
  under = λ n x q u. elim (get_either ks k x n q) [
    | inl a ↦ listed_more t k.grant (length ks) x.grant n (h.under n x a u)
    | inr b ↦ rw (b.0, sym b.1) (listed_new t k.grant (length ks))
  ];
}

starts_keeps : (l : Log) (s : LogState) (c g f : ℕ) (p : Pending) (e : Entry) → KeepsLog l s
    → is_write_entry e ≡ writes p.call → is_acknowledged e ≡ false
    → KeepsLog (starts l c p f g e) (started s c g (writes p.call))
starts_keeps l s c g f p e h w a =
    let long : length s.entries ≡ length l.entries =
    ap (λ (xs : List LogEntry). length xs) h.entries ∙ map_length view l.entries in
    let keys_long : length (map key l.entries) ≡ length l.entries = map_length key l.entries in
    record {
      pending = rw (h.pending, long) (insert_seen pending_view l.pending c (record p { entry = Some (length l.entries) }));
      entries = ap (λ (xs : List LogEntry). xs ++ record { client = c; grant = g; finished = false } ∷ []) h.entries
          ∙ sym (map_end view l.entries (record { client = c; file = f; grant = g; taken = false; entry = e })
          ∙ ap (λ (b : Bool). map view l.entries ++ record { client = c; grant = g; finished = not (not b && true) } ∷ []) a);
      sent_for = h.sent_for;
      keys =
          rw (map_end key l.entries (record { client = c; file = f; grant = g; taken = false; entry = e }), long, sym keys_long)
          (keys_start (map key l.entries) l.pending s.by_grant c p
          (record { grant = g; taken = false; writes = is_write_entry e }) h.keys w);
      below = each_more (λ (t : ℕ × ℕ). t.1 < length l.entries)
          (λ (t : ℕ × ℕ). t.1 < length (starts l c p f g e).entries)
          (λ t b. omega (
            arith,
            b,
            length-append l.entries
                (record { client = c; file = f; grant = g; taken = false; entry = e } ∷ []),
          )) l.writes h.below;
    }

-- ---- a command is sent

begins_keeps : (l : Log) (s : LogState) (c g f : ℕ) (p : Pending) (e : Entry) (n : Option ℕ) → KeepsLog l s
    → is_write_entry e ≡ writes p.call → is_acknowledged e ≡ false
    → KeepsLog (begins_beside l c p f g e n) (begun_by s c g (writes p.call) n)
begins_keeps l s c g f p e None h w a = starts_keeps l s c g f p e h w a
begins_keeps l s c g f p e (Some n) h w a = h

begins_writes : (l : Log) (c g f : ℕ) (p : Pending) (e : Entry) (n : Option ℕ)
    → (begins_beside l c p f g e n).writes ≡ l.writes
begins_writes l c g f p e None = refl
begins_writes l c g f p e (Some n) = refl

-- a WRITE's entry is listed
sent_keeps : (l : Log) (s : LogState) (ws : List (ℕ × ℕ)) (message m n : ℕ) → KeepsLog l s → l.writes ≡ ws → m ≡ n
    → n < length l.entries
    → KeepsLog (record l { writes = and_number ws message n }) (record s { sent_for = and_number s.sent_for message m })
sent_keeps l s ws message m n h w e b = record {
  pending = h.pending;
  entries = h.entries;
  sent_for = ap (λ (x : ℕ). and_number s.sent_for message x) e
      ∙ ap (λ (t : List (ℕ × ℕ)). and_number t message n) (h.sent_for ∙ w);
  keys = h.keys;
  below = each_inserted (λ (t : ℕ × ℕ). t.1 < length l.entries) ws message n
      (subst (Each (λ (t : ℕ × ℕ). t.1 < length l.entries)) w h.below) (λ j i. b);
}

-- the number of the entry is one of the log then
then_below : (l : Log) (c g f : ℕ) (p : Pending) (e : Entry) (i : Option ℕ)
    → ((n : ℕ) → i ≡ Some n → n < length l.entries)
    → number_then (length l.entries) i < length (begins_beside l c p f g e i).entries
then_below l c g f p e None b =
    omega (arith, length-append l.entries (record { client = c; file = f; grant = g; taken = false; entry = e } ∷ []))
then_below l c g f p e (Some n) b = b n refl

then_alike : (m n : ℕ) (o : Option ℕ) → m ≡ n → number_then m o ≡ number_then n o
then_alike m n None e = e
then_alike m n (Some k) e = refl

write_keeps : (l : Log) (s : LogState) (message c : ℕ) (x : Command) (f offset : ℕ) (bytes : List ℕ) (i : Option ℕ)
    → KeepsLog l s → ((n : ℕ) → i ≡ Some n → n < length l.entries)
    → KeepsLog (sends_write l message c (record { call = call.Write f offset bytes; entry = i }) x (call.Write f offset bytes))
    (sent_with (begun_for s c x.capability.grant true (Some (record { writes = true; started = i }))) message
    (number_for s true (Some (record { writes = true; started = i }))))
write_keeps l s message c x f offset bytes i h b =
    let p : Pending = record { call = call.Write f offset bytes; entry = i } in
    let e : Entry = entry.Write offset bytes false in
    let long : length s.entries ≡ length l.entries =
    ap (λ (xs : List LogEntry). length xs) h.entries ∙ map_length view l.entries in
    sent_keeps (begins l c p f x.capability.grant e) (begun_by s c x.capability.grant true i) l.writes message
    (number_then (length s.entries) i) (number_then (length l.entries) i)
    (begins_keeps l s c x.capability.grant f p e i h refl refl) (begins_writes l c x.capability.grant f p e i)
    (then_alike (length s.entries) (length l.entries) i long) (then_below l c x.capability.grant f p e i b)

command_keeps : (l : Log) (c : CalmState) (k message : ℕ) (x : Command) (a : Action) (o : Option Pending)
    (q : Option PendingCall) → at_number l.pending k ≡ o → at_number c.log.pending k ≡ q
    → q ≡ option_map pending_view o → KeepsLog l c.log → (y : Call) (i : Option ℕ)
    → o ≡ Some (record { call = y; entry = i })
    → KeepsLog (sends_command l message k (record { call = y; entry = i }) x a) (sent_as c.log k message x a)
command_keeps l c k message x action.Write o q e f g h (call.Write file offset bytes) i s =
    let is : at_number c.log.pending k ≡ Some (record { writes = true; started = i }) =
    f ∙ g ∙ ap (option_map pending_view) s in
    rw is (write_keeps l c.log message k x file offset bytes i h (λ n b.
    let it : (z : Logged) × (slice_get l.entries n ≡ Some z) × (is_write_entry z.entry ≡ true) =
    entry_of l k (record { call = call.Write file offset bytes; entry = i }) n h.keys.kinds (e ∙ s) b in
    slice_get_within l.entries n it.0 it.1))
command_keeps l c k message x action.Write o q e f g h (call.Read file offset count) i s =
    let is : at_number c.log.pending k ≡ Some (record { writes = false; started = i }) =
    f ∙ g ∙ ap (option_map pending_view) s in
    rw is h
command_keeps l c k message x action.Read o q e f g h (call.Write file offset bytes) i s =
    let is : at_number c.log.pending k ≡ Some (record { writes = true; started = i }) =
    f ∙ g ∙ ap (option_map pending_view) s in
    rw is h
command_keeps l c k message x action.Read o q e f g h (call.Read file offset count) i s =
    let is : at_number c.log.pending k ≡ Some (record { writes = false; started = i }) =
    f ∙ g ∙ ap (option_map pending_view) s in
    rw is (begins_keeps l c.log k x.capability.grant file (record { call = call.Read file offset count; entry = i })
    (entry.Read offset count None) i h refl refl)
command_keeps l c k message x a o q e f g h y i s = h

-- without a pending call nothing starts
none_keeps : (l : Log) (c : CalmState) (k message : ℕ) (x : Command) (a : Action) → at_number c.log.pending k ≡ None
    → KeepsLog l c.log → KeepsLog l (sent_as c.log k message x a)
none_keeps l c k message x action.Write e h = rw e h
none_keeps l c k message x action.Read e h = rw e h
none_keeps l c k message x a e h = h

in_keeps : (l : Log) (c : CalmState) (k message : ℕ) (x : Command) (o : Option Pending) → at_number l.pending k ≡ o
    → KeepsLog l c.log → KeepsLog (sends_in l message k x o) (sent_as c.log k message x x.action)
in_keeps l c k message x None e h =
    none_keeps l c k message x x.action (pending_at l c.log k h.pending ∙ ap (option_map pending_view) e) h
in_keeps l c k message x (Some p) e h =
    command_keeps l c k message x x.action (at_number l.pending k) (at_number c.log.pending k) refl refl
    (pending_at l c.log k h.pending) h p.call p.entry e

read_keeps : (l : Log) (c : CalmState) (k message : ℕ) (r : Result Command CommandErr) → KeepsLog l c.log
    → KeepsLog (sends_as l message k r) (sent_by c k message (command_of r)).log
read_keeps l c k message (Ok x) h = in_keeps l c k message x (at_number l.pending k) refl h
read_keeps l c k message (Err e) h = h

message_keeps : (l : Log) (c : CalmState) (message : ℕ) (from to : Party) (bytes : List ℕ) → KeepsLog l c.log
    → KeepsLog (log_after l (line.Message message from to bytes)) (logs c (line.Message message from to bytes)).log
message_keeps l c message (party.Client k) (party.Drive d) bytes h = read_keeps l c k message (reading bytes) h
message_keeps l c message from to bytes h = h

pub lines_alike : LinesAlike
lines_alike l c (line.Event e) h = event_keeps l c e h
lines_alike l c (line.Refused k why) h = refused_keeps l c k why h
lines_alike l c (line.Ended k o) h = ended_keeps l c k o h
lines_alike l c (line.Message message from to bytes) h = message_keeps l c message from to bytes h
lines_alike l c x h = h
