-- Behind the line that tells how a call has ended the entries are paired still.
-- Towards `CutsShowEntries` (`specs/Parts.antt`).
use Rattle.std.proofs.Common.{◌≡◌, ◌==◌, ℕ, ◌<◌, Bool, true, false, not, List, [], ◌∷◌, ◌++◌, length, slice_set, slice_index, Option, Some, None, refl, sym, ap, subst, ◌∙◌, inl, inr, arith}
use Rattle.std.specs.List.{fold}
use Rattle.std.proofs.lemmas.Bool.{true≢false, eq-eqb}
use Rattle.file_log.specs.declared.entry.Entry.{Entry}
use Rattle.file_log.specs.declared.entry.Entry.TheVariants as entry
use Rattle.scenario_text.specs.declared.event.Call.{Call as ToldCall}
use Rattle.scenario_text.specs.declared.event.Call.TheVariants as told
use Rattle.scenario_text.specs.declared.line.CallKind.{CallKind}
use Rattle.scenario_text.specs.declared.line.Outcome.{Outcome as ToldOutcome}
use Rattle.scenario_text.specs.declared.line.Outcome.TheVariants as outcome
use Rattle.client_rules.specs.Calls.{file_of, span_of, is_write}
use Rattle.world_history.specs.ClientNames as client_rules
use Rattle.world_history.specs.ClientNames.{Outcome}
use Rattle.world_history.specs.Moves.{op_of}
use Rattle.world_history.specs.Names.{is_tellable}
use Rattle.world_history.specs.Handed.{ended_by}
use Rattle.world_history.specs.State.{at_number}
use Rattle.world_history.specs.Stripes.{is_unfinished}
use Rattle.world_history.specs.Told.{told_outcome, kind_of}
use Rattle.world_history.specs.ReadLog.{Pending, Logged, Log, log_after, ended_entry, closed, closed_with, closed_at, ends, entry_in}
use Rattle.fence_law.specs.Log.{gives, IsEntry}
use Rattle.fence_law.specs.State.{State, Start}
use Rattle.fence_law.specs.State.{Event as event}
use Rattle.fence_law.specs.Machine.{after, after_all}
use Rattle.fence_law.proofs.Words.{updated_same, updated_other}
use Rattle.file_simulation.specs.ClientEvents as table
use Rattle.file_simulation.specs.EventLists.{entry_of, write_of, where_so}
use Rattle.file_simulation.specs.Showing.{Pairs, IsPair, IsSame, ArePaired}
use Rattle.exchange_law.proofs.PendingEntries.{AreRising}
use Rattle.exchange_law.proofs.PendingLines.{end_takes}
use Rattle.headline_law.proofs.EntriesCalls.{IsEntryOf, IsOfCall, NoneToldAbove, Stands}
use Rattle.headline_law.proofs.EntriesEnds.{OutcomeTied, closes, other_closes, failed_entry, ends_named}

-- ---- a write that succeeded

write_entry : (z : Entry) (y : ToldCall) (s : Start) (b : Bool) (answer : Option (ℕ → ℕ)) (count : ℕ) → IsOfCall z y →
    is_write (op_of y) ≡ true → IsEntry s b answer z → IsEntry s true answer (ended_entry z (outcome.WriteOk count))
write_entry (entry.Write offset bytes a) (told.Write f o d) s b answer count k w x =
    record { write = x.write; same = x.same; ends = x.ends; told = refl }
write_entry (entry.Read offset n a) (told.Read f o d) s b answer count k w x = absurd (true≢false (sym w))
write_entry (entry.Write offset bytes a) (told.Read f o d) s b answer count k w x = absurd k
write_entry (entry.Read offset n a) (told.Write f o d) s b answer count k w x = absurd k

write_done : (e : Logged) (z : Entry) (y : ToldCall) (count : ℕ) → e.entry ≡ z → IsOfCall z y → is_write (op_of y) ≡ true →
    is_unfinished (closed (outcome.WriteOk count) e) ≡ false
write_done e (entry.Write offset bytes a) (told.Write f o d) count is k w = rw is refl
write_done e (entry.Read offset n a) (told.Read f o d) count is k w = absurd (true≢false (sym w))
write_done e (entry.Write offset bytes a) (told.Read f o d) count is k w = absurd k
write_done e (entry.Read offset n a) (told.Write f o d) count is k w = absurd k

-- ---- a read that was answered

read_entry : (z : Entry) (y : ToldCall) (s : Start) (b : Bool) (answer : Option (ℕ → ℕ)) (bytes : List ℕ) → IsOfCall z y →
    is_write (op_of y) ≡ false → length bytes ≡ gives s → IsEntry s b answer z →
    IsEntry s b (Some (table.answer_from (span_of (op_of y)).offset bytes)) (ended_entry z (outcome.ReadOk bytes))
read_entry (entry.Read offset n a) (told.Read f o d) s b answer bytes k w long x = record {
  read = x.read;
  first = x.first;
  past = x.past;
  same = record {
    size = long;
    bytes = λ i low.
        let first : s.from_ ≡ offset = x.first in
        let start : offset ≡ o = k in
        ap (slice_index bytes) (omega (arith, first, start));
  };
}
read_entry (entry.Write offset d a) (told.Write f o q) s b answer bytes k w long x = absurd (true≢false w)
read_entry (entry.Write offset d a) (told.Read f o q) s b answer bytes k w long x = absurd k
read_entry (entry.Read offset n a) (told.Write f o q) s b answer bytes k w long x = absurd k

read_open : (e : Logged) (z : Entry) (y : ToldCall) (bytes : List ℕ) → e.entry ≡ z → IsOfCall z y →
    is_write (op_of y) ≡ false → is_unfinished (closed (outcome.ReadOk bytes) e) ≡ is_unfinished e
read_open e (entry.Read offset n a) (told.Read f o d) bytes is k w = rw is refl
read_open e (entry.Write offset d a) (told.Write f o q) bytes is k w = absurd (true≢false w)
read_open e (entry.Write offset d a) (told.Read f o q) bytes is k w = absurd k
read_open e (entry.Read offset n a) (told.Write f o q) bytes is k w = absurd k

-- ---- the line

module _ (file c : ℕ) (t : State) (l : Log) (pairs : Pairs) (k : Stands file t l pairs) (rising : AreRising l.pending)
    (p : Pending) (has : at_number l.pending c ≡ Some p) where
  -- behind the line, with these events and this log
  abbrev Behind : State → ToldOutcome → Type 0
  Behind u o = Stands file u (ends l c o) pairs

  -- what is known besides the pairs
  with_pairs : (u : State) (o : ToldOutcome) → NoneToldAbove u →
      ArePaired u file (closed_at l.entries o p.entry) pairs → Behind u o
  with_pairs u o untold q = record {
    paired = subst (λ (z : Option Pending). ArePaired u file (closed_at l.entries o (entry_in z)) pairs) (sym has) q;
    single = k.single;
    named = ends_named l c o rising k.named;
    untold = untold;
  }

  -- where the call has no entry
  none_closes : (o : ToldOutcome) → p.entry ≡ None → Behind t o
  none_closes o none =
      with_pairs t o k.untold
      (subst (λ (z : Option ℕ). ArePaired t file (closed_at l.entries o z) pairs) (sym none) k.paired)

  module _ (n : ℕ) (is : p.entry ≡ Some n) where
    its : IsEntryOf l.entries p.call n
    its = k.named c n p has is

    closed_is : (u : State) (o : ToldOutcome) → NoneToldAbove u →
        ArePaired u file (slice_set l.entries n (closed o its.logged)) pairs → Behind u o
    closed_is u o untold q =
        with_pairs u o untold
        (subst (λ (z : Option ℕ). ArePaired u file (closed_at l.entries o z) pairs) (sym is)
        (subst (λ (z : Option Logged). ArePaired u file (closed_with l.entries n o z) pairs) (sym its.there) q))

    -- where it says what it said, or is of another file
    leaves_it : (o : ToldOutcome) → (its.logged.file ≡ file → closed o its.logged ≡ its.logged) → Behind t o
    leaves_it o same =
        closed_is t o k.untold
        (other_closes file t l.entries pairs n its.logged (closed o its.logged) its.there same refl k.paired)

    -- a write succeeded
    module _ (count : ℕ) (writes : is_write (op_of p.call) ≡ true) (pair : IsPair pairs n (write_of t c)) where
      abbrev j : ℕ
      j = write_of t c

      abbrev x : Logged
      x = closed (outcome.WriteOk count) its.logged

      low : j < t.count
      low = let r = k.paired.same n j pair in r.2.below

      written_same : (u : State) → u.count ≡ t.count → u.start ≡ t.start → u.answer ≡ t.answer → u.told_client j ≡ true →
          u.acknowledged j ≡ true → IsSame t file j its.logged → IsSame u file j x
      written_same u count_ start answer told_ done z = record {
        file_is = z.file_is;
        below = let b : j < t.count = z.below in omega (arith, b, count_);
        client = ap (λ (f : ℕ → Start). (f j).client) start ∙ z.client;
        grant = ap (λ (f : ℕ → Start). (f j).grant) start ∙ z.grant;
        entry =
            subst (λ (f : ℕ → Start). IsEntry (f j) (u.told_client j) (u.answer j) x.entry) (sym start)
            (subst (λ (f : ℕ → Option (ℕ → ℕ)). IsEntry (t.start j) (u.told_client j) (f j) x.entry) (sym answer)
            (subst (λ (b : Bool). IsEntry (t.start j) b (t.answer j) x.entry) (sym told_)
            (write_entry its.logged.entry p.call (t.start j) (t.told_client j) (t.answer j) count its.kind writes z.entry)));
        unfinished = λ w. write_done its.logged its.logged.entry p.call count refl its.kind writes ∙ sym (ap not done);
      }

      untold_tell : (s : State) → s.count ≡ t.count → s.told_client ≡ t.told_client → NoneToldAbove (after s (event.Tells j))
      untold_tell s count_ told_ q high =
          let away : q ≡ j → ⊥ = λ e. absurd (omega (arith, e, low, high, count_)) in
          updated_other s.told_client j true q away ∙ ap (λ (f : ℕ → Bool). f q) told_
          ∙ k.untold q (omega (arith, high, count_))

      ends_written : (b : Bool) → t.acknowledged j ≡ b →
          Behind (after_all t (where_so (not b) (event.Acknowledges c (write_of t c) ∷ []) ++ event.Tells (write_of t c) ∷ []))
          (outcome.WriteOk count)
      ends_written true done =
          let u : State = after t (event.Tells j) in
          closed_is u (outcome.WriteOk count) (untold_tell t refl refl)
          (closes file t l.entries pairs k.paired k.single n j its.logged x pair its.there refl u refl
          (λ q ne. record {
            start = refl;
            told = updated_other t.told_client j true q ne;
            answer = refl;
            acknowledged = refl;
          }) (written_same u refl refl refl (updated_same t.told_client j true) done) (λ q z ne. z))
      ends_written false done =
          let v : State = after t (event.Acknowledges c j) in
          let u : State = after v (event.Tells j) in
          closed_is u (outcome.WriteOk count) (untold_tell v refl refl)
          (closes file t l.entries pairs k.paired k.single n j its.logged x pair its.there refl u refl
          (λ q ne. record {
            start = refl;
            told = updated_other t.told_client j true q ne;
            answer = refl;
            acknowledged = updated_other t.acknowledged j true q ne;
          })
          (written_same u refl refl refl (updated_same t.told_client j true) (updated_same t.acknowledged j true))
          (λ q z ne. z))

    -- a read was answered
    module _ (bytes : List ℕ) (reads : is_write (op_of p.call) ≡ false) (pair : IsPair pairs n (entry_of t c))
        (long : length bytes ≡ gives (t.start (entry_of t c))) where
      ends_read : Behind (after t (event.Answers c (entry_of t c) (table.answer_from (span_of (op_of p.call)).offset bytes)))
          (outcome.ReadOk bytes)
      ends_read =
          let j : ℕ = entry_of t c in
          let f : ℕ → ℕ = table.answer_from (span_of (op_of p.call)).offset bytes in
          let x : Logged = closed (outcome.ReadOk bytes) its.logged in
          let u : State = after t (event.Answers c j f) in
          closed_is u (outcome.ReadOk bytes) k.untold
          (closes file t l.entries pairs k.paired k.single n j its.logged x pair its.there refl u refl
          (λ q ne. record {
            start = refl;
            told = refl;
            answer = updated_other t.answer j (Some f) q ne;
            acknowledged = refl;
          }) (λ z. record {
            file_is = z.file_is;
            below = z.below;
            client = z.client;
            grant = z.grant;
            entry =
                subst (λ (o : Option (ℕ → ℕ)). IsEntry (t.start j) (t.told_client j) o x.entry)
                (sym (updated_same t.answer j (Some f)))
                (read_entry its.logged.entry p.call (t.start j) (t.told_client j) (t.answer j) bytes its.kind reads long z.entry);
            unfinished = λ w. read_open its.logged its.logged.entry p.call bytes refl its.kind reads ∙ z.unfinished w;
          }) (λ q z ne. record { write = z.write; answer = updated_other t.answer j (Some f) q ne ∙ z.answer }))

  -- ---- by the outcome

  -- an entry of another file
  off_file : (o : ToldOutcome) → (file_of (op_of p.call) ≡ file → ⊥) → (n : Option ℕ) → p.entry ≡ n → Behind t o
  off_file o off None is = none_closes o is
  off_file o off (Some n) is =
      leaves_it n is o (λ here. absurd (off (sym (its n is).file ∙ here)))

  -- a call that failed leaves its entry
  fails : (o : ToldOutcome) → ((e : Entry) → ended_entry e o ≡ e) → (n : Option ℕ) → p.entry ≡ n → Behind t o
  fails o same None is = none_closes o is
  fails o same (Some n) is =
      leaves_it n is o (λ here. ap (λ (e : Entry). record (its n is).logged { entry = e }) (same (its n is).logged.entry))

  written_by : (count : ℕ) → OutcomeTied t c (op_of p.call) pairs p.entry (client_rules.WriteOk count) →
      Behind (after_all t (table.ended_with t c (op_of p.call) (client_rules.WriteOk count))) (outcome.WriteOk count)
  written_by count (inl z) =
      subst (λ (b : Bool). Behind (after_all t (where_so (not b) (table.write_told t c))) (outcome.WriteOk count))
      (sym (eq-eqb count 0 z.0)) (none_closes (outcome.WriteOk count) z.1)
  written_by count (inr z) =
      subst (λ (b : Bool). Behind (after_all t (where_so (not b) (table.write_told t c))) (outcome.WriteOk count))
      (sym z.0) (ends_written z.2.0 z.2.1 count z.1 z.2.2 (t.acknowledged (write_of t c)) refl)

  ends_here : (kind : CallKind) (u : Outcome) → OutcomeTied t c (op_of p.call) pairs p.entry u →
      Behind (after_all t (table.ended_with t c (op_of p.call) u)) (told_outcome kind u)
  ends_here kind (client_rules.WriteOk count) z = written_by count z
  ends_here kind (client_rules.ReadOk bytes) z = ends_read z.1.0 z.1.1 bytes z.0 z.1.2 z.2
  ends_here kind u z = fails _ (λ e. failed_entry e _ _) p.entry refl

  ends_by : (b : Bool) → (file_of (op_of p.call) == file) ≡ b → (kind : CallKind) (u : Outcome) →
      ((file_of (op_of p.call) == file) ≡ true → OutcomeTied t c (op_of p.call) pairs p.entry u) →
      Behind (after_all t (where_so b (table.ended_with t c (op_of p.call) u))) (told_outcome kind u)
  ends_by true here kind u z = ends_here kind u (z here)
  ends_by false off kind u z =
      off_file (told_outcome kind u) (λ e. absurd (true≢false (sym (eq-eqb (file_of (op_of p.call)) file e) ∙ off)))
      p.entry refl

  -- Behind the line the entries are paired still.
  pub line_ends : (u : Outcome) → is_tellable u ≡ true →
      ((file_of (op_of p.call) == file) ≡ true → OutcomeTied t c (op_of p.call) pairs p.entry u) →
      Stands file (after_all t (table.ended t file c (Some (op_of p.call)) (Some u)))
      (fold log_after l (ended_by c (Some (op_of p.call)) (Some u))) pairs
  line_ends u told_ z =
      subst (λ (m : Log). Stands file (after_all t (table.ended t file c (Some (op_of p.call)) (Some u))) m pairs)
      (sym (end_takes l c (op_of p.call) u told_))
      (ends_by (file_of (op_of p.call) == file) refl (kind_of (op_of p.call)) u z)
