-- The line that tells how a call has ended: it closes the call's entry in the log, and in the machine.
-- Towards `CutsShowEntries` (`specs/Parts.antt`).
use Rattle.std.proofs.Common.{◌≡◌, ◌⊎◌, ◌==◌, ℕ, zero, suc, ◌<◌, true, false, List, [], ◌∷◌, length, slice_get, slice_set, Option, Some, None, refl, sym, ap, subst, ◌∙◌, inl, inr, arith}
use Rattle.std.proofs.lemmas.Bool.{cases_eq, cases_lt}
use Rattle.scenario_text.specs.declared.line.CallKind.{CallKind}
use Rattle.scenario_text.specs.declared.line.Ending.{Ending}
use Rattle.std.proofs.lemmas.Option.{slice_get_within}
use Rattle.osd_lists.proofs.Slices.{get_set}
use Rattle.file_log.specs.declared.entry.Entry.{Entry}
use Rattle.file_log.specs.declared.entry.Entry.TheVariants as entry
use Rattle.scenario_text.specs.declared.event.Call.{Call as ToldCall}
use Rattle.scenario_text.specs.declared.event.Call.TheVariants as told
use Rattle.scenario_text.specs.declared.line.Outcome.{Outcome as ToldOutcome}
use Rattle.scenario_text.specs.declared.line.Outcome.TheVariants as outcome
use Rattle.client_rules.specs.Calls.{is_write}
use Rattle.world_history.specs.ClientNames as client_rules
use Rattle.world_history.specs.ClientNames.{CallOp, Outcome}
use Rattle.world_history.specs.State.{at_number, without_number}
use Rattle.world_history.specs.ReadLog.{Logged, Log, ended_entry, closed, closed_with, closed_at, ends, entry_in}
use Rattle.fence_law.specs.Log.{gives, IsPassed}
use Rattle.fence_law.specs.State.{State}
use Rattle.file_simulation.specs.EventLists.{entry_of, write_of}
use Rattle.file_simulation.specs.Showing.{Pairs, IsPair, IsSame, ArePaired}
use Rattle.exchange_law.proofs.PendingEntries.{AreRising, removed_there, removed_beside}
use Rattle.file_simulation.specs.Tied.{IsSingle, HasEntry}
use Rattle.headline_law.proofs.EntriesPairs.{paired_becomes, same_entries, StaysAt, same_at}
use Rattle.headline_law.proofs.EntriesCalls.{IsEntryOf, IsOfCall, AreNamed}

-- ---- lists

-- another place is as it was
get_beside : {A : Type 0} (xs : List A) (n i : ℕ) (x : A) → (i ≡ n → ⊥) → slice_get (slice_set xs n x) i ≡ slice_get xs i
get_beside [] n i x ne = refl
get_beside (y ∷ xs) zero zero x ne = absurd (ne refl)
get_beside (y ∷ xs) zero (suc i) x ne = refl
get_beside (y ∷ xs) (suc n) zero x ne = refl
get_beside (y ∷ xs) (suc n) (suc i) x ne = get_beside xs n i x (λ e. ne (ap suc e))

-- ---- what an outcome is to the call's entry

-- a write that succeeded closes its entry, unless it has no byte; so does a read that was answered, with as many bytes as it
-- gives
abbrev pub OutcomeTied : State → (c : ℕ) → CallOp → Pairs → Option ℕ → Outcome → Type 0
OutcomeTied t c op pairs o (client_rules.WriteOk count) =
    ((count ≡ 0) × (o ≡ None))
    ⊎ (((count == 0) ≡ false) × (is_write op ≡ true) × HasEntry pairs (write_of t c) o)
OutcomeTied t c op pairs o (client_rules.ReadOk bytes) =
    (is_write op ≡ false) × HasEntry pairs (entry_of t c) o × (length bytes ≡ gives (t.start (entry_of t c)))
OutcomeTied t c op pairs o u = Unit {0}

-- ---- entries that are closed

module _ (file : ℕ) (t : State) (es : List Logged) (pairs : Pairs) (p : ArePaired t file es pairs) (single : IsSingle pairs)
    (n j : ℕ) (e x : Logged) (pair : IsPair pairs n j) (there : slice_get es n ≡ Some e) (file_same : x.file ≡ e.file) where
  -- an entry of the machine is in one pair
  one_entry : (i : ℕ) → IsPair pairs i j → i ≡ n
  one_entry i q = elim (cases_eq i n) [
    | inl same ↦ same
    | inr ne ↦ elim (cases_lt i n) [
      | inl less ↦ let l : j < j = p.rising i j n j q pair less in absurd (omega (arith, l))
      | inr more ↦ let l : j < j = p.rising n j i j pair q (omega (arith, more, ne)) in absurd (omega (arith, l))
    ]
  ]

  abbrev changed : List Logged
  changed = slice_set es n x

  -- Entry n becomes another, and so does entry j of the machine.
  pub closes : (u : State) → u.count ≡ t.count → ((k : ℕ) → (k ≡ j → ⊥) → StaysAt t u k) →
      (IsSame t file j e → IsSame u file j x) →
      ((k : ℕ) → IsPassed t k → (k ≡ j → ⊥) → IsPassed u k) → ArePaired u file changed pairs
  closes u count stays same passes = paired_becomes t u file es changed pairs (record {
    count = count;
    same = λ i k y q at_ z. elim (cases_eq i n) [
      | inl is ↦
          let its : k ≡ j = single n k j (subst (λ (a : ℕ). IsPair pairs a k) is q) pair in
          let both : Some y ≡ Some e = sym at_ ∙ ap (slice_get es) is ∙ there in
          let one : y ≡ e = cc both in (
            x,
            ap (slice_get changed) is ∙ get_set es n x (slice_get_within es n e there),
            subst (λ (a : ℕ). IsSame u file a x) (sym its)
                (same (subst (λ (a : ℕ). IsSame t file a e) its (subst (IsSame t file k) one z))),
          )
      | inr ne ↦ (
        y,
        get_beside es n i x ne ∙ at_,
        same_at t u file k y (omega (arith, count))
            (stays k (λ is. ne (one_entry i (subst (λ (a : ℕ). IsPair pairs i a) is q)))) z,
      )
    ];
    back = λ i y at_ here. elim (cases_eq i n) [
      | inl is ↦
          let found : Some x ≡ Some y =
          sym (get_set es n x (slice_get_within es n e there)) ∙ sym (ap (slice_get changed) is) ∙ at_ in
          let one : x ≡ y = cc found in
          (e, ap (slice_get es) is ∙ there, sym file_same ∙ ap (λ (z : Logged). z.file) one ∙ here)
      | inr ne ↦ (y, sym (get_beside es n i x ne) ∙ at_, here)
    ];
    passed = λ k l none z. passes k z (λ is. none n (subst (λ (a : ℕ). IsPair pairs n a) (sym is) pair));
  }) p

-- an entry of another file, or one that says what it said
pub other_closes : (file : ℕ) (t : State) (es : List Logged) (pairs : Pairs) (n : ℕ) (e x : Logged) → slice_get es n ≡ Some e →
    (e.file ≡ file → x ≡ e) → (x.file ≡ e.file) → ArePaired t file es pairs → ArePaired t file (slice_set es n x) pairs
other_closes file t es pairs n e x there same file_same p =
    same_entries t file es (slice_set es n x) pairs
    (λ i y at_ here. elim (cases_eq i n) [
      | inl is ↦
          let both : Some y ≡ Some e = sym at_ ∙ ap (slice_get es) is ∙ there in
          let one : y ≡ e = cc both in
          ap (slice_get (slice_set es n x)) is ∙ get_set es n x (slice_get_within es n e there)
          ∙ ap Some (same (sym (ap (λ (z : Logged). z.file) one) ∙ here) ∙ sym one)
      | inr ne ↦ get_beside es n i x ne ∙ at_
    ])
    (λ i y at_ here. elim (cases_eq i n) [
      | inl is ↦
          let found : Some x ≡ Some y =
          sym (get_set es n x (slice_get_within es n e there)) ∙ sym (ap (slice_get (slice_set es n x)) is) ∙ at_ in
          let one : x ≡ y = cc found in
          ap (slice_get es) is ∙ there
          ∙ ap Some (sym (same (sym file_same ∙ ap (λ (z : Logged). z.file) one ∙ here)) ∙ one)
      | inr ne ↦ sym (get_beside es n i x ne) ∙ at_
    ]) p

-- ---- the log behind the line

-- a call that fails leaves its entry
pub failed_entry : (e : Entry) (kind : CallKind) (why : Ending) → ended_entry e (outcome.Failed kind why) ≡ e
failed_entry (entry.Write offset bytes a) kind why = refl
failed_entry (entry.Read offset count a) kind why = refl

closed_kind : (e : Entry) (x : ToldCall) (o : ToldOutcome) → IsOfCall e x → IsOfCall (ended_entry e o) x
closed_kind (entry.Write offset bytes a) (told.Write f b c) (outcome.WriteOk n) k = k
closed_kind (entry.Write offset bytes a) (told.Write f b c) o k = k
closed_kind (entry.Read offset count a) (told.Read f b c) (outcome.ReadOk bytes) k = k
closed_kind (entry.Read offset count a) (told.Read f b c) o k = k
closed_kind (entry.Write offset bytes a) (told.Read f b c) o k = absurd k
closed_kind (entry.Read offset count a) (told.Write f b c) o k = absurd k

-- the entries of pending calls are as they should be
closed_named : (es : List Logged) (x : ToldCall) (m : ℕ) (o : ToldOutcome) (n : ℕ) (e : Option Logged) → slice_get es n ≡ e →
    IsEntryOf es x m → IsEntryOf (closed_with es n o e) x m
closed_named es x m o n None at_ k = k
closed_named es x m o n (Some e) at_ k = elim (cases_eq m n) [
  | inl is ↦
      let both : Some k.logged ≡ Some e = sym k.there ∙ ap (slice_get es) is ∙ at_ in
      let one : k.logged ≡ e = cc both in
      record {
        logged = closed o e;
        there = ap (slice_get (slice_set es n (closed o e))) is ∙ get_set es n (closed o e) (slice_get_within es n e at_);
        file = ap (λ (z : Logged). z.file) (sym one) ∙ k.file;
        kind = closed_kind e.entry x o (subst (λ (z : Logged). IsOfCall z.entry x) one k.kind);
      }
  | inr ne ↦ record {
    logged = k.logged;
    there = get_beside es n m (closed o e) ne ∙ k.there;
    file = k.file;
    kind = k.kind;
  }
]

closed_at_named : (es : List Logged) (x : ToldCall) (m : ℕ) (o : ToldOutcome) (n : Option ℕ) → IsEntryOf es x m →
    IsEntryOf (closed_at es o n) x m
closed_at_named es x m o None k = k
closed_at_named es x m o (Some n) k = closed_named es x m o n (slice_get es n) refl k

pub ends_named : (l : Log) (c : ℕ) (o : ToldOutcome) → AreRising l.pending → AreNamed l → AreNamed (ends l c o)
ends_named l c o rising named d n p there is = elim (cases_eq d c) [
  | inl same ↦
      let none : at_number (without_number l.pending c) d ≡ None =
      ap (at_number (without_number l.pending c)) same ∙ removed_there c l.pending rising in
      absurd (cc (sym there ∙ none))
  | inr other ↦
      closed_at_named l.entries p.call n o (entry_in (at_number l.pending c))
      (named d n p (sym (removed_beside c d l.pending other) ∙ there) is)
]
