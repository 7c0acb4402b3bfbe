-- One call more of a disk in memory.
use Rattle.std.proofs.Common.{◌≡◌, ◌⊎◌, inl, inr, ⊎_elim, ℕ, zero, suc, ◌+◌, ◌-◌, ◌≤◌, min, List, [], ◌∷◌, ◌++◌, length, take, drop, replicate, refl, sym, ◌∙◌, ap, subst, arith, append_assoc, length-append, take-append-drop}
use Rattle.std.proofs.lemmas.List.{append-nil, take_at, drop_at, length-take, length-replicate}
use Rattle.osd_lists.specs.Overwrite.{overwritten}
use Rattle.osd_lists.proofs.Overwritten.{length-overwritten}
use Rattle.osd_disk.specs.Calls.{done, all_done, left_by, left_after, left_from, all_seen_stays}
use Rattle.osd_disk.specs.Crashes.{Holds, Torn, Follows, Narrows, Only, Elapses}
use Rattle.osd_disk.specs.Medium.{Medium, bytes_of, may_hold, might_hold, Did, Failed}
use Rattle.osd_disk.specs.declared.calls.Call.{Call}
use Rattle.osd_disk.specs.declared.calls.Call.TheVariants.{Write, Sync, Idle}

abbrev Outcomes : Type 1
Outcomes = List ℕ → Type 0

-- ---- calls one after another

pub done_last : (calls : List Call) (call : Call) (seen : List ℕ) →
    all_done (calls ++ call ∷ []) seen ≡ done call (all_done calls seen)
done_last [] call seen = refl
done_last (x ∷ calls) call seen = done_last calls call (done x seen)

-- a call that writes nothing
pub stays_done : (calls more : List Call) (call : Call) (seen first : List ℕ) → (call ≡ Idle) ⊎ (call ≡ Sync) →
    seen ≡ all_done calls first → more ≡ calls ++ call ∷ [] → seen ≡ all_done more first
stays_done calls more call seen first (inl idle) was pushed =
    was ∙ ap (λ (c : Call). done c (all_done calls first)) (sym idle) ∙ sym (done_last calls call first)
    ∙ ap (λ (cs : List Call). all_done cs first) (sym pushed)
stays_done calls more call seen first (inr sync) was pushed =
    was ∙ ap (λ (c : Call). done c (all_done calls first)) (sym sync) ∙ sym (done_last calls call first)
    ∙ ap (λ (cs : List Call). all_done cs first) (sym pushed)

-- one that writes
pub written_over : (calls more : List Call) (at : ℕ) (copy bytes seen now first : List ℕ) → copy ≡ bytes →
    seen ≡ all_done calls first
    → more ≡ calls ++ Write at copy ∷ [] → now ≡ overwritten seen at bytes → now ≡ all_done more first
written_over calls more at copy bytes seen now first same was pushed is =
    is
    ∙ ap (λ (l : List ℕ). overwritten l at bytes) was
    ∙ ap (λ (l : List ℕ). overwritten (all_done calls first) at l) (sym same)
    ∙ sym (done_last calls (Write at copy) first)
    ∙ ap (λ (cs : List Call). all_done cs first) (sym pushed)

-- a disk that is the old one, but for one call more
pub did_more : (m : Medium) (call : Call) (first : List ℕ) (calls : List Call) (fails : List ℕ) (faults : ℕ)
    → first ≡ m.first → calls ≡ m.calls ++ call ∷ [] → fails ≡ m.fails → faults ≡ m.faults
    → Did call m (record { first = first; calls = calls; fails = fails; faults = faults })
did_more m call first calls fails faults a b c d =
    ap (λ (x : List ℕ). the_medium x calls fails faults) a
    ∙ ap (λ (x : List Call). the_medium m.first x fails faults) b
    ∙ ap (λ (x : List ℕ). the_medium m.first (m.calls ++ call ∷ []) x faults) c
    ∙ ap (λ (x : ℕ). the_medium m.first (m.calls ++ call ∷ []) m.fails x) d
  where
    the_medium : List ℕ → List Call → List ℕ → ℕ → Medium
    the_medium f cs ns n = record { first = f; calls = cs; fails = ns; faults = n }

-- the same of a disk that was told before and after by its past
abbrev Told : List ℕ → List Call → Medium
Told first calls = record { first = first; calls = calls; fails = []; faults = 0 }

pub did_told : (m : Medium) (call : Call) (first first' : List ℕ) (calls calls' : List Call) → Told first calls ≡ m
    → first' ≡ first → calls' ≡ calls ++ call ∷ [] → Did call m (Told first' calls')
did_told m call first first' calls calls' is a b =
    did_more m call first' calls' [] 0
    (a ∙ ap (λ (k : Medium). k.first) is)
    (b ∙ ap (λ (k : Medium). k.calls ++ call ∷ []) is)
    (ap (λ (k : Medium). k.fails) is)
    (ap (λ (k : Medium). k.faults) is)

-- what a crash may leave after one more
left_last : (calls : List Call) (call : Call) (seen : List ℕ) (before : Outcomes) (c : List ℕ) →
    left_after (calls ++ call ∷ []) seen before c → left_by call (all_done calls seen) (λ d. left_after calls seen before d) c
left_last [] call seen before c left = left
left_last (x ∷ calls) call seen before c left = left_last calls call (done x seen) (left_by x seen before) c left

-- and the other way round
pub last_left : (calls : List Call) (call : Call) (seen : List ℕ) (before : Outcomes) (c : List ℕ) →
    left_by call (all_done calls seen) (λ d. left_after calls seen before d) c → left_after (calls ++ call ∷ []) seen before c
last_left [] call seen before c left = left
last_left (x ∷ calls) call seen before c left = last_left calls call (done x seen) (left_by x seen before) c left

from_last : (t : ℕ) (calls : List Call) (call : Call) (seen : List ℕ) (before : Outcomes) (c : List ℕ) → t ≤ length calls →
    left_from t (calls ++ call ∷ []) seen before c →
    left_from t calls seen before c ⊎ left_after (calls ++ call ∷ []) seen before c
from_last zero [] call seen before c le (inl now) = inl now
from_last zero [] call seen before c le (inr more) = inr more
from_last (suc t) [] call seen before c le left = absurd (omega (arith, le))
from_last zero (x ∷ calls) call seen before c le (inl now) = inl (inl now)
from_last zero (x ∷ calls) call seen before c le (inr more) =
    ⊎_elim (λ past. inl (inr past)) (λ now. inr now)
    (from_last zero calls call (done x seen) (left_by x seen before) c (omega arith) more)
from_last (suc t) (x ∷ calls) call seen before c le left =
    from_last t calls call (done x seen) (left_by x seen before) c (omega (arith, le)) left

from_stays : (t : ℕ) (calls : List Call) (call : Call) (seen : List ℕ) (before : Outcomes) (c : List ℕ) → t ≤ length calls →
    left_from t calls seen before c → left_from t (calls ++ call ∷ []) seen before c
from_stays zero [] call seen before c le left = inl left
from_stays (suc t) [] call seen before c le left = absurd (omega (arith, le))
from_stays zero (x ∷ calls) call seen before c le (inl now) = inl now
from_stays zero (x ∷ calls) call seen before c le (inr more) =
    inr (from_stays zero calls call (done x seen) (left_by x seen before) c (omega arith) more)
from_stays (suc t) (x ∷ calls) call seen before c le left =
    from_stays t calls call (done x seen) (left_by x seen before) c (omega (arith, le)) left

-- ---- what is torn

-- a write that is done whole
pub torn_whole : (at : ℕ) (bytes old : List ℕ) → Torn at (length bytes) old (overwritten old at bytes)
torn_whole at bytes old = record {
  before = ap (λ (l : List ℕ). take (min at (length old)) l) (append_assoc (take at old) zeros (bytes ++ post))
      ∙ take_at (take at old) (zeros ++ (bytes ++ post)) (min at (length old)) (length-take at old);
  behind = ap (λ (l : List ℕ). drop (at + length bytes) l) (sym (append_assoc (take at old ++ zeros) bytes post))
      ∙ drop_at ((take at old ++ zeros) ++ bytes) post (at + length bytes) long;
  no_shorter = omega (arith, length-overwritten old at bytes);
  no_longer = omega (arith, length-overwritten old at bytes);
}
  where
    zeros : List ℕ
    zeros = replicate (at - length old) 0

    post : List ℕ
    post = drop (at + length bytes) old

    long : length ((take at old ++ zeros) ++ bytes) ≡ at + length bytes
    long = omega (
      arith,
      length-append (take at old ++ zeros) bytes,
      length-append (take at old) zeros,
      length-take at old,
      length-replicate {A = ℕ} (at - length old) 0,
    )

-- one that changes nothing
pub torn_same : (at n : ℕ) (old : List ℕ) → Torn at n old old
torn_same at n old = record {
  before = ap (λ (l : List ℕ). take (min at (length old)) l) (sym (take-append-drop at old))
      ∙ take_at (take at old) (drop at old) (min at (length old)) (length-take at old);
  behind = refl;
  no_shorter = omega arith;
  no_longer = omega arith;
}

pub holds_whole : (at : ℕ) (bytes old : List ℕ) → at ≤ length old → Holds old at bytes (overwritten old at bytes)
holds_whole at bytes old le =
    let none : at - length old ≡ 0 = omega (arith, le) in
    ap (λ (k : ℕ). (take at old ++ replicate k 0) ++ (bytes ++ drop (at + length bytes) old)) none
    ∙ ap (λ (l : List ℕ). l ++ (bytes ++ drop (at + length bytes) old)) (append-nil (take at old))
    ∙ sym (append_assoc (take at old) bytes (drop (at + length bytes) old))

-- ---- a call was done

abbrev After : Medium → Call → Medium
After m call = record m { calls = m.calls ++ call ∷ [] }

elapses_after : (m : Medium) (call : Call) →
    Elapses (length m.calls) (length (After m call).calls) (might_hold m) (might_hold (After m call)) (may_hold (After m call))
elapses_after m call = record {
  later = omega (arith, length-append m.calls (call ∷ []));
  nothing_else = λ t c le left. from_last t m.calls call m.first (λ d. d ≡ m.first) c le left;
  keeps = λ t c le left. from_stays t m.calls call m.first (λ d. d ≡ m.first) c le left;
}

module _ (m n : Medium) (call : Call) (did : Did call m n) where
  pub did_elapse : Elapses (length m.calls) (length n.calls) (might_hold m) (might_hold n) (may_hold n)
  did_elapse =
      subst (λ (k : Medium). Elapses (length m.calls) (length k.calls) (might_hold m) (might_hold k) (may_hold k)) (sym did)
      (elapses_after m call)

  pub did_bytes : bytes_of n ≡ done call (bytes_of m)
  did_bytes = ap bytes_of did ∙ done_last m.calls call m.first

  pub did_leave : (c : List ℕ) → may_hold n c → left_by call (bytes_of m) (may_hold m) c
  did_leave c left = left_last m.calls call m.first (λ d. d ≡ m.first) c (subst (λ (k : Medium). may_hold k c) did left)

stays : (m : Medium) → may_hold m (bytes_of m)
stays m = all_seen_stays m.calls m.first (λ d. d ≡ m.first) refl

pub idle_narrows : (m n : Medium) → Did Idle m n → Narrows (may_hold m) (may_hold n)
idle_narrows m n did c left = did_leave m n Idle did c left

pub sync_only : (m n : Medium) → Did Sync m n → Only (bytes_of m) (may_hold n)
sync_only m n did c left = did_leave m n Sync did c left

pub sync_narrows : (m n : Medium) → Did Sync m n → Narrows (may_hold m) (may_hold n)
sync_narrows m n did c left = subst (may_hold m) (sym (sync_only m n did c left)) (stays m)

pub write_follows : (m n : Medium) (at : ℕ) (bytes : List ℕ) → Did (Write at bytes) m n →
    Follows (Torn at (length bytes)) (may_hold m) (may_hold n)
write_follows m n at bytes did c left = by_part (did_leave m n (Write at bytes) did c left)
  where
    by_part : left_by (Write at bytes) (bytes_of m) (may_hold m) c → (d : List ℕ) × may_hold m d × Torn at (length bytes) d c
    by_part (inl whole) = (
      bytes_of m,
      whole.1,
      subst (λ (l : List ℕ). Torn at (length bytes) (bytes_of m) l) (sym whole.0) (torn_whole at bytes (bytes_of m)),
    )
    by_part (inr torn) = torn

pub write_torn : (m n : Medium) (at : ℕ) (bytes : List ℕ) → Did (Write at bytes) m n →
    Torn at (length bytes) (bytes_of m) (bytes_of n)
write_torn m n at bytes did =
    subst (λ (l : List ℕ). Torn at (length bytes) (bytes_of m) l) (sym (did_bytes m n (Write at bytes) did))
    (torn_whole at bytes (bytes_of m))

pub write_holds : (m n : Medium) (at : ℕ) (bytes : List ℕ) → Did (Write at bytes) m n → at ≤ length (bytes_of m) →
    Holds (bytes_of m) at bytes (bytes_of n)
write_holds m n at bytes did le = did_bytes m n (Write at bytes) did ∙ holds_whole at bytes (bytes_of m) le

-- ---- a call failed

-- what a call that failed leaves as it was
pub record IsCalm (m n : Medium) : Type 0 where
  pub bytes : bytes_of n ≡ bytes_of m
  pub narrows : Narrows (may_hold m) (may_hold n)
  pub time : Elapses (length m.calls) (length n.calls) (might_hold m) (might_hold n) (may_hold n)

calm_same : (m : Medium) (faults : ℕ) → IsCalm m (record m { faults = faults })
calm_same m faults = record {
  bytes = refl;
  narrows = λ c left. left;
  time = record { later = omega arith; nothing_else = λ t c le left. inl left; keeps = λ t c le left. left };
}

calm_idle : (m : Medium) (faults : ℕ) → IsCalm m (record m { calls = m.calls ++ Idle ∷ []; faults = faults })
calm_idle m faults = record {
  bytes = done_last m.calls Idle m.first;
  narrows = λ c left. left_last m.calls Idle m.first (λ d. d ≡ m.first) c left;
  time = elapses_after m Idle;
}

pub failed_is_calm : (m n : Medium) → Failed m n → IsCalm m n
failed_is_calm m n (inl same) = subst (IsCalm m) (sym same) (calm_same m n.faults)
failed_is_calm m n (inr idle) = subst (IsCalm m) (sym idle) (calm_idle m n.faults)

pub failed_follows : (m n : Medium) (at k : ℕ) → Failed m n → Follows (Torn at k) (may_hold m) (may_hold n)
failed_follows m n at k failed c left = (c, (failed_is_calm m n failed).narrows c left, torn_same at k c)

pub failed_torn : (m n : Medium) (at k : ℕ) → Failed m n → Torn at k (bytes_of m) (bytes_of n)
failed_torn m n at k failed =
    subst (λ (l : List ℕ). Torn at k (bytes_of m) l) (sym (failed_is_calm m n failed).bytes) (torn_same at k (bytes_of m))
