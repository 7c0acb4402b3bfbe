-- The counts of the components of files, over a step.
use Rattle.std.specs.Prelude.{ℕ, [], ◌∷◌, Option, Some, None, ◌≡◌, ◌+◌, ◌≤◌, ◌<◌, slice_index}
use Rattle.std.specs.Ordering.{nat_cmp}
use Rattle.std.specs.BTreeMap.{is_at}
use Rattle.std.specs.Map.{values_of}
use Rattle.std.proofs.Common.{arith, ap, sym, subst, ◌∙◌}
use Rattle.std.proofs.lemmas.List.Sums.{sum_by-cons}
use Rattle.std.proofs.lemmas.Map.Entries.{sum_by-remove_entry}
use Rattle.zone_place.specs.declared.loads.TheConstants.{MAX_DRIVES}
use Rattle.file_jobs.specs.declared.job.FileState.{FileState}
use Rattle.server_state.specs.Counts.{Counts, AreCounts, standing}
use Rattle.server_state.specs.Replies.{OthersStay}
use Rattle.server_state.specs.Standing.{standing_of, standing_if, standing_in, AreCounted}
use Rattle.server_state.specs.Tables.{Table, entry_at, without}

-- those of one file and of the others
both : (t : Table) (n d : ℕ) (o : Option FileState) → entry_at t n ≡ o →
    standing_in d (without n t) + standing_if d o ≡ standing_in d t
both t n d o e =
    subst (λ (p : Option FileState). standing_in d (without n t) + standing_if d p ≡ standing_in d t) e
    (sum_by-remove_entry (standing_of d) (is_at (nat_cmp n)) t)

-- what stands of a file was counted
pub file_counted : (t : Table) (old : Counts) (n : ℕ) (f : FileState) → entry_at t n ≡ Some f → AreCounted old t →
    (d : ℕ) → d < MAX_DRIVES → standing d f.kept.components ≤ slice_index old d
file_counted t old n f e a d l = omega (arith, both t n d (Some f) e, a d l)

-- it is taken off the counts
pub counted_off : (t : Table) (old new : Counts) (n : ℕ) (f : FileState) → entry_at t n ≡ Some f → AreCounted old t →
    AreCounts old (λ d. slice_index new d + standing d f.kept.components) → AreCounted new (without n t)
counted_off t old new n f e a h = λ d l. omega (arith, both t n d (Some f) e, a d l, h d l)

-- and put on them
pub counted_on : (t : Table) (old new : Counts) (n : ℕ) (f : FileState) → entry_at t n ≡ Some f → AreCounted old (without n t) →
    AreCounts new (λ d. slice_index old d + standing d f.kept.components) → AreCounted new t
counted_on t old new n f e a h = λ d l. omega (arith, both t n d (Some f) e, a d l, h d l)

-- where there is no such file, the others are all
pub none_off : (t : Table) (cs : Counts) (n : ℕ) → entry_at t n ≡ None → AreCounted cs t → AreCounted cs (without n t)
none_off t cs n e a = λ d l. omega (arith, both t n d None e, a d l)

pub none_on : (t : Table) (cs : Counts) (n : ℕ) → entry_at t n ≡ None → AreCounted cs (without n t) → AreCounted cs t
none_on t cs n e a = λ d l. omega (arith, both t n d None e, a d l)

-- meanwhile that file changes and no other
pub still_counted : (n : ℕ) (cs : Counts) (old new : Table) → OthersStay n old new → AreCounted cs (without n old) →
    AreCounted cs (without n new)
still_counted n cs old new others a = subst (λ (t : Table). AreCounted cs t) (sym others) a

-- ---- all files, in order

-- those that are left are still to be counted
abbrev pub AreToCount : Counts → (left all : Table) → Type 0
AreToCount cs left all = (d : ℕ) → d < MAX_DRIVES → slice_index cs d + standing_in d left ≡ standing_in d all

pub count_first : (cs : Counts) (t : Table) → AreCounts cs (λ d. 0) → AreToCount cs t t
count_first cs t h = λ d l. omega (arith, h d l)

pub count_more : (cs next : Counts) (n : ℕ) (f : FileState) (left rest all : Table) → left ≡ (n, f) ∷ rest →
    AreCounts next (λ d. slice_index cs d + standing d f.kept.components) → AreToCount cs left all → AreToCount next rest all
count_more cs next n f left rest all e h a = λ d l.
    let first : standing_in d left ≡ standing d f.kept.components + standing_in d rest =
    ap (λ (t : Table). standing_in d t) e ∙ sum_by-cons (standing_of d) f (values_of rest) in
    omega (arith, h d l, a d l, first)

pub count_last : (cs : Counts) (left all : Table) → left ≡ [] → AreToCount cs left all → AreCounted cs all
count_last cs left all e a = λ d l.
    let none : standing_in d left ≡ 0 = ap (λ (t : Table). standing_in d t) e in
    omega (arith, a d l, none)

-- no file, and none stands anywhere
pub empty_counted : (cs : Counts) (t : Table) → AreCounts cs (λ d. 0) → t ≡ [] → AreCounted cs t
empty_counted cs t h e = subst (λ (z : Table). AreCounted cs z) (sym e) h
