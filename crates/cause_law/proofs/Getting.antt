-- A LAYOUTGET comes to the first row that applies.
use Rattle.std.proofs.Common.{◌≡◌, ◌≢◌, ◌<◌, ◌≤◌, ◌==◌, ◌||◌, ℕ, ◌+◌, Bool, true, false, not, nat_lt, List, [], find, Option, Some, None, refl, sym, ap, subst, ◌∙◌, arith, inl, inr, if◌then◌else◌}
use Rattle.std.proofs.lemmas.Bool.{cases_lt, false≢true}
use Rattle.std.proofs.lemmas.Bool.Decides.{nat_tests}
use Rattle.data_map.specs.declared.ranges.TheConstants.{MAX_FILE_SIZE}
use Rattle.data_map.specs.declared.check.RawMap.{RawMap}
use Rattle.layout_ops.specs.declared.statuses.TheConstants.{LAYOUTIOMODE4_READ, LAYOUTIOMODE4_RW, NFS4_OK, NFS4ERR_BADIOMODE, NFS4ERR_INVAL, NFS4ERR_LAYOUTTRYLATER, NFS4ERR_LAYOUTUNAVAILABLE, NFS4ERR_RECALLCONFLICT}
use Rattle.server_rules.specs.declared.limits.TheConstants.{GREATEST_TAG, GREATEST_GRANT, NO_COMPONENT}
use Rattle.server_rules.specs.Get as rows
use Rattle.server_rules.specs.Get.{lowest, by_job, early, must_fence, by_first, by_lacked, lacked, late, by_late, give_or_refuse, after_fence, fence_then, fence_first, on_grants, by_early, gets}
use Rattle.server_rules.specs.Grants.{conflicts, asked}
use Rattle.server_rules.specs.Going.{Going, keeping, noting}
use Rattle.server_rules.specs.Jobs.{ending, fence_begins}
use Rattle.server_rules.proofs.HandlerLaws.{fence_leaves_none}
use Rattle.server_rules.proofs.Runs.{ran_fences}
use Rattle.server_rules.specs.Laws.{ConflictsAreExact, Rests}
use Rattle.server_rules.specs.Messages.{awaited_by}
use Rattle.server_rules.specs.Served.{Served, Told, tells, says}
use Rattle.server_rules.specs.Standing.{lacked_from}
use Rattle.world_history.specs.ServerNames.{File, Kept, Component, Grant, Awaited, Job, Revoking, Spent}
use Rattle.cause_law.specs.Gets.{AreOpposed, IsLowest, NeedsFence, IsLackedFirst, Asking, Row, BadMode, BadRange, LeftOpen, Waits, TagSpent, Fences, NoNumber, Lacks, Held, Gives, place, Applies, IsFirst, Left, AsTheyWere, Ended, LeavesLive}
use Rattle.cause_law.specs.Answers.{asking}
use Rattle.cause_law.proofs.Words.{job_waits, same_cut, needs, needs_none, held, none_held_more, lacked_first, lacked_none}

-- ---- the rows before a row

abbrev NoneUpto : Asking → ℕ → Type 0
NoneUpto a n = (r : Row) → place r < n → Applies a r → ⊥

-- one row more doesn't apply
none_more : (a : Asking) (n : ℕ) → NoneUpto a n → ((r : Row) → place r ≡ n → Applies a r → ⊥) → NoneUpto a (n + 1)
none_more a n before here r less applies = elim (cases_lt (place r) n) [
  | inl l ↦ before r l applies
  | inr g ↦ here r (omega (arith, less, g)) applies
]

none_yet : (a : Asking) → NoneUpto a 0
none_yet a r less applies = absurd (omega (arith, less))

no_mode : (a : Asking) → (Applies a BadMode → ⊥) → (r : Row) → place r ≡ 0 → Applies a r → ⊥
no_mode a n BadMode e x = n x
no_mode a n r e x = absurd (cc e)

no_range : (a : Asking) → (Applies a BadRange → ⊥) → (r : Row) → place r ≡ 1 → Applies a r → ⊥
no_range a n BadRange e x = n x
no_range a n r e x = absurd (cc e)

not_open : (a : Asking) → (Applies a LeftOpen → ⊥) → (r : Row) → place r ≡ 2 → Applies a r → ⊥
not_open a n LeftOpen e x = n x
not_open a n r e x = absurd (cc e)

no_wait : (a : Asking) → ((k : ℕ) → Applies a (Waits k) → ⊥) → (r : Row) → place r ≡ 3 → Applies a r → ⊥
no_wait a n (Waits k) e x = n k x
no_wait a n r e x = absurd (cc e)

not_spent : (a : Asking) → (Applies a TagSpent → ⊥) → (r : Row) → place r ≡ 4 → Applies a r → ⊥
not_spent a n TagSpent e x = n x
not_spent a n r e x = absurd (cc e)

no_fence : (a : Asking) → ((k : ℕ) → Applies a (Fences k) → ⊥) → (r : Row) → place r ≡ 5 → Applies a r → ⊥
no_fence a n (Fences k) e x = n k x
no_fence a n r e x = absurd (cc e)

numbered : (a : Asking) → (Applies a NoNumber → ⊥) → (r : Row) → place r ≡ 6 → Applies a r → ⊥
numbered a n NoNumber e x = n x
numbered a n r e x = absurd (cc e)

no_lack : (a : Asking) → ((k : ℕ) → Applies a (Lacks k) → ⊥) → (r : Row) → place r ≡ 7 → Applies a r → ⊥
no_lack a n (Lacks k) e x = n k x
no_lack a n r e x = absurd (cc e)

no_holder : (a : Asking) → ((c : ℕ) → Applies a (Held c) → ⊥) → (r : Row) → place r ≡ 8 → Applies a r → ⊥
no_holder a n (Held c) e x = n c x
no_holder a n r e x = absurd (cc e)

-- ---- one row alone is the first

same_lowest : (cs : List Awaited) (j k : ℕ) → IsLowest cs j → IsLowest cs k → j ≡ k
same_lowest cs j k x y = omega (arith, x.its, y.its, x.least y.one y.there, y.least x.one x.there)

same_row : (a : Asking) (r s : Row) → place r ≡ place s → Applies a r → Applies a s → r ≡ s
same_row a BadMode BadMode e x y = refl
same_row a BadRange BadRange e x y = refl
same_row a LeftOpen LeftOpen e x y = refl
same_row a (Waits j) (Waits k) e x y = ap (λ (n : ℕ). Waits n) (same_lowest (awaited_by a.before.job) j k x y)
same_row a TagSpent TagSpent e x y = refl
same_row a (Fences j) (Fences k) e x y = ap (λ (n : ℕ). Fences n) (same_lowest (awaited_by a.behind.job) j k x.1 y.1)
same_row a NoNumber NoNumber e x y = refl
same_row a (Lacks j) (Lacks k) e x y =
    let l : j ≤ k = x.1.least k y.1.lacked in
    let m : k ≤ j = y.1.least j x.1.lacked in
    let same : j ≡ k = omega (arith, l, m) in
    ap (λ (n : ℕ). Lacks n) same
same_row a (Held c) (Held d) e x y =
    let same : x.grant ≡ y.grant =
    same_cut (AreOpposed a.wanted) x.earlier y.earlier x.grant y.grant x.later y.later (sym x.live_are ∙ y.live_are) x.opposed
    y.opposed x.oldest y.oldest in
    ap (λ (n : ℕ). Held n) (sym x.client_is ∙ ap (λ (g : Grant). g.client) same ∙ y.client_is)
same_row a Gives Gives e x y = refl
same_row a r s e x y = absurd (cc e)

pub first_alone : (a : Asking) (r s : Row) → IsFirst a r → IsFirst a s → s ≡ r
first_alone a r s x y = elim (cases_lt (place s) (place r)) [
  | inl l ↦ absurd (x.none s l y.applies)
  | inr g ↦ elim (cases_lt (place r) (place s)) [
    | inl m ↦ absurd (y.none r m x.applies)
    | inr h ↦ same_row a s r (omega (arith, g, h)) y.applies x.applies
  ]
]

-- ---- what a LAYOUTGET comes to

abbrev pub told_by : Grant → Row → Told
told_by g BadMode = tells NFS4ERR_BADIOMODE 0
told_by g BadRange = tells NFS4ERR_INVAL 0
told_by g LeftOpen = tells NFS4ERR_LAYOUTUNAVAILABLE NO_COMPONENT
told_by g (Waits k) = tells NFS4ERR_RECALLCONFLICT k
told_by g TagSpent = tells NFS4ERR_LAYOUTUNAVAILABLE NO_COMPONENT
told_by g (Fences k) = tells NFS4ERR_RECALLCONFLICT k
told_by g NoNumber = tells NFS4ERR_LAYOUTUNAVAILABLE NO_COMPONENT
told_by g (Lacks k) = tells NFS4ERR_LAYOUTUNAVAILABLE k
told_by g (Held c) = tells NFS4ERR_LAYOUTTRYLATER c
told_by g Gives = record { status = NFS4_OK; detail = 0; grant = Some g }

module _ (exact : ConflictsAreExact) (start : Going) (next format now client iomode offset count : ℕ) where
  abbrev wanted : Grant
  wanted = asked start.file.kept next client now offset count (iomode == LAYOUTIOMODE4_RW)

  abbrev ask : File → Asking
  ask g = asking start.file g next now client iomode offset count

  -- the first row that applies is told
  pub record Comes (v : Served) : Type 0 where
    pub row : Row
    pub first : IsFirst (ask v.going.file) row
    pub told : v.told ≡ told_by wanted row
    pub live : LeavesLive (ask v.going.file) row
    pub size : v.going.file.kept.size ≡ start.file.kept.size

  is_told : (v : Served) (r : Row) → Applies (ask v.going.file) r → NoneUpto (ask v.going.file) (place r)
      → v.told ≡ told_by wanted r → LeavesLive (ask v.going.file) r → v.going.file.kept.size ≡ start.file.kept.size
      → Comes v
  is_told v r applies none told live size =
      record { row = r; first = record { applies = applies; none = none }; told = told; live = live; size = size }

  -- ---- the late rows

  module _ (go : Going) (left : (g : File) → Left (ask g) go.file.kept.grants)
      (same : go.file.kept.size ≡ start.file.kept.size) (upto : (g : File) → g.job ≡ go.file.job → NoneUpto (ask g) 6) where
    lacks_none : (g : Kept) (k : ℕ) → g.map ≡ go.file.kept.map → g.components ≡ go.file.kept.components
        → lacked go.file.kept wanted ≡ None → wanted.rw ≡ true → IsLackedFirst g wanted k → ⊥
    lacks_none g k map components e rw_is l =
        lacked_none g wanted k (
        ap (λ (m : RawMap). lacked_from m g.components wanted.first wanted.end g.components 0) map
        ∙ ap (λ (cs : List Component). lacked_from go.file.kept.map cs wanted.first wanted.end cs 0) components
        ∙ (sym
        (ap (λ (b : Bool). if b then lacked_from go.file.kept.map go.file.kept.components wanted.first wanted.end
        go.file.kept.components 0 else None) rw_is) ∙ e)) l

    by_holder : (o : Option Grant) → find (conflicts wanted) go.file.kept.grants ≡ o
        → nat_lt GREATEST_GRANT next ≡ false → lacked go.file.kept wanted ≡ None → Comes (by_late go wanted (by_first o))
    by_holder None e n l =
        let v : Served = by_late go wanted rows.Gives in
        let x : Asking = ask v.going.file in
        is_told v Gives tt (none_more x 8 (none_more x 7 (none_more x 6 (upto v.going.file refl)
        (numbered x (λ more. absurd (grind (arith, nat_tests, n, more)))))
        (no_lack x (λ k y. lacks_none v.going.file.kept k refl refl l y.0 y.1)))
        (no_holder x (λ c y. none_held_more exact go.file.kept.grants wanted c e y))) refl
        (go.file.kept.grants, left v.going.file, refl) same
    by_holder (Some d) e n l =
        let v : Served = by_late go wanted (rows.Conflict d.client) in
        let x : Asking = ask v.going.file in
        is_told v (Held d.client) (held exact go.file.kept.grants wanted d e)
        (none_more x 7 (none_more x 6 (upto v.going.file refl)
        (numbered x (λ more. absurd (grind (arith, nat_tests, n, more)))))
        (no_lack x (λ k y. lacks_none v.going.file.kept k refl refl l y.0 y.1))) refl (left v.going.file) same

    by_rw : (b : Bool) → wanted.rw ≡ b → (o : Option ℕ)
        → lacked_from go.file.kept.map go.file.kept.components wanted.first wanted.end go.file.kept.components 0 ≡ o
        → nat_lt GREATEST_GRANT next ≡ false
        → Comes (by_late go wanted (by_lacked (if b then o else None) (find (conflicts wanted) go.file.kept.grants)))
    by_rw true w None e n = by_holder (find (conflicts wanted) go.file.kept.grants) refl n (rw w e)
    by_rw false w o e n = by_holder (find (conflicts wanted) go.file.kept.grants) refl n (rw w refl)
    by_rw true w (Some k) e n =
        let v : Served = by_late go wanted (rows.Lacks k) in
        let x : Asking = ask v.going.file in
        is_told v (Lacks k) (w, lacked_first go.file.kept wanted k e) (none_more x 6 (upto v.going.file refl)
        (numbered x (λ more. absurd (grind (arith, nat_tests, n, more))))) refl (left v.going.file) same

    by_number : (b : Bool) → nat_lt GREATEST_GRANT next ≡ b
        → Comes (by_late go wanted
        (if b then rows.NoNumber else by_lacked (lacked go.file.kept wanted) (find (conflicts wanted) go.file.kept.grants)))
    by_number true e =
        let v : Served = by_late go wanted rows.NoNumber in
        is_told v NoNumber (grind (arith, nat_tests, e)) (upto v.going.file refl) refl (left v.going.file) same
    by_number false e = by_rw wanted.rw refl _ refl e

    comes_late : Comes (give_or_refuse go next wanted)
    unfolding give_or_refuse late
    comes_late = by_number (nat_lt GREATEST_GRANT next) refl

  -- ---- the row of the fence

  none_awaited : (k : ℕ) → IsLowest [] k → ⊥
  none_awaited k l = l.there

  module _ (upto : (g : File) → NoneUpto (ask g) 4) where
    by_fence : (go : Going) (o : Option Job) → go.file.job ≡ o → NeedsFence now start.file.kept.grants wanted
        → start.file.kept.tag ≢ GREATEST_TAG → go.file.kept.grants ≡ [] → go.file.kept.size ≡ start.file.kept.size
        → Rests (after_fence go next wanted o).going.file.job → Comes (after_fence go next wanted o)
    by_fence go None e fence tag none same rests =
        comes_late go (λ g. subst (Left (ask g)) (sym none) (Ended fence)) same
        (λ g job. none_more (ask g) 5 (none_more (ask g) 4 (upto g)
        (not_spent (ask g) (λ x. tag x.1)))
        (no_fence (ask g) (λ k x. none_awaited k (subst (λ (j : Option Job). IsLowest (awaited_by j) k) (job ∙ e) x.1))))
    by_fence go (Some j) e fence tag none same rests =
        let v : Served = after_fence go next wanted (Some j) in
        let x : Asking = ask v.going.file in
        is_told v (Fences (lowest j.awaited)) (
          fence,
          subst (λ (i : Option Job). IsLowest (awaited_by i) (lowest j.awaited)) (sym e) (job_waits j (subst Rests e rests)),
        )
        (none_more x 4 (upto v.going.file) (not_spent x (λ y. tag y.1))) refl none same

    by_tag : (b : Bool) → (start.file.kept.tag == GREATEST_TAG) ≡ b → NeedsFence now start.file.kept.grants wanted
        → Rests (if b then says (noting start Spent) NFS4ERR_LAYOUTUNAVAILABLE NO_COMPONENT
        else fence_then (fence_begins Revoking format start) next wanted).going.file.job
        → Comes (if b then says (noting start Spent) NFS4ERR_LAYOUTUNAVAILABLE NO_COMPONENT
        else fence_then (fence_begins Revoking format start) next wanted)
    unfolding fence_begins
    by_tag true e fence rests =
        let v : Served = says (noting start Spent) NFS4ERR_LAYOUTUNAVAILABLE NO_COMPONENT in
        is_told v TagSpent (fence, grind (arith, nat_tests, e)) (upto v.going.file) refl refl refl
    by_tag false e fence rests =
        by_fence (fence_begins Revoking format start) (fence_begins Revoking format start).file.job refl fence
        (λ same. absurd (grind (arith, nat_tests, e, same))) (fence_leaves_none Revoking format start)
        (ran_fences Revoking (keeping start (ending start.file.kept format))).size rests

    by_need : (b : Bool) → must_fence now start.file.kept.grants wanted ≡ b
        → Rests (if b then fence_first start next format wanted else give_or_refuse start next wanted).going.file.job
        → Comes (if b then fence_first start next format wanted else give_or_refuse start next wanted)
    unfolding fence_first
    by_need true e rests =
        by_tag (start.file.kept.tag == GREATEST_TAG) refl (needs exact now start.file.kept.grants wanted e) rests
    by_need false e rests =
        let none : NeedsFence now start.file.kept.grants wanted → ⊥ = needs_none exact now start.file.kept.grants wanted e in
        comes_late start (λ g. AsTheyWere none) refl (λ g job. none_more (ask g) 5 (none_more (ask g) 4 (upto g)
        (not_spent (ask g) (λ x. none x.0))) (no_fence (ask g) (λ k x. none x.0)))

    comes_on : Rests (on_grants start next format now wanted).going.file.job → Comes (on_grants start next format now wanted)
    unfolding on_grants
    comes_on rests = by_need (must_fence now start.file.kept.grants wanted) refl rests

  -- ---- the early rows

  abbrev is_mode : Bool
  is_mode = (iomode == LAYOUTIOMODE4_READ) || (iomode == LAYOUTIOMODE4_RW)

  abbrev is_empty : Bool
  is_empty = (count == 0) || nat_lt MAX_FILE_SIZE (offset + count)

  upto_mode : (g : File) → is_mode ≡ true → NoneUpto (ask g) 1
  upto_mode g m = none_more (ask g) 0 (none_yet (ask g)) (no_mode (ask g) (λ x. absurd (grind (arith, nat_tests, m, x))))

  upto_range : (g : File) → is_mode ≡ true → is_empty ≡ false → NoneUpto (ask g) 2
  upto_range g m r =
      none_more (ask g) 1 (upto_mode g m) (no_range (ask g) (λ x. absurd (grind (arith, nat_tests, r, x))))

  upto_open : (g : File) → is_mode ≡ true → is_empty ≡ false → start.file.spent ≡ false → NoneUpto (ask g) 3
  upto_open g m r s =
      none_more (ask g) 2 (upto_range g m r) (not_open (ask g) (λ x. absurd (false≢true (sym s ∙ x))))

  by_the_job : (o : Option Job) → start.file.job ≡ o → is_mode ≡ true → is_empty ≡ false → start.file.spent ≡ false
      → Rests start.file.job → Rests (by_early start next format now wanted (by_job o)).going.file.job
      → Comes (by_early start next format now wanted (by_job o))
  by_the_job None e m r s before rests =
      comes_on (λ g. none_more (ask g) 3 (upto_open g m r s)
      (no_wait (ask g) (λ k x. none_awaited k (subst (λ (j : Option Job). IsLowest (awaited_by j) k) e x)))) rests
  by_the_job (Some j) e m r s before rests =
      let v : Served = by_early start next format now wanted (by_job (Some j)) in
      is_told v (Waits (lowest j.awaited))
      (subst (λ (i : Option Job). IsLowest (awaited_by i) (lowest j.awaited)) (sym e) (job_waits j (subst Rests e before)))
      (upto_open v.going.file m r s) refl refl refl

  by_tests : (b c d : Bool) → is_mode ≡ b → is_empty ≡ c → start.file.spent ≡ d → Rests start.file.job
      → Rests (by_early start next format now wanted
      (if not b then rows.BadMode else if c then rows.Invalid else if d then rows.Unable else by_job
      start.file.job)).going.file.job
      → Comes (by_early start next format now wanted
      (if not b then rows.BadMode else if c then rows.Invalid else if d then rows.Unable else by_job start.file.job))
  by_tests false c d m r s before rests =
      let v : Served = by_early start next format now wanted rows.BadMode in
      is_told v BadMode (λ x. absurd (grind (arith, nat_tests, m, x)), λ x. absurd (grind (arith, nat_tests, m, x)))
      (none_yet (ask v.going.file)) refl refl refl
  by_tests true true d m r s before rests =
      let v : Served = by_early start next format now wanted rows.Invalid in
      is_told v BadRange (grind (arith, nat_tests, r)) (upto_mode v.going.file m) refl refl refl
  by_tests true false true m r s before rests =
      let v : Served = by_early start next format now wanted rows.Unable in
      is_told v LeftOpen s (upto_range v.going.file m r) refl refl refl
  by_tests true false false m r s before rests = by_the_job start.file.job refl m r s before rests

  pub comes : Rests start.file.job → Rests (gets start next format now client iomode offset count).going.file.job
      → Comes (gets start next format now client iomode offset count)
  unfolding gets early
  comes before rests = by_tests is_mode is_empty start.file.spent refl refl refl before rests
