-- A job's part may still go on.
use Rattle.std.specs.Prelude.{ℕ, List, [], ◌∷◌, ◌++◌, Bool, false, Option, Some, None, refl, zero, suc, ◌≡◌, ◌+◌, ◌<◌, ◌≤◌, ◌==◌, not, length, filter, slice_get}
use Rattle.std.proofs.Common.{arith, inl, inr}
use Rattle.std.proofs.lemmas.Bool.{cases_Bool}
use Rattle.std.proofs.lemmas.Bool.Decides.{nat_tests}
use Rattle.server_rules.specs.declared.files.Kept.{Kept}
use Rattle.server_rules.specs.declared.jobs.Awaited.{Awaited}
use Rattle.server_rules.specs.declared.jobs.Heard.{Heard}
use Rattle.server_rules.specs.declared.jobs.Job.{Job}
use Rattle.server_rules.specs.declared.jobs.Target.{Target}
use Rattle.server_rules.specs.declared.jobs.Work.{Work}
use Rattle.server_rules.specs.declared.jobs.Work.TheVariants.{Creates, Fences, Fetches, Stores, Targets, Gathers, Fills, Lengths, Checks}
use Rattle.file_jobs.specs.Losing.{target_in}
use Rattle.stripe_repair.specs.declared.rebuild.FillStage.{FillStage}
use Rattle.stripe_repair.specs.declared.rebuild.FillStage.TheVariants.{Gathering, Filling}
use Rattle.stripe_repair.specs.Filling.{RebuildState, fill_work_at, fill_work_of}
use Rattle.file_jobs.specs.declared.job.Work.{Work as RunningWork}
use Rattle.file_jobs.specs.declared.job.Work.TheVariants.{Creates as IsMade, Fences as IsFenced, Repairs as InRepair, Targets as OnTarget, Rebuilds as InPieces, Lengths as IsMeasured, Checks as InAudit}
use Rattle.file_jobs.specs.Works.{work_of}
use Rattle.file_jobs.proofs.Mends.{fits_repair}
use Rattle.file_jobs.specs.Sound.{CanFill, Fits, FitsAfterLoss, HasSoundJob, IsSoundJob}

pub some_is : (t u : Target) → Some u ≡ Some t → t ≡ u
some_is t u e = cc e

-- the target of a rebuild is one of the components
pub target_fits : (k : Kept) (sent : ℕ) (work : Work) (t : Target) → target_in work ≡ Some t → Fits k sent work →
    t.component < length k.components
target_fits k sent Creates t e f = absurd (cc e)
target_fits k sent Fences t e f = absurd (cc e)
target_fits k sent (Fetches todo short) t e f = absurd (cc e)
target_fits k sent (Stores todo short b) t e f = absurd (cc e)
target_fits k sent (Targets u) t e f = rw (some_is t u e) f
target_fits k sent (Gathers u todo) t e f = rw (some_is t u e) f.0.component
target_fits k sent (Fills u todo) t e f = rw (some_is t u e) f.component
target_fits k sent Lengths t e f = absurd (cc e)
target_fits k sent (Checks todo x) t e f = absurd (cc e)

-- no rebuild: it doesn't look at the components
pub fits_others : (k l : Kept) (m n : ℕ) (work : Work) → target_in work ≡ None → l.tag ≡ k.tag → n ≤ m → Fits k m work →
    Fits l n work
fits_others k l m n Creates e t s f = tt
fits_others k l m n Fences e t s f = omega (arith, t, f)
fits_others k l m n (Fetches todo short) e t s f = tt
fits_others k l m n (Stores todo short b) e t s f = tt
fits_others k l m n (Targets u) e t s f = absurd (cc e)
fits_others k l m n (Gathers u todo) e t s f = absurd (cc e)
fits_others k l m n (Fills u todo) e t s f = absurd (cc e)
fits_others k l m n Lengths e t s f = omega (arith, s, f)
fits_others k l m n (Checks todo x) e t s f = tt

-- what a part looks at is the same
pub fits_same : (k l : Kept) (m n : ℕ) (work : Work) → l.tag ≡ k.tag → l.map ≡ k.map → l.components ≡ k.components → n ≤ m →
    Fits k m work → Fits l n work
fits_same k l m n Creates t e c s f = tt
fits_same k l m n Fences t e c s f = omega (arith, t, f)
fits_same k l m n (Fetches todo short) t e c s f = tt
fits_same k l m n (Stores todo short b) t e c s f = tt
fits_same k l m n (Targets u) t e c s f = rw c f
fits_same k l m n (Gathers u todo) t e c s f =
    (record { component = rw c f.0.component; pieces = rw e f.0.pieces }, rw (e, c) f.1)
fits_same k l m n (Fills u todo) t e c s f = record { component = rw c f.component; pieces = rw e f.pieces }
fits_same k l m n Lengths t e c s f = omega (arith, s, f)
fits_same k l m n (Checks todo x) t e c s f = tt

-- ---- a component became missing

-- as many components as before, of which more are missing
pub fits_lost : (k l : Kept) (sent : ℕ) (work : Work) → l.tag ≡ k.tag → l.map ≡ k.map →
    length l.components ≡ length k.components → Fits k sent work → FitsAfterLoss l sent work
fits_lost k l sent Creates t e c f = tt
fits_lost k l sent Fences t e c f = omega (arith, t, f)
fits_lost k l sent (Fetches todo short) t e c f = tt
fits_lost k l sent (Stores todo short b) t e c f = tt
fits_lost k l sent (Targets u) t e c f = rw c f
fits_lost k l sent (Gathers u todo) t e c f = record { component = rw c f.0.component; pieces = rw e f.0.pieces }
fits_lost k l sent (Fills u todo) t e c f = record { component = rw c f.component; pieces = rw e f.pieces }
fits_lost k l sent Lengths t e c f = f
fits_lost k l sent (Checks todo x) t e c f = tt

-- no rebuild: it doesn't look at them
pub fits_again : (k : Kept) (sent : ℕ) (work : Work) → target_in work ≡ None → FitsAfterLoss k sent work → Fits k sent work
fits_again k sent Creates e f = tt
fits_again k sent Fences e f = f
fits_again k sent (Fetches todo short) e f = tt
fits_again k sent (Stores todo short b) e f = tt
fits_again k sent (Targets u) e f = absurd (cc e)
fits_again k sent (Gathers u todo) e f = absurd (cc e)
fits_again k sent (Fills u todo) e f = absurd (cc e)
fits_again k sent Lengths e f = f
fits_again k sent (Checks todo x) e f = tt

-- the target of a rebuild is still one of the components
pub target_after : (k : Kept) (sent : ℕ) (work : Work) (t : Target) → target_in work ≡ Some t → FitsAfterLoss k sent work →
    t.component < length k.components
target_after k sent Creates t e f = absurd (cc e)
target_after k sent Fences t e f = absurd (cc e)
target_after k sent (Fetches todo short) t e f = absurd (cc e)
target_after k sent (Stores todo short b) t e f = absurd (cc e)
target_after k sent (Targets u) t e f = rw (some_is t u e) f
target_after k sent (Gathers u todo) t e f = rw (some_is t u e) f.component
target_after k sent (Fills u todo) t e f = rw (some_is t u e) f.component
target_after k sent Lengths t e f = absurd (cc e)
target_after k sent (Checks todo x) t e f = absurd (cc e)

-- its pieces may begin again
pub can_fill_after : (k : Kept) (sent : ℕ) (work : Work) (r : RebuildState) → work ≡ fill_work_of r → FitsAfterLoss k sent work →
    CanFill k r.target r.todo
can_fill_after k sent work r e f = by_stage r.stage r (rw e at f)
  where
    by_stage : (stage : FillStage) (s : RebuildState) → FitsAfterLoss k sent (fill_work_at stage s.target s.todo) →
        CanFill k s.target s.todo
    by_stage Gathering s f = f
    by_stage Filling s f = f

-- before its pieces it waits on as before
pub waits_after : (k : Kept) (sent : ℕ) (work : RunningWork) → ((r : RebuildState) → work ≡ InPieces r → ⊥) →
    FitsAfterLoss k sent (work_of work) → Fits k sent (work_of work)
waits_after k sent IsMade n f = tt
waits_after k sent IsFenced n f = f
waits_after k sent (InRepair r) n f = fits_repair k sent r
waits_after k sent (OnTarget u) n f = f
waits_after k sent (InPieces r) n f = absurd (n r refl)
waits_after k sent IsMeasured n f = f
waits_after k sent (InAudit a) n f = tt

-- the job that runs may go on
pub job_of : (k : Kept) (o : Option Job) (j : Job) → o ≡ Some j → HasSoundJob k o → IsSoundJob k j
job_of k None j e h = absurd (cc e)
job_of k (Some i) j e h = rw (same j i e) h
  where
    same : (j i : Job) → Some i ≡ Some j → j ≡ i
    same j i e = cc e

-- ---- what is still awaited

pub few_left : (p : Awaited → Bool) (cs : List Awaited) → length (filter p cs) ≤ length cs
few_left p [] = omega arith
few_left p (c ∷ cs) = elim (cases_Bool (p c)) [
  | inl t ↦ rw t (omega (arith, few_left p cs))
  | inr z ↦ rw z (omega (arith, few_left p cs))
]

-- that at a place isn't
pub one_less : (p : Awaited → Bool) (cs : List Awaited) (place : ℕ) (a : Awaited) → slice_get cs place ≡ Some a → p a ≡ false →
    length (filter p cs) + 1 ≤ length cs
one_less p [] place a e f = absurd (cc e)
one_less p (c ∷ cs) zero a e f =
    let same : c ≡ a = cc e in
    rw (same, f) (omega (arith, few_left p cs))
one_less p (c ∷ cs) (suc place) a e f = elim (cases_Bool (p c)) [
  | inl t ↦ rw t (omega (arith, one_less p cs place a e f))
  | inr z ↦ rw z (omega (arith, one_less p cs place a e f))
]

-- a number is no other than itself
pub not_other : (n : ℕ) → not (n == n) ≡ false
not_other n = grind (arith, nat_tests)

-- one more reply was heard, and one command less is awaited
pub heard_one : (p : Awaited → Bool) (cs : List Awaited) (place : ℕ) (a : Awaited) (heard : List Heard) (h : Heard) →
    slice_get cs place ≡ Some a → p a ≡ false →
    length (filter p cs) + length (heard ++ h ∷ []) ≤ length cs + length heard
heard_one p cs place a heard h e f = omega (arith, one_less p cs place a e f, one_more heard)
  where
    one_more : (xs : List Heard) → length (xs ++ h ∷ []) ≡ length xs + 1
    one_more [] = refl
    one_more (x ∷ xs) = omega (arith, one_more xs)
