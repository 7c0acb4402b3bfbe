-- A repair that is over, and jobs that rest as they should.
use Rattle.std.specs.Prelude.{ℕ, false, List, [], ◌∷◌, Option, Some, None, ◌≡◌, ◌<◌, ◌^◌}
use Rattle.std.proofs.Common.{arith, ap, sym, subst, ◌∙◌}
use Rattle.server_rules.specs.declared.files.Kept.{Kept}
use Rattle.server_rules.specs.declared.jobs.Awaited.{Awaited}
use Rattle.server_rules.specs.declared.jobs.Job.{Job}
use Rattle.server_rules.specs.declared.jobs.JobKind.{JobKind}
use Rattle.server_rules.specs.declared.server.Effects.{Effects}
use Rattle.server_rules.specs.Going.{Going}
use Rattle.server_rules.specs.Repair.{after_repair, mended, repairs}
use Rattle.stripe_repair.specs.declared.repair.Stage.{Stage}
use Rattle.stripe_repair.specs.declared.repair.Stage.TheVariants.{Fetching, Storing}
use Rattle.stripe_repair.specs.Repairing.{RepairState, rests_repairing, work_at, work_of}
use Rattle.file_jobs.specs.declared.job.Turn.{Turn}
use Rattle.file_jobs.specs.declared.job.Turn.TheVariants.{Over, Rests, Mended, Places}
use Rattle.file_jobs.specs.Sound.{Fits, HasSoundJob, IsAlone, IsSoundJob, RestsAs, RestsLow, RestsSound, Stays}
use Rattle.file_jobs.specs.Steps.{Around, Makes}

-- where it sends nothing it is over
pub mends : (kind : JobKind) (g h : Going) (cs : List Awaited) (s : RepairState) (short : List ℕ) → cs ≡ [] → short ≡ s.short →
    h ≡ mended g short → after_repair kind h ≡ rests_repairing cs g kind s
unfolding repairs
mends kind g h [] s short e f x = ap (after_repair kind) (x ∙ ap (mended g) f)
mends kind g h (c ∷ cs) s short e f x = absurd (cc e)

-- a repair may always rest
pub fits_repair : (k : Kept) (sent : ℕ) (s : RepairState) → Fits k sent (work_of s)
fits_repair k sent s = at_stage k s s.stage
  where
    at_stage : (k : Kept) (s : RepairState) (stage : Stage) → Fits k sent (work_at stage s.todo s.short)
    at_stage k s Fetching = tt
    at_stage k s (Storing broken) = tt

-- the job that rests is as it should be
pub sound_from : (turn : Turn) (was is : Effects) (k : Kept) (job : Job) → IsSoundJob k job → RestsAs job turn →
    RestsSound turn was k is
sound_from Over was is k job s h = tt
sound_from (Rests j) was is k job s h = subst (IsSoundJob k) (sym h) s
sound_from (Mended x) was is k job s h = absurd h
sound_from (Places from) was is k job s h = absurd h

-- where a note came first
pub sound_after : (turn : Turn) (was mid is : Effects) (k : Kept) → Stays was mid → RestsSound turn mid k is →
    RestsSound turn was k is
sound_after Over was mid is k s h = tt
sound_after (Rests j) was mid is k s h = h
sound_after (Mended x) was mid is k s h = (h.0 ∙ s.0, h.1 ∙ s.1)
sound_after (Places from) was mid is k s h = (h.0 ∙ s.0, h.1 ∙ s.1)

-- where more is to be sent, the numbers are as low as before
pub sound_low : (turn : Turn) (was is : Effects) (k : Kept) → was.nonce < 2 ^ 63 → was.object < 2 ^ 63 →
    RestsSound turn was k is → RestsLow turn k is
sound_low Over was is k n o h = tt
sound_low (Rests j) was is k n o h = h
sound_low (Mended x) was is k n o h = (omega (arith, n, h.0), omega (arith, o, h.1))
sound_low (Places from) was is k n o h = (omega (arith, n, h.0), omega (arith, o, h.1))

-- nothing is sent where a repair is over
pub mended_stays : (old new : Kept) (was is : Effects) (short : List ℕ) → Makes (λ g. mended g short) old was new is →
    Stays was is
mended_stays old new was is short m =
    let a : Around = record { spent = false; job = None; drives = []; chosen = [] } in
    (ap (λ (g : Going). g.effects.nonce) (m a), ap (λ (g : Going). g.effects.object) (m a))

-- where no job runs, nothing is asked of it
pub alone_idle : (k : Kept) (o : Option Job) → o ≡ None → IsAlone k o
alone_idle k None e = tt
alone_idle k (Some j) e = absurd (cc e)

pub job_idle : (k : Kept) (o : Option Job) → o ≡ None → HasSoundJob k o
job_idle k None e = tt
job_idle k (Some j) e = absurd (cc e)

-- no grant where a job may run
pub alone_with : (k : Kept) (o : Option Job) → k.grants ≡ [] → IsAlone k o
alone_with k None e = tt
alone_with k (Some j) e = e

pub alone_of : (k : Kept) (o : Option Job) (j : Job) → o ≡ Some j → IsAlone k o → k.grants ≡ []
alone_of k None j e a = absurd (cc e)
alone_of k (Some i) j e a = a
