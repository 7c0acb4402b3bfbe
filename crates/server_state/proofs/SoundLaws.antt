-- A file stays sound where a request changes it.
use Rattle.std.specs.Prelude.{ℕ, Bool, true, false, List, [], ◌∷◌, ◌++◌, Option, Some, None, ◌≡◌, ◌≤◌, ◌==◌, ◌||◌, ◌+◌, not, nat_lt, length, refl, if◌then◌else◌}
use Rattle.std.proofs.Common.{arith, inl, inr}
use Rattle.std.proofs.lemmas.Bool.{cases_Bool}
use Rattle.data_map.specs.declared.ranges.TheConstants.{MAX_FILE_SIZE}
use Rattle.server_rules.specs.declared.grants.Grant.{Grant}
use Rattle.server_rules.specs.declared.files.Kept.{Kept}
use Rattle.server_rules.specs.declared.jobs.Job.{Job}
use Rattle.server_rules.specs.Grants.{without}
use Rattle.layout_types.specs.declared.ioerrs.IoErr.{IoErr}
use Rattle.server_rules.specs.Return.{Taken, return_row}
use Rattle.layout_ops.specs.declared.statuses.TheConstants.{LAYOUTIOMODE4_READ, LAYOUTIOMODE4_RW}
use Rattle.server_rules.specs.Get.{Early, BadMode, Invalid, Unable, On, high_after}
use Rattle.server_requests.specs.Rows.{by_waits, early_of}
use Rattle.server_rules.specs.Standing.{lose_from}
use Rattle.server_rules.proofs.Components.{length_lost}
use Rattle.file_jobs.specs.declared.job.FileState.{FileState}
use Rattle.file_jobs.specs.Ranges.{EndInside}
use Rattle.file_jobs.specs.Sound.{HasSoundJob, IsAlone, IsSoundFile}
use Rattle.file_jobs.proofs.FitsLaws.{fits_same}
use Rattle.file_jobs.proofs.Mends.{alone_idle, job_idle}
use Rattle.server_state.specs.FileRequests.{LeavesFile, waited}

-- ---- lists

ends_more : (gs : List Grant) (g : Grant) → g.first ≤ g.end → g.end ≤ MAX_FILE_SIZE → EndInside gs → EndInside (gs ++ g ∷ [])
ends_more [] g r l e = (r, l, tt)
ends_more (h ∷ gs) g r l e = (e.0, e.1, ends_more gs g r l e.2)

ends_without : (gs : List Grant) (client : ℕ) → EndInside gs → EndInside (without gs client)
ends_without [] client e = tt
ends_without (g ∷ gs) client e = elim (cases_Bool (not (g.client == client))) [
  | inl t ↦ rw t (e.0, e.1, ends_without gs client e.2)
  | inr z ↦ rw z (ends_without gs client e.2)
]

-- ---- jobs

-- a job stays sound where all that it looks at stays
job_same : (k l : Kept) (j : Option Job) → l.tag ≡ k.tag → l.map ≡ k.map → l.components ≡ k.components → HasSoundJob k j →
    HasSoundJob l j
job_same k l None t m c f = tt
job_same k l (Some j) t m c f =
    fits_same k l (length j.awaited + length j.heard) (length j.awaited + length j.heard) j.work t m c (omega arith) f

-- where a grant ends and a job runs there is none still
alone_without : (k : Kept) (client : ℕ) (j : Option Job) → IsAlone k j → IsAlone (record k { grants = without k.grants client }) j
alone_without k client None a = tt
alone_without k client (Some j) a = rw a refl

-- nothing is waited for exactly where none runs
pub not_waiting : (j : Option Job) → waited j ≡ None → j ≡ None
not_waiting None e = refl
not_waiting (Some j) e = absurd (cc e)

-- ---- files

high_low : (high : ℕ) (g : Grant) → high ≤ MAX_FILE_SIZE → g.end ≤ MAX_FILE_SIZE → high_after high g ≤ MAX_FILE_SIZE
high_low high g l e = elim (cases_Bool g.rw) [ inl t ↦ rw t (omega (arith, l, e)) | inr z ↦ rw z l ]

-- a grant is given
pub sound_given : (f : FileState) (g : Grant) (k : Kept) → g.first ≤ g.end → g.end ≤ MAX_FILE_SIZE → f.job ≡ None →
    IsSoundFile f →
    k ≡ record f.kept { grants = f.kept.grants ++ (g ∷ []); high = high_after f.kept.high g } →
    IsSoundFile (record f { kept = k })
sound_given f g k r l i s e = record {
  kept = rw e (record {
    few = s.kept.few;
    whole = s.kept.whole;
    high = high_low f.kept.high g s.kept.high l;
    live = ends_more f.kept.grants g r l s.kept.live;
    ended = s.kept.ended;
  });
  alone = alone_idle k f.job i;
  job = job_idle k f.job i;
}

-- a client's grant goes
pub sound_without : (f : FileState) (client : ℕ) → IsSoundFile f →
    IsSoundFile (record f { kept = record f.kept { grants = without f.kept.grants client } })
sound_without f client s = record {
  kept = record {
    few = s.kept.few;
    whole = s.kept.whole;
    high = s.kept.high;
    live =
        ends_without f.kept.grants client s.kept.live;
    ended = s.kept.ended;
  };
  alone = alone_without f.kept client f.job s.alone;
  job = job_same f.kept (record f.kept { grants = without f.kept.grants client }) f.job refl refl refl s.job;
}

-- components become missing
pub sound_lost : (f : FileState) (ks : List ℕ) → f.job ≡ None → IsSoundFile f →
    IsSoundFile (record f { kept = record f.kept { components = lose_from ks f.kept.components 0 } })
sound_lost f ks i s = record {
  kept = record {
    few = rw (length_lost ks f.kept.components 0) s.kept.few;
    whole =
        rw (length_lost ks f.kept.components 0) s.kept.whole;
    high = s.kept.high;
    live = s.kept.live;
    ended = s.kept.ended;
  };
  alone = alone_idle (record f.kept { components = lose_from ks f.kept.components 0 }) f.job i;
  job = job_idle (record f.kept { components = lose_from ks f.kept.components 0 }) f.job i;
}

-- ---- a step

-- the client's grant goes at the end of a step
pub ended_leaves : (f mid new : FileState) (client : ℕ) → LeavesFile f mid →
    new ≡ record mid { kept = record mid.kept { grants = without mid.kept.grants client } } → LeavesFile f new
ended_leaves f mid new client l e = rw e (record { number = l.number; sound = sound_without mid client l.sound })

-- nothing was done yet
pub still_leaves : (f : FileState) → IsSoundFile f → LeavesFile f f
still_leaves f s = record { number = refl; sound = s }

-- components become missing by a report
pub loss_leaves : (f new : FileState) (ks : List ℕ) → f.job ≡ None → IsSoundFile f →
    new ≡ record f { kept = record f.kept { components = lose_from ks f.kept.components 0 } } → LeavesFile f new
loss_leaves f new ks i s e = rw e (record { number = refl; sound = sound_lost f ks i s })

-- ---- a report that is taken

none_has : (f : Kept) (client : ℕ) (report : List IoErr) (ks : List ℕ) → f.grants ≡ [] → return_row f client report ≡ Taken ks → ⊥
unfolding return_row
none_has f client report ks e t = absurd (cc (rw e at t))

-- a loss is taken only where the client has a grant, and so where no job runs
pub taken_idle : (f : Kept) (j : Option Job) (client : ℕ) (report : List IoErr) (ks : List ℕ) → IsAlone f j →
    return_row f client report ≡ Taken ks → j ≡ None
taken_idle f None client report ks a t = refl
taken_idle f (Some j) client report ks a t = absurd (none_has f client report ks a t)

-- ---- a LAYOUTGET of which grants decide

behind_all : (a b c : Bool) (row : Early) → On ≡ (if a then BadMode else if b then Invalid else if c then Unable else row) →
    On ≡ row
behind_all true b c row e = absurd (cc e)
behind_all false true c row e = absurd (cc e)
behind_all false false true row e = absurd (cc e)
behind_all false false false row e = e

on_waits : (j : Option Job) → On ≡ by_waits (waited j) → j ≡ None
on_waits None e = refl
on_waits (Some j) e = absurd (cc e)

-- the rows of grants come only where no job runs
pub on_idle : (spent : Bool) (j : Option Job) (iomode offset count : ℕ) → On ≡ early_of spent (waited j) iomode offset count →
    j ≡ None
unfolding early_of
on_idle spent j iomode offset count e =
    on_waits j (behind_all (not ((iomode == LAYOUTIOMODE4_READ) || (iomode == LAYOUTIOMODE4_RW)))
    ((count == 0) || nat_lt MAX_FILE_SIZE (offset + count)) spent (by_waits (waited j)) e)
