-- What a request does at a file, part by part.
use Rattle.std.specs.Prelude.{ℕ, List, [], ◌∷◌, ◌≡◌, ◌+◌, ◌<◌, refl, false, Option, Some, None, Result, Ok, Err, IfOk, drop, length, suc, if◌then◌else◌}
use Rattle.std.proofs.Common.{arith, inl, inr, ap, sym, ◌∙◌, eq-eqb, drop-cons}
use Rattle.osd_lists.specs.declared.memory.Memory.{Memory}
use Rattle.layout_types.specs.declared.ioerrs.IoErr.{IoErr}
use Rattle.server_rules.specs.declared.files.Kept.{Kept}
use Rattle.server_rules.specs.declared.jobs.Job.{Job}
use Rattle.server_rules.specs.Grants.{asked, grant_of}
use Rattle.server_rules.specs.Return.{Fencing, by_loss, by_report, by_grant, loss, return_row}
use Rattle.server_requests.specs.declared.get.Wanted.{Wanted}
use Rattle.server_requests.specs.Rows.{by_waits, early_of, is_rw}
use Rattle.std.proofs.lemmas.Bool.{cases_Bool}
use Rattle.server_rules.specs.declared.limits.TheConstants.{GREATEST_TAG}
use Rattle.server_rules.specs.declared.files.Component.{Component}
use Rattle.server_rules.specs.declared.grants.Grant.{Grant}
use Rattle.server_rules.specs.declared.notes.NoteKind.TheVariants.{Reported}
use Rattle.server_rules.specs.declared.server.Drive.{Drive}
use Rattle.server_rules.specs.declared.server.Effects.{Effects}
use Rattle.server_rules.specs.Numbers.{among}
use Rattle.server_rules.specs.Standing.{lose_from}
use Rattle.server_rules.specs.Going.{Going}
use Rattle.server_rules.specs.Served.{Served}
use Rattle.server_rules.specs.Get.{Early, by_job, early, by_early, gets}
use Rattle.server_rules.specs.Return.{reports_from, takes_loss}
use Rattle.file_jobs.specs.declared.job.FileState.{FileState}
use Rattle.file_jobs.specs.Works.{noted}
use Rattle.file_jobs.specs.Steps.{at, file_of, Steps}
use Rattle.server_state.specs.declared.outcome.Outcome.{Outcome}
use Rattle.server_state.specs.declared.outcome.Asking.{Asking}
use Rattle.server_state.specs.FileRequests.{Serves, reported, waited, gets_for}

-- notes of components, at a file in a step
reports_as : (f : FileState) (ks : List ℕ) (cs : List Component) (k : ℕ) (m : Effects) (ds : List Drive) (chosen : List ℕ) →
    reports_from (at f m ds chosen) ks cs k ≡ at f (reported ks cs k f.kept.number m) ds chosen
unfolding reports_from reported
reports_as f ks [] k m ds chosen = refl
reports_as f ks (c ∷ cs) k m ds chosen = elim (cases_Bool (among k ks)) [
  | inl t ↦ rw t (reports_as f ks cs (k + 1) (noted m f.kept.number (Reported k)) ds chosen)
  | inr z ↦ rw z (reports_as f ks cs (k + 1) m ds chosen)
]

-- components become missing by a report
pub loss_steps : (f new : FileState) (ks : List ℕ) (was is : Effects) →
    new ≡ record f { kept = record f.kept { components = lose_from ks f.kept.components 0 } } →
    is ≡ reported ks f.kept.components 0 f.kept.number was →
    Steps (λ go. takes_loss go ks) f was new is
unfolding takes_loss
loss_steps f new ks was is e h =
    λ ds chosen. rw (e, h)
    (sym (reports_as
    (record f { kept = record f.kept { components = lose_from ks f.kept.components 0 } }) ks f.kept.components 0 was ds
    chosen))

-- ---- rows

-- where this is what the function does at the file
pub serves_as : (F G : Going → Served) (r : Result Outcome Memory) (f new : FileState) (was is : Effects) →
    ((ds : List Drive) (chosen : List ℕ) → F (at f was ds chosen) ≡ G (at f was ds chosen)) →
    IfOk r (λ o. Serves F f was o new is) → IfOk r (λ o. Serves G f was o new is)
serves_as F G (Ok o) f new was is e s = λ ds chosen. s ds chosen ∙ e ds chosen
serves_as F G (Err m) f new was is e s = tt

by_waited : (j : Option Job) → by_waits (waited j) ≡ by_job j
by_waited None = refl
by_waited (Some j) = refl

early_is : (f : FileState) (iomode offset count : ℕ) →
    early_of f.spent (waited f.job) iomode offset count ≡ early (file_of f) iomode offset count
unfolding early early_of
early_is f iomode offset count = rw (by_waited f.job) refl

-- what the row that looks at no grant does is what the LAYOUTGET does
pub gets_by : (f : FileState) (was : Effects) (q : Asking) (w : Wanted) (e : Early) →
    e ≡ early_of f.spent (waited f.job) w.iomode w.offset w.length →
    (ds : List Drive) (chosen : List ℕ) →
    by_early (at f was ds chosen) q.next_grant q.format q.time
    (asked f.kept q.next_grant q.client q.time w.offset w.length (is_rw w.iomode)) e ≡ gets_for q w (at f was ds chosen)
unfolding gets
gets_by f was q w e h ds chosen =
    ap (by_early (at f was ds chosen) q.next_grant q.format q.time
    (asked f.kept q.next_grant q.client q.time w.offset w.length (is_rw w.iomode)))
    (h ∙ early_is f w.iomode w.offset w.length)

not_spent_loss : (f : Kept) (o : Option (List ℕ)) → by_loss f o ≡ Fencing → f.tag ≡ GREATEST_TAG → ⊥
not_spent_loss f (Some ks) e t = absurd (cc e)
not_spent_loss f None e t = absurd (cc (rw (eq-eqb f.tag GREATEST_TAG t) at e))

not_spent_report : (f : Kept) (g : Grant) (report : List IoErr) → by_report f g report ≡ Fencing → f.tag ≡ GREATEST_TAG → ⊥
not_spent_report f g [] e t = absurd (cc e)
not_spent_report f g (x ∷ xs) e t = not_spent_loss f (loss f g (x ∷ xs)) e t

not_spent_grant : (f : Kept) (report : List IoErr) (o : Option Grant) → by_grant f report o ≡ Fencing → f.tag ≡ GREATEST_TAG → ⊥
not_spent_grant f report None e t = absurd (cc e)
not_spent_grant f report (Some g) e t = not_spent_report f g report e t

-- a fence starts only where the tag isn't spent
pub not_spent : (f : Kept) (client : ℕ) (report : List IoErr) → return_row f client report ≡ Fencing → f.tag ≡ GREATEST_TAG → ⊥
unfolding return_row
not_spent f client report e t = not_spent_grant f report (grant_of f.grants client) e t

-- ---- notes of components

-- one more
pub noted_more : (ks : List ℕ) (cs : List Component) (file i component : ℕ) (is now all : Effects) → i < length cs →
    now ≡ (if among component ks then noted is file (Reported component) else is) →
    reported ks (drop i cs) component file is ≡ all →
    reported ks (drop (i + 1) cs) (component + 1) file now ≡ all
unfolding reported
noted_more ks cs file i component is now all l e h =
    let d : Component = record { drive = 0; object = 0; missing = false } in
    let next : i + 1 ≡ suc i = omega arith in
    ap (λ m. reported ks (drop (i + 1) cs) (component + 1) file m) e
    ∙ ap (λ j. reported ks (drop j cs) (component + 1) file
    (if among component ks then noted is file (Reported component) else is)) next
    ∙ ap (λ rest. reported ks rest component file is) (sym (drop-cons cs i d l)) ∙ h

-- what is served without a look at what the step did
pub for_moved : (F : Going → Served) (r : Result Outcome Memory) (f new : FileState) (m : Effects) →
    IfOk r (λ o. (is : Effects) → Serves F f is o new is) → IfOk r (λ o. Serves F f m o new m)
for_moved F (Ok o) f new m s = s m
for_moved F (Err e) f new m s = tt
