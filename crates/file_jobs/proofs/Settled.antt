-- Steps at a whole file, for some answers of the placer.
use Rattle.std.specs.Prelude.{List, ◌++◌, Option, ◌≡◌, refl}
use Rattle.std.proofs.Common.{◌∙◌}
use Rattle.server_rules.specs.declared.files.Kept.{Kept}
use Rattle.server_rules.specs.declared.jobs.Job.{Job}
use Rattle.server_rules.specs.declared.server.Effects.{Effects}
use Rattle.server_rules.specs.Going.{Going}
use Rattle.stripe_repair.specs.declared.loads.DriveLoad.{DriveLoad}
use Rattle.file_jobs.specs.declared.job.FileState.{FileState}
use Rattle.file_jobs.specs.declared.job.Turn.{Turn}
use Rattle.file_jobs.specs.Steps.{Around, Settles, StepsOn, going, turned}

-- a turn, and what the job goes on with
pub settled_steps : (f : Going → Going) (turn : Turn) (loads : List DriveLoad) (old : FileState) (was mid is : Effects) (k : Kept)
    (job : Option Job) →
    ((a : Around) → a.job ≡ old.job → turned turn k mid a ≡ f (going old.kept was a)) → Settles turn loads k mid job is →
    StepsOn f loads old was (record { kept = k; spent = old.spent; job = job }) is
settled_steps f turn loads old was mid is k job t s = λ ds l. (
  s.0,
  λ rest.
      let a : Around = record { spent = old.spent; job = old.job; drives = ds; chosen = rest } in
      s.1 a l ∙ t (record a { chosen = s.0 ++ rest }) refl,
)
