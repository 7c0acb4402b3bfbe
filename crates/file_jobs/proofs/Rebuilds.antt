-- A rebuild between its messages, as a file's job.
use Rattle.std.specs.Prelude.{ℕ, List, [], ◌∷◌, ◌≡◌, refl}
use Rattle.std.proofs.Common.{◌∙◌}
use Rattle.server_rules.specs.declared.files.Kept.{Kept}
use Rattle.server_rules.specs.declared.jobs.Heard.{Heard}
use Rattle.server_rules.specs.declared.jobs.JobKind.{JobKind}
use Rattle.server_rules.specs.Going.{Going, over}
use Rattle.server_rules.specs.Jobs.{filled_in, gathered, goes_on}
use Rattle.stripe_repair.specs.declared.rebuild.FillStage.{FillStage}
use Rattle.stripe_repair.specs.declared.rebuild.FillStage.TheVariants.{Gathering, Filling}
use Rattle.stripe_repair.specs.Filling.{RebuildState, comes_to, fill_work_at, fill_work_of, ArePiecesOf, IsReadable}
use Rattle.server_rules.specs.declared.jobs.Awaited.{Awaited}
use Rattle.server_rules.specs.declared.jobs.JobKind.TheVariants.{Rebuilding}
use Rattle.server_rules.specs.declared.server.Effects.{Effects}
use Rattle.stripe_repair.specs.declared.rebuild.FillStep.{FillStep}
use Rattle.stripe_repair.specs.declared.rebuild.FillStep.TheVariants.{Store}
use Rattle.file_jobs.specs.declared.job.Turn.{Turn}
use Rattle.file_jobs.specs.declared.job.Work.TheVariants.{Rebuilds as Pieces}
use Rattle.file_jobs.specs.Steps.{Around, RestsOr, going, turned}
use Rattle.file_jobs.specs.Sound.{CanFill, Fits}

-- ---- what its job needs

pub fits_reading : (k : Kept) (sent : ℕ) (s : RebuildState) → s.stage ≡ Gathering → CanFill k s.target s.todo → IsReadable k s →
    Fits k sent (fill_work_of s)
fits_reading k sent s e f r = rw e (f, r)

pub fits_writing : (k : Kept) (sent : ℕ) (s : RebuildState) → s.stage ≡ Filling → CanFill k s.target s.todo →
    Fits k sent (fill_work_of s)
fits_writing k sent s e f = rw e f

pub can_fill : (k : Kept) (sent : ℕ) (s : RebuildState) → Fits k sent (fill_work_of s) → CanFill k s.target s.todo
can_fill k sent s f = by_stage s.stage f
  where
    by_stage : (stage : FillStage) → Fits k sent (fill_work_at stage s.target s.todo) → CanFill k s.target s.todo
    by_stage Gathering f = f.0
    by_stage Filling f = f

pub is_readable : (k : Kept) (sent : ℕ) (s : RebuildState) → s.stage ≡ Gathering → Fits k sent (fill_work_of s) → IsReadable k s
is_readable k sent s e f = (rw e at f).1

pub fills_still : (k : Kept) (old new : RebuildState) → new.target ≡ old.target → ArePiecesOf k.map new →
    CanFill k old.target old.todo → CanFill k new.target new.todo
fills_still k old new t p f = record { component = rw t f.component; pieces = p }

-- ---- where it rests or goes on

-- it sends the WRITE alone
pub stores_is : (step : FillStep) (kept : Kept) (was is : Effects) (turn : Turn) (r : RebuildState) (w : Awaited)
    (cs : List Awaited) → step ≡ Store w → cs ≡ w ∷ [] →
    RestsOr cs Rebuilding (Pieces r) was turn is → (a : Around) → turned turn kept is a ≡ comes_to step (going kept was a) r
stores_is step kept was is turn r w cs e f h a = h kept a (over (going kept was a)) ∙ rw (e, f) refl

pub goes_gathered : (kind : JobKind) (g : Going) (s : RebuildState) (heard : List Heard) → s.stage ≡ Gathering →
    gathered g s.target s.todo heard ≡ goes_on kind (fill_work_of s) heard g
unfolding goes_on
goes_gathered kind g s heard e = rw e refl

pub goes_filled : (kind : JobKind) (g : Going) (s : RebuildState) (heard : List Heard) → s.stage ≡ Filling →
    filled_in g s.target s.todo ≡ goes_on kind (fill_work_of s) heard g
unfolding goes_on
goes_filled kind g s heard e = rw e refl
