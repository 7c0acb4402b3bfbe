-- An order for a job, at its file.
use Rattle.std.specs.Prelude.{ℕ, List, Option, Some, None, ◌++◌, ◌≡◌, ◌==◌, if◌then◌else◌}
use Rattle.std.specs.Ordering.{nat_cmp}
use Rattle.std.specs.BTreeMap.{is_at}
use Rattle.std.specs.Map.{set_value}
use Rattle.layout_ops.specs.declared.orders.OrderResult.{OrderResult}
use Rattle.layout_ops.specs.declared.orders.OrderResult.TheVariants as result
use Rattle.server_rules.specs.declared.limits.TheConstants.{GREATEST_TAG}
use Rattle.server_rules.specs.declared.jobs.Job.{Job}
use Rattle.server_rules.specs.declared.jobs.JobKind.{JobKind}
use Rattle.server_rules.specs.declared.notes.NoteKind.TheVariants.{Busy, Spent}
use Rattle.server_rules.specs.declared.server.Drive.{Drive}
use Rattle.server_rules.specs.declared.server.Server.{Server}
use Rattle.server_rules.specs.declared.server.Effects.{Effects}
use Rattle.server_rules.specs.Going.{Going, noting}
use Rattle.server_rules.specs.Get.{lowest}
use Rattle.server_rules.specs.Jobs.{fence_begins}
use Rattle.server_rules.specs.Orders.{Ordered}
use Rattle.file_jobs.specs.declared.job.FileState.{FileState}
use Rattle.file_jobs.specs.Steps.{at}
use Rattle.file_jobs.specs.Placing.{AreLoadsOf}
use Rattle.stripe_repair.specs.declared.loads.DriveLoad.{DriveLoad}
use Rattle.server_state.specs.FileRequests.{LeavesFile}
use Rattle.layout_server.specs.declared.orders.Obeyed.{Obeyed}
use Rattle.server_state.specs.Tables.{Table, entry_at}
use Rattle.server_state.specs.States.{Did}

-- the file in the step, and what came of the order
pub record Begun : Type 0 where
  pub going : Going
  pub result : OrderResult

-- busy where a job runs, spent where the tag is, else the fence starts
abbrev pub begun : JobKind → (format : ℕ) → Option Job → Going → Begun
begun kind format (Some j) g = record { going = noting g (Busy (lowest j.awaited)); result = result.Busy }
begun kind format None g =
    if g.file.kept.tag == GREATEST_TAG then record { going = noting g Spent; result = result.Spent }
    else record { going = fence_begins kind format g; result = result.Started }

-- for some answers of the placer, what was done at the file and came of it is what this says
abbrev pub Begins : (Going → Begun) → List DriveLoad → FileState → Effects → OrderResult → FileState → Effects → Type 0
Begins f loads old was r new is =
    (ds : List Drive) → AreLoadsOf loads ds → (chosen : List ℕ)
    × ((rest : List ℕ) → record { going = at new is ds rest; result = r } ≡ f (at old was ds (chosen ++ rest)))

-- the job begins at the file of that number in the table; nothing happens if there is none
abbrev pub BegunIn : JobKind → (format : ℕ) → List DriveLoad → (number : ℕ) → Table → Effects → Option OrderResult →
    Table → Effects → Type 0
BegunIn kind format loads n old was None new is = (entry_at old n ≡ None) × (new ≡ old) × (is ≡ was)
BegunIn kind format loads n old was (Some r) new is =
    (f g : FileState) × (entry_at old n ≡ Some f) × (new ≡ set_value (is_at (nat_cmp n)) old g)
    × Begins (begun kind format f.job) loads f was r g is × LeavesFile f g

-- the order's step, and what came of it
pub record Obeys (o : Obeyed) (new : Server) (s : Ordered) : Type 0 where
  pub step : Did o.step new s.step
  pub result : o.result ≡ s.result
