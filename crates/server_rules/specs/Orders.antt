-- Orders: recall, revoke, declare, rebuild, audit.
use Rattle.std.specs.Prelude.{ℕ, Bool, true, false, List, [], ◌∷◌, ◌++◌, Option, Some, None, is_some, ◌+◌, ◌==◌, length, find, if◌then◌else◌}
use Rattle.server_rules.specs.declared.limits.TheConstants.{GREATEST_TAG}
use Rattle.server_rules.specs.State.{Server, File, Drive, Job, JobKind, Revoking, Rebuilding, Auditing, OrderKind, ToRecall, ToRevoke, ToDeclare, ToRebuild, ToAudit, AnswersOrder, OrderResult, HasStarted, IsBusy, IsSpent, IsUnknown, Effects, Spent, Busy}
use Rattle.server_rules.specs.Going.{Going, noting}
use Rattle.server_rules.specs.Jobs.{fence_begins, declares}
use Rattle.server_rules.specs.Get.{lowest}
use Rattle.server_rules.specs.Files.{Step, file_at, still, begins, at_file, step_at}
use Rattle.server_rules.specs.Rounds.{Round, then_files, step_round}
use Rattle.server_rules.specs.Answers.{recalls_from}

-- the step of an order, and what came of it
pub record Ordered : Type 0 where
  pub step : Step
  pub result : OrderResult

-- there is no such file or drive
abbrev pub unknown : Server → Ordered
unknown s = record { step = still s; result = IsUnknown }

-- a recall goes to each holder
abbrev pub recalls : Server → File → Ordered
recalls s f = record {
  step = record {
    state = record s { next_recall = s.next_recall + length f.kept.grants };
    sends = recalls_from s.next_recall f.kept.grants;
    notes = [];
    mended = [];
  };
  result = HasStarted;
}

-- busy where a job runs, spent where the tag is, else the fence starts
abbrev pub begins_job : Server → (chosen : List ℕ) → JobKind → File → Option Job → Ordered
begins_job s chosen kind f (Some j) = record {
  step = step_at s f.kept.number (noting (at_file s chosen f) (Busy (lowest j.awaited)));
  result = IsBusy;
}
begins_job s chosen kind f None =
    if f.kept.tag == GREATEST_TAG then record {
      step = step_at s f.kept.number (noting (at_file s chosen f) Spent);
      result = IsSpent;
    }
    else record {
      step = step_at s f.kept.number (fence_begins kind s.format (at_file s chosen f));
      result = HasStarted;
    }

-- revoke, rebuild or audit
abbrev pub starts : Server → (chosen : List ℕ) → JobKind → Option File → Ordered
starts s chosen kind None = unknown s
starts s chosen kind (Some f) = begins_job s chosen kind f f.job

-- a recall of the file that there is
abbrev pub recalls_on : Server → Option File → Ordered
recalls_on s None = unknown s
recalls_on s (Some f) = recalls s f

-- ---- a drive is declared

-- the drive is offline
unfoldable pub offline : List Drive → (drive : ℕ) → List Drive
offline [] drive = []
offline (d ∷ ds) drive = (if d.number == drive then record d { online = false } else d) ∷ offline ds drive

-- at each file, in order, the components on the drive are missing
unfoldable pub declares_each : (drive : ℕ) → List Drive → List File → Effects → (chosen : List ℕ) → Round
declares_each drive ds [] m chosen = record { files = []; effects = m; chosen = chosen }
declares_each drive ds (f ∷ fs) m chosen =
    let g : Going = declares (record { file = f; effects = m; drives = ds; chosen = chosen }) drive
    in then_files g (declares_each drive ds fs g.effects g.chosen)

-- the server without the drive
abbrev pub with_offline : Server → (drive : ℕ) → Server
with_offline s drive = record s { drives = offline s.drives drive }

-- the step of a declaration
unfoldable pub declare : Server → (chosen : List ℕ) → (drive : ℕ) → Step
declare s chosen drive =
    step_round (with_offline s drive) (declares_each drive (offline s.drives drive) s.files (begins s) chosen)

-- ---- any order

-- a declaration of a drive that there is
abbrev pub declares_known : Server → (chosen : List ℕ) → (drive : ℕ) → Bool → Ordered
declares_known s chosen drive true = record { step = declare s chosen drive; result = HasStarted }
declares_known s chosen drive false = unknown s

-- an order, by its kind
unfoldable pub ordered : Server → (chosen : List ℕ) → OrderKind → (target : ℕ) → Ordered
ordered s chosen ToRecall n = recalls_on s (file_at s.files n)
ordered s chosen ToRevoke n = starts s chosen Revoking (file_at s.files n)
ordered s chosen ToDeclare n = declares_known s chosen n (is_some (find (λ d. d.number == n) s.drives))
ordered s chosen ToRebuild n = starts s chosen Rebuilding (file_at s.files n)
ordered s chosen ToAudit n = starts s chosen Auditing (file_at s.files n)

-- the step of an order, with the answer behind all else that it sends
abbrev pub with_result : OrderKind → Ordered → Step
with_result kind o =
    record o.step { sends = o.step.sends ++ (AnswersOrder (record { order = kind; result = o.result }) ∷ []) }
