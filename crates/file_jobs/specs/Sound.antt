-- What holds of a file and its job, so that its numbers fit their types.
use Rattle.std.specs.Prelude.{ℕ, List, [], Option, Some, None, ◌≡◌, ◌≤◌, ◌<◌, ◌+◌, ◌^◌, length, slice_get, IfSome}
use Rattle.std.specs.List.{All}
use Rattle.data_map.specs.declared.ranges.TheConstants.{MAX_FILE_SIZE}
use Rattle.server_rules.specs.declared.limits.TheConstants.{GREATEST_TAG, MAX_FILE_COMPONENTS}
use Rattle.server_rules.specs.declared.files.Kept.{Kept}
use Rattle.server_rules.specs.declared.jobs.Job.{Job}
use Rattle.server_rules.specs.declared.jobs.Piece.{Piece}
use Rattle.server_rules.specs.declared.jobs.Target.{Target}
use Rattle.server_rules.specs.declared.jobs.Work.{Work}
use Rattle.server_rules.specs.declared.jobs.Work.TheVariants.{Creates, Fences, Fetches, Stores, Targets, Gathers, Fills, Lengths, Checks}
use Rattle.server_rules.specs.declared.server.Effects.{Effects}
use Rattle.stripe_repair.specs.Filling.{IsPieceOf}
use Rattle.stripe_repair.specs.Restored.{CanBeMade}
use Rattle.file_jobs.specs.declared.job.FileState.{FileState}
use Rattle.file_jobs.specs.declared.job.Turn.{Turn}
use Rattle.file_jobs.specs.declared.job.Turn.TheVariants.{Over, Rests, Mended, Places}
use Rattle.file_jobs.specs.Ranges.{EndInside}

-- ---- what is kept

-- what holds of each file
pub record IsSound (k : Kept) : Type 0 where
  pub few : length k.components ≤ MAX_FILE_COMPONENTS
  pub whole : length k.components ≡ k.map.comps
  pub high : k.high ≤ MAX_FILE_SIZE
  pub live : EndInside k.grants
  pub ended : EndInside k.ended

-- what a step leaves of a file
pub record Leaves (old new : Kept) : Type 0 where
  pub number : new.number ≡ old.number
  pub sound : IsSound old → IsSound new
  pub grants : old.grants ≡ [] → new.grants ≡ []

-- ---- a job

-- a rebuild's component is one of the file's, and its pieces are of its group
pub record CanFill (k : Kept) (t : Target) (todo : List Piece) : Type 0 where
  pub component : t.component < length k.components
  pub pieces : All (IsPieceOf k.map t) todo

-- what a part of a job needs, of which so many commands are awaited or answered
abbrev pub Fits : Kept → (sent : ℕ) → Work → Type 0
Fits k sent Creates = Unit {0}
Fits k sent Fences = k.tag < GREATEST_TAG
Fits k sent (Fetches todo short) = Unit {0}
Fits k sent (Stores todo short broken) = Unit {0}
Fits k sent (Targets t) = t.component < length k.components
Fits k sent (Gathers t todo) = CanFill k t todo × IfSome (slice_get todo 0) (CanBeMade k t)
Fits k sent (Fills t todo) = CanFill k t todo
Fits k sent Lengths = sent ≤ MAX_FILE_COMPONENTS
Fits k sent (Checks todo tally) = Unit {0}

-- the part of a job may go on where a component became missing meanwhile, so that the first piece may be lost by now
abbrev pub FitsAfterLoss : Kept → (sent : ℕ) → Work → Type 0
FitsAfterLoss k sent (Gathers t todo) = CanFill k t todo
FitsAfterLoss k sent work = Fits k sent work

-- the job's part may go on
abbrev pub IsSoundJob : Kept → Job → Type 0
IsSoundJob k j = Fits k (length j.awaited + length j.heard) j.work

abbrev pub HasSoundJob : Kept → Option Job → Type 0
HasSoundJob k None = Unit {0}
HasSoundJob k (Some j) = IsSoundJob k j

-- where a job runs there is no grant
abbrev pub IsAlone : Kept → Option Job → Type 0
IsAlone k None = Unit {0}
IsAlone k (Some j) = k.grants ≡ []

-- what holds of a file between steps
pub record IsSoundFile (f : FileState) : Type 0 where
  pub kept : IsSound f.kept
  pub alone : IsAlone f.kept f.job
  pub job : HasSoundJob f.kept f.job

-- the step sent nothing, and used no object number up
abbrev pub Stays : Effects → Effects → Type 0
Stays was is = (is.nonce ≡ was.nonce) × (is.object ≡ was.object)

-- a job that rests may go on, and where more is to be sent nothing was sent yet
abbrev pub RestsSound : Turn → Effects → Kept → Effects → Type 0
RestsSound Over was k is = Unit {0}
RestsSound (Rests j) was k is = IsSoundJob k j
RestsSound (Mended kind) was k is = Stays was is
RestsSound (Places from) was k is = Stays was is

-- the same, where the numbers of what is to be sent fit their types
abbrev pub RestsLow : Turn → Kept → Effects → Type 0
RestsLow Over k is = Unit {0}
RestsLow (Rests j) k is = IsSoundJob k j
RestsLow (Mended kind) k is = (is.nonce < 2 ^ 63) × (is.object < 2 ^ 63)
RestsLow (Places from) k is = (is.nonce < 2 ^ 63) × (is.object < 2 ^ 63)

-- the turn leaves this job at rest
abbrev pub RestsAs : Job → Turn → Type 0
RestsAs job Over = ⊥
RestsAs job (Rests j) = j ≡ job
RestsAs job (Mended k) = ⊥
RestsAs job (Places from) = ⊥
