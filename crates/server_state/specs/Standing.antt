-- The counts of the components that stand on each drive.
use Rattle.std.specs.Prelude.{ℕ, Option, unwrap_or, option_map, sum_by}
use Rattle.std.specs.Map.{values_of}
use Rattle.file_jobs.specs.declared.job.FileState.{FileState}
use Rattle.server_state.specs.Counts.{Counts, AreCounts, standing}
use Rattle.server_state.specs.Tables.{Table}

-- how many present components of the file stand on drive d
abbrev pub standing_of : (d : ℕ) → FileState → ℕ
standing_of d f = standing d f.kept.components

-- how many present components of a file stand on a drive, if there is one
abbrev pub standing_if : (d : ℕ) → Option FileState → ℕ
standing_if d o = unwrap_or (option_map (standing_of d) o) 0

-- how many present components of all these files stand on a drive
abbrev pub standing_in : (d : ℕ) → Table → ℕ
standing_in d t = sum_by (standing_of d) (values_of t)

-- counted are the components of these files
abbrev pub AreCounted : Counts → Table → Type 0
AreCounted cs t = AreCounts cs (λ d. standing_in d t)
