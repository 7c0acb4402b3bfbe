-- A step that goes through all files, whatever it does at each.
use Rattle.std.specs.Prelude.{ℕ, List, [], ◌∷◌, ◌++◌, ◌≡◌}
use Rattle.server_rules.specs.declared.files.File.{File}
use Rattle.server_rules.specs.declared.server.Drive.{Drive}
use Rattle.server_rules.specs.declared.server.Effects.{Effects}
use Rattle.server_rules.specs.Going.{Going}
use Rattle.server_rules.specs.Rounds.{Round, then_files}
use Rattle.file_jobs.specs.declared.job.FileState.{FileState}
use Rattle.file_jobs.specs.Steps.{Asks}
use Rattle.server_state.specs.Tables.{Table, files_in, AreEntries}

-- the same at each file, in order
unfoldable pub each_file : (Going → Going) → List Drive → List File → Effects → (chosen : List ℕ) → Round
each_file step ds [] m chosen = record { files = []; effects = m; chosen = chosen }
each_file step ds (f ∷ fs) m chosen =
    let g : Going = step (record { file = f; effects = m; drives = ds; chosen = chosen })
    in then_files g (each_file step ds fs g.effects g.chosen)

-- the placer isn't asked at a file
abbrev pub unasked : (Going → Going) → Going → Going
unasked step g = record (step (record g { chosen = [] })) { chosen = g.chosen }

-- whichever drives fit, the file became what this function makes of it, for some answers of the placer
abbrev pub DoesAt : (fits : List Drive → Type 0) → (Going → Going) → FileState → Effects → FileState → Effects → Type 0
DoesAt fits step old was new is = (ds : List Drive) → fits ds → Asks step ds old was new is

-- whichever drives fit, the files and what was done are those of the round, for some answers of the placer; the files
-- stand at their numbers
pub record GoesRound (fits : List Drive → Type 0) (step : Going → Going) (old : Table) (was : Effects) (new : Table)
    (is : Effects)
    : Type 0 where
  pub round : (ds : List Drive) → fits ds → (chosen : List ℕ)
      × ((rest : List ℕ) → record { files = files_in new; effects = is; chosen = rest }
      ≡ each_file step ds (files_in old) was (chosen ++ rest))
  pub entries : AreEntries new
