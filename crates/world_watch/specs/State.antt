-- What is kept for the last line and the summary.
use Rattle.world_history.specs.declared.summary.Summary.{Summary}
use Rattle.world_history.specs.Summing.{no_summary}
use Rattle.world_watch.specs.Guessing.{GuessState, no_guess}
use Rattle.world_calm.specs.Seeing.{CalmState, calm_at_first}

-- what tells whether the run is unguessed; the numbers of its calls; and what is kept of its moments, with whether all so
-- far were calm
pub record WatchState : Type 0 where
  pub guesses : GuessState
  pub summary : Summary
  pub moments : CalmState

-- before the first line
abbrev pub no_watch : WatchState
no_watch = record { guesses = no_guess; summary = no_summary; moments = calm_at_first }
