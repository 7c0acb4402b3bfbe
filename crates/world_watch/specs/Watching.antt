-- What is kept goes on with further lines, and stands for what is read off all of them.
use Rattle.std.specs.Prelude.{◌≡◌, List}
use Rattle.std.specs.List.{fold}
use Rattle.scenario_text.specs.declared.line.Line.{Line}
use Rattle.world_history.specs.declared.messages.Sent.{Sent}
use Rattle.world_history.specs.Guesses.{guarded}
use Rattle.world_history.specs.Summing.{counts_line, summary_of}
use Rattle.world_watch.specs.Capping.{capped_summary, Counts}
use Rattle.world_watch.specs.Guessing.{GuessState, sees}
use Rattle.world_watch.specs.Tied.{Keeps}
use Rattle.world_watch.specs.State.{WatchState}

-- the guesses behind some lines, where these are the messages
abbrev pub sees_all : GuessState → List Sent → List Line → GuessState
sees_all g ms lines = fold (λ (s : GuessState) (l : Line). sees s ms l) g lines

-- some lines were seen, where these are the messages then
pub record HasSeen (ms : List Sent) (lines : List Line) (old new : WatchState) : Type 0 where
  pub guesses : new.guesses ≡ sees_all old.guesses ms lines
  pub summary : Counts (λ s. fold counts_line s lines) old.summary new.summary

-- what is kept is what the definitions read off a history
pub record Watches (h : List Line) (s : WatchState) : Type 0 where
  pub guesses : Keeps (guarded h) s.guesses
  pub summary : s.summary ≡ capped_summary (summary_of h)
