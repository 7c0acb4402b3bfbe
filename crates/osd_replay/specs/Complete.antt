-- When a replay comes to its end: no line is refused, no limit is passed, and neither the source nor the sink fails.
use Rattle.std.specs.Prelude.{◌≡◌, ◌⊎◌, ◌≤◌, ℕ, List, ◌∷◌, ◌++◌, length, Some, None}
use Rattle.std.specs.List.{AllByRecursion}
use Rattle.osd_bytes.specs.Causes.{Rose}
use Rattle.osd_bytes.specs.Lines.{lines_of}
use Rattle.osd_bytes.specs.declared.lines.TheConstants.{MAX_INPUT, MAX_LINE}
use Rattle.scenario_text.specs.declared.event.Event.{Event}
use Rattle.scenario_text.specs.declared.line.Line.{Line}
use Rattle.scenario_text.specs.Spelling.{Fits, Spells, IsSkipped}
use Rattle.world_history.specs.State.{World}
use Rattle.world_history.specs.Refusals.{refusal}
use Rattle.world_history.specs.Runs.{FillsUp}
use Rattle.osd_replay.specs.Ends.{Ends}
use Rattle.osd_replay.specs.Replay.{HasEvents}
use Rattle.osd_replay.specs.Transcript.{Tells}
use Rattle.osd_replay.specs.declared.status.Status.{Status}
use Rattle.osd_replay.specs.declared.status.Status.TheVariants.{Done, Memory}

-- the world doesn't refuse the event, and the event stays within the limit of kept bytes
pub record IsTaken (w : World) (e : Event) : Type 0 where
  pub allowed : refusal w e ≡ None
  pub within : (cut : List Line) → FillsUp w e cut → ⊥

-- a line is skipped, or spells an event that the world takes
abbrev pub IsGood : World → List ℕ → Type 0
IsGood w line = IsSkipped line ⊎ ((e : Event) × Fits e × Spells e line × IsTaken w e)

-- The input and its lines keep their limits, and each line is good in every world that stands for a history whose events
-- are those of the lines before it.
pub record IsAccepted (input : List ℕ) : Type 0 where
  pub short : length input ≤ MAX_INPUT
  pub lines_short : AllByRecursion (λ (line : List ℕ). length line ≤ MAX_LINE) (lines_of input)
  pub good : (front : List (List ℕ)) (line : List ℕ) (back : List (List ℕ)) (events : List Event) (w : World)
      (h : List Line) → lines_of input ≡ front ++ line ∷ back → HasEvents front events → Tells events w h → IsGood w line

-- neither the source nor the sink failed
pub record FailsNowhere (before after : Ends) : Type 0 where
  pub reads : Rose before.reads_failed after.reads_failed → ⊥
  pub writes : Rose before.writes_failed after.writes_failed → ⊥

-- then an input that is accepted comes to its end, or there is no memory
abbrev pub Completes : Ends → Ends → Status → Type 0
Completes before after status =
    (input : List ℕ) → before.left ≡ Some input → IsAccepted input → FailsNowhere before after →
    (status ≡ Done) ⊎ (status ≡ Memory)
