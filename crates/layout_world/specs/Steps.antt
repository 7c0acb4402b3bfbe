-- What a step of the code promises, whatever world it shows.
use Rattle.std.specs.Prelude.{◌≡◌, true, List, Some, Result, Ok, Err}
use Rattle.scenario_text.specs.declared.event.Event.{Event}
use Rattle.scenario_text.specs.declared.line.Line.{Line}
use Rattle.world_history.specs.declared.err.WorldErr.{WorldErr}
use Rattle.world_history.specs.declared.err.WorldErr.TheVariants.{KeptFull, Memory}
use Rattle.world_history.specs.State.{World}
use Rattle.world_history.specs.Refusals.{refusal}
use Rattle.world_history.specs.History.{Goes, Stops, BreaksOff}
use Rattle.calm_law.specs.Moving.{sees_moves}
use Rattle.layout_world.specs.State.{WorldState, Shows}

-- An event was carried out: the code shows the world behind it. Whatever history the old world stands for, the new
-- one stands for it and the lines that were appended. What is kept of the moments went on with its moves.
pub record CarriesOut (w : World) (e : Event) (before after : List Line) (old new : WorldState) : Type 0 where
  pub world : World
  pub shows : Shows new.parties world
  pub goes : Goes w e before after world
  pub moments : new.watch.moments
      ≡ sees_moves old.watch.guesses.sightings old.watch.moments w goes.carries.moves

-- a refused event has this cause, and leaves all as it was
pub record Refuses (w : World) (e : Event) (before after : List Line) (old new : WorldState) (cause : WorldErr)
    : Type 0 where
  pub cause_is : refusal w e ≡ Some cause
  pub state : new ≡ old
  pub lines : after ≡ before

-- what a step leaves, by its result
abbrev pub Steps : World → Event → (before after : List Line) → (old new : WorldState) → Result (Unit {0}) WorldErr
    → Type 0
Steps w e before after old new (Ok u) = CarriesOut w e before after old new
Steps w e before after old new (Err KeptFull) = Stops w e before after
Steps w e before after old new (Err Memory) = BreaksOff w e before after
Steps w e before after old new (Err cause) = Refuses w e before after old new cause

-- the same for each world that the code shows
abbrev pub StepsAs : Event → (before after : List Line) → (old new : WorldState) → Result (Unit {0}) WorldErr → Type 0
StepsAs e before after old new r = (w : World) → Shows old.parties w → Steps w e before after old new r

-- whether the world is over behind a step
abbrev pub Ends : (old new : WorldState) → Result (Unit {0}) WorldErr → Type 0
Ends old new (Ok u) = new.over ≡ old.over
Ends old new (Err KeptFull) = new.over ≡ true
Ends old new (Err Memory) = new.over ≡ true
Ends old new (Err cause) = new ≡ old
