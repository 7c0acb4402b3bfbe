-- What carrying out one line of a scenario gives.
use Rattle.std.specs.Prelude.{◌≡◌, ◌≢◌, ◌⊎◌, ◌≤◌, ℕ, Bool, true, false, List, [], ◌++◌, ⊤, Some, Result, Ok, Err}
use Rattle.scenario_text.specs.declared.event.Event.{Event}
use Rattle.scenario_text.specs.declared.event.EventErr.{EventErr}
use Rattle.scenario_text.specs.declared.event.EventErr.TheVariants.{Memory as EventMemory}
use Rattle.scenario_text.specs.declared.line.Line.{Line}
use Rattle.scenario_text.specs.LineSpelling.{lines_text}
use Rattle.scenario_text.specs.Refusals.{IsRefusal}
use Rattle.scenario_text.specs.Spelling.{Fits, Spells, IsSkipped}
use Rattle.world_history.specs.declared.err.WorldErr.{WorldErr}
use Rattle.world_history.specs.declared.err.WorldErr.TheVariants.{KeptFull, Memory as WorldMemory}
use Rattle.world_history.specs.declared.limits.TheConstants.{MAX_KEPT}
use Rattle.world_history.specs.State.{World}
use Rattle.world_history.specs.Refusals.{refusal}
use Rattle.world_history.specs.Runs.{Carries, FillsUp}
use Rattle.world_history.specs.History.{StandsFor, Lawful}
use Rattle.history_law.specs.Read.{is_written}
use Rattle.calm_law.specs.Watching.{WatchesAll}
use Rattle.history_claims.specs.Carried.{AreCarried}
use Rattle.layout_world.specs.State.{WorldState, Shows}
use Rattle.osd_replay.specs.declared.carry_out.Carried.{Carried}
use Rattle.osd_replay.specs.declared.status.ScenarioKind.{ScenarioKind}
use Rattle.osd_replay.specs.declared.status.ScenarioKind.TheVariants.{Event as EventKind, World as WorldKind}
use Rattle.osd_replay.specs.declared.stop.Stop.{Stop}
use Rattle.osd_replay.specs.declared.stop.Stop.TheVariants.{Refused, Read, Memory, Full}

-- whether a step of the world stopped at the limit of kept bytes; of all else but success, why none goes on
abbrev pub step_gives : Result (Unit {0}) WorldErr → Result Bool Stop
step_gives (Ok u) = Ok false
step_gives (Err KeptFull) = Ok true
step_gives (Err WorldMemory) = Err Memory
step_gives (Err cause) = Err (Refused (WorldKind cause))

-- An event was carried out to its end: these are its lines and the world after it, which the code shows. What is kept for
-- the last line goes on with them, behind any history for which the world stands, as long as a text may have the event.
pub record CarriesWhole (w : World) (e : Event) (old new : WorldState) (text : List ℕ) : Type 0 where
  pub lines : List Line
  pub world : World
  pub shows : Shows new.parties world
  pub carries : Carries w e lines world
  pub fits : world.network.kept ≤ MAX_KEPT
  pub watches : (h : List Line) → StandsFor w h → is_written e ≡ true → WatchesAll h old.watch
      → WatchesAll (h ++ lines) new.watch
  pub text_is : text ≡ lines_text lines
  pub carried : AreCarried lines

-- An event stops just before what would pass the limit of kept bytes. These are its lines up to there; behind any
-- history for which the world stands they are lawful.
pub record CarriesCut (w : World) (e : Event) (text : List ℕ) : Type 0 where
  pub lines : List Line
  pub fills : FillsUp w e lines
  pub lawful : (h : List Line) → StandsFor w h → Lawful (h ++ lines)
  pub text_is : text ≡ lines_text lines
  pub carried : AreCarried lines

-- by whether the limit was met
abbrev pub CarriesBy : World → Event → (old new : WorldState) → List ℕ → (is_full : Bool) → Type 0
CarriesBy w e old new text false = CarriesWhole w e old new text
CarriesBy w e old new text true = CarriesCut w e text

-- an event was carried out, whatever world the code showed
abbrev pub CarriesEvent : Event → (old new : WorldState) → Carried → Type 0
CarriesEvent e old new carried = (w : World) → Shows old.parties w → CarriesBy w e old new carried.text carried.is_full

-- why a world doesn't carry an event out
abbrev pub StopsIn : World → Event → Stop → Type 0
StopsIn w e (Refused kind) = (cause : WorldErr) × (kind ≡ WorldKind cause) × (refusal w e ≡ Some cause)
StopsIn w e Read = ⊥
StopsIn w e Memory = ⊤
StopsIn w e (Full quantity) = ⊥

abbrev pub StopsEvent : Event → WorldState → Stop → Type 0
StopsEvent e old stop = (w : World) → Shows old.parties w → StopsIn w e stop

-- the event that a line spells was carried out
pub record CarriesSpelled (line : List ℕ) (old new : WorldState) (carried : Carried) : Type 0 where
  pub event : Event
  pub fits : Fits event
  pub spells : Spells event line
  pub carries : CarriesEvent event old new carried

-- a line was skipped
pub record Skips (line : List ℕ) (old new : WorldState) (carried : Carried) : Type 0 where
  pub skipped : IsSkipped line
  pub text : carried.text ≡ []
  pub whole : carried.is_full ≡ false
  pub state : new ≡ old

-- a line was skipped, or its event carried out
abbrev pub CarriesLine : List ℕ → (old new : WorldState) → Carried → Type 0
CarriesLine line old new carried = Skips line old new carried ⊎ CarriesSpelled line old new carried

-- a line spells no event, and is refused for its first wrong word
pub record SpellsNone (line : List ℕ) (kind : ScenarioKind) : Type 0 where
  pub why : EventErr
  pub kind_is : kind ≡ EventKind why
  pub other : why ≢ EventMemory
  pub refusal : IsRefusal line why

-- a line spells an event that a world refuses, for this cause
pub record SpellsRefused (w : World) (line : List ℕ) (kind : ScenarioKind) : Type 0 where
  pub event : Event
  pub fits : Fits event
  pub spells : Spells event line
  pub cause : WorldErr
  pub kind_is : kind ≡ WorldKind cause
  pub refused : refusal w event ≡ Some cause

-- why a line is refused
abbrev pub IsRefusedIn : World → ScenarioKind → List ℕ → Type 0
IsRefusedIn w kind line = SpellsNone line kind ⊎ SpellsRefused w line kind

-- why a world doesn't carry a line out
abbrev pub StopsLineIn : World → List ℕ → Stop → Type 0
StopsLineIn w line (Refused kind) = IsRefusedIn w kind line
StopsLineIn w line Read = ⊥
StopsLineIn w line Memory = ⊤
StopsLineIn w line (Full quantity) = ⊥

abbrev pub StopsLine : List ℕ → WorldState → Stop → Type 0
StopsLine line old stop = (w : World) → Shows old.parties w → StopsLineIn w line stop
