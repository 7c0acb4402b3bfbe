-- What the messages between the parties tell of a step of a move.
use Rattle.std.specs.Prelude.{◌≡◌, ◌⊎◌, ℕ, true, List, ◌∷◌, Some}
use Rattle.scenario_text.specs.declared.event.Event.{Event}
use Rattle.scenario_text.specs.declared.event.Event.TheVariants as event
use Rattle.scenario_text.specs.declared.line.Line.{Line}
use Rattle.scenario_text.specs.declared.line.Line.TheVariants as line
use Rattle.server_rules.specs.Files.{Step as ServerStep}
use Rattle.world_history.specs.State.{World}
use Rattle.world_history.specs.Moves.{Opens, acts}
use Rattle.world_history.specs.Sending.{Move, move}
use Rattle.world_history.specs.Reading.{Step, is_head}
use Rattle.world_history.specs.Calm.{is_told_taken, returned_at, takes_loss, performed_at}
use Rattle.world_watch.specs.Sighted.{Table}
use Rattle.world_watch.specs.Tied.{AreOf}
use Rattle.world_watch.specs.Steps.{injected_at, performed_at as performed_here}
use Rattle.calm_law.specs.Following.{PerformsAs}
use Rattle.history_law.specs.HistoryMoments.{IsReached}
use Rattle.component_law.specs.Told.{IsServers, posts_of}
use Rattle.component_law.specs.Messages.{messages_of}

-- a step of the lines of a move: it begins with the line of the event that the move opens, or with the move's own
-- first line
abbrev pub IsStepOf : World → Move → Step → Type 0
IsStepOf w m t =
    ((e : Event) × (m.action ≡ Opens e) × (t.head ≡ line.Event e) × (t.rest ≡ (move w m).lines))
    ⊎ ((is_head t.head ≡ true) × ((move w m).lines ≡ t.head ∷ t.rest))

-- the server takes this step in a move, and nobody else sends in it
pub record IsServersIn (w : World) (m : Move) (did : ServerStep) : Type 0 where
  pub server : IsServers w did
  pub posts : (acts w m.chosen m.action).posts ≡ posts_of did

-- where the move injects bytes: the line before it is their event, they were injected last, and what is kept finds the
-- messages of the world
pub record IsInjecting (w : World) (table : Table) (injected : List ℕ) (before : Line) (drive : ℕ) (bytes : List ℕ)
    : Type 0 where
  pub event : before ≡ line.Event (event.Inject drive bytes)
  pub last : injected ≡ bytes
  pub sightings : AreOf (messages_of w) table

abbrev pub IsInjected : World → Move → Table → (injected : List ℕ) → (before : Line) → Type 0
IsInjected w m table injected before =
    (d : ℕ) (bytes : List ℕ) → m.action ≡ Opens (event.Inject d bytes) → IsInjecting w table injected before d bytes

-- What a step of a move and the network behind it tell: whether a loss is taken, which grant is returned, and which
-- message's bytes a drive performed.
pub record StepTells (w : World) (m : Move) (t : Step) (table : Table) (injected : List ℕ) (before : Line)
    : Type 0 where
  pub told : (did : ServerStep) → IsServersIn w m did → takes_loss (Some did) ≡ true → is_told_taken t.rest ≡ true
  pub returned : returned_at (messages_of (move w m).world) t.head ≡ returned_at (messages_of w) t.head
  pub performed : PerformsAs (messages_of w) (messages_of (move w m).world)
      (performed_at (messages_of w) injected t.head)
      (performed_here (messages_of (move w m).world) (injected_at table (messages_of (move w m).world) before) t.head)

-- so does each step of a move at a moment
abbrev pub StepsTell : Type 0
StepsTell =
    (w : World) (m : Move) (t : Step) (table : Table) (injected : List ℕ) (before : Line) → IsReached w → IsStepOf w m t
    → IsInjected w m table injected before → StepTells w m t table injected before
