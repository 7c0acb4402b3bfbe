-- What a job awaits: commands to its file's components, or to the target of a rebuild, each as its work asks.
use Rattle.std.specs.Prelude.{◌≡◌, ℕ, List, ◌∷◌, slice_get, Option, Some, None}
use Rattle.data_map.specs.declared.check.RawMap.{RawMap}
use Rattle.data_map.specs.Striping.{group_of, offset_of}
use Rattle.osd_commands.specs.declared.actions.Action.{Action}
use Rattle.osd_commands.specs.declared.actions.Action.TheVariants.{Create, Read, Write, GetAttr, SetTag}
use Rattle.server_rules.specs.Laws.{In}
use Rattle.server_rules.specs.Maps.{group_with}
use Rattle.scenario_text.specs.declared.line.Line.{Line}
use Rattle.world_history.specs.ServerNames.{File, Kept, Component, Awaited, Piece, Target, Job, Work, Creates, Fences, Fetches, Stores, Targets, Gathers, Fills, Lengths, Checks}
use Rattle.world_history.specs.State.{World}
use Rattle.component_law.specs.Naming.{AreNamed}
use Rattle.history_law.specs.BookMoments.{IsMoment}
use Rattle.file_simulation.specs.Jobs.{IsInPiece}

-- it goes to the object that the component has or had last
pub record IsOfComponent (cs : List Component) (a : Awaited) : Type 0 where
  pub component : Component
  pub there : slice_get cs a.component ≡ Some component
  pub drive : a.drive ≡ component.drive
  pub object : a.command.object ≡ component.object

-- or to the target
pub record IsOfTarget (t : Target) (a : Awaited) : Type 0 where
  pub component : a.component ≡ t.component
  pub drive : a.drive ≡ t.drive
  pub object : a.command.object ≡ t.object

-- it does this to a component
pub record IsDone (cs : List Component) (action : Action) (a : Awaited) : Type 0 where
  pub of : IsOfComponent cs a
  pub action_is : a.command.action ≡ action

-- it reads the row of a piece
pub record IsRow (m : RawMap) (cs : List Component) (p : Piece) (a : Awaited) : Type 0 where
  pub of : IsOfComponent cs a
  pub action_is : a.command.action ≡ Read
  pub offset : a.command.offset ≡ offset_of m p.stripe p.column
  pub count : a.command.length ≡ p.count

-- it writes within a piece
pub record IsStore (m : RawMap) (cs : List Component) (p : Piece) (a : Awaited) : Type 0 where
  pub of : IsOfComponent cs a
  pub action_is : a.command.action ≡ Write
  pub inside : IsInPiece m p a.component a.command

-- it makes the target's object, or writes within a piece of it
pub record IsMaking (t : Target) (a : Awaited) : Type 0 where
  pub of : IsOfTarget t a
  pub action_is : a.command.action ≡ Create

pub record IsFill (m : RawMap) (t : Target) (p : Piece) (a : Awaited) : Type 0 where
  pub of : IsOfTarget t a
  pub action_is : a.command.action ≡ Write
  pub inside : IsInPiece m p t.component a.command

-- by the work
abbrev pub IsAskedIn : Kept → Work → Awaited → Type 0
IsAskedIn f Creates a = IsDone f.components Create a
IsAskedIn f Fences a = IsDone f.components SetTag a
IsAskedIn f (Fetches (p ∷ ps) short) a = IsRow f.map f.components p a
IsAskedIn f (Stores (p ∷ ps) short broken) a = IsStore f.map f.components p a
IsAskedIn f (Targets t) a = IsMaking t a
IsAskedIn f (Gathers t (p ∷ ps)) a = IsRow f.map f.components p a
IsAskedIn f (Fills t (p ∷ ps)) a = IsFill f.map t p a
IsAskedIn f Lengths a = IsDone f.components GetAttr a
IsAskedIn f (Checks (p ∷ ps) tally) a = IsRow f.map f.components p a
IsAskedIn f work a = ⊥

-- each of these pieces is of the target's group
abbrev pub AreOfGroup : RawMap → (component : ℕ) → List Piece → Type 0
AreOfGroup m k ps = (p : Piece) → In p ps → group_with m k ≡ group_of m p.stripe

-- so are those that a rebuild has to do yet
abbrev pub ToDoFits : RawMap → Work → Type 0
ToDoFits m (Gathers t todo) = AreOfGroup m t.component todo
ToDoFits m (Fills t todo) = AreOfGroup m t.component todo
ToDoFits m work = Unit {0}

-- what a job awaits is as its work asks
pub record IsFit (f : Kept) (j : Job) : Type 0 where
  pub asked : (a : Awaited) → In a j.awaited → IsAskedIn f j.work a
  pub todo : ToDoFits f.map j.work

abbrev pub FitsIn : Kept → Option Job → Type 0
FitsIn f None = Unit {0}
FitsIn f (Some j) = IsFit f j

-- so it is of each job, at each moment of a history whose events lines can name
abbrev pub JobsAskTheirOwn : Type 0
JobsAskTheirOwn =
    (w : World) (h : List Line) → IsMoment w h → AreNamed h → (f : File) → In f w.server.files → FitsIn f.kept f.job
