-- What the jobs that make components anew ask, write and leave, at each moment of a history.
use Rattle.std.specs.Prelude.{◌≡◌, ◌⊎◌, ℕ, ◌+◌, ◌/◌, ◌<◌, true, false, List, [], ◌∷◌, length, slice_get, slice_index, Option, Some, None}
use Rattle.data_map.specs.Striping.{replicas}
use Rattle.osd_objects.specs.declared.object.StoredObject.{StoredObject}
use Rattle.osd_objects.specs.declared.lanes.LaneEntry.{LaneEntry}
use Rattle.osd_objects.specs.Store.{lane_or_none}
use Rattle.osd_commands.specs.declared.actions.Action.TheVariants.{Create, Write}
use Rattle.osd_lists.specs.declared.node.Node.TheVariants as node
use Rattle.osd_commands.specs.declared.commands.Command.{Command}
use Rattle.osd_commands.specs.declared.replies.Reply.{Reply}
use Rattle.scenario_text.specs.declared.line.Line.{Line}
use Rattle.scenario_text.specs.declared.names.TheConstants.{CLIENTS}
use Rattle.server_rules.specs.declared.limits.TheConstants.{SERVER_HOLDER}
use Rattle.server_rules.specs.Files.{file_at}
use Rattle.server_rules.specs.History.{Input, Hears, step}
use Rattle.server_rules.specs.Laws.{In, AreSafe}
use Rattle.server_rules.specs.Maps.{group_with, pieces_in}
use Rattle.server_rules.specs.Messages.{Replies}
use Rattle.server_rules.specs.Rebuild.{position_for, group_for}
use Rattle.server_rules.specs.Standing.{replica, is_beyond}
use Rattle.world_history.specs.ServerNames.{Server, File, Kept, Component, Awaited, Heard, Piece, Target, Job, Work, Gathers, Fills}
use Rattle.world_history.specs.Guesses.{unguessed}
use Rattle.world_history.specs.State.{World, at_number}
use Rattle.history_law.specs.BookMoments.{IsMoment}
use Rattle.history_law.specs.Spent.{HasPassed}
use Rattle.component_law.specs.Distinct.{AreDistinct}
use Rattle.component_law.specs.Objects.{target_in, target_of}
use Rattle.exchange_law.specs.Sent.{HasSent}
use Rattle.file_simulation.specs.Claim.{IsOfScenario}
use Rattle.file_simulation.specs.Components.{object_on, has_failed}
use Rattle.file_simulation.specs.Jobs.{IsFill}
use Rattle.file_simulation.specs.Messages.{HasCommanded}
use Rattle.relation_law.specs.ComponentsBehind.{WasRebuilt}

-- ---- what a rebuild reads

-- a job awaits a command of component k, or has heard of one
abbrev pub IsAskedOrHeard : Job → (k : ℕ) → Type 0
IsAskedOrHeard j k =
    ((a : Awaited) × In a j.awaited × (a.component ≡ k)) ⊎ ((x : Heard) × In x j.heard × (x.component ≡ k))

-- P is so of each source of a target: of the first present replica of its position; where there is none, of each first present
-- replica of its group, and no more positions lack one than there is parity
abbrev pub OfSources : (ℕ → Type 0) → Kept → Target → Option ℕ → Type 0
OfSources P f t (Some r) = P r
OfSources P f t None =
    (is_beyond f.map f.components (group_for f t) ≡ false)
    × ((k : ℕ) → group_with f.map k ≡ group_for f t → replica f.map f.components (k / replicas f.map) ≡ Some k → P k)

abbrev pub OfEachSource : (ℕ → Type 0) → Kept → Target → Type 0
OfEachSource P f t = OfSources P f t (replica f.map f.components (position_for f t))

-- a job that reads the rows of a piece has asked each source
abbrev pub SourcesAreAsked : File → Type 0
SourcesAreAsked f =
    (j : Job) (t : Target) (p : Piece) (ps : List Piece) → f.job ≡ Some j → j.work ≡ Gathers t (p ∷ ps) →
    OfEachSource (IsAskedOrHeard j) f.kept t

-- the pieces that a rebuild has to do yet
abbrev pub todo_in : Work → List Piece
todo_in (Gathers t todo) = todo
todo_in (Fills t todo) = todo
todo_in work = []

-- each is one of those that the rebuild began with
abbrev pub PiecesArePlanned : File → Type 0
PiecesArePlanned f =
    (j : Job) (t : Target) (p : Piece) → f.job ≡ Some j → target_in j.work ≡ Some t → In p (todo_in j.work) →
    In p (pieces_in f.kept.map (group_with f.kept.map t.component) f.kept.high)

-- the target is one of the components
abbrev pub TargetsAreInside : File → Type 0
TargetsAreInside f = (t : Target) → target_of f.job ≡ Some t → t.component < f.kept.map.comps

-- a piece is under way
abbrev pub IsAtPiece : Work → Type 0
IsAtPiece (Gathers t []) = ⊥
IsAtPiece (Fills t []) = ⊥
IsAtPiece work = Unit {0}

abbrev pub JobsAreAtPieces : File → Type 0
JobsAreAtPieces f = (j : Job) → f.job ≡ Some j → IsAtPiece j.work

-- ---- what it writes

-- the last of these bytes isn't 0
abbrev pub EndsInSome : List ℕ → Type 0
EndsInSome bytes = (n : ℕ) × (length bytes ≡ n + 1) × (slice_index bytes n ≡ 0 → ⊥)

-- so it is of each WRITE to a target that a job awaits
abbrev pub AwaitedEndInSome : File → Type 0
AwaitedEndInSome f =
    (j : Job) (t : Target) (todo : List Piece) (a : Awaited) → f.job ≡ Some j → j.work ≡ Fills t todo →
    In a j.awaited → EndsInSome a.command.payload

-- and of each that was sent
abbrev pub FillsEndInSome : World → File → Type 0
FillsEndInSome w f = (t : Target) (x : Command) → target_of f.job ≡ Some t → IsFill w t x → EndsInSome x.payload

-- the server sent nothing to the target's object but what makes or writes it
abbrev pub OnlyMakesAndFills : World → File → Type 0
OnlyMakesAndFills w f =
    (t : Target) (x : Command) → target_of f.job ≡ Some t → HasCommanded w t.drive x → x.object ≡ t.object →
    (x.action ≡ Create) ⊎ (x.action ≡ Write)

-- ---- what it leaves

-- the bytes of a WRITE stand in an object
abbrev pub HasBytesOf : StoredObject → Command → Type 0
HasBytesOf o x =
    (i : ℕ) → i < length x.payload → slice_index o.content.bytes (x.offset + i) ≡ slice_index x.payload i

-- if the target's drive is past the WRITE that is awaited, its bytes stand there
abbrev pub FillsStand : World → File → Type 0
FillsStand w f =
    (j : Job) (t : Target) (todo : List Piece) (a : Awaited) (o : StoredObject) → f.job ≡ Some j →
    j.work ≡ Fills t todo → In a j.awaited → object_on (at_number w.drives t.drive) t.object ≡ Some o →
    HasPassed (lane_or_none (Some o) SERVER_HOLDER) a.command.nonce → HasBytesOf o a.command

-- a target that is read or written for is there, unless its drive has failed
abbrev pub TargetsAreMade : World → File → Type 0
TargetsAreMade w f =
    (j : Job) (t : Target) (todo : List Piece) → f.job ≡ Some j → (j.work ≡ Gathers t todo) ⊎ (j.work ≡ Fills t todo) →
    has_failed (at_number w.drives t.drive) ≡ false →
    (o : StoredObject) × (object_on (at_number w.drives t.drive) t.object ≡ Some o)

-- no client sent anything to a target, and none has a lane there
pub record NoClientAt (w : World) (t : Target) : Type 0 where
  pub sent : (c d : ℕ) (x : Command) → HasSent w c d x → x.object ≡ t.object → ⊥
  pub lanes : (c : ℕ) (o : StoredObject) (l : LaneEntry) → c < CLIENTS →
      object_on (at_number w.drives t.drive) t.object ≡ Some o → lane_or_none (Some o) c ≡ Some l → ⊥

abbrev pub NoClientsAtTargets : World → File → Type 0
NoClientsAtTargets w f = (t : Target) → target_of f.job ≡ Some t → NoClientAt w t

-- ---- at each moment

-- what is so at a moment of what a file's job asks for its target
pub record IsWellAsked (w : World) (f : File) : Type 0 where
  pub asked : SourcesAreAsked f
  pub planned : PiecesArePlanned f
  pub at_piece : JobsAreAtPieces f
  pub written : AwaitedEndInSome f
  pub ends : FillsEndInSome w f
  pub only : OnlyMakesAndFills w f

-- and of what drives have of it
pub record IsWellMade (w : World) (f : File) : Type 0 where
  pub inside : TargetsAreInside f
  pub stand : FillsStand w f
  pub made : TargetsAreMade w f
  pub alone : NoClientsAtTargets w f

-- so it is at each moment of a history
abbrev pub EachTargetIsWellAsked : Type 0
EachTargetIsWellAsked =
    (w : World) (h : List Line) → IsMoment w h → IsOfScenario h → (f : File) → In f w.server.files → IsWellAsked w f

-- and of one in which nothing was guessed
abbrev pub EachTargetIsWellMade : Type 0
EachTargetIsWellMade =
    (w : World) (h : List Line) → IsMoment w h → IsOfScenario h → unguessed h ≡ true → (f : File) →
    In f w.server.files → IsWellMade w f

-- parts of it: each target is one of the components
abbrev pub EachTargetIsInside : Type 0
EachTargetIsInside =
    (w : World) (h : List Line) → IsMoment w h → IsOfScenario h → (f : File) → In f w.server.files → TargetsAreInside f

-- the bytes of the WRITE that is awaited stand where it was performed
abbrev pub EachFillStands : Type 0
EachFillStands =
    (w : World) (h : List Line) → IsMoment w h → IsOfScenario h → unguessed h ≡ true → (f : File) →
    In f w.server.files → FillsStand w f

-- no client has a lane at a target's object
abbrev pub NoLanesAtTargets : Type 0
NoLanesAtTargets =
    (w : World) (h : List Line) → IsMoment w h → IsOfScenario h → unguessed h ≡ true → (f : File) →
    In f w.server.files → (t : Target) → target_of f.job ≡ Some t → (c : ℕ) (o : StoredObject) (l : LaneEntry) →
    c < CLIENTS → object_on (at_number w.drives t.drive) t.object ≡ Some o → lane_or_none (Some o) c ≡ Some l → ⊥

-- ---- what a step makes anew

-- A component that a step makes anew was the target of its file, and its last command was answered.
pub record WasTarget (i : Input) (f g : File) (k : ℕ) (at : Component) : Type 0 where
  pub now : ℕ
  pub drive : ℕ
  pub reply : Reply
  pub hears : i ≡ Hears now (node.Drive drive) (Replies reply)
  pub target : Target
  pub aimed : target_of f.job ≡ Some target
  pub component : k ≡ target.component
  pub place : at.drive ≡ target.drive
  pub object : at.object ≡ target.object
  pub ready : g.kept.ready ≡ false → f.kept.ready ≡ false

-- So it is of each in each step.
abbrev pub RebuiltWereTargets : Type 0
RebuiltWereTargets =
    (s : Server) (chosen : List ℕ) (i : Input) → AreDistinct s.files → AreSafe s.files → (n : ℕ) (f g : File) →
    file_at s.files n ≡ Some f → file_at (step s chosen i).state.files n ≡ Some g →
    ((x : File) → In x s.files → JobsAreAtPieces x) → (k : ℕ) (at : Component) →
    slice_get g.kept.components k ≡ Some at → at.missing ≡ false →
    WasRebuilt f (step s chosen i).notes k at → WasTarget i f g k at
