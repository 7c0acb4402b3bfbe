-- Each present component of a file has an object with the file's tag, or its CREATE is awaited, unless the server crashed
-- before the file was made.
use Rattle.std.specs.Prelude.{◌≡◌, ◌⊎◌, ℕ, Bool, true, false, not, List, [], Option, Some, None}
use Rattle.osd_lists.specs.declared.node.Node.TheVariants.{Drive as FromDrive}
use Rattle.osd_commands.specs.declared.actions.Action.TheVariants.{Create}
use Rattle.server_rules.specs.declared.limits.TheConstants.{SERVER_HOLDER}
use Rattle.server_rules.specs.Messages.{awaited_by, Replies, counters_have_room}
use Rattle.server_rules.specs.Replies.{answers, is_done}
use Rattle.server_rules.specs.History.{Input, Hears, Opens, step}
use Rattle.server_rules.specs.Laws.{In}
use Rattle.history_law.specs.Names.{Server, File, Kept, Still, Component, Target, Awaited, Job, Work, Creates, Targets, Reply}
use Rattle.history_law.specs.Fencing.{Reached, AllRaised, AreFencing, IsHeardTruly}
use Rattle.component_law.specs.Objects.{target_of}
use Rattle.history_law.specs.Moves.{down_behind}
use Rattle.component_law.specs.Turns.{in_turn}

-- ---- a file

-- it is the server's CREATE under that tag
pub record IsCreate (tag : ℕ) (a : Awaited) : Type 0 where
  pub action : a.command.action ≡ Create
  pub tagged : a.command.capability.tag ≡ tag
  pub holder : a.command.capability.holder ≡ SERVER_HOLDER

-- one of these that are awaited goes to that object
abbrev pub IsCreating : List Awaited → (drive object tag : ℕ) → Type 0
IsCreating ws drive object tag =
    (a : Awaited) × In a ws × IsCreate tag a × (a.drive ≡ drive) × (a.command.object ≡ object)

-- the object there has the file's tag, or its CREATE is awaited under this tag
abbrev pub IsThere : Reached → File → (drive object : ℕ) → Type 0
IsThere R f drive object =
    IsCreating (awaited_by f.job) drive object f.kept.tag ⊎ (R drive object f.kept.tag ≡ true)

-- the job makes objects
abbrev pub makes_objects : Work → Bool
makes_objects Creates = true
makes_objects (Targets t) = true
makes_objects work = false

abbrev pub is_making : Option Job → Bool
is_making None = false
is_making (Some j) = makes_objects j.work

-- the job makes the objects of a new file
abbrev pub is_creates : Work → Bool
is_creates Creates = true
is_creates work = false

abbrev pub is_new : Option Job → Bool
is_new None = false
is_new (Some j) = is_creates j.work

-- it has no grant yet, no fence began, and its tag is the first
abbrev pub IsUnmade : Kept → Type 0
IsUnmade k = (k.grants ≡ []) × (k.phase ≡ Still) × (k.tag ≡ k.first_tag)

-- What is kept of a file, whether its server is up or down: once it is ready, each component that isn't missing has an
-- object with the file's tag; until then no grant is given and no fence begins.
pub record IsSettled (R : Reached) (f : File) : Type 0 where
  pub made : f.kept.ready ≡ true → AllRaised R f f.kept.tag
  pub unmade : f.kept.ready ≡ false → IsUnmade f.kept

-- its making was cut off: no job of it runs
abbrev pub IsCutOff : File → Type 0
IsCutOff f = (f.kept.ready ≡ false) × (f.job ≡ None)

-- While the server is up, a file that isn't ready is being made. Each component that isn't missing has its object, or its
-- CREATE is awaited, and so it is of what a rebuild makes anew. Each CREATE that is awaited is under the file's tag, and
-- no other job awaits one.
pub record IsStanding (R : Reached) (f : File) : Type 0 where
  pub settled : IsSettled R f
  pub makes : is_new f.job ≡ not f.kept.ready
  pub quiet : is_making f.job ≡ false → (a : Awaited) → In a (awaited_by f.job) → a.command.action ≡ Create → ⊥
  pub creates : (a : Awaited) → In a (awaited_by f.job) → a.command.action ≡ Create → IsCreate f.kept.tag a
  pub each : (at : Component) → In at f.kept.components → at.missing ≡ false → IsThere R f at.drive at.object
  pub target : (t : Target) → target_of f.job ≡ Some t → IsThere R f t.drive t.object

-- while it is down no job runs
pub record IsLeft (R : Reached) (f : File) : Type 0 where
  pub settled : IsSettled R f
  pub quiet : f.job ≡ None

abbrev pub StandsBy : (down : Bool) → Reached → File → Type 0
StandsBy true R f = IsLeft R f
StandsBy false R f = IsStanding R f

abbrev pub AreStanding : (down : Bool) → Reached → List File → Type 0
AreStanding down R fs = (f : File) → In f fs → StandsBy down R f

-- ---- a step

-- where a reply counts as the answer to a CREATE, the object is there with the tag
abbrev pub TellsMade : Reached → File → (drive : ℕ) → Reply → Type 0
TellsMade R f drive r =
    (a : Awaited) → In a (awaited_by f.job) → IsCreate f.kept.tag a → answers drive r a ≡ true →
    is_done f.kept a r ≡ true → R a.drive a.command.object f.kept.tag ≡ true

-- so it is of what the server hears, as long as its counters have room
abbrev pub AreMadeTruly : Reached → Server → Input → Type 0
AreMadeTruly R s i =
    (now drive : ℕ) (r : Reply) → i ≡ Hears now (FromDrive drive) (Replies r) → counters_have_room s ≡ true →
    (f : File) → In f s.files → TellsMade R f drive r

-- A step in its turn keeps it, where replies tell the truth, and where a server that is opened has room in its counters.
abbrev pub EachStepStands : Type 0
EachStepStands =
    (R : Reached) (s : Server) (down : Bool) (chosen : List ℕ) (i : Input) → in_turn down i ≡ true →
    (i ≡ Opens → counters_have_room s ≡ true) → AreFencing R s.files → AreStanding down R s.files →
    IsHeardTruly R s i → AreMadeTruly R s i → AreStanding (down_behind down i) R (step s chosen i).state.files
