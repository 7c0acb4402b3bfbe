-- A fence waits for each component that isn't missing.
use Rattle.std.specs.Prelude.{◌≡◌, ◌⊎◌, ℕ, Bool, true, false, ◌+◌, List, Option, Some, None}
use Rattle.osd_lists.specs.declared.node.Node.TheVariants.{Drive as FromDrive}
use Rattle.osd_commands.specs.declared.actions.Action.TheVariants.{SetTag}
use Rattle.server_rules.specs.declared.limits.TheConstants.{SERVER_HOLDER}
use Rattle.history_law.specs.Names.{Server, File, Component, Awaited, Job, Work, Fences, Reply, Note, Fenced}
use Rattle.server_rules.specs.Files.{Step}
use Rattle.server_rules.specs.Messages.{awaited_by, Replies, counters_have_room}
use Rattle.server_rules.specs.Replies.{answers, is_done}
use Rattle.server_rules.specs.History.{Input, Hears, step}
use Rattle.server_rules.specs.Laws.{In}
use Rattle.history_law.specs.Numbered.{Awaits}

-- ---- a file that is fenced

-- the job awaits SET TAGs
abbrev pub is_fences : Work → Bool
is_fences Fences = true
is_fences work = false

abbrev pub is_fencing : Option Job → Bool
is_fencing None = false
is_fencing (Some j) = is_fences j.work

-- it is the server's SET TAG of a capability with that tag
pub record Raises (tag : ℕ) (a : Awaited) : Type 0 where
  pub action : a.command.action ≡ SetTag
  pub tagged : a.command.capability.tag ≡ tag
  pub holder : a.command.capability.holder ≡ SERVER_HOLDER

-- one of these goes to the component's object
abbrev pub IsAsked : List Awaited → Component → Type 0
IsAsked ws at = (a : Awaited) × In a ws × (a.drive ≡ at.drive) × (a.command.object ≡ at.object)

-- whether an object of a drive has reached a tag
abbrev pub Reached : Type 0
Reached = (drive object tag : ℕ) → Bool

-- each component that isn't missing has reached the next tag, or is still asked for it; and all that is awaited are
-- SET TAGs
pub record IsFencing (R : Reached) (f : File) : Type 0 where
  pub raises : (a : Awaited) → In a (awaited_by f.job) → Raises f.kept.tag a
  pub each : (at : Component) → In at f.kept.components → at.missing ≡ false →
      IsAsked (awaited_by f.job) at ⊎ (R at.drive at.object (f.kept.tag + 1) ≡ true)

-- so it is of each file whose job is a fence
abbrev pub AreFencing : Reached → List File → Type 0
AreFencing R fs = (f : File) → In f fs → is_fencing f.job ≡ true → IsFencing R f

-- ---- a reply

-- where a reply counts as the answer to a SET TAG, the tag was reached
abbrev pub TellsRaised : Reached → File → (drive : ℕ) → Reply → Type 0
TellsRaised R f drive r =
    (a : Awaited) → In a (awaited_by f.job) → Raises f.kept.tag a → answers drive r a ≡ true →
    is_done f.kept a r ≡ true → R a.drive a.command.object (f.kept.tag + 1) ≡ true

-- so it is of what the server hears, as long as its counters have room; and no two awaited commands have one nonce
pub record IsHeardTruly (R : Reached) (s : Server) (i : Input) : Type 0 where
  pub alone : (a b : Awaited) → Awaits s.files a → Awaits s.files b → a.command.nonce ≡ b.command.nonce → a ≡ b
  pub tells : (now drive : ℕ) (r : Reply) → i ≡ Hears now (FromDrive drive) (Replies r) → counters_have_room s ≡ true →
      (f : File) → In f s.files → TellsRaised R f drive r

-- ---- the end of a fence

-- each component that isn't missing reached the tag
abbrev pub AllRaised : Reached → File → (tag : ℕ) → Type 0
AllRaised R f tag = (at : Component) → In at f.kept.components → at.missing ≡ false → R at.drive at.object tag ≡ true

-- of each note that a fence is over, the file is there with that tag, and each of its components that isn't missing
-- reached it
abbrev pub AreRaised : Reached → List Note → List File → Type 0
AreRaised R ns fs =
    (n : Note) (tag : ℕ) → In n ns → n.kind ≡ Fenced tag →
    (f : File) × In f fs × (f.kept.number ≡ n.file) × (f.kept.tag ≡ tag) × AllRaised R f tag

-- A step keeps what fences wait for, and notes the end of one only where each component that isn't missing reached the
-- tag.
pub record FencesHold (R : Reached) (t : Step) : Type 0 where
  pub fencing : AreFencing R t.state.files
  pub fenced : AreRaised R t.notes t.state.files

abbrev pub FencesWait : Type 0
FencesWait =
    (R : Reached) (s : Server) (chosen : List ℕ) (i : Input) → AreFencing R s.files →
    IsHeardTruly R s i → FencesHold R (step s chosen i)
