-- Whose a command is that may still come: over a step of the server, of the commands that were sent before it.
use Rattle.std.specs.Prelude.{◌≡◌, ◌⊎◌, ℕ, false, true, List, slice_get, Some}
use Rattle.osd_lists.specs.declared.node.Node.TheVariants.{Drive as FromDrive}
use Rattle.osd_commands.specs.declared.commands.Command.{Command}
use Rattle.osd_commands.specs.declared.replies.Reply.{Reply}
use Rattle.server_rules.specs.Files.{file_at}
use Rattle.server_rules.specs.History.{Input, Hears, step}
use Rattle.server_rules.specs.Laws.{In}
use Rattle.server_rules.specs.Messages.{Replies}
use Rattle.server_rules.specs.Replies.{Older, Done, answers, hearing}
use Rattle.component_law.specs.Distinct.{AreDistinct}
use Rattle.component_law.specs.Objects.{target_of}
use Rattle.history_law.specs.Numbered.{Awaits, IsOf}
use Rattle.world_history.specs.ServerNames.{Server, File, Component, Awaited, Target, Job, Note, Fenced, ToDrive}
use Rattle.component_law.specs.KeptWalk.{WorkFits}
use Rattle.file_simulation.specs.Jobs.{IsOfPhase}
use Rattle.relation_law.specs.Awaiting.{FitsIn}

-- what may still come to a drive
abbrev pub Coming : Type 1
Coming = (drive : ℕ) → Command → Type 0

-- the component's object is the one that component k of a file had
abbrev pub IsOld : File → (k : ℕ) → Component → Type 0
IsOld f k at = (b : Component) × (slice_get f.kept.components k ≡ Some b) × (b.object ≡ at.object)

-- Of what may come to a present component of file g that component k of file f was, each is of g's phase.
abbrev pub AreOfPhase : Coming → (f g : File) → Type 0
AreOfPhase C f g =
    (k : ℕ) (at : Component) (x : Command) → slice_get g.kept.components k ≡ Some at → at.missing ≡ false →
    IsOld f k at → C at.drive x → x.object ≡ at.object → IsOfPhase g k x g.kept.phase

-- what a reply to an awaited command tells that is done, or refused for its format, doesn't come any more
abbrev pub AreTold : Coming → Input → File → Type 0
AreTold C i f =
    (now drive : ℕ) (r : Reply) (j : Job) (a : Awaited) → i ≡ Hears now (FromDrive drive) (Replies r) → f.job ≡ Some j →
    In a j.awaited → answers drive r a ≡ true →
    (hearing f.kept a r ≡ Older) ⊎ (hearing f.kept a r ≡ Done) → (x : Command) →
    x ≡ record a.command { check = x.check } → C a.drive x → ⊥

-- what is so of a file before a step
pub record IsReady (C : Coming) (i : Input) (f : File) : Type 0 where
  pub owned : AreOfPhase C f f
  pub fits : FitsIn f.kept f.job
  pub phase : (j : Job) → f.job ≡ Some j → WorkFits f.kept.phase j.work
  pub alone : (j : Job) → f.job ≡ Some j → (a b : Awaited) → In a j.awaited → In b j.awaited →
      a.command.nonce ≡ b.command.nonce → a ≡ b
  pub apart : (t : Target) → target_of f.job ≡ Some t → (k : ℕ) (b : Component) →
      slice_get f.kept.components k ≡ Some b → b.object ≡ t.object → ⊥
  pub told : AreTold C i f

-- these notes tell that a fence of the file is over
abbrev pub EndsFence : (number : ℕ) → List Note → Type 0
EndsFence n ns = (tag : ℕ) × In (record { file = n; kind = Fenced tag }) ns

-- Behind a step that is so of each file, unless a fence of it is over in the step.
abbrev pub OwnedGoOn : Type 1
OwnedGoOn =
    (C : Coming) (s : Server) (chosen : List ℕ) (i : Input) → AreDistinct s.files → (n : ℕ) (f g : File) →
    file_at s.files n ≡ Some f → file_at (step s chosen i).state.files n ≡ Some g → IsReady C i f →
    EndsFence n (step s chosen i).notes ⊎ AreOfPhase C f g

-- ---- what a step sends

-- what a step sends to drives a job awaits behind it
abbrev pub EachSendIsAwaited : Type 0
EachSendIsAwaited =
    (s : Server) (chosen : List ℕ) (i : Input) → (drive : ℕ) (x : Command) → In (ToDrive drive x) (step s chosen i).sends →
    (a : Awaited) × IsOf drive x a × Awaits (step s chosen i).state.files a
