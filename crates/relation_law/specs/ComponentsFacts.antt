-- What the components' part needs of the world at a move, by whom the move is of. Each fact says which law gives it.
use Rattle.std.specs.Prelude.{◌≡◌, ◌⊎◌, ◌==◌, ℕ, ◌<◌, ◌≤◌, true, false, length, slice_get, find, is_some, Some}
use Rattle.osd_lists.specs.declared.node.Node.TheVariants as node
use Rattle.osd_commands.specs.declared.actions.Action.TheVariants.{SetTag}
use Rattle.osd_commands.specs.declared.commands.Command.{Command}
use Rattle.server_rules.specs.History.{Input, Hears, Obeys}
use Rattle.server_rules.specs.Laws.{In}
use Rattle.server_rules.specs.Messages.{Orders}
use Rattle.server_rules.specs.Standing.{any_on}
use Rattle.component_law.specs.Components.{is_lacking}
use Rattle.component_law.specs.Distinct.{AreDistinct}
use Rattle.world_history.specs.ServerNames.{File, Component, Drive, Job, Target, ToDeclare}
use Rattle.world_history.specs.State.{World, at_number}
use Rattle.osd_objects.specs.declared.lanes.LaneEntry.{LaneEntry}
use Rattle.osd_objects.specs.Store.{lane_or_none}
use Rattle.scenario_text.specs.declared.names.TheConstants.{CLIENTS}
use Rattle.fence_law.specs.State.{State}
use Rattle.fence_law.specs.Words.{In as InRun}
use Rattle.file_simulation.specs.Components.{has_failed, object_of}
use Rattle.component_law.specs.Tagged.{fence_open}
use Rattle.component_law.specs.Objects.{target_in}
use Rattle.file_simulation.specs.Messages.{HasCommanded}
use Rattle.relation_law.specs.DriveHearing.{AreFirst, AreOfSenders, SendsAbove}
use Rattle.relation_law.specs.ComponentsBehind.{AreUnready}

-- ---- a client's move

-- Each WRITE that a client newly sends to a component that stands has a nonce above the last of the machine.
abbrev pub OfClients : State → (w v : World) → File → Type 0
OfClients s w v f =
    (k : ℕ) (at : Component) → slice_get f.kept.components k ≡ Some at → s.lost k ≡ false → SendsAbove w v s k at.object

-- ---- a drive's move

-- What drives perform is of its sender (`history_law::commands_are_issued`, `history_law::holder_is_server`), and CREATEs are
-- under the file's first tag.
pub record OfDrives (s : State) (w : World) (f : File) : Type 0 where
  pub first : AreFirst w f
  pub senders : AreOfSenders s w f

-- ---- the server's move

-- no order comes in a message, and a drive that is declared has failed, and is known if a component stands there
abbrev pub IsFair : World → File → Input → Type 0
IsFair w f (Hears now node.Server (Orders o)) = ⊥
IsFair w f (Obeys ToDeclare d) =
    (has_failed (at_number w.drives d) ≡ true)
    × (is_some (find (λ (x : Drive). x.number == d) w.server.drives) ≡ false → any_on d f.kept.components ≡ false)
IsFair w f i = Unit {0}

-- No two files have one number, and what a rebuild makes anew is missing (`component_law::seen_is_sound`); tags rise
-- (`component_law::each_step_raises_tags`); behind the step what isn't made is of a file that isn't ready
-- (`component_law::each_tag_is_its_files`).
pub record OfServer (w v : World) (f g : File) (i : Input) : Type 0 where
  pub fair : IsFair w f i
  pub apart : AreDistinct w.server.files
  pub aimed : (x : File) → In x w.server.files → (j : Job) (t : Target) → x.job ≡ Some j → target_in j.work ≡ Some t →
      is_lacking x.kept.components t.component ≡ true
  pub rises : f.kept.tag ≤ g.kept.tag
  pub first_tag : g.kept.first_tag ≡ f.kept.first_tag
  pub count : length g.kept.components ≡ length f.kept.components
  pub unready : AreUnready v g

-- ---- replies

-- the machine has a reply to what stands last in a client's lane (`replied` of `AreSent`)
abbrev pub AreReplied : State → World → File → Type 0
AreReplied s w f =
    (c k : ℕ) (at : Component) (l : LaneEntry) → c < CLIENTS → slice_get f.kept.components k ≡ Some at →
    s.lost k ≡ false → lane_or_none (object_of w at) c ≡ Some l →
    InRun (record { holder = c; nonce = l.nonce; at = k }) s.replies

-- ---- SET TAGs

-- A SET TAG is under no earlier tag than the file's first, and under the present one only while a fence is open.
pub record IsRaising (f : File) (tag : ℕ) : Type 0 where
  pub low : f.kept.first_tag ≤ tag
  pub high : (tag ≤ f.kept.tag) × ((tag < f.kept.tag) ⊎ (fence_open f.kept ≡ true))

-- so is each that the server sent to an object of the file (`component_law::no_command_is_ahead`)
abbrev pub AreRaising : World → File → Type 0
AreRaising w f =
    (d k : ℕ) (x : Command) (at : Component) → HasCommanded w d x → x.action ≡ SetTag →
    slice_get f.kept.components k ≡ Some at → x.object ≡ at.object → IsRaising f x.capability.tag

-- none is under an earlier tag than the file's first
abbrev pub NoneIsEarlier : World → File → Type 0
NoneIsEarlier w f =
    (d k : ℕ) (x : Command) (at : Component) → HasCommanded w d x → x.action ≡ SetTag →
    slice_get f.kept.components k ≡ Some at → x.object ≡ at.object → f.kept.first_tag ≤ x.capability.tag

-- the machine has each of them (`raised` of `AreSent`)
abbrev pub AreRaisedIn : State → World → File → Type 0
AreRaisedIn s w f =
    (d k : ℕ) (x : Command) (at : Component) → HasCommanded w d x → x.action ≡ SetTag →
    slice_get f.kept.components k ≡ Some at → x.object ≡ at.object → InRun x.capability.tag s.set_tags
