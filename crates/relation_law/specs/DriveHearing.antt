-- A command that a drive performs: who sent it, and where the components of a file lie.
use Rattle.std.specs.Prelude.{◌≡◌, ◌⊎◌, ℕ, ◌<◌, true, false, List, length, find, slice_get, Some, Ok}
use Rattle.osd_lists.specs.declared.node.Node.{Node}
use Rattle.osd_lists.specs.declared.node.Node.TheVariants as node
use Rattle.data_map.specs.Check.{IsChecked}
use Rattle.osd_commands.specs.declared.actions.Action.TheVariants as action
use Rattle.osd_commands.specs.declared.actions.Action.TheVariants.{Write as ToWrite}
use Rattle.osd_commands.specs.declared.commands.Command.{Command}
use Rattle.osd_drive.specs.declared.verdict.Verdict.TheVariants.{Perform}
use Rattle.osd_drive.specs.Table.{first_fault}
use Rattle.scenario_text.specs.declared.names.TheConstants.{CLIENTS}
use Rattle.server_rules.specs.declared.limits.TheConstants.{SERVER_HOLDER}
use Rattle.world_history.specs.ServerNames.{File, Component}
use Rattle.world_history.specs.State.{World, DriveAt, ClientAt, at_number}
use Rattle.world_history.specs.Drives.{command_in, is_deaf}
use Rattle.exchange_law.specs.Sent.{HasSent}
use Rattle.exchange_law.specs.Doing.{said}
use Rattle.osd_commands.specs.Commands.{reading}
use Rattle.scenario_text.specs.declared.event.Event.TheVariants as event
use Rattle.server_rules.specs.Laws.{In}
use Rattle.client_rules.specs.declared.calls.Awaited.{Awaited}
use Rattle.client_rules.specs.Messages.{awaited_of}
use Rattle.client_rules.specs.Calls.{file_of}
use Rattle.client_rules.specs.Grants.{held_of}
use Rattle.client_rules.specs.Io.{awaited_in}
use Rattle.world_history.specs.ClientNames.{Call, Held}
use Rattle.client_rules.specs.Commands.{credential_of}
use Rattle.world_history.specs.declared.messages.Message.{Message}
use Rattle.world_history.specs.declared.messages.Posted.{Posted}
use Rattle.world_history.specs.Moves.{Action, Opens}
use Rattle.fence_law.specs.State.{State}
use Rattle.fence_law.specs.State.Event.{Shows}
use Rattle.fence_law.specs.Machine.{Allowed}
use Rattle.file_simulation.specs.DriveEvents.{is_running, is_sent_as}
use Rattle.file_simulation.specs.EventLists.{entry_of}
use Rattle.file_simulation.specs.Relation.{client_of}
use Rattle.file_simulation.specs.Messages.{HasCommanded}

-- ---- a command

-- drive d, which hears, performs a command
pub record IsPerformed (w : World) (d : ℕ) (a : DriveAt) (x : Command) : Type 0 where
  pub there : at_number w.drives d ≡ Some a
  pub hears : is_deaf a ≡ false
  pub clear : first_fault a.state a.clock x ≡ Perform

-- what a drive reads in the bytes of a command that was sent
pub record IsReadAs (sent x : Command) : Type 0 where
  pub action : x.action ≡ sent.action
  pub object : x.object ≡ sent.object
  pub nonce : x.nonce ≡ sent.nonce
  pub payload : x.payload ≡ sent.payload
  pub offset : x.action ≡ ToWrite → x.offset ≡ sent.offset
  pub tag : x.capability.tag ≡ sent.capability.tag
  pub holder : x.capability.holder ≡ sent.capability.holder
  pub format : x.capability.format ≡ sent.capability.format

-- client c sent it: it reads or writes, under the client's number
pub record IsOfClient (w : World) (d c : ℕ) (x : Command) : Type 0 where
  pub command : Command
  pub sent : HasSent w c d command
  pub reads : IsReadAs command x
  pub capability : x.capability ≡ command.capability
  pub below : c < CLIENTS
  pub holder : x.capability.holder ≡ c
  pub action : (x.action ≡ action.Read) ⊎ (x.action ≡ action.Write)

-- the server sent it, under its own holder
pub record IsOfServer (w : World) (d : ℕ) (x : Command) : Type 0 where
  pub command : Command
  pub sent : HasCommanded w d command
  pub reads : IsReadAs command x
  pub holder : x.capability.holder ≡ SERVER_HOLDER

-- by who sent it
abbrev pub IsOfSender : World → (d : ℕ) → Command → Node → Type 0
IsOfSender w d x (node.Client c) = IsOfClient w d c x
IsOfSender w d x node.Server = IsOfServer w d x
IsOfSender w d x (node.Drive k) = ⊥

-- ---- a READ

-- where a client's call awaits a READ under this nonce, component k may show its cells to the entry that the client is at
abbrev pub ShowsRight : State → World → File → (c k : ℕ) → Command → Type 0
ShowsRight s w f c k x =
    is_running f.kept.number x.nonce (client_of w c).call ≡ true → s.lost k ≡ false → Allowed s (Shows (entry_of s c) k)

-- what client c awaits under the nonce of a command is this command, and it awaits under a grant that it holds
pub record AwaitsOwn (w : World) (c : ℕ) (x : Command) : Type 0 where
  pub same : (call : Call) → (client_of w c).call ≡ Some call → (y : Awaited) → In y (awaited_in call.phase) →
      y.command.nonce ≡ x.nonce → y.command ≡ x
  pub of : (call : Call) (h : Held) → (client_of w c).call ≡ Some call →
      held_of (client_of w c).held (file_of call.op) ≡ Some h → (y : Awaited) → In y (awaited_in call.phase) →
      y.command.capability ≡ (credential_of h y.ask.component).capability

-- What client c awaits under the nonce of a command has its capability, and it awaits under a grant that it holds.
pub record AwaitsUnder (w : World) (c : ℕ) (x : Command) : Type 0 where
  pub same : (call : Call) → (client_of w c).call ≡ Some call → (y : Awaited) → In y (awaited_in call.phase) →
      y.command.nonce ≡ x.nonce → y.command.capability ≡ x.capability
  pub of : (call : Call) (h : Held) → (client_of w c).call ≡ Some call →
      held_of (client_of w c).held (file_of call.op) ≡ Some h → (y : Awaited) → In y (awaited_in call.phase) →
      y.command.capability ≡ (credential_of h y.ask.component).capability

-- so it is of each component that stands where a client's READ goes
abbrev pub AreShownRight : State → World → File → (d : ℕ) → Command → Node → Type 0
AreShownRight s w f d x (node.Client c) =
    (k : ℕ) (at : Component) → slice_get f.kept.components k ≡ Some at → at.missing ≡ false → at.drive ≡ d →
    at.object ≡ x.object → x.action ≡ action.Read → ShowsRight s w f c k x
AreShownRight s w f d x from = Unit {0}

-- ---- a file

-- a file has a usable map with a component for each that this has, and no two of them have one object
pub record IsLaidOut (f : File) : Type 0 where
  pub checked : IsChecked f.kept.map
  pub components : length f.kept.components ≡ f.kept.map.comps
  pub differ : (i k : ℕ) (a b : Component) → slice_get f.kept.components i ≡ Some a →
      slice_get f.kept.components k ≡ Some b → a.object ≡ b.object → i ≡ k

-- each CREATE that was sent for a component of a file that isn't ready is under the file's first tag
abbrev pub AreFirst : World → File → Type 0
AreFirst w f =
    (d k : ℕ) (x : Command) (at : Component) → f.kept.ready ≡ false → slice_get f.kept.components k ≡ Some at →
    HasCommanded w d x → x.action ≡ action.Create → x.object ≡ at.object → x.capability.tag ≡ f.kept.first_tag

-- ---- a world

-- what each client awaits it has sent
abbrev pub AwaitedAreSent : World → Type 0
AwaitedAreSent w =
    (c : ℕ) (a : ClientAt) → at_number w.clients c ≡ Some a → (x : Awaited) → In x (awaited_of a.state.call) →
    HasSent w c x.drive x.command

-- no two commands of a client have one nonce
abbrev pub DifferByNonce : World → Type 0
DifferByNonce w =
    (c d e : ℕ) (x y : Command) → HasSent w c d x → HasSent w c e y → x.nonce ≡ y.nonce → (d ≡ e) × (x ≡ y)

-- no client sent a new WRITE to the object, but with a nonce above the last
abbrev pub SendsAbove : (w v : World) → State → (k object : ℕ) → Type 0
SendsAbove w v t k object =
    (c d : ℕ) (x : Command) → c < CLIENTS → HasSent v c d x → x.action ≡ action.Write → x.object ≡ object →
    HasSent w c d x ⊎ (t.last_nonce k c < x.nonce)

-- a command that a drive performs of a message is its sender's, and what a READ shows of the file is right
abbrev pub AreOfSenders : State → World → File → Type 0
AreOfSenders s w f =
    (m : Message) (d : ℕ) (a : DriveAt) (x : Command) → In m (said w.network.messages) → m.to ≡ node.Drive d →
    command_in m.body ≡ Ok x → IsPerformed w d a x → IsOfSender w d x m.from × AreShownRight s w f d x m.from

-- what is performed of injected bytes was sent as a message to the drive
abbrev pub WasSentAs : World → (d : ℕ) → (bytes : List ℕ) → Type 0
WasSentAs w d bytes =
    (a : DriveAt) (x : Command) → reading bytes ≡ Ok x → IsPerformed w d a x →
    (p : Posted) × (find (is_sent_as d bytes) w.network.messages ≡ Some p)

abbrev pub NoneIsGuessed : World → Action → Type 0
NoneIsGuessed w (Opens (event.Inject d bytes)) = WasSentAs w d bytes
NoneIsGuessed w action = Unit {0}
