-- What became of the components of a file that clients were given.
use Rattle.std.specs.Prelude.{◌≡◌, ◌⊎◌, ℕ, ◌+◌, true, false, List, [], slice_get, Some, Ok}
use Rattle.osd_lists.specs.declared.node.Node.TheVariants as node
use Rattle.osd_commands.specs.declared.actions.Action.TheVariants.{SetTag}
use Rattle.osd_commands.specs.declared.commands.Command.{Command}
use Rattle.scenario_text.specs.declared.line.Line.{Line}
use Rattle.server_rules.specs.Files.{file_at}
use Rattle.server_rules.specs.Grants.{grant_of}
use Rattle.server_rules.specs.Laws.{In}
use Rattle.client_rules.specs.Grants.{held_of}
use Rattle.world_history.specs.ClientNames.{Credential, Held, Listed}
use Rattle.world_history.specs.ServerNames.{Component, File, Fencing, Fences, Grant, Job, Still, Awaited as ForServer}
use Rattle.world_history.specs.State.{World, at_number}
use Rattle.world_history.specs.declared.messages.Message.{Message}
use Rattle.world_history.specs.Drives.{command_in}
use Rattle.history_law.specs.Moments.{IsMoment}
use Rattle.history_law.specs.Reaching.{has_reached}
use Rattle.history_law.specs.Unforged.{AreUnforged}
use Rattle.exchange_law.specs.Doing.{said}
use Rattle.file_simulation.specs.Claim.{IsOfScenario}
use Rattle.file_simulation.specs.Relation.{client_of}
use Rattle.relation_law.specs.DriveHearing.{AwaitsOwn}

-- component k of a grant is listed with this credential
pub record IsListedWith (x : Held) (k : ℕ) (l : Listed) (cr : Credential) : Type 0 where
  pub found : slice_get x.components k ≡ Some l
  pub has : l.credential ≡ Some cr

-- it stands where it stood, and isn't missing; its file still has the credential's tag
pub record StandsYet (f : File) (k : ℕ) (l : Listed) (cr : Credential) : Type 0 where
  pub component : Component
  pub there : slice_get f.kept.components k ≡ Some component
  pub present : component.missing ≡ false
  pub drive : component.drive ≡ cr.drive
  pub object : component.object ≡ l.id.oid_object_id
  pub tag : cr.capability.tag ≡ f.kept.tag

-- its object has a later tag than the credential, or its drive has failed
abbrev pub IsOver : World → Listed → Credential → Type 0
IsOver w l cr = has_reached l.id.oid_object_id (cr.capability.tag + 1) (at_number w.drives cr.drive) ≡ true

-- client c has a live grant of the file, or the fence that ends its grants isn't over
abbrev pub IsOpen : (c : ℕ) → File → Type 0
IsOpen c f = ((g : Grant) × (grant_of f.kept.grants c ≡ Some g)) ⊎ (f.kept.phase ≡ Fencing)

-- What became of a grant of client c on the file: until its fence is over, each component that it lists stands yet or is over;
-- then each is over.
pub data Became (w : World) (c : ℕ) (f : File) (x : Held) : Type 0 where
  Lasts : IsOpen c f
      → ((k : ℕ) (l : Listed) (cr : Credential) → IsListedWith x k l cr → StandsYet f k l cr ⊎ IsOver w l cr)
      → Became w c f x
  Ended : ((k : ℕ) (l : Listed) (cr : Credential) → IsListedWith x k l cr → IsOver w l cr) → Became w c f x

-- the file is there, and so it is
pub record BecameAt (w : World) (c n : ℕ) (x : Held) : Type 0 where
  pub file : File
  pub there : file_at w.server.files n ≡ Some file
  pub became : Became w c file x

-- so it is of each grant that a client holds, in a history of a scenario in which nothing is forged
abbrev pub EachHeldBecame : Type 0
EachHeldBecame =
    (w : World) (h : List Line) → IsMoment w h → IsOfScenario h → AreUnforged h → (c n : ℕ) (x : Held) →
    held_of (client_of w c).held n ≡ Some x → BecameAt w c n x

-- what a client awaits under the nonce of a command that a drive reads in its message is that command
abbrev pub EachAwaitIsOwn : Type 0
EachAwaitIsOwn =
    (w : World) (h : List Line) → IsMoment w h → IsOfScenario h → (m : Message) (c d : ℕ) (x : Command) →
    In m (said w.network.messages) → m.from ≡ node.Client c → m.to ≡ node.Drive d → command_in m.body ≡ Ok x → AwaitsOwn w c x

-- What is known of a file that is there: where it was made, each present component has an object with the file's tag or a later
-- one, or its drive has failed; where it wasn't, it has no grant, and no fence of it is open.
pub record IsSettledAt (w : World) (f : File) : Type 0 where
  pub raised : f.kept.ready ≡ true → (at : Component) → In at f.kept.components → at.missing ≡ false →
      has_reached at.object f.kept.tag (at_number w.drives at.drive) ≡ true
  pub unmade : f.kept.ready ≡ false → (f.kept.grants ≡ []) × (f.kept.phase ≡ Still)

-- so it is of each file, in a history of a scenario in which nothing is forged
abbrev pub EachFileIsSettled : Type 0
EachFileIsSettled =
    (w : World) (h : List Line) → IsMoment w h → IsOfScenario h → AreUnforged h → (n : ℕ) (f : File) →
    file_at w.server.files n ≡ Some f → IsSettledAt w f

-- while a fence of a file is open for the first time, no job of it runs but the fence, which awaits SET TAGs alone
abbrev pub EachFenceSetsTags : Type 0
EachFenceSetsTags =
    (w : World) (h : List Line) → IsMoment w h → IsOfScenario h → AreUnforged h → (f : File) → In f w.server.files →
    f.kept.phase ≡ Fencing → (j : Job) → f.job ≡ Some j →
    (j.work ≡ Fences) × ((a : ForServer) → In a j.awaited → a.command.action ≡ SetTag)
