-- The events of a message that comes to a drive: it performs a client's WRITE, or none.
use Rattle.std.proofs.Common.{◌≡◌, ◌⊎◌, not, ℕ, Bool, true, false, List, [], ◌∷◌, find, Option, Some, None, Result, Ok, Err, refl, inl, inr}
use Rattle.osd_lists.specs.declared.node.Node.{Node}
use Rattle.osd_lists.specs.declared.node.Node.TheVariants as node
use Rattle.osd_commands.specs.declared.actions.Action.{Action}
use Rattle.osd_commands.specs.declared.actions.Action.TheVariants.{Read, Write, SetTag}
use Rattle.osd_commands.specs.declared.commands.Command.{Command}
use Rattle.osd_commands.specs.declared.commands.CommandErr.{CommandErr}
use Rattle.world_history.specs.declared.messages.Message.{Message}
use Rattle.world_history.specs.ServerNames.{File}
use Rattle.world_history.specs.State.{World, DriveAt, at_number}
use Rattle.world_history.specs.Drives.{verdict_on, is_deaf, command_in}
use Rattle.world_history.specs.Stripes.{component_at}
use Rattle.fence_law.specs.State as machine
use Rattle.fence_law.specs.State.{State, Event}
use Rattle.fence_law.specs.State.Event.{Performs}
use Rattle.file_simulation.specs.DriveEvents as events
use Rattle.file_simulation.specs.EventLists.{where_so}
use Rattle.relation_law.specs.Frames.{AreAll}
use Rattle.headline_law.proofs.CalmEvents.{PerformsNone}
use Rattle.headline_law.proofs.CalmDrives.{where_all}

-- a drive performs a client's WRITE, which is this event
pub record IsPerforming (s : State) (w : World) (f : File) (m : Message) (es : List Event) : Type 0 where
  pub client : ℕ
  pub drive : ℕ
  pub component : ℕ
  pub command : Command
  pub state : DriveAt
  pub write : machine.Write
  pub sender : m.from ≡ node.Client client
  pub receiver : m.to ≡ node.Drive drive
  pub there : at_number w.drives drive ≡ Some state
  pub hears : is_deaf state ≡ false
  pub reads : command_in m.body ≡ Ok command
  pub performed : events.is_performed (verdict_on state.state state.clock (Ok command)) ≡ true
  pub action : command.action ≡ Write
  pub found : component_at drive command.object f.kept.components 0 ≡ Some component
  pub stands : s.lost component ≡ false
  pub written : find (events.is_write client component command.nonce) s.writes ≡ Some write
  pub are : es ≡ Performs write ∷ []

module _ (s : State) (w : World) (e : ℕ → ℕ) (f : File) (m : Message) where
  abbrev pub Heard : List Event → Type 0
  Heard es = AreAll PerformsNone es ⊎ IsPerforming s w f m es

  module _ (d : ℕ) (to : m.to ≡ node.Drive d) (a : DriveAt) (there : at_number w.drives d ≡ Some a)
      (hears : is_deaf a ≡ false) (x : Command) (reads : command_in m.body ≡ Ok x)
      (performed : events.is_performed (verdict_on a.state a.clock (Ok x)) ≡ true) (k : ℕ)
      (found : component_at d x.object f.kept.components 0 ≡ Some k) (stands : s.lost k ≡ false) where
    by_write : (c : ℕ) → m.from ≡ node.Client c → x.action ≡ Write → (o : Option machine.Write) →
        find (events.is_write c k x.nonce) s.writes ≡ o → Heard (events.performs o)
    by_write c from_ action None is = inl tt
    by_write c from_ action (Some y) is = inr (record {
      client = c;
      drive = d;
      component = k;
      command = x;
      state = a;
      write = y;
      sender = from_;
      receiver = to;
      there = there;
      hears = hears;
      reads = reads;
      performed = performed;
      action = action;
      found = found;
      stands = stands;
      written = is;
      are = refl;
    })

    by_action : (c : ℕ) → m.from ≡ node.Client c → (act : Action) → x.action ≡ act →
        Heard (events.of_client s w f.kept.number k c x act)
    by_action c from_ Read is = inl (where_all PerformsNone (events.is_running f.kept.number x.nonce _) _ (tt, tt))
    by_action c from_ Write is = by_write c from_ is (find (events.is_write c k x.nonce) s.writes) refl
    by_action c from_ act is = inl tt

    of_server_none : (act : Action) → AreAll PerformsNone (events.of_server e k x act)
    of_server_none SetTag = (tt, tt)
    of_server_none Write = (tt, tt)
    of_server_none act = tt

    by_sender : (from_ : Node) → m.from ≡ from_ → Heard (events.performed_of s w e f.kept.number k x from_)
    by_sender (node.Client c) is = by_action c is x.action refl
    by_sender node.Server is = inl (of_server_none x.action)
    by_sender (node.Drive j) is = inl tt

  module _ (d : ℕ) (to : m.to ≡ node.Drive d) (a : DriveAt) (there : at_number w.drives d ≡ Some a)
      (hears : is_deaf a ≡ false) (x : Command) (reads : command_in m.body ≡ Ok x)
      (performed : events.is_performed (verdict_on a.state a.clock (Ok x)) ≡ true) where
    by_component : (o : Option ℕ) → component_at d x.object f.kept.components 0 ≡ o →
        Heard (events.performed_on s w e f x m.from o)
    by_component None found = inl tt
    by_component (Some k) found = by_lost (s.lost k) refl
      where
        by_lost : (b : Bool) → s.lost k ≡ b → Heard (where_so (not b) (events.performed_of s w e f.kept.number k x m.from))
        by_lost true is = inl tt
        by_lost false is = by_sender d to a there hears x reads performed k found is m.from refl

  by_command : (d : ℕ) → m.to ≡ node.Drive d → (a : DriveAt) → at_number w.drives d ≡ Some a → is_deaf a ≡ false →
      (r : Result Command CommandErr) → command_in m.body ≡ r → Heard (events.judged s w e f d a m.from r)
  by_command d to a there hears (Err cause) reads = inl tt
  by_command d to a there hears (Ok x) reads = by_verdict (events.is_performed (verdict_on a.state a.clock (Ok x))) refl
    where
      by_verdict : (b : Bool) → events.is_performed (verdict_on a.state a.clock (Ok x)) ≡ b →
          Heard (where_so b (events.performed_on s w e f x m.from (component_at d x.object f.kept.components 0)))
      by_verdict true is =
          by_component d to a there hears x reads is (component_at d x.object f.kept.components 0) refl
      by_verdict false is = inl tt

  by_drive : (d : ℕ) → m.to ≡ node.Drive d → (o : Option DriveAt) → at_number w.drives d ≡ o →
      Heard (events.heard s w e f d m o)
  by_drive d to None there = inl tt
  by_drive d to (Some a) there = by_deaf (is_deaf a) refl
    where
      by_deaf : (b : Bool) → is_deaf a ≡ b → Heard (where_so (not b) (events.judged s w e f d a m.from (command_in m.body)))
      by_deaf true is = inl tt
      by_deaf false is = by_command d to a there is (command_in m.body) refl

  pub heard_as : (to : Node) → m.to ≡ to → Heard (events.heard_at s w e f m to)
  heard_as (node.Drive d) is = by_drive d is (at_number w.drives d) refl
  heard_as (node.Client c) is = inl tt
  heard_as node.Server is = inl tt
