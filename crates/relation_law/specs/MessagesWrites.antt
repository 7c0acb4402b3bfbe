-- The WRITEs that clients sent to the components of a file: which part of the relation, and what it asks of the world.
use Rattle.std.specs.Prelude.{◌≡◌, ◌⊎◌, ℕ, false, slice_get, Some}
use Rattle.osd_commands.specs.declared.actions.Action.TheVariants.{Write as ToWrite}
use Rattle.osd_commands.specs.declared.commands.Command.{Command}
use Rattle.world_history.specs.ServerNames.{File, Component}
use Rattle.world_history.specs.State.{World}
use Rattle.exchange_law.specs.Sent.{HasSent}
use Rattle.fence_law.specs.State.{State}
use Rattle.file_simulation.specs.Components.{is_lost_in}
use Rattle.file_simulation.specs.Messages.{WasSent}

-- each WRITE that a client ever sent to the object of a component that isn't lost was sent in the machine
abbrev pub WritesAreSent : State → World → File → Type 0
WritesAreSent s w f =
    (c d k : ℕ) (x : Command) (at : Component) → HasSent w c d x → x.action ≡ ToWrite →
    slice_get f.kept.components k ≡ Some at → x.object ≡ at.object → s.lost k ≡ false → WasSent s c k x

-- component k has the object that it had, and stood before
pub record ObjectStays (w : World) (f : File) (k : ℕ) (at : Component) : Type 0 where
  pub component : Component
  pub there : slice_get f.kept.components k ≡ Some component
  pub object : component.object ≡ at.object
  pub stands : is_lost_in w component ≡ false

-- no client sent a WRITE to this object
abbrev pub IsUnwritten : World → Component → Type 0
IsUnwritten w at = (c d : ℕ) (x : Command) → HasSent w c d x → x.action ≡ ToWrite → x.object ≡ at.object → ⊥

-- Each component that stands behind a move has the object that it had, or one to which no client had sent a WRITE.
abbrev pub ObjectsStay : (w v : World) → (f g : File) → Type 0
ObjectsStay w v f g =
    (k : ℕ) (at : Component) → slice_get g.kept.components k ≡ Some at → is_lost_in v at ≡ false →
    ObjectStays w f k at ⊎ IsUnwritten w at
