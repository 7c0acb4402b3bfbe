-- The key of a drive is the one with which the server seals for it.
use Rattle.std.specs.Prelude.{◌≡◌, ℕ, Bool, false, List, [], ◌∷◌, Some}
use Rattle.osd_drive.specs.Table.{has_no_key, has_wrong_check}
use Rattle.server_rules.specs.declared.limits.TheConstants.{KEY_VERSION}
use Rattle.server_rules.specs.Commands.{key_at, sealed}
use Rattle.server_rules.specs.Laws.{In}
use Rattle.scenario_text.specs.declared.line.Line.{Line}
use Rattle.scenario_text.specs.declared.line.Line.TheVariants as line
use Rattle.world_history.specs.ServerNames.{Awaited}
use Rattle.world_history.specs.Drives.{first_key}
use Rattle.world_history.specs.State.{World, DriveAt, at_number}
use Rattle.history_law.specs.Moves.{drive_event}
use Rattle.history_law.specs.BookMoments.{IsMoment}

-- drive d has the key of the event that made it, stored or not, and no other, and the server has that key for it
pub record HasItsKey (w : World) (h : List Line) (d : ℕ) (a : DriveAt) : Type 0 where
  pub key : List ℕ
  pub capacity : ℕ
  pub stored : Bool
  pub made : In (line.Event (drive_event d key capacity stored)) h
  pub keys : a.state.keys ≡ first_key key ∷ []
  pub known : key_at w.server.drives d ≡ key
  -- so it opens what the server seals for it
  pub has : (c : Awaited) → c.command.capability.key_version ≡ KEY_VERSION
      → has_no_key a.state (sealed w.server.drives c) ≡ false
  pub opens : (c : Awaited) → c.drive ≡ d → c.command.capability.key_version ≡ KEY_VERSION
      → has_wrong_check a.state (sealed w.server.drives c) ≡ false

-- so it is of each drive, at each moment of any history
abbrev pub KeysAreKnown : Type 0
KeysAreKnown =
    (w : World) (h : List Line) → IsMoment w h → (d : ℕ) (a : DriveAt) →
    at_number w.drives d ≡ Some a → HasItsKey w h d a
