-- What a performed command may change of a drive, and what a READ may tell of it.
use Rattle.std.specs.Prelude.{◌≡◌, ℕ, ◌+◌, ◌≤◌, ◌<◌, List, take, drop, get_or, Ok}
use Rattle.osd_capability.specs.declared.layout.Capability.{Capability}
use Rattle.osd_commands.specs.declared.actions.Action.TheVariants.{Read}
use Rattle.osd_commands.specs.declared.commands.Command.{Command}
use Rattle.osd_commands.specs.Commands.{reading}
use Rattle.osd_objects.specs.Store.{StoreState, bytes_at, AreOthersKept}
use Rattle.osd_drive.specs.declared.verdict.Verdict.TheVariants.{Perform}
use Rattle.osd_drive.specs.State.{DriveState}
use Rattle.osd_drive.specs.Table.{first_fault}
use Rattle.osd_drive.specs.Effects.{performed, performed_reply}

-- byte k of an object; past its end, and where there is no object, it is 0
abbrev pub byte_of : StoreState → (object k : ℕ) → ℕ
byte_of s object k = get_or (bytes_at s object) k 0

-- a byte that a capability is for
abbrev pub IsInside : Capability → (k : ℕ) → Type 0
IsInside cap k = (cap.range_start ≤ k) × (k < cap.range_start + cap.range_len)

-- It is for the capability's object. No other object changes, and of that one no byte outside the capability's range.
-- A READ tells bytes of that range alone.
pub record TouchesItsOwn (d : DriveState) (c : Command) : Type 0 where
  pub object : c.object ≡ c.capability.object
  pub others : AreOthersKept d.store c.object (performed d c).store
  pub bytes : (k : ℕ) → (IsInside c.capability k → ⊥)
      → byte_of (performed d c).store c.object k ≡ byte_of d.store c.object k
  pub tells : c.action ≡ Read
      → (performed_reply d c).payload ≡ take c.length (drop c.offset (bytes_at d.store c.object))
  pub inside : c.action ≡ Read → (k : ℕ) → c.offset ≤ k → k < c.offset + c.length → IsInside c.capability k

-- so does each command that a drive reads and performs, whatever its state and the time
abbrev pub PerformedTouchesItsOwn : Type 0
PerformedTouchesItsOwn =
    (d : DriveState) (now : ℕ) (bytes : List ℕ) (c : Command) → reading bytes ≡ Ok c → first_fault d now c ≡ Perform
    → TouchesItsOwn d c
