-- An event that isn't refused: neither of two causes stands against it.
use Rattle.std.proofs.Common.{◌≡◌, Bool, true, false, Option, Some, None, refl, if◌then◌else◌}
use Rattle.world_history.specs.declared.err.WorldErr.{WorldErr}
use Rattle.world_history.specs.declared.err.WorldErr.TheVariants.{Down}
use Rattle.world_history.specs.State.{World}
use Rattle.world_history.specs.Refusals.{first_of, unless_down}

-- where the first of two causes is none, neither is one
pub no_cause : (x y : Option WorldErr) → first_of x y ≡ None → (x ≡ None) × (y ≡ None)
no_cause None y e = (refl, e)
no_cause (Some cause) y e = absurd (cc e)

-- a server of which that isn't a cause is up
pub is_up : (w : World) → unless_down w ≡ None → w.down ≡ false
is_up w e = either w.down e
  where
    either : (down : Bool) → (if down then Some Down else None) ≡ None → down ≡ false
    either true is = absurd (cc is)
    either false is = refl
