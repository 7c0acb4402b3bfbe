-- What is seen of connections in memory.
use Rattle.std.specs.Prelude.{◌≡◌, ℕ, Bool, if◌then◌else◌, List, [], reverse, Option, None, Some, Ok}
use Rattle.port_loop.specs.declared.ports.Arrival.{Arrival}
use Rattle.port_loop.specs.declared.ports.Happening.{Happening}
use Rattle.port_loop.specs.Ports.{Arrives}

-- how many were opened, how many calls failed, what happened, the newest first, and where they listen
pub record Known : Type 0 where
  pub opened : ℕ
  pub faults : ℕ
  pub told : Option (List Happening)
  pub listens : Option (List ℕ)

abbrev pub nothing_happened : Known
nothing_happened = record { opened = 0; faults = 0; told = Some []; listens = None }

-- of what is kept, the oldest first
abbrev pub told_of : (is_lost : Bool) → List Happening → Option (List Happening)
told_of is_lost log = if is_lost then None else Some (reverse log)

abbrev pub Arrived : (old new : Known) → Arrival → List ℕ → Type 0
Arrived old new a buf = (new.faults ≡ old.faults) × (new.listens ≡ old.listens)
    × Arrives old.opened new.opened old.told new.told (Ok a) buf
