-- What is seen of connections over TCP.
use Rattle.std.specs.Prelude.{◌≡◌, ℕ, ◌+◌, ◌<◌, ◌≤◌, List, length, ⊤, Option, None, Some, Ok}
use Rattle.port_loop.specs.Ports.{Arrives}
use Rattle.port_loop.specs.declared.ports.Arrival.{Arrival}
use Rattle.port_loop.specs.declared.ports.Arrival.TheVariants.{Opens, Brings as BringsOn, Drains as DrainsOn, Closes, Quiet}
use Rattle.mio_ports.specs.declared.slot.Turn.{Turn}
use Rattle.mio_ports.specs.declared.slot.Turn.TheVariants.{Brings, Drains, Ends, Rests}

-- how many were opened, how many calls failed, and where they listen
pub record Counted : Type 0 where
  pub opened : ℕ
  pub faults : ℕ
  pub listens : Option (List ℕ)

abbrev pub nothing_counted : Counted
nothing_counted = record { opened = 0; faults = 0; listens = None }

-- bytes are at least one, at the front of the buffer
abbrev pub BringsSome : Turn → List ℕ → Type 0
BringsSome (Brings n) buf = (0 < n) × (n ≤ length buf)
BringsSome Drains buf = ⊤
BringsSome Ends buf = ⊤
BringsSome Rests buf = ⊤

-- what arrives at the turn of one connection
abbrev pub ArrivesOn : ℕ → Option Arrival → List ℕ → Type 0
ArrivesOn p None buf = ⊤
ArrivesOn p (Some (Opens q)) buf = ⊥
ArrivesOn p (Some (BringsOn q n)) buf = (q ≡ p) × (0 < n) × (n ≤ length buf)
ArrivesOn p (Some (DrainsOn q)) buf = q ≡ p
ArrivesOn p (Some (Closes q)) buf = q ≡ p
ArrivesOn p (Some Quiet) buf = ⊥

-- one more is open, under the next number, or nothing is changed
abbrev pub Begun : (old new : Counted) → Option ℕ → Type 0
Begun old new None = new ≡ old
Begun old new (Some p) =
    (new.faults ≡ old.faults) × (new.listens ≡ old.listens) × (p ≡ old.opened) × (new.opened ≡ old.opened + 1)

-- something arrived, or nothing is changed
abbrev pub Arrived : (old new : Counted) → Option Arrival → List ℕ → Type 0
Arrived old new None buf = new ≡ old
Arrived old new (Some a) buf =
    (new.faults ≡ old.faults) × (new.listens ≡ old.listens) × Arrives old.opened new.opened None None (Ok a) buf
