-- Bytes of positions.
use Rattle.std.specs.Prelude.{ℕ, ◌+◌}
use Rattle.call_commands.specs.State.{Stretch}

-- so many bytes of position p
abbrev pub stretch_from : (p first n : ℕ) → Stretch
stretch_from p first n = record { position = p; first = first; end = first + n }
