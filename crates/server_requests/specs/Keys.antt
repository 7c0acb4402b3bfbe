-- A drive's key, as it makes the keys of capabilities.
use Rattle.std.specs.Prelude.{ℕ, Bool, List, ◌≡◌, ◌==◌}
use Rattle.osd_capability.specs.Keys.{key_of}
use Rattle.server_rules.specs.declared.server.Drive.{Drive}
use Rattle.osd_capability.specs.declared.layout.Capability.{Capability}
use Rattle.server_rules.specs.Commands.{key_at}

abbrev pub with_number : (number : ℕ) → Drive → Bool
with_number number d = d.number == number

-- the key makes the same keys of capabilities as the drive's
abbrev pub IsKeyAt : List Drive → (drive : ℕ) → (key : List ℕ) → Type 0
IsKeyAt ds drive key = (c : Capability) → key_of key c ≡ key_of (key_at ds drive) c
