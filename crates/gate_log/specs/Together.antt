-- Records that are added together.
use Rattle.std.specs.Prelude.{◌≡◌, ℕ, List}
use Rattle.gate_log.specs.declared.entries.Entries.{Entries}
use Rattle.gate_log.specs.Entries.{pieces_of}
use Rattle.gate_log.specs.Written.{AreBodies}

-- the entries have these bodies, in order
pub record HaveBodies (bodies : List (List ℕ)) (entries : Entries) : Type 0 where
  pub are_bodies : AreBodies bodies
  pub bytes_are : entries.pieces ≡ pieces_of bodies
