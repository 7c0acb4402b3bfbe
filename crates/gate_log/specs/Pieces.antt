-- Bytes that add records to a log.
use Rattle.std.specs.Prelude.{◌≡◌, ◌<◌, ℕ, List, length}
use Rattle.gate_log.specs.Entries.{pieces_of}
use Rattle.gate_log.specs.Written.{AreBodies}

-- written behind a closed gate, they are these bodies' records, of which there is one at least
pub record AddBodies (bodies : List (List ℕ)) (piece : List ℕ) : Type 0 where
  pub are_bodies : AreBodies bodies
  pub some : 0 < length bodies
  pub bytes_are : piece ≡ pieces_of bodies
