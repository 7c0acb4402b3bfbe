-- What is kept of a connection that is open.
use Rattle.std.specs.Prelude.{◌≡◌, ℕ, List, [], Option, None, Some}
use Rattle.osd_bytes.specs.Records.{Begun, Split, fresh, split}

-- what came of its next record, unless one was too long, and the bytes of its replies that are still to be put
pub record Sess : Type 0 where
  pub begun : Option Begun
  pub unsent : List ℕ

abbrev pub new_session : Sess
new_session = record { begun = Some fresh; unsent = [] }

-- the records of a piece, up to one that is too long; after such a one there are none
abbrev pub read_on : Option Begun → List ℕ → Split
read_on None bytes = record { records = []; begun = None }
read_on (Some b) bytes = split b bytes

-- a session goes on by a piece that has these records
abbrev pub Reads : (piece : List ℕ) → (records : List (List ℕ)) → (old new : Sess) → Type 0
Reads piece records old new =
    (read_on old.begun piece ≡ record { records = records; begun = new.begun }) × (new.unsent ≡ old.unsent)
