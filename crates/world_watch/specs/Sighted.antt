-- The messages to drives, by nonce.
use Rattle.std.specs.Prelude.{ℕ, Bool, false, ◌&&◌, nat_eq, nat_lt, List, [], ◌∷◌, ◌++◌, length, slice_get, slice_range, Option, Some, None, if◌then◌else◌}
use Rattle.std.specs.Int.{w64, from_be_bytes}
use Rattle.std.specs.Ordering.{nat_cmp}
use Rattle.std.specs.BTreeMap.{is_at, insert_entry}
use Rattle.std.specs.Map.{lookup, set_value}
use Rattle.std.specs.Cmp.Lexicographic.{pointwise}
use Rattle.world_history.specs.declared.messages.Sent.{Sent}
use Rattle.world_history.specs.Reading.{is_drive}
use Rattle.world_watch.specs.declared.sightings.TheConstants.{NONCE, NONCE_END}

-- numbers of messages, by the nonce of their bytes
abbrev pub Table : Type 0
Table = List (ℕ × List ℕ)

-- the number by which bytes are found: a command's nonce
abbrev pub nonce_in : (bytes : List ℕ) → ℕ
nonce_in bytes =
    if nat_lt (length bytes) NONCE_END then 0 else from_be_bytes w64 (slice_range bytes NONCE NONCE_END)

-- a message to that drive with these bytes
abbrev pub is_same : (drive : ℕ) → (bytes : List ℕ) → Sent → Bool
is_same d bytes s = is_drive d s.to && pointwise nat_eq s.bytes bytes

abbrev pub is_same_at : (drive : ℕ) → (bytes : List ℕ) → Option Sent → Bool
is_same_at d bytes None = false
is_same_at d bytes (Some s) = is_same d bytes s

-- the first of some messages that is one
unfoldable pub first_same : List Sent → (drive : ℕ) → (bytes : List ℕ) → List ℕ → Option ℕ
first_same ms d bytes [] = None
first_same ms d bytes (n ∷ ns) = if is_same_at d bytes (slice_get ms n) then Some n else first_same ms d bytes ns

abbrev pub first_in : List Sent → (drive : ℕ) → (bytes : List ℕ) → Option (List ℕ) → Option ℕ
first_in ms d bytes None = None
first_in ms d bytes (Some ns) = first_same ms d bytes ns

-- those of a nonce
abbrev pub of_nonce : Table → (nonce : ℕ) → Option (List ℕ)
of_nonce t nonce = lookup (is_at (nat_cmp nonce)) t

-- the first message to that drive with these bytes
abbrev pub sighted : Table → List Sent → (drive : ℕ) → (bytes : List ℕ) → Option ℕ
sighted t ms d bytes = first_in ms d bytes (of_nonce t (nonce_in bytes))

-- a message more
abbrev pub with_number : Table → (number nonce : ℕ) → Option (List ℕ) → Table
with_number t number nonce None = insert_entry nat_cmp t nonce (number ∷ [])
with_number t number nonce (Some ns) = set_value (is_at (nat_cmp nonce)) t (ns ++ number ∷ [])

-- unless one stands for it
abbrev pub with_sighting : Table → (number nonce : ℕ) → Option ℕ → Table
with_sighting t number nonce None = with_number t number nonce (of_nonce t nonce)
with_sighting t number nonce (Some same) = t

abbrev pub sees_message : Table → List Sent → (number drive : ℕ) → (bytes : List ℕ) → Table
sees_message t ms number d bytes = with_sighting t number (nonce_in bytes) (sighted t ms d bytes)
