-- Each client has one slot: a request is new, the last again, or misordered.
use Rattle.std.specs.Prelude.{ℕ, List, [], ◌∷◌, Option, Some, None, ◌+◌, ◌==◌, ◌&&◌, nat_lt, min, if◌then◌else◌, find}
use Rattle.server_rules.specs.declared.limits.TheConstants.{GREATEST_SEQUENCE}
use Rattle.server_rules.specs.State.{Slot, Answer}

-- what a request is to its client's slot
pub data Admit : Type 0 where
  New : Admit
  Again : (kept : Answer) → Admit
  Misordered : (expected : ℕ) → Admit

-- the client's slot, if it made a request
abbrev pub slot_of : List Slot → (client : ℕ) → Option Slot
slot_of ss client = find (λ s. s.client == client) ss

-- a number that isn't the last one; before the first request that is 0
unfoldable pub admit_after : (last sequence : ℕ) → Admit
admit_after last sequence =
    if (sequence == last + 1) && nat_lt last GREATEST_SEQUENCE then New
    else Misordered (min (last + 1) GREATEST_SEQUENCE)

-- a request by its number: the next, the last again, or another
unfoldable pub admit : Option Slot → (sequence : ℕ) → Admit
admit None sequence = admit_after 0 sequence
admit (Some s) sequence = if sequence == s.last then Again s.kept else admit_after s.last sequence

-- the client's slot, or a further one at the end
unfoldable pub keep : List Slot → Slot → List Slot
keep [] s = s ∷ []
keep (t ∷ ts) s = if t.client == s.client then s ∷ ts else t ∷ keep ts s
