-- Lists of events line by line, and the entries of which they are: words for the tables of events.
use Rattle.std.specs.Prelude.{ℕ, zero, suc, ◌==◌, ◌&&◌, Bool, true, false, List, [], ◌∷◌, Option, Some, None, if◌then◌else◌}
use Rattle.fence_law.specs.State as machine
use Rattle.fence_law.specs.State.Call.{Idle, Broken, Writes as AtWrite, Reads as AtRead}
use Rattle.fence_law.specs.Machine.{after_all}

-- the events of each line of a move
abbrev pub Lines : Type 0
Lines = List (List machine.Event)

-- the events of a line, and then those of the lines behind it, by the machine as it is then
abbrev pub and_behind : machine.State → List machine.Event → (machine.State → Lines) → Lines
and_behind s events later = events ∷ later (after_all s events)

-- these events, if a test holds
abbrev pub where_so : Bool → List machine.Event → List machine.Event
where_so true events = events
where_so false events = []

-- the events that a grant gives, if there is one
abbrev pub of_grant : Option machine.Grant → (machine.Grant → List machine.Event) → List machine.Event
of_grant None does = []
of_grant (Some g) does = does g

-- the entry that a call is at
abbrev pub entry_in : machine.Call → ℕ
entry_in (AtWrite j) = j
entry_in (AtRead j) = j
entry_in Idle = 0
entry_in Broken = 0

-- the entry that client c is at
abbrev pub entry_of : machine.State → (c : ℕ) → ℕ
entry_of s c = entry_in (s.call c)

-- the last write of client c among the first n entries
unfoldable pub last_write : (ℕ → machine.Start) → (c n : ℕ) → ℕ
last_write start c zero = 0
last_write start c (suc n) = if (start n).is_write && ((start n).client == c) then n else last_write start c n

-- the last write of client c
abbrev pub write_of : machine.State → (c : ℕ) → ℕ
write_of s c = last_write s.start c s.count

-- a call is at no entry
abbrev pub is_idle : machine.Call → Bool
is_idle Idle = true
is_idle call = false

-- a call writes
abbrev pub is_writing : machine.Call → Bool
is_writing (AtWrite j) = true
is_writing call = false
