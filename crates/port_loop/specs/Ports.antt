-- What happens on connections that stand side by side.
use Rattle.std.specs.Prelude.{◌≡◌, ◌⊎◌, ℕ, ◌+◌, ◌<◌, ◌≤◌, Bool, true, false, nat_eq, nat_lt, if◌then◌else◌, List, [], ◌∷◌, ◌++◌, length, take, Option, None, option_map, Result, Ok, Err}
use Rattle.osd_bytes.specs.declared.source.Fault.{Fault}
use Rattle.osd_lists.specs.declared.node.Node.{Node}
use Rattle.port_loop.specs.declared.ports.Arrival.{Arrival}
use Rattle.port_loop.specs.declared.ports.Happening.{Happening}
use Rattle.port_loop.specs.declared.ports.Happening.TheVariants.{Began, Opened, Refused, Came, Went, Failed, Drained, Ended, Closed, Passed}
use Rattle.port_loop.specs.declared.ports.Arrival.TheVariants.{Opens as Begins, Brings, Drains, Closes, Quiet}

-- one thing more happened
abbrev pub after : Happening → Option (List Happening) → Option (List Happening)
after h told = option_map (λ l. h ∷ l) told

-- the same, unless it isn't told any more what happened
abbrev pub Adds : Happening → (before now : Option (List Happening)) → Type 0
Adds h before now = (now ≡ None) ⊎ (now ≡ after h before)

abbrev pub Arrives : (opened now_opened : ℕ) → (before now : Option (List Happening)) → Result Arrival Fault → List ℕ → Type 0
Arrives opened now_opened before now (Ok (Begins p)) buf =
    (p ≡ opened) × (now_opened ≡ opened + 1) × Adds (Began p) before now
Arrives opened now_opened before now (Ok (Brings p n)) buf =
    (p < opened) × (0 < n) × (n ≤ length buf) × (now_opened ≡ opened) × Adds (Came p (take n buf)) before now
Arrives opened now_opened before now (Ok (Drains p)) buf = (now_opened ≡ opened) × Adds (Drained p) before now
Arrives opened now_opened before now (Ok (Closes p)) buf = (now_opened ≡ opened) × Adds (Ended p) before now
Arrives opened now_opened before now (Ok Quiet) buf = (now_opened ≡ opened) × Adds Passed before now
Arrives opened now_opened before now (Err e) buf = (now_opened ≡ opened) × (now ≡ before)

abbrev pub Opens : Node → (opened now_opened : ℕ) → (before now : Option (List Happening)) → Result ℕ Fault → Type 0
Opens to opened now_opened before now (Ok p) = (p ≡ opened) × (now_opened ≡ opened + 1) × Adds (Opened p to) before now
Opens to opened now_opened before now (Err e) = (now_opened ≡ opened) × Adds (Refused to) before now

-- a connection that doesn't take all bytes is full
abbrev pub PutsOn : ℕ → (before now : Option (List Happening)) → Result ℕ Fault → List ℕ → Type 0
PutsOn p before now (Ok n) bytes =
    (n ≤ length bytes) × Adds (Went p (take n bytes) (nat_lt n (length bytes))) before now
PutsOn p before now (Err e) bytes = Adds (Failed p) before now

-- how often what happens next was waited for
abbrev pub waits_of : Happening → ℕ
waits_of (Began p) = 1
waits_of (Opened p to) = 0
waits_of (Refused to) = 0
waits_of (Came p bytes) = 1
waits_of (Went p bytes full) = 0
waits_of (Failed p) = 0
waits_of (Drained p) = 1
waits_of (Ended p) = 1
waits_of (Closed p) = 0
waits_of Passed = 1

-- ---- one connection, in what happened, the newest first

-- it began, or was opened from here
abbrev pub is_known : ℕ → List Happening → Bool
is_known p [] = false
is_known p (Began q ∷ older) = if nat_eq q p then true else is_known p older
is_known p (Opened q to ∷ older) = if nat_eq q p then true else is_known p older
is_known p (h ∷ older) = is_known p older

-- it began or was opened, and neither ended nor was closed
abbrev pub is_open : ℕ → List Happening → Bool
is_open p [] = false
is_open p (Began q ∷ older) = if nat_eq q p then true else is_open p older
is_open p (Opened q to ∷ older) = if nat_eq q p then true else is_open p older
is_open p (Ended q ∷ older) = if nat_eq q p then false else is_open p older
is_open p (Closed q ∷ older) = if nat_eq q p then false else is_open p older
is_open p (h ∷ older) = is_open p older

-- others began it, and it neither ended nor was closed
abbrev pub is_guest : ℕ → List Happening → Bool
is_guest p [] = false
is_guest p (Began q ∷ older) = if nat_eq q p then true else is_guest p older
is_guest p (Ended q ∷ older) = if nat_eq q p then false else is_guest p older
is_guest p (Closed q ∷ older) = if nat_eq q p then false else is_guest p older
is_guest p (h ∷ older) = is_guest p older

-- how many connections that others began are over
abbrev pub over_in : List Happening → ℕ
over_in [] = 0
over_in (Ended p ∷ older) = if is_guest p older then over_in older + 1 else over_in older
over_in (Closed p ∷ older) = if is_guest p older then over_in older + 1 else over_in older
over_in (h ∷ older) = over_in older

-- the last put on it didn't take all, and there was no room since
abbrev pub is_full : ℕ → List Happening → Bool
is_full p [] = false
is_full p (Went q bytes full ∷ older) = if nat_eq q p then full else is_full p older
is_full p (Drained q ∷ older) = if nat_eq q p then false else is_full p older
is_full p (h ∷ older) = is_full p older

-- a put on it failed
abbrev pub has_failed : ℕ → List Happening → Bool
has_failed p [] = false
has_failed p (Failed q ∷ older) = if nat_eq q p then true else has_failed p older
has_failed p (h ∷ older) = has_failed p older

-- the bytes that came on it while it was open, in order
abbrev pub came_on : ℕ → List Happening → List ℕ
came_on p [] = []
came_on p (Came q bytes ∷ older) =
    if nat_eq q p then (if is_open p older then came_on p older ++ bytes else came_on p older) else came_on p older
came_on p (h ∷ older) = came_on p older

-- the bytes that were put on it, in order
abbrev pub went_on : ℕ → List Happening → List ℕ
went_on p [] = []
went_on p (Went q bytes full ∷ older) = if nat_eq q p then went_on p older ++ bytes else went_on p older
went_on p (h ∷ older) = went_on p older

-- ---- notes beside the connections

-- so many more lines were told
abbrev pub after_notes : List (List ℕ) → Option (List (List ℕ)) → Option (List (List ℕ))
after_notes lines noted = option_map (λ l. l ++ lines) noted
