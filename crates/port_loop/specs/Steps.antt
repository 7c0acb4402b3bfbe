-- The steps of a loop over many connections, and when they are lawful.
use Rattle.std.specs.Prelude.{◌≡◌, ◌⊎◌, ⊤, ℕ, ◌+◌, ◌<◌, ◌≤◌, true, false, nat_eq, if◌then◌else◌, List, [], ◌∷◌, ◌++◌, length, map, None, Some}
use Rattle.osd_bytes.specs.Records.{Begun, framed, fresh, split}
use Rattle.port_loop.specs.declared.serving.TheConstants.{MOST_UNSENT}
use Rattle.port_loop.specs.Ports.{came_on, is_full, is_known, is_open, has_failed, waits_of, went_on}
use Rattle.port_loop.specs.declared.ports.Happening.{Happening}
use Rattle.port_loop.specs.declared.ports.Happening.TheVariants.{Began, Opened, Refused, Came, Went, Failed, Drained, Ended, Closed, Passed}
use Rattle.port_loop.specs.Sessions.{read_on}

-- a record that came whole, and on which connection
pub record Taken : Type 0 where
  pub port : ℕ
  pub message : List ℕ

-- the same, and when it was handled
pub record Handled : Type 0 where
  pub port : ℕ
  pub time : ℕ
  pub message : List ℕ

abbrev pub record_of : Handled → Taken
record_of h = record { port = h.port; message = h.message }

abbrev pub taken_on : ℕ → List ℕ → Taken
taken_on p message = record { port = p; message = message }

-- something happened on a connection, or a record was handled
pub data Step : Type 0 where
  Happens : Happening → Step
  Handles : Handled → Step

-- what happened, of steps of which the newest is the first; also the newest first
abbrev pub happened : List Step → List Happening
happened [] = []
happened (Happens x ∷ older) = x ∷ happened older
happened (Handles h ∷ older) = happened older

-- how often what happens next was waited for
abbrev pub waits_in : List Step → ℕ
waits_in [] = 0
waits_in (Happens x ∷ older) = waits_in older + waits_of x
waits_in (Handles h ∷ older) = waits_in older

-- the records that were handled, the oldest first
abbrev pub handled_in : List Step → List Handled
handled_in [] = []
handled_in (Happens x ∷ older) = handled_in older
handled_in (Handles h ∷ older) = handled_in older ++ h ∷ []

-- ---- the records that came whole, in the order in which they were taken

-- the records that a piece makes whole, after what came before on its connection
abbrev pub whole_in : (before bytes : List ℕ) → List (List ℕ)
whole_in before bytes = (read_on (split fresh before).begun bytes).records

abbrev pub taken_by : ℕ → List ℕ → List Happening → List Taken
taken_by p bytes older = if is_open p older then map (taken_on p) (whole_in (came_on p older) bytes) else []

abbrev pub taken_in : List Happening → List Taken
taken_in [] = []
taken_in (Came p bytes ∷ older) = taken_in older ++ taken_by p bytes older
taken_in (h ∷ older) = taken_in older

-- ---- the replies

-- what a handler answers to a record at a time, and what that leaves
abbrev pub Answer : Type 0 → Type 0
Answer S = S → ℕ → List ℕ → List ℕ

abbrev pub Change : Type 0 → Type 0
Change S = S → ℕ → List ℕ → S

abbrev pub after_all : {S : Type 0} → Change S → S → List Handled → S
after_all step d [] = d
after_all step d (h ∷ hs) = after_all step (step d h.time h.message) hs

-- the frame of the reply to a record, if it came on this connection
abbrev pub frame_on : {S : Type 0} → Answer S → ℕ → S → Handled → List ℕ
frame_on reply p d h = if nat_eq h.port p then framed (reply d h.time h.message) else []

-- the frames of the replies to the records of one connection, in order
abbrev pub frames_on : {S : Type 0} → Answer S → Change S → ℕ → S → List Handled → List ℕ
frames_on reply step p d [] = []
frames_on reply step p d (h ∷ hs) = frame_on reply p d h ++ frames_on reply step p (step d h.time h.message) hs

-- what of these frames wasn't put
abbrev pub Unsent : {S : Type 0} → Answer S → Change S → S → ℕ → List Step → List ℕ → Type 0
Unsent reply step first p steps unsent =
    frames_on reply step p first (handled_in steps) ≡ went_on p (happened steps) ++ unsent

-- what was put on each connection is a front of the frames of the replies to its own records, in order
abbrev pub IsFrontOnEach : {S : Type 0} → Answer S → Change S → S → List Step → Type 0
IsFrontOnEach reply step first steps = (p : ℕ) → (unsent : List ℕ) × Unsent reply step first p steps unsent

-- ---- when a loop may wait for what happens next

-- an open connection is served as far as it goes: its bytes can be read on, no more than a bound of bytes wait, and none
-- unless it is full
pub record IsServed {S : Type 0} (reply : Answer S) (step : Change S) (first : S) (p : ℕ) (steps : List Step) : Type 0 where
  pub begun : Begun
  pub reads : (split fresh (came_on p (happened steps))).begun ≡ Some begun
  pub unsent : List ℕ
  pub waits : Unsent reply step first p steps unsent
  pub bound : length unsent ≤ MOST_UNSENT
  pub all : is_full p (happened steps) ≡ false → unsent ≡ []

-- each record that came whole was handled, and each open connection is served
pub record Settled {S : Type 0} (reply : Answer S) (step : Change S) (first : S) (steps : List Step) : Type 0 where
  pub handled : map record_of (handled_in steps) ≡ taken_in (happened steps)
  pub served : (p : ℕ) → is_open p (happened steps) ≡ true → IsServed reply step first p steps

-- ---- lawful steps

-- a connection is closed because a record on it is too long, a put on it failed, or too many bytes wait
abbrev pub HasEnd : {S : Type 0} → Answer S → Change S → S → ℕ → List Step → Type 0
HasEnd reply step first p older =
    ((split fresh (came_on p (happened older))).begun ≡ None) ⊎ (has_failed p (happened older) ≡ true)
    ⊎ ((unsent : List ℕ) × Unsent reply step first p older unsent × (MOST_UNSENT < length unsent))

-- a step after the older ones. What comes from outside is waited for if all before it is settled, and a number is given
-- once; none is opened from here. What is put on an open connection comes next in the frames of the replies to the records
-- that were handled on it. The record that is handled is the next one of all that were taken.
abbrev pub Follows : {S : Type 0} → Answer S → Change S → S → Step → List Step → Type 0
Follows reply step first (Happens (Began p)) older =
    Settled reply step first older × (is_known p (happened older) ≡ false)
Follows reply step first (Happens (Opened p to)) older = ⊥
Follows reply step first (Happens (Refused to)) older = ⊥
Follows reply step first (Happens (Came p bytes)) older = Settled reply step first older
Follows reply step first (Happens (Drained p)) older = Settled reply step first older
Follows reply step first (Happens (Ended p)) older = Settled reply step first older
Follows reply step first (Happens Passed) older = Settled reply step first older
Follows reply step first (Happens (Went p bytes full)) older =
    (is_open p (happened older) ≡ true) × (more : List ℕ) × Unsent reply step first p older (bytes ++ more)
Follows reply step first (Happens (Failed p)) older = is_open p (happened older) ≡ true
Follows reply step first (Happens (Closed p)) older = HasEnd reply step first p older
Follows reply step first (Handles h) older =
    (later : List Taken) × (taken_in (happened older) ≡ map record_of (handled_in older) ++ record_of h ∷ later)

abbrev pub Lawful : {S : Type 0} → Answer S → Change S → S → List Step → Type 0
Lawful reply step first [] = ⊤
Lawful reply step first (s ∷ older) = Follows reply step first s older × Lawful reply step first older
