-- The steps of a party among nodes over many connections, and when they are lawful.
use Rattle.std.specs.Prelude.{filter, ◌≡◌, ◌⊎◌, ⊤, ℕ, ◌+◌, ◌<◌, ◌≤◌, Bool, true, false, not, nat_eq, if◌then◌else◌, List, [], ◌∷◌, ◌++◌, length, Option, None, Some}
use Rattle.osd_bytes.specs.Records.{Begun, framed, fresh, split}
use Rattle.osd_bytes.specs.declared.records.TheConstants.{MAX_RECORD}
use Rattle.osd_lists.specs.declared.node.Node.{Node}
use Rattle.node_loop.specs.Nodes.{is_drive, is_node}
use Rattle.node_loop.specs.Rules.{Rules}
use Rattle.node_loop.specs.declared.party.Message.{Message}
use Rattle.port_loop.specs.Ports.{came_on, has_failed, is_full, is_known, is_open, waits_of, went_on}
use Rattle.port_loop.specs.Steps.{Taken, taken_in}
use Rattle.port_loop.specs.declared.ports.Happening.{Happening}
use Rattle.port_loop.specs.declared.ports.Happening.TheVariants.{Began, Opened, Refused, Came, Went, Failed, Drained, Ended, Closed, Passed}
use Rattle.port_loop.specs.declared.serving.TheConstants.{MOST_UNSENT}

-- a record that was heard: on which connection, from which node, when, and what was chosen then
pub record Heard (C : Type 0) : Type 0 where
  pub port : ℕ
  pub from : Node
  pub time : ℕ
  pub chosen : C
  pub message : List ℕ

pub data Step (C : Type 0) : Type 0 where
  -- something happened on a connection
  Happens : Happening → Step C
  -- a record was heard; what the party gives to send then waits
  Hears : Heard C → Step C
  -- what the party awaits answers to waits once more
  Resends : Step C
  -- the first message that waits went to a connection, to be put on it
  Posts : ℕ → Message → Step C
  -- or was lost
  Loses : Message → Step C

-- ---- of steps of which the newest is the first

-- what happened, also the newest first
abbrev pub happened : {C : Type 0} → List (Step C) → List Happening
happened [] = []
happened (Happens x ∷ older) = x ∷ happened older
happened (s ∷ older) = happened older

-- how often what happens next was waited for
abbrev pub waits_in : {C : Type 0} → List (Step C) → ℕ
waits_in [] = 0
waits_in (Happens x ∷ older) = waits_in older + waits_of x
waits_in (s ∷ older) = waits_in older

abbrev pub taken_as : {C : Type 0} → Heard C → Taken
taken_as h = record { port = h.port; message = h.message }

-- the records that were heard, the oldest first
abbrev pub heard_in : {C : Type 0} → List (Step C) → List Taken
heard_in [] = []
heard_in (Hears h ∷ older) = heard_in older ++ taken_as h ∷ []
heard_in (s ∷ older) = heard_in older

-- the party
abbrev pub state_in : {S C : Type 0} (r : Rules S C) → (first : S) → List (Step C) → S
state_in r first [] = first
state_in r first (Hears h ∷ older) = r.after (state_in r first older) h.chosen h.time h.from h.message
state_in r first (s ∷ older) = state_in r first older

-- ---- the connections of nodes

-- the newest connection that was opened towards a node, or on which a record of it was heard
abbrev pub way_to : {C : Type 0} → Node → List (Step C) → Option ℕ
way_to n [] = None
way_to n (Happens (Opened p to) ∷ older) = if is_node to n then Some p else way_to n older
way_to n (Hears h ∷ older) = if is_node h.from n then Some h.port else way_to n older
way_to n (s ∷ older) = way_to n older

-- it, if it is open
abbrev pub open_of : Option ℕ → List Happening → Option ℕ
open_of None log = None
open_of (Some p) log = if is_open p log then Some p else None

abbrev pub reached : {C : Type 0} → Node → List (Step C) → Option ℕ
reached n steps = open_of (way_to n steps) (happened steps)

-- towards which node a connection was opened
abbrev pub asked_on : ℕ → List Happening → Option Node
asked_on p [] = None
asked_on p (Opened q to ∷ older) = if nat_eq q p then Some to else asked_on p older
asked_on p (h ∷ older) = asked_on p older

-- a message was posted on it, and no byte came since
abbrev pub is_awaited : {C : Type 0} → ℕ → List (Step C) → Bool
is_awaited p [] = false
is_awaited p (Posts q m ∷ older) = if nat_eq q p then true else is_awaited p older
is_awaited p (Happens (Came q bytes) ∷ older) = if nat_eq q p then false else is_awaited p older
is_awaited p (s ∷ older) = is_awaited p older

-- the frames of the messages that were posted on it, in order
abbrev pub posted_on : {C : Type 0} → ℕ → List (Step C) → List ℕ
posted_on p [] = []
posted_on p (Posts q m ∷ older) = if nat_eq q p then posted_on p older ++ framed m.bytes else posted_on p older
posted_on p (s ∷ older) = posted_on p older

-- ---- messages that wait

-- an answer of its node is under way
abbrev pub is_under_way : {C : Type 0} → Option ℕ → List (Step C) → Bool
is_under_way None steps = false
is_under_way (Some p) steps = is_awaited p steps

abbrev pub is_resent : {C : Type 0} → List (Step C) → Message → Bool
is_resent steps m = not (is_under_way (reached m.to steps) steps)

abbrev pub all_but_first : List Message → List Message
all_but_first [] = []
all_but_first (m ∷ ms) = ms

-- what a record gives to send waits in order; what the party awaits is sent once more but to nodes whose answer is under way;
-- the first message is lost if no connection can be opened towards its node
abbrev pub waiting_in : {S C : Type 0} (r : Rules S C) → (first : S) → List (Step C) → List Message
waiting_in r first [] = []
waiting_in r first (Happens (Refused to) ∷ older) = all_but_first (waiting_in r first older)
waiting_in r first (Happens x ∷ older) = waiting_in r first older
waiting_in r first (Hears h ∷ older) =
    waiting_in r first older ++ r.given (state_in r first older) h.chosen h.time h.from h.message
waiting_in r first (Resends ∷ older) =
    waiting_in r first older ++ filter (is_resent older) (r.awaited (state_in r first older))
waiting_in r first (Posts p m ∷ older) = all_but_first (waiting_in r first older)
waiting_in r first (Loses m ∷ older) = all_but_first (waiting_in r first older)

-- a connection began or nothing happened for a while, and what is awaited wasn't resent since
abbrev pub is_due : {C : Type 0} → List (Step C) → Bool
is_due [] = false
is_due (Happens (Began p) ∷ older) = true
is_due (Happens Passed ∷ older) = true
is_due (Resends ∷ older) = false
is_due (s ∷ older) = is_due older

-- ---- when a loop may wait for what happens next

-- what of the messages that were posted on a connection wasn't put
abbrev pub Unsent : {C : Type 0} → ℕ → List (Step C) → List ℕ → Type 0
Unsent p steps unsent = posted_on p steps ≡ went_on p (happened steps) ++ unsent

-- what was put on each connection is a front of the frames of what was posted on it, in order
abbrev pub IsFrontOnEach : {C : Type 0} → List (Step C) → Type 0
IsFrontOnEach steps = (p : ℕ) → (unsent : List ℕ) × Unsent p steps unsent

-- an open connection is served as far as it goes: its bytes can be read on, no more than a bound of bytes wait, and none
-- unless it is full
pub record IsServed {C : Type 0} (p : ℕ) (steps : List (Step C)) : Type 0 where
  pub begun : Begun
  pub reads : (split fresh (came_on p (happened steps))).begun ≡ Some begun
  pub unsent : List ℕ
  pub waits : Unsent p steps unsent
  pub bound : length unsent ≤ MOST_UNSENT
  pub all : is_full p (happened steps) ≡ false → unsent ≡ []

-- each record that came whole was heard, what that gave was posted or lost, and each open connection is served
pub record Settled {S C : Type 0} (r : Rules S C) (first : S) (steps : List (Step C)) : Type 0 where
  pub heard : heard_in steps ≡ taken_in (happened steps)
  pub posted : waiting_in r first steps ≡ []
  pub resent : is_due steps ≡ false
  pub served : (p : ℕ) → is_open p (happened steps) ≡ true → IsServed p steps

-- ---- lawful steps

-- who sent a record: the node towards which its connection was opened, or whom the record names
abbrev pub sender_or : Option Node → Node → Node
sender_or None named = named
sender_or (Some n) named = n

-- it is the next record of all that were taken, and nothing else is to be done
pub record IsNext {S C : Type 0} (r : Rules S C) (first : S) (h : Heard C) (older : List (Step C)) : Type 0 where
  pub later : List Taken
  pub next : taken_in (happened older) ≡ heard_in older ++ taken_as h ∷ later
  pub posted : waiting_in r first older ≡ []
  pub resent : is_due older ≡ false
  pub from : h.from ≡ sender_or (asked_on h.port (happened older)) (r.names h.message)

-- a message waits first that is short enough for a record, and its node has an open connection or none
pub record Sends {S C : Type 0} (r : Rules S C) (first : S) (m : Message) (way : Option ℕ) (older : List (Step C))
    : Type 0 where
  pub later : List Message
  pub waits : waiting_in r first older ≡ m ∷ later
  pub short : length m.bytes ≤ MAX_RECORD
  pub reaches : reached m.to older ≡ way

-- a message to a drive to which no connection is open
abbrev pub Wants : {S C : Type 0} (r : Rules S C) → (first : S) → Node → List (Step C) → Type 0
Wants r first to older = (m : Message) × (m.to ≡ to) × (is_drive to ≡ true) × Sends r first m None older

-- a message is lost because it is too long, or its node has no open connection and is no drive
abbrev pub HasNoWay : {S C : Type 0} (r : Rules S C) → (first : S) → Message → List (Step C) → Type 0
HasNoWay r first m older =
    ((later : List Message) × (waiting_in r first older ≡ m ∷ later) × (MAX_RECORD < length m.bytes))
    ⊎ (Sends r first m None older × (is_drive m.to ≡ false))

-- an open connection is closed because a record on it is too long, a put on it failed, or too many bytes wait
abbrev pub HasEnd : {C : Type 0} → ℕ → List (Step C) → Type 0
HasEnd p older =
    ((split fresh (came_on p (happened older))).begun ≡ None) ⊎ (has_failed p (happened older) ≡ true)
    ⊎ ((unsent : List ℕ) × Unsent p older unsent × (MOST_UNSENT < length unsent))

-- a step after the older ones. What comes from outside is waited for if all before it is settled, and a number is given
-- once. What is put on an open connection comes next in the frames of the messages that were posted on it.
abbrev pub Follows : {S C : Type 0} (r : Rules S C) → (first : S) → Step C → List (Step C) → Type 0
Follows r first (Happens (Began p)) older = Settled r first older × (is_known p (happened older) ≡ false)
Follows r first (Happens (Opened p to)) older = Wants r first to older × (is_known p (happened older) ≡ false)
Follows r first (Happens (Refused to)) older = Wants r first to older
Follows r first (Happens (Came p bytes)) older = Settled r first older
Follows r first (Happens (Drained p)) older = Settled r first older
Follows r first (Happens (Ended p)) older = Settled r first older
Follows r first (Happens Passed) older = Settled r first older
Follows r first (Happens (Went p bytes full)) older =
    (is_open p (happened older) ≡ true) × (more : List ℕ) × Unsent p older (bytes ++ more)
Follows r first (Happens (Failed p)) older = is_open p (happened older) ≡ true
Follows r first (Happens (Closed p)) older = (is_open p (happened older) ≡ true) × HasEnd p older
Follows r first (Hears h) older = IsNext r first h older
Follows r first Resends older = (is_due older ≡ true) × (waiting_in r first older ≡ [])
Follows r first (Posts p m) older = Sends r first m (Some p) older
Follows r first (Loses m) older = HasNoWay r first m older

abbrev pub Lawful : {S C : Type 0} (r : Rules S C) → (first : S) → List (Step C) → Type 0
Lawful r first [] = ⊤
Lawful r first (s ∷ older) = Follows r first s older × Lawful r first older
