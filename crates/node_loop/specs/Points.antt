-- Where a loop is between two of its steps.
use Rattle.std.specs.Prelude.{filter, ◌≡◌, ⊤, ℕ, ◌+◌, ◌-◌, ◌^◌, ◌≤◌, Bool, true, false, min, nat_eq, not, if◌then◌else◌, List, [], ◌++◌, length, map, Option, None, Some, Result, Ok, Err}
use Rattle.std.specs.BTreeMap.{get}
use Rattle.std.specs.Ordering.{nat_cmp}
use Rattle.osd_bytes.specs.Records.{Begun, fresh, split}
use Rattle.osd_lists.specs.declared.node.Node.{Node}
use Rattle.node_loop.specs.Nodes.{Held, Sets, way_in}
use Rattle.node_loop.specs.Serving.{HasHeard, Ran}
use Rattle.node_loop.specs.declared.board.Board.{Board}
use Rattle.node_loop.specs.Rules.{rules_of}
use Rattle.node_loop.specs.Steps.{Lawful, Step, asked_on, happened, heard_in, is_awaited, is_due, posted_on, waiting_in, waits_in, way_to}
use Rattle.node_loop.specs.declared.party.Message.{Message}
use Rattle.node_loop.specs.declared.party.Party.{Ghosts}
use Rattle.port_loop.specs.Ports.{came_on, is_full, is_guest, is_known, is_open, over_in, went_on}
use Rattle.port_loop.specs.Serving.{AddsAll, Desk}
use Rattle.port_loop.specs.Sessions.{read_on}
use Rattle.port_loop.specs.Steps.{Taken, taken_in, taken_on}
use Rattle.port_loop.specs.declared.ports.Happening.{Happening}
use Rattle.port_loop.specs.declared.serving.TheConstants.{MOST_UNSENT}
use Rattle.port_loop.specs.declared.serving.LoopErr.{LoopErr}
use Rattle.port_loop.specs.declared.serving.LoopErr.TheVariants.{PortFault, HandlerFault, Memory}

-- how many connections were opened, what was told, the party with its clock, how many connections of others are over, what is
-- kept of the open ones, and which of them lead to which nodes
pub record Here (H : Type 0) : Type 0 where
  pub opened : ℕ
  pub told : Option (List Happening)
  pub desk : Desk H
  pub over : ℕ
  pub at : ℕ → Option Held
  pub ways : Node → Option ℕ

abbrev pub here : {H : Type 0} → ℕ → Option (List Happening) → Desk H → ℕ → (ℕ → Option Held) → (Node → Option ℕ) → Here H
here opened told desk over at ways =
    record { opened = opened; told = told; desk = desk; over = over; at = at; ways = ways }

abbrev pub seen : {H : Type 0} → ℕ → Option (List Happening) → Desk H → Board → Here H
seen opened told desk board = here opened told desk board.over (get nat_cmp board.table) (way_in board.ways)

-- a connection of which a piece was read, and towards which node it was opened
pub record Reading : Type 0 where
  pub port : ℕ
  pub to : Option Node

-- what is in hand: the connection of which a piece was read, the one on which is put, the records that were taken and aren't
-- heard, the messages that wait, and whether what is awaited is to be resent
pub record Work : Type 0 where
  pub reading : Option Reading
  pub writing : Option ℕ
  pub pending : List Taken
  pub waiting : List Message
  pub due : Bool

abbrev pub calm : Work
calm = record { reading = None; writing = None; pending = []; waiting = []; due = false }

-- a piece was read that made these records whole
abbrev pub reading : ℕ → Option Node → List (List ℕ) → Work
reading p to records = record {
  reading = Some (record { port = p; to = to });
  writing = None;
  pending = map (taken_on p) records;
  waiting = [];
  due = false;
}

-- what is awaited is to be resent
abbrev pub resending : Work
resending = record { reading = None; writing = None; pending = []; waiting = []; due = true }

-- in the midst of work messages wait, or bytes are put
abbrev pub posting : Work → List Message → Work
posting w messages = record w { writing = None; waiting = messages; due = false }

abbrev pub putting : Work → ℕ → Work
putting w p = record w { writing = Some p }

-- what is kept of the connections, of which one is in hand
abbrev pub holding : ℕ → Held → (ℕ → Option Held) → ℕ → Option Held
holding p s at q = if nat_eq p q then Some s else at q

abbrev pub holding_on : {H : Type 0} → ℕ → Held → Here H → Here H
holding_on p s a = record a { at = holding p s a.at }

-- what is kept of the open connection on which a node is reached
abbrev pub open_at : Option ℕ → (ℕ → Option Held) → Option Held
open_at None at = None
open_at (Some p) at = at p

-- it is lifted, if there is one
abbrev pub Reaches : (way : Option ℕ) → (at now : ℕ → Option Held) → Option (ℕ × Held) → Type 0
Reaches way at now None = (open_at way at ≡ None) × ((q : ℕ) → now q ≡ at q)
Reaches way at now (Some r) = (way ≡ Some r.0) × (at r.0 ≡ Some r.1) × Sets r.0 None at now

-- an answer of its node is under way
abbrev pub is_waited_for : Option Held → Bool
is_waited_for None = false
is_waited_for (Some s) = s.is_awaited

-- the messages to nodes whose answers aren't
abbrev pub due_of : (ℕ → Option Held) → (Node → Option ℕ) → List Message → List Message
due_of at ways messages = filter (λ (m : Message). not (is_waited_for (open_at (ways m.to) at))) messages

-- how many connections of others are over, after one more
abbrev pub over_after : Option Node → ℕ → ℕ
over_after None n = min (n + 1) (2 ^ 64 - 1)
over_after (Some to) n = n

abbrev pub over_with : Option Held → ℕ → ℕ
over_with None n = n
over_with (Some s) n = over_after s.to n

-- a piece more was read
abbrev pub Reads : (piece : List ℕ) → (records : List (List ℕ)) → (old new : Held) → Type 0
Reads piece records old new =
    (read_on old.begun piece ≡ record { records = records; begun = new.begun })
    × (new ≡ record old { begun = new.begun; is_awaited = false })

-- ---- one connection, after some steps

pub record Look : Type 0 where
  pub known : Bool
  pub stands : Bool
  pub guest : Bool
  pub asked : Option Node
  pub came : List ℕ
  pub posted : List ℕ
  pub went : List ℕ
  pub full : Bool
  pub awaited : Bool

abbrev pub look : {C : Type 0} → ℕ → List (Step C) → Look
look p steps = record {
  known = is_known p (happened steps);
  stands = is_open p (happened steps);
  guest = is_guest p (happened steps);
  asked = asked_on p (happened steps);
  came = came_on p (happened steps);
  posted = posted_on p steps;
  went = went_on p (happened steps);
  full = is_full p (happened steps);
  awaited = is_awaited p steps;
}

-- of a number that wasn't given
abbrev pub blank : Look
blank = record {
  known = false;
  stands = false;
  guest = false;
  asked = None;
  came = [];
  posted = [];
  went = [];
  full = false;
  awaited = false;
}

abbrev pub is_of_others : Option Node → Bool
is_of_others None = true
is_of_others (Some n) = false

-- what is kept of a connection is as it is
pub record IsKept (l : Look) (s : Held) : Type 0 where
  pub known : l.known ≡ true
  pub stands : l.stands ≡ true
  pub guest : l.guest ≡ is_of_others s.to
  pub asked : l.asked ≡ s.to
  pub begun : (split fresh l.came).begun ≡ s.begun
  pub unsent : l.posted ≡ l.went ++ s.unsent
  pub full : l.full ≡ s.is_full
  pub awaited : l.awaited ≡ s.is_awaited

abbrev pub IsAs : Look → Option Held → Type 0
IsAs l None = (l.stands ≡ false) × (l.guest ≡ false)
IsAs l (Some s) = IsKept l s

-- its bytes can be read on
abbrev pub CanRead : Option Held → Type 0
CanRead None = ⊤
CanRead (Some s) = (b : Begun) × (s.begun ≡ Some b)

-- nothing is to be put on it until something happens
pub record RestsWith (s : Held) : Type 0 where
  pub bound : length s.unsent ≤ MOST_UNSENT
  pub all : s.is_full ≡ false → s.unsent ≡ []

abbrev pub Rests : Option Held → Type 0
Rests None = ⊤
Rests (Some s) = RestsWith s

abbrev pub is_at : Option ℕ → ℕ → Bool
is_at None q = false
is_at (Some p) q = nat_eq p q

abbrev pub is_read : Option Reading → ℕ → Bool
is_read None q = false
is_read (Some r) q = nat_eq r.port q

-- the connection of which a piece was read was opened towards that node
abbrev pub IsReading : {C : Type 0} → List (Step C) → Option Reading → Type 0
IsReading steps None = ⊤
IsReading steps (Some r) = ((look r.port steps).known ≡ true) × ((look r.port steps).asked ≡ r.to)

-- ---- all connections

-- after these steps since a first state the loop is here
pub record Goes {H : Type 0} (v : Ghosts H) (first : v.State) (since : Desk H) (a : Here H) (w : Work)
    (steps : List (Step v.Choice)) : Type 0 where
  pub lawful : Lawful (rules_of v) first steps
  pub heard : HasHeard v first since a.desk steps
  pub taken : taken_in (happened steps) ≡ heard_in steps ++ w.pending
  pub waiting : waiting_in (rules_of v) first steps ≡ w.waiting
  pub due : is_due steps ≡ w.due
  pub over : a.over ≡ min (over_in (happened steps)) (2 ^ 64 - 1)
  pub ways : (n : Node) → way_to n steps ≡ a.ways n
  pub each : (p : ℕ) → IsAs (look p steps) (a.at p)
  pub read : IsReading steps w.reading
  pub reads : (p : ℕ) → is_read w.reading p ≡ false → CanRead (a.at p)
  pub rests : (p : ℕ) → is_at w.writing p ≡ false → Rests (a.at p)
  pub unused : (p : ℕ) → a.opened ≤ p → look p steps ≡ blank

-- from one point to a later one, for which the loop waited so often
abbrev pub Moves : {H : Type 0} → ℕ → (v : Ghosts H) → (before : Here H) → Work → (now : Here H) → Work → Type 0
Moves {H} n v before w now x =
    (first : v.State) (since : Desk H) (steps : List (Step v.Choice)) → Goes v first since before w steps →
    (more : List (Step v.Choice)) × AddsAll (happened more) before.told now.told
    × Goes v first since now x (more ++ steps) × (waits_in more ≡ n)

-- from one point to an end, in the middle of work
abbrev pub Stops : {H : Type 0} → (v : Ghosts H) → (before : Here H) → Work → (now : Here H) → Type 0
Stops {H} v before w now =
    (first : v.State) (since : Desk H) (steps : List (Step v.Choice)) → Goes v first since before w steps →
    (more : List (Step v.Choice)) × AddsAll (happened more) before.told now.told × Ran v first since now.desk (more ++ steps)

-- what a part of a turn leaves: a later point, or an end
abbrev pub Leaves : {H T E : Type 0} → ℕ → (v : Ghosts H) → (before : Here H) → Work → (now : Here H) → Work → Result T E
    → Type 0
Leaves n v before w now x (Ok t) = Moves n v before w now x
Leaves n v before w now x (Err e) = Stops v before w now

-- what a turn leaves, in which the loop waits once; a fault of the ports leaves all as it was
abbrev pub Turns : {H : Type 0} → (v : Ghosts H) → (before now : Here H) → Result ⊤ LoopErr → Type 0
Turns v before now (Ok done) = Moves 1 v before calm now calm
Turns v before now (Err PortFault) = Moves 0 v before calm now calm
Turns v before now (Err HandlerFault) = Stops v before calm now
Turns v before now (Err Memory) = Stops v before calm now
