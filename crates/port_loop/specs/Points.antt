-- Where a loop is between two of its steps.
use Rattle.std.specs.Prelude.{◌≡◌, ⊤, ℕ, ◌+◌, ◌≤◌, Bool, true, false, nat_eq, if◌then◌else◌, List, [], ◌++◌, length, map, Option, None, Some, Result, Ok, Err}
use Rattle.osd_bytes.specs.Records.{Begun, fresh, split}
use Rattle.port_loop.specs.declared.serving.TheConstants.{MOST_UNSENT}
use Rattle.port_loop.specs.declared.serving.LoopErr.{LoopErr}
use Rattle.port_loop.specs.declared.serving.LoopErr.TheVariants.{PortFault, HandlerFault, Memory}
use Rattle.port_loop.specs.Ports.{came_on, is_full, is_known, is_open, over_in, went_on}
use Rattle.port_loop.specs.declared.handler.Handler.{Ghosts}
use Rattle.port_loop.specs.declared.ports.Happening.{Happening}
use Rattle.port_loop.specs.Serving.{AddsAll, Desk, HandlesAll, Ran}
use Rattle.port_loop.specs.Sessions.{Sess}
use Rattle.port_loop.specs.Steps.{Answer, Change, Lawful, Step, Taken, Unsent, after_all, frames_on, handled_in, happened, record_of, waits_in, taken_in, taken_on}

-- the connections that were opened, what was told, the handler with its clock, and how many connections are over
pub record Around (H : Type 0) : Type 0 where
  pub opened : ℕ
  pub told : Option (List Happening)
  pub desk : Desk H
  pub over : ℕ

abbrev pub around : {H : Type 0} → ℕ → Option (List Happening) → Desk H → ℕ → Around H
around opened told desk over = record { opened = opened; told = told; desk = desk; over = over }

-- what is in hand: the connection that is worked on, and its records that were taken and aren't handled
pub record Work : Type 0 where
  pub busy : Option ℕ
  pub pending : List Taken

abbrev pub calm : Work
calm = record { busy = None; pending = [] }

abbrev pub on : ℕ → List (List ℕ) → Work
on p records = record { busy = Some p; pending = map (taken_on p) records }

-- the sessions, of which one is in hand
abbrev pub holding : ℕ → Sess → (ℕ → Option Sess) → ℕ → Option Sess
holding p s at q = if nat_eq p q then Some s else at q

-- how many connections are over, after one whose session was there or not
abbrev pub with_over : Option Sess → ℕ → ℕ
with_over None n = n
with_over (Some s) n = n + 1

-- the same sessions but for one connection
pub record Sets (p : ℕ) (w : Option Sess) (at now : ℕ → Option Sess) : Type 0 where
  pub here : now p ≡ w
  pub there : (q : ℕ) → nat_eq p q ≡ false → now q ≡ at q

-- a session is as its connection
abbrev pub IsHeld : {S : Type 0} → Answer S → Change S → S → List Step → ℕ → Option Sess → Type 0
IsHeld reply step first steps p None = is_open p (happened steps) ≡ false
IsHeld reply step first steps p (Some s) =
    (is_open p (happened steps) ≡ true) × ((split fresh (came_on p (happened steps))).begun ≡ s.begun)
    × Unsent reply step first p steps s.unsent

-- nothing is to be done for it until something happens
abbrev pub Rests : List Step → ℕ → Option Sess → Type 0
Rests steps p None = ⊤
Rests steps p (Some s) = record {
  begun : (b : Begun) × (s.begun ≡ Some b);
  bound : length s.unsent ≤ MOST_UNSENT;
  all : is_full p (happened steps) ≡ false → s.unsent ≡ [];
}

abbrev pub is_busy : Option ℕ → ℕ → Bool
is_busy None q = false
is_busy (Some p) q = nat_eq p q

-- nothing happened yet on a connection
pub record Unused {S : Type 0} (reply : Answer S) (step : Change S) (first : S) (steps : List Step) (p : ℕ) : Type 0 where
  pub unknown : is_known p (happened steps) ≡ false
  pub shut : is_open p (happened steps) ≡ false
  pub came : came_on p (happened steps) ≡ []
  pub went : went_on p (happened steps) ≡ []
  pub empty : is_full p (happened steps) ≡ false
  pub frames : frames_on reply step p first (handled_in steps) ≡ []

-- after these steps since a first state the loop is here
pub record Goes {H : Type 0} (v : Ghosts H) (first : v.State) (since : Desk H) (a : Around H) (w : Work) (at : ℕ → Option Sess)
    (steps : List Step) : Type 0 where
  pub lawful : Lawful v.reply_to v.state_after first steps
  pub records : taken_in (happened steps) ≡ map record_of (handled_in steps) ++ w.pending
  pub state : v.state a.desk.handler ≡ after_all v.state_after first (handled_in steps)
  pub desk : HandlesAll v since (handled_in steps) a.desk
  pub over : a.over ≡ over_in (happened steps)
  pub each : (p : ℕ) → IsHeld v.reply_to v.state_after first steps p (at p)
  pub rests : (p : ℕ) → is_busy w.busy p ≡ false → Rests steps p (at p)
  pub unused : (p : ℕ) → a.opened ≤ p → Unused v.reply_to v.state_after first steps p

-- from one point to a later one, for which the loop waited so often
abbrev pub Moves : {H : Type 0} → ℕ → (v : Ghosts H) → (before : Around H) → Work → (ℕ → Option Sess)
    → (now : Around H) → Work → (ℕ → Option Sess) → Type 0
Moves {H} n v before w at now x bt =
    (first : v.State) (since : Desk H) (steps : List Step) → Goes v first since before w at steps →
    (more : List Step) × AddsAll (happened more) before.told now.told
    × Goes v first since now x bt (more ++ steps) × (waits_in more ≡ n)

-- from one point to an end, in the middle of work
abbrev pub Stops : {H : Type 0} → (v : Ghosts H) → (before : Around H) → Work → (ℕ → Option Sess) → (now : Around H) → Type 0
Stops {H} v before w at now =
    (first : v.State) (since : Desk H) (steps : List Step) → Goes v first since before w at steps →
    (more : List Step) × AddsAll (happened more) before.told now.told × Ran v first since now.desk (more ++ steps)

-- what a part of a turn leaves: a later point, or an end
abbrev pub Leaves : {H T E : Type 0} → ℕ → (v : Ghosts H) → (before : Around H) → Work → (ℕ → Option Sess)
    → (now : Around H) → Work → (ℕ → Option Sess) → Result T E → Type 0
Leaves n v before w at now x bt (Ok t) = Moves n v before w at now x bt
Leaves n v before w at now x bt (Err e) = Stops v before w at now

-- what a turn leaves, in which the loop waits once; a fault of the ports leaves all as it was
abbrev pub Turns : {H : Type 0} → (v : Ghosts H) → (before : Around H) → (ℕ → Option Sess) → (now : Around H)
    → (ℕ → Option Sess) → Result ⊤ LoopErr → Type 0
Turns v before at now bt (Ok done) = Moves 1 v before calm at now calm bt
Turns v before at now bt (Err PortFault) = Moves 0 v before calm at now calm bt
Turns v before at now bt (Err HandlerFault) = Stops v before calm at now
Turns v before at now bt (Err Memory) = Stops v before calm at now
