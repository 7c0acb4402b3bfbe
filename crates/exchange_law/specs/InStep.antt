-- A client and the server are in step: one request at a time, and one answer to it.
use Rattle.std.specs.Prelude.{◌≡◌, ◌≤◌, ◌+◌, ◌⊎◌, ℕ, List, Option, Some, None}
use Rattle.server_rules.specs.declared.server.Slot.{Slot}
use Rattle.server_rules.specs.Slots.{slot_of}
use Rattle.server_rules.specs.Laws.{last_of}
use Rattle.client_rules.specs.declared.limits.TheConstants.{GREATEST_SEQUENCE}
use Rattle.client_rules.specs.Steps.{new_client}
use Rattle.scenario_text.specs.declared.line.Line.{Line}
use Rattle.world_history.specs.ClientNames.{Client, Request}
use Rattle.world_history.specs.State.{World, ClientAt, at_number}
use Rattle.history_law.specs.BookMoments.{IsMoment}
use Rattle.exchange_law.specs.Doing.{said}
use Rattle.exchange_law.specs.Messages.{EachMessage, last_before, AsksOf, AnswersOf, IsSlotOf}
use Rattle.exchange_law.specs.Made.{WasMade}

-- the outstanding request was answered: the server's last answer to the client was made of it
pub record IsServed (h : List Line) (c : ℕ) (o : Option Slot) (r : Request) : Type 0 where
  pub slot : Slot
  pub kept : o ≡ Some slot
  pub last : slot.last ≡ r.sequence
  pub made : WasMade h c r slot.kept

-- it is the client's last one, and either wasn't served, and is the next one for the server, or was
pub record IsAwaiting (h : List Line) (c : ℕ) (o : Option Slot) (last : ℕ) (r : Request) : Type 0 where
  pub client : r.client ≡ c
  pub first : 1 ≤ r.sequence
  pub sequence : r.sequence ≡ last
  pub served : (last_of o + 1 ≡ r.sequence) ⊎ IsServed h c o r

-- where none is outstanding, the server's last answer to the client was to its last request
abbrev pub StandsAt : List Line → (c : ℕ) → Option Slot → (last : ℕ) → Option Request → Type 0
StandsAt h c o last None = last_of o ≡ last
StandsAt h c o last (Some r) = IsAwaiting h c o last r

-- the client's state and its messages, against what the server keeps and sent
pub record IsInStep (w : World) (h : List Line) (c : ℕ) (x : Client) : Type 0 where
  pub number : x.number ≡ c
  pub next : x.next ≤ GREATEST_SEQUENCE
  pub asks : EachMessage (AsksOf c x) (said w.network.messages)
  pub answers : EachMessage (AnswersOf c (slot_of w.server.slots c)) (said w.network.messages)
  pub slot : (s : Slot) → slot_of w.server.slots c ≡ Some s → IsSlotOf c s
  pub stands : StandsAt h c (slot_of w.server.slots c) (last_before x.next) x.outstanding

-- one that there isn't is as it will begin
abbrev pub state_of : (c : ℕ) → Option ClientAt → Client
state_of c None = new_client c 1
state_of c (Some a) = a.state

-- client c of a world
abbrev pub client_of : World → (c : ℕ) → Client
client_of w c = state_of c (at_number w.clients c)

-- so it is of each client at each moment
abbrev pub ClientsAreInStep : Type 0
ClientsAreInStep =
    (w : World) (h : List Line) → IsMoment w h → (c : ℕ) → IsInStep w h c (state_of c (at_number w.clients c))
