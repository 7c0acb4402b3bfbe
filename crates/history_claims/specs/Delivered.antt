-- Which messages an event delivers.
use Rattle.std.specs.Prelude.{◌≡◌, ℕ, ◌-◌, ◌++◌, Bool, true, not, ◌&&◌, List, [], ◌∷◌, length, filter, slice_get, Option, Some, None}
use Rattle.std.specs.List.{filter_map, range_with_len}
use Rattle.scenario_text.specs.declared.event.Event.{Event}
use Rattle.scenario_text.specs.declared.event.Event.TheVariants as event
use Rattle.scenario_text.specs.declared.line.Line.{Line}
use Rattle.scenario_text.specs.declared.line.Line.TheVariants as line
use Rattle.world_history.specs.declared.messages.Sent.{Sent}
use Rattle.world_history.specs.Reading.{sent_in}
use Rattle.world_history.specs.History.{Lawful}
use Rattle.ready_law.specs.Events.{IsOver}

-- ---- what is delivered

-- the number of the message whose delivery a line tells
abbrev pub delivered_at : Line → Option ℕ
delivered_at (line.Delivered number d) = Some number
delivered_at l = None

-- the numbers of what is delivered in these lines, in order
unfoldable pub delivered_in : List Line → List ℕ
delivered_in ls = filter_map delivered_at ls

-- ---- what is due

-- a message was neither delivered nor left out
abbrev pub is_open : Sent → Bool
is_open m = not m.delivered && not m.dropped

-- and so is one that isn't sent yet
abbrev pub is_open_or_new : Option Sent → Bool
is_open_or_new None = true
is_open_or_new (Some m) = is_open m

-- of the messages from number `first` on and below `end` those that are open or aren't sent yet
abbrev pub open_from : List Sent → (first end : ℕ) → List ℕ
open_from ss first end = filter (λ n. is_open_or_new (slice_get ss n)) (range_with_len first (end - first))

-- What an event delivers, if these messages were sent before it, and so many are sent when it is over. A `do`, or one that makes
-- a file, delivers what is sent in it, and `settle` what is open then, or is sent in it: each once, in order.
abbrev pub owed_by : List Sent → (count : ℕ) → Event → List ℕ
owed_by before count (event.Deliver number) = number ∷ []
owed_by before count event.Settle = open_from before 0 count
owed_by before count (event.Do c x) = range_with_len (length before) (count - length before)
owed_by before count (event.File f m tag) = range_with_len (length before) (count - length before)
owed_by before count (event.ZonedFile f m tag) = range_with_len (length before) (count - length before)
owed_by before count e = []

-- so many were sent when the event was over
abbrev pub sent_by_end : (before : List Line) → Event → (body : List Line) → ℕ
sent_by_end before e body = length (sent_in (before ++ line.Event e ∷ body))

-- each event that is over delivers just this
abbrev pub EventsDeliver : List Line → Type 0
EventsDeliver h =
    (before : List Line) (e : Event) (body : List Line) → IsOver h before e body
    → delivered_in body ≡ owed_by (sent_in before) (sent_by_end before e body) e

-- so it is in each lawful history
abbrev pub EachEventDelivers : Type 0
EachEventDelivers = (h : List Line) → Lawful h → EventsDeliver h
