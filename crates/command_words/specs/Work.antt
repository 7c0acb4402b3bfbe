-- What the text of a client's option `call` asks for.
use Rattle.std.specs.Prelude.{◌≡◌, ℕ, List, ◌++◌, Option, Some, None, codes}
use Rattle.scenario_text.specs.Spelling.{Fits, Spells}
use Rattle.scenario_text.specs.declared.event.Call.{Call}
use Rattle.scenario_text.specs.declared.event.Event.{Event}
use Rattle.scenario_text.specs.declared.event.Event.TheVariants as event
use Rattle.command_words.specs.declared.work.ClientWork.{ClientWork}
use Rattle.command_words.specs.declared.work.ClientWork.TheVariants as work
use Rattle.command_words.specs.declared.work.Order.{Order}
use Rattle.command_words.specs.declared.work.Order.TheVariants as order

-- a line of a scenario spells the event, with each part in the range of its place
abbrev pub IsLine : Event → (line : List ℕ) → Type 0
IsLine e line = Fits e × Spells e line

-- the one event that a line spells, or none
abbrev pub Reads : (line : List ℕ) → Option Event → Type 0
Reads line (Some e) = IsLine e line × ((x : Event) → IsLine x line → e ≡ x)
Reads line None = (x : Event) → IsLine x line → ⊥

-- the text behind `do` and the name of a client makes a line that spells the call
abbrev pub IsCall : (text : List ℕ) → Call → Type 0
IsCall text what = IsLine (event.Do 0 what) (codes "do c0 " ++ text)

-- the event of an order
abbrev pub event_of : Order → Event
event_of (order.Recall f) = event.Recall f
event_of (order.Revoke f) = event.Revoke f
event_of (order.Declare d) = event.Declare d
event_of (order.Rebuild f) = event.Rebuild f
event_of (order.Audit f) = event.Audit f

-- the text is a line that spells the order
abbrev pub IsOrder : (text : List ℕ) → Order → Type 0
IsOrder text o = IsLine (event_of o) text

abbrev pub IsWork : (text : List ℕ) → ClientWork → Type 0
IsWork text (work.Call what) = IsCall text what
IsWork text (work.Order o) = IsOrder text o

-- something that is so, or none where nothing is
abbrev pub Gives : {A : Type 0} → (A → Type 0) → Option A → Type 0
Gives is (Some x) = is x
Gives {A} is None = (x : A) → is x → ⊥

-- the order for which an event stands
abbrev pub order_of : Event → Option Order
order_of (event.Recall f) = Some (order.Recall f)
order_of (event.Revoke f) = Some (order.Revoke f)
order_of (event.Declare d) = Some (order.Declare d)
order_of (event.Rebuild f) = Some (order.Rebuild f)
order_of (event.Audit f) = Some (order.Audit f)
order_of other = None

-- the call of an event with prompt delivery
abbrev pub call_of : Event → Option Call
call_of (event.Do c what) = Some what
call_of other = None
