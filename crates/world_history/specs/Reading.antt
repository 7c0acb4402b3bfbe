-- A history read line by line: its steps, and the messages that were sent.
use Rattle.std.specs.Prelude.{ℕ, Bool, false, true, ◌==◌, List, [], ◌∷◌, ◌++◌, Option, Some, None, slice_get, slice_set}
use Rattle.std.specs.List.{fold}
use Rattle.scenario_text.specs.declared.event.Event.{Event}
use Rattle.scenario_text.specs.declared.event.Event.TheVariants as event
use Rattle.scenario_text.specs.declared.line.Party.{Party}
use Rattle.scenario_text.specs.declared.line.Party.TheVariants as party
use Rattle.scenario_text.specs.declared.line.Line.{Line}
use Rattle.scenario_text.specs.declared.line.Line.TheVariants as line
use Rattle.world_history.specs.State.{Sent}

-- ---- steps

-- a line with which a step begins: an event, a delivery, an injected message that is judged, a timeout
abbrev pub is_head : Line → Bool
is_head (line.Event e) = true
is_head (line.Delivered number delivery) = true
is_head (line.Judged d verdict) = true
is_head (line.TimedOut c component) = true
is_head l = false

-- a step: the line with which it begins, and what a party tells and sends in it
pub record Step : Type 0 where
  pub head : Line
  pub rest : List Line

-- steps, and the lines before the first
pub record Grouped : Type 0 where
  pub loose : List Line
  pub steps : List Step

-- a line before them
abbrev pub grouped_with : Bool → Line → Grouped → Grouped
grouped_with true l g = record { loose = []; steps = record { head = l; rest = g.loose } ∷ g.steps }
grouped_with false l g = record { loose = l ∷ g.loose; steps = g.steps }

unfoldable pub grouped : List Line → Grouped
grouped [] = record { loose = []; steps = [] }
grouped (l ∷ ls) = grouped_with (is_head l) l (grouped ls)

-- the steps of a history
abbrev pub steps_of : List Line → List Step
steps_of h = (grouped h).steps

-- ---- the network

-- the same once it was delivered, or is left out
abbrev pub arrived : Sent → Sent
arrived s = record s { delivered = true }

abbrev pub left_out : Sent → Sent
left_out s = record s { dropped = true }

-- a change of message `number`
abbrev pub changed_by : List Sent → (number : ℕ) → (Sent → Sent) → Option Sent → List Sent
changed_by ss number change None = ss
changed_by ss number change (Some s) = slice_set ss number (change s)

abbrev pub changed_at : List Sent → (number : ℕ) → (Sent → Sent) → List Sent
changed_at ss number change = changed_by ss number change (slice_get ss number)

-- an event leaves a message out
abbrev pub sent_after_event : List Sent → Event → List Sent
sent_after_event ss (event.DropMessage number) = changed_at ss number left_out
sent_after_event ss e = ss

-- the messages after a line
abbrev pub sent_after : List Sent → Line → List Sent
sent_after ss (line.Event e) = sent_after_event ss e
sent_after ss (line.Message number from to bytes) =
    ss ++ record { from = from; to = to; bytes = bytes; delivered = false; dropped = false } ∷ []
sent_after ss (line.Delivered number delivery) = changed_at ss number arrived
sent_after ss l = ss

-- all messages of a history, by number
unfoldable pub sent_in : List Line → List Sent
sent_in h = fold sent_after [] h

-- the same party
abbrev pub is_drive : (drive : ℕ) → Party → Bool
is_drive d (party.Drive k) = k == d
is_drive d p = false
