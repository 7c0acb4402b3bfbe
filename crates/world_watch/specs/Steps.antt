-- What is kept of the moments goes on with the lines of a move, step by step.
use Rattle.std.specs.Prelude.{ℕ, Bool, false, List, [], ◌∷◌, slice_get, Option, Some, None, if◌then◌else◌}
use Rattle.scenario_text.specs.declared.event.Event.TheVariants as event
use Rattle.scenario_text.specs.declared.line.Party.{Party}
use Rattle.scenario_text.specs.declared.line.Party.TheVariants as party
use Rattle.scenario_text.specs.declared.line.Verdict.TheVariants as verdict
use Rattle.scenario_text.specs.declared.line.Delivery.TheVariants as delivery
use Rattle.scenario_text.specs.declared.line.Line.{Line}
use Rattle.scenario_text.specs.declared.line.Line.TheVariants as line
use Rattle.world_history.specs.declared.messages.Sent.{Sent}
use Rattle.world_history.specs.ServerNames.{Mended}
use Rattle.world_history.specs.Reading.{is_head}
use Rattle.world_watch.specs.Sighted.{Table, sighted}
use Rattle.world_calm.specs.declared.calm.Performed.{Performed}
use Rattle.world_calm.specs.Seeing.{CalmState, KeptOf, sees as sees_step_of}

-- ---- the message whose bytes a drive performed

-- where it was delivered to one
abbrev pub performed_to : (number : ℕ) → Party → Option Performed
performed_to n (party.Drive d) = Some (record { drive = d; message = n })
performed_to n to = None

abbrev pub performed_sent : (number : ℕ) → Option Sent → Option Performed
performed_sent n None = None
performed_sent n (Some s) = performed_to n s.to

-- where the bytes were injected: the first that was sent to the drive with the same bytes
abbrev pub performed_found : (drive : ℕ) → Option ℕ → Option Performed
performed_found d None = None
performed_found d (Some n) = Some (record { drive = d; message = n })

abbrev pub injected_at : Table → List Sent → Line → Option Performed
injected_at t ms (line.Event (event.Inject d bytes)) = performed_found d (sighted t ms d bytes)
injected_at t ms l = None

-- at the line with which a step begins
abbrev pub performed_at : List Sent → (injected : Option Performed) → (head : Line) → Option Performed
performed_at ms injected (line.Delivered n (delivery.Judged verdict.Perform)) = performed_sent n (slice_get ms n)
performed_at ms injected (line.Judged d verdict.Perform) = injected
performed_at ms injected l = None

-- ---- steps

-- lines of which the first one stands apart, if they are a step
unfoldable pub sees_headed : KeptOf → List Mended → List Sent → CalmState → (injected : Option Performed) → (head : Line)
    → (rest : List Line) → CalmState
sees_headed kept rs ms c injected head rest =
    if is_head head then sees_step_of kept rs c ms head rest (performed_at ms injected head) else c

unfoldable pub sees_step : KeptOf → List Mended → List Sent → CalmState → (injected : Option Performed) → List Line
    → CalmState
sees_step kept rs ms c injected [] = c
sees_step kept rs ms c injected (head ∷ rest) = sees_headed kept rs ms c injected head rest

abbrev pub is_headed : List Line → Bool
is_headed [] = false
is_headed (l ∷ ls) = is_head l

-- the lines of a move: an event that is followed by another line that begins a step (a delivery, a timeout, an injection)
-- is a step of its own, which changes nothing that is kept. It isn't seen: what the server keeps is as the whole move
-- leaves it, and with that a grant would have ended before the delivery that ends it.
unfoldable pub sees_from : KeptOf → List Mended → Table → List Sent → CalmState → (event : Line) → (step : List Line)
    → CalmState
sees_from kept rs t ms c event step =
    if is_headed step
    then sees_step kept rs ms c (injected_at t ms event) step
    else sees_headed kept rs ms c None event step

abbrev pub sees_move : KeptOf → List Mended → Table → List Sent → CalmState → List Line → CalmState
sees_move kept rs t ms c [] = c
sees_move kept rs t ms c (event ∷ step) = sees_from kept rs t ms c event step
