-- What is kept of a run stands for what is read off its lines, from its first line on.
use Rattle.std.specs.Prelude.{◌≡◌, ℕ, ◌==◌, ◌++◌, List, [], ◌∷◌, length, map, Option, Some, None, if◌then◌else◌}
use Rattle.std.specs.List.{fold}
use Rattle.scenario_text.specs.declared.event.Event.{Event}
use Rattle.scenario_text.specs.declared.line.Party.{Party}
use Rattle.scenario_text.specs.declared.line.Line.{Line}
use Rattle.scenario_text.specs.declared.line.Line.TheVariants as line
use Rattle.world_history.specs.declared.messages.Sent.{Sent}
use Rattle.world_history.specs.State.{World}
use Rattle.world_history.specs.Sending.{Move}
use Rattle.world_history.specs.Runs.{world_after, lines_of}
use Rattle.world_history.specs.History.{StandsFor}
use Rattle.world_network.specs.Network.{NetworkState}
use Rattle.world_network.specs.Shows.{Shows}
use Rattle.world_watch.specs.State.{WatchState, no_watch}
use Rattle.world_watch.specs.Watching.{HasSeen, Watches}

-- ---- messages as their lines tell them

-- a message, but for its sender and for what became of it
pub record Letter : Type 0 where
  pub to : Party
  pub bytes : List ℕ

abbrev pub letter : Sent → Letter
letter s = record { to = s.to; bytes = s.bytes }

-- a line more; a message's line has the next number
abbrev pub letters_after : List Letter → Line → Option (List Letter)
letters_after ls (line.Message number from to bytes) =
    if number == length ls then Some (ls ++ record { to = to; bytes = bytes } ∷ []) else None
letters_after ls l = Some ls

abbrev pub letters_on : Option (List Letter) → Line → Option (List Letter)
letters_on None l = None
letters_on (Some ls) l = letters_after ls l

-- the messages of some lines in order; None where one hasn't the next number
abbrev pub letters_in : List Line → Option (List Letter)
letters_in h = fold letters_on (Some []) h

-- the lines tell of these messages in order, each with the next number
abbrev pub Tells : List Line → List Sent → Type 0
Tells h ms = letters_in h ≡ Some (map letter ms)

-- ---- what holds of them

-- nothing is kept before the first line
abbrev pub WatchBegins : Type 0
WatchBegins = Watches [] no_watch

-- what is kept goes on with lines that are seen, where the network has the messages of all lines so far
abbrev pub WatchGoesOn : Type 0
WatchGoesOn =
    (h lines : List Line) (ms : List Sent) (old new : WatchState) → Watches h old → Tells (h ++ lines) ms
    → HasSeen ms lines old new → Watches (h ++ lines) new

-- it has them behind each move of an event
abbrev pub EventsTell : Type 0
EventsTell =
    (w : World) (h : List Line) (e : Event) (moves : List Move) (n : NetworkState) → StandsFor w h
    → Shows n (world_after w moves).network → Tells (h ++ line.Event e ∷ lines_of w moves) n.messages
