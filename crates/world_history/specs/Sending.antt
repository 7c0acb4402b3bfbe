-- Sending: numbers, lines, and the bytes that are kept.
use Rattle.std.specs.Prelude.{ℕ, false, ◌+◌, ◌-◌, ◌<◌, ◌≤◌, nat_lt, List, [], ◌∷◌, ◌++◌, length, map, sum_by, if◌then◌else◌}
use Rattle.scenario_text.specs.declared.line.Line.{Line}
use Rattle.scenario_text.specs.declared.line.Line.TheVariants as line
use Rattle.world_history.specs.declared.limits.TheConstants.{MAX_KEPT}
use Rattle.world_history.specs.State.{Message, Posted, Network, World}
use Rattle.world_history.specs.Spelled.{spelled, size, party_of}
use Rattle.world_history.specs.Handed.{Post}
use Rattle.world_history.specs.Moves.{Act, Action, acts}

-- ---- the network

-- a message that is sent
abbrev pub fresh : Post → Posted
fresh p = record { message = p.message; delivered = false; dropped = false }

-- the bytes that are kept for it: the data of the write that it begins, and its own
abbrev pub cost : Post → ℕ
cost p = p.logged + size p.message

-- all of these are sent
abbrev pub with_posts : Network → List Post → Network
with_posts n ps = record { messages = n.messages ++ map fresh ps; kept = n.kept + sum_by cost ps }

-- the line of a message
abbrev pub sent_line : (number : ℕ) → Message → Line
sent_line number m = line.Message number (party_of m.from) (party_of m.to) (spelled m.body)

-- the lines of several, from a number on
unfoldable pub sent_lines : (number : ℕ) → List Post → List Line
sent_lines number [] = []
sent_lines number (p ∷ ps) = sent_line number p.message ∷ sent_lines (number + 1) ps

-- ---- a move

-- an action, and the drives that the placer names in it
pub record Move : Type 0 where
  pub action : Action
  pub chosen : List ℕ

-- the world after a move, and its lines
pub record Moved : Type 0 where
  pub world : World
  pub lines : List Line

-- what is told, and then what is sent
abbrev pub sends_all : Act → Moved
sends_all a = record {
  world = record a.world { network = with_posts a.world.network a.posts };
  lines = a.told ++ sent_lines (length a.world.network.messages) a.posts;
}

-- a move
abbrev pub move : World → Move → Moved
move w m = sends_all (acts w m.chosen m.action)

-- ---- the limit of kept bytes

-- the messages before the first for which there isn't room
unfoldable pub fitting : (room : ℕ) → List Post → List Post
fitting room [] = []
fitting room (p ∷ ps) = if nat_lt room (cost p) then [] else p ∷ fitting (room - cost p) ps

-- those of a move under the limit
abbrev pub fitting_in : Network → List Post → List Post
fitting_in n ps = fitting (MAX_KEPT - n.kept) ps

-- the move would pass the limit, which the moves before it keep
abbrev pub Passes : Act → Type 0
Passes a = (a.world.network.kept ≤ MAX_KEPT) × (MAX_KEPT < a.world.network.kept + sum_by cost a.posts)

-- its lines up to the message, or the write that it begins, that would pass it
abbrev pub cut_lines : Act → List Line
cut_lines a = a.told ++ sent_lines (length a.world.network.messages) (fitting_in a.world.network a.posts)
