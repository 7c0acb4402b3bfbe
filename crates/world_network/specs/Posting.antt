-- Several messages that are sent one after another.
use Rattle.std.specs.Prelude.{◌≡◌, ℕ, ◌+◌, ◌-◌, ◌<◌, ◌≤◌, ◌++◌, nat_lt, List, [], ◌∷◌, length, map, sum_by, Result, Ok, Err, if◌then◌else◌}
use Rattle.scenario_text.specs.declared.line.Party.TheVariants as party
use Rattle.scenario_text.specs.declared.line.Line.{Line}
use Rattle.scenario_text.specs.declared.line.Line.TheVariants as line
use Rattle.world_history.specs.declared.limits.TheConstants.{MAX_KEPT}
use Rattle.world_history.specs.declared.err.WorldErr.{WorldErr}
use Rattle.world_history.specs.declared.err.WorldErr.TheVariants.{KeptFull, Memory}
use Rattle.world_history.specs.declared.messages.Sent.{Sent}
use Rattle.world_network.specs.declared.posting.Posting.{Posting}
use Rattle.world_network.specs.Network.{NetworkState, fresh}

-- what stands where a message was taken out
abbrev pub no_posting : Posting
no_posting = record { from = party.Server; to = party.Server; bytes = []; logged = 0 }

-- the message, once it is sent
abbrev pub sent : Posting → Sent
sent p = fresh p.from p.to p.bytes

-- the bytes that are kept for it
abbrev pub cost : Posting → ℕ
cost p = p.logged + length p.bytes

-- all of these are sent
abbrev pub all_posted : NetworkState → List Posting → NetworkState
all_posted n ps = record { messages = n.messages ++ map sent ps; kept = n.kept + sum_by cost ps }

-- their lines, from a number on
abbrev pub lines_from : (number : ℕ) → List Posting → List Line
lines_from number [] = []
lines_from number (p ∷ ps) = line.Message number p.from p.to p.bytes ∷ lines_from (number + 1) ps

-- those before the first for which there isn't room
abbrev pub fitting : (room : ℕ) → List Posting → List Posting
fitting room [] = []
fitting room (p ∷ ps) = if nat_lt room (cost p) then [] else p ∷ fitting (room - cost p) ps

abbrev pub lines_in : NetworkState → List Posting → List Line
lines_in n ps = lines_from (length n.messages) ps

abbrev pub fitting_in : NetworkState → List Posting → List Posting
fitting_in n ps = fitting (MAX_KEPT - n.kept) ps

-- the first lines of some lines
abbrev pub IsFront : List Line → List Line → Type 0
IsFront front whole = (rest : List Line) × (whole ≡ front ++ rest)

-- the front of some lines was appended, and the rest of them is left
pub record AppendsPart (before after whole rest : List Line) : Type 0 where
  pub front : List Line
  pub appended : after ≡ before ++ front
  pub split : whole ≡ front ++ rest

-- what sending them gives, by its result
abbrev pub PostsAll : NetworkState → List Posting → List Line → List Line → NetworkState
    → Result (Unit {0}) WorldErr → Type 0
PostsAll n ps before after n' (Ok u) = (n' ≡ all_posted n ps) × (after ≡ before ++ lines_in n ps)
PostsAll n ps before after n' (Err KeptFull) =
    (n.kept ≤ MAX_KEPT) × (MAX_KEPT < n.kept + sum_by cost ps) × (after ≡ before ++ lines_in n (fitting_in n ps))
PostsAll n ps before after n' (Err Memory) =
    (front : List Line) × (after ≡ before ++ front) × IsFront front (lines_in n ps)
PostsAll n ps before after n' (Err other) = ⊥
