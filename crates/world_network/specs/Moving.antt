-- What performing an act leaves, and that it is a move of the world.
use Rattle.std.specs.Prelude.{◌≡◌, ◌<◌, ◌≤◌, ◌+◌, ◌++◌, true, List, map, sum_by, Result, Ok, Err}
use Rattle.scenario_text.specs.declared.line.Line.{Line}
use Rattle.scenario_text.specs.declared.line.Line.TheVariants as line
use Rattle.world_history.specs.declared.limits.TheConstants.{MAX_KEPT}
use Rattle.world_history.specs.declared.err.WorldErr.{WorldErr}
use Rattle.world_history.specs.declared.err.WorldErr.TheVariants.{KeptFull, Memory}
use Rattle.world_history.specs.Moves.{Act as WorldAct}
use Rattle.world_history.specs.Sending.{sends_all, Passes, cut_lines}
use Rattle.world_network.specs.Network.{NetworkState}
use Rattle.world_network.specs.Posting.{cost, all_posted, lines_in, fitting_in, IsFront}
use Rattle.world_network.specs.Shows.{Shows, posting_of}
use Rattle.world_network.specs.declared.acts.Act.{Act}

-- what stands where a line was taken out
abbrev pub no_line : Line
no_line = line.Last true true

-- ---- performing

-- all lines of an act
abbrev pub lines_of : NetworkState → Act → List Line
lines_of n a = a.told ++ lines_in n a.posts

-- what performing an act gives, by its result
abbrev pub Performs : NetworkState → Act → List Line → List Line → NetworkState
    → Result (Unit {0}) WorldErr → Type 0
Performs n a before after n' (Ok u) = (n' ≡ all_posted n a.posts) × (after ≡ before ++ lines_of n a)
Performs n a before after n' (Err KeptFull) =
    (n.kept ≤ MAX_KEPT) × (MAX_KEPT < n.kept + sum_by cost a.posts)
    × (after ≡ before ++ (a.told ++ lines_in n (fitting_in n a.posts)))
Performs n a before after n' (Err Memory) =
    (front : List Line) × (after ≡ before ++ front) × IsFront front (lines_of n a)
Performs n a before after n' (Err other) = ⊥

-- ---- moves

-- an act of the world, as the code has it
abbrev pub act_of : WorldAct → Act
act_of a = record { told = a.told; posts = map posting_of a.posts }

-- what the world's move gives, by the result
abbrev pub MovesOn : WorldAct → List Line → List Line → NetworkState → Result (Unit {0}) WorldErr → Type 0
MovesOn a before after n (Ok u) =
    Shows n (sends_all a).world.network × (after ≡ before ++ (sends_all a).lines)
MovesOn a before after n (Err KeptFull) = Passes a × (after ≡ before ++ cut_lines a)
MovesOn a before after n (Err Memory) =
    (front : List Line) × (after ≡ before ++ front) × IsFront front (sends_all a).lines
MovesOn a before after n (Err other) = ⊥

-- performing an act of the world is its move
abbrev pub ActsAreMoves : Type 0
ActsAreMoves =
    (n n' : NetworkState) (a : WorldAct) (before after : List Line) (r : Result (Unit {0}) WorldErr)
    → Shows n a.world.network → Performs n (act_of a) before after n' r → MovesOn a before after n' r
