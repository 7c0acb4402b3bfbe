-- What is kept of the moments goes on with the moves of an event.
use Rattle.std.specs.Prelude.{◌≡◌, List, [], ◌∷◌, ◌++◌, map, option_map, Option, Some, None, if◌then◌else◌}
use Rattle.scenario_text.specs.declared.event.Event.{Event}
use Rattle.scenario_text.specs.declared.line.Line.{Line}
use Rattle.scenario_text.specs.declared.line.Line.TheVariants as line
use Rattle.server_rules.specs.Files.{file_at}
use Rattle.world_history.specs.declared.messages.Sent.{Sent}
use Rattle.world_history.specs.ServerNames.{Server, File}
use Rattle.world_history.specs.State.{World}
use Rattle.world_history.specs.Sending.{Move, move}
use Rattle.world_history.specs.Plans.{due, plan_of}
use Rattle.world_history.specs.Refusals.{refusal}
use Rattle.world_history.specs.Runs.{lines_of, AreDue}
use Rattle.world_history.specs.History.{StandsFor}
use Rattle.world_history.specs.Laws.{shown}
use Rattle.world_history.specs.Reading.{Step, is_head}
use Rattle.world_history.specs.Book.{server_step}
use Rattle.world_history.specs.Calm.{Seen, seen, mended_in}
use Rattle.world_history.specs.Guesses.{guarded}
use Rattle.world_watch.specs.Sighted.{Table}
use Rattle.world_watch.specs.Tied.{AreOf}
use Rattle.world_calm.specs.declared.calm.Performed.{Performed}
use Rattle.world_calm.specs.Seeing.{CalmState, KeptOf}
use Rattle.world_watch.specs.Steps.{is_headed, injected_at, performed_at, sees_move}
use Rattle.calm_law.specs.Following.{Follows, StepFacts}
use Rattle.history_law.specs.BookMoments.{IsMoment, lines_in, plan_at}
use Rattle.history_law.specs.Doing.{did_in}
use Rattle.history_law.specs.Read.{AreWritten}

-- ---- what is kept

-- what a server keeps of each file
abbrev pub kept_at : Server → KeptOf
kept_at s n = option_map (λ (f : File). f.kept) (file_at s.files n)

-- that of a world
abbrev pub kept_by : World → KeptOf
kept_by w = kept_at w.server

-- what is kept of the moments behind a move
abbrev pub sees_one : Table → CalmState → World → Move → CalmState
sees_one t c w m =
    sees_move (kept_by (move w m).world) (mended_in (did_in w m)) t (map shown (move w m).world.network.messages) c
    (lines_in w m)

-- and behind several
abbrev pub sees_moves : Table → CalmState → World → List Move → CalmState
sees_moves t c w [] = c
sees_moves t c w (m ∷ ms) = sees_moves t (sees_one t c w m) (move w m).world ms

-- ---- the step of a move

-- the step in some lines, and the line of an event before it, which is a step of its own
pub record Read : Type 0 where
  pub before : List Line
  pub step : Step

abbrev pub reads_from : (before : List Line) → List Line → Option Read
reads_from before [] = None
reads_from before (l ∷ ls) =
    if is_head l then Some (record { before = before; step = record { head = l; rest = ls } }) else None

abbrev pub reads : List Line → Option Read
reads [] = None
reads (l ∷ ls) = if is_headed ls then reads_from (l ∷ []) ls else reads_from [] (l ∷ ls)

-- the message whose bytes a drive performed in it
abbrev pub injected_before : Table → List Sent → List Line → Option Performed
injected_before t ms [] = None
injected_before t ms (l ∷ ls) = injected_at t ms l

abbrev pub performed_in : Table → List Sent → Read → Option Performed
performed_in t ms r = performed_at ms (injected_before t ms r.before) r.step.head

-- ---- what holds of it

-- what a step of a move must give, behind what was seen of the lines before it
abbrev pub FactsOf : Seen → Read → Table → World → Move → Type 0
FactsOf s r t w m =
    StepFacts s r.step (server_step s.server r.step) (kept_by (move w m).world) (mended_in (did_in w m))
    (map shown (move w m).world.network.messages) (performed_in t (map shown (move w m).world.network.messages) r)

-- each move that is due at a moment gives that
abbrev pub MovesGive : Type 0
MovesGive =
    (w : World) (h : List Line) (k : IsMoment w h) (m : Move) (t : Table) (r : Read)
    → due (plan_at k) w ≡ Some m.action → AreWritten (h ++ lines_in w m) → AreOf (guarded k.history).sent t
    → reads (lines_in w m) ≡ Some r → FactsOf (seen (h ++ r.before)) r t w m

-- what is kept follows a move that is due at a moment
abbrev pub MoveFollows : Type 0
MoveFollows =
    (w : World) (h : List Line) (k : IsMoment w h) (m : Move) (t : Table) (c : CalmState)
    → due (plan_at k) w ≡ Some m.action → AreWritten (h ++ lines_in w m) → AreOf (guarded k.history).sent t
    → Follows (seen h) c → Follows (seen (h ++ lines_in w m)) (sees_one t c w m)

-- and so all moves of an event
abbrev pub EventFollows : Type 0
EventFollows =
    (w : World) (h : List Line) (e : Event) (m : Move) (ms : List Move) (t : Table) (c : CalmState) → StandsFor w h
    → refusal w e ≡ None → AreDue (plan_of w e) w (m ∷ ms) → AreWritten (h ++ line.Event e ∷ lines_of w (m ∷ ms))
    → AreOf (guarded h).sent t → Follows (seen h) c
    → Follows (seen (h ++ line.Event e ∷ lines_of w (m ∷ ms))) (sees_moves t c w (m ∷ ms))
