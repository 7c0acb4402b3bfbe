-- What holds of each move in which something comes to the server holds at each line at which something comes, in each whole
-- history.
use Rattle.std.proofs.Common.{◌≡◌, true, List, [], ◌∷◌, ◌++◌, Option, Some, sym, ap, subst, ◌∙◌, append_assoc, inl, inr}
use Rattle.std.proofs.lemmas.List.{append-nil}
use Rattle.server_rules.specs.Files.{Step}
use Rattle.server_rules.specs.History.{Input, step}
use Rattle.scenario_text.specs.declared.line.Line.{Line}
use Rattle.world_history.specs.ServerNames.{Server}
use Rattle.world_history.specs.State.{World}
use Rattle.world_history.specs.Sending.{Move, move}
use Rattle.world_history.specs.Plans.{due}
use Rattle.world_history.specs.Reading.{is_head}
use Rattle.world_history.specs.Book.{ServerSeen, placed_in, input_at, step_by, server_behind, server_seen, server_after}
use Rattle.world_history.specs.History.{StandsFor, OneEventMore}
use Rattle.world_history.specs.Laws.{ServerGoesOn}
use Rattle.history_law.proofs.Moments.{stands_kept}
use Rattle.history_law.specs.BookMoments.{IsMoment, plan_at, lines_in}
use Rattle.history_law.specs.Doing.{did_in, ServerMoves}
use Rattle.history_law.specs.Read.{AreWritten, BookIsRead, StepIsRead}
use Rattle.history_law.specs.StepEnds.{BeginNone}
use Rattle.history_law.proofs.Staying.{written_front}
use Rattle.history_law.proofs.StepEnds.{place_of}
use Rattle.history_law.proofs.Ending.{next_moment}
use Rattle.history_law.proofs.NextSteps.{begin_more, move_begins}
use Rattle.cause_law.specs.Steps.{AtInputs}
use Rattle.cause_law.proofs.Reading.{IsRead, input_head, line_read}

-- what such a move is
pub record IsMoved (w : World) (h : List Line) (m : Move) (front : List Line) (l : Line) (after : List Line) (i : Input)
    : Type 0 where
  pub comes : input_at (server_seen (h ++ front)) l ≡ Some i
  pub head : is_head l ≡ true
  pub alone : BeginNone after
  pub server : server_after (h ++ front) ≡ w.server
  pub did : did_in w m ≡ Some (step w.server (placed_in after) i)
  pub state : (move w m).world.server ≡ (step w.server (placed_in after) i).state
  pub behind : server_after ((h ++ front) ++ l ∷ after) ≡ (step w.server (placed_in after) i).state

pub record IsShown (Holds : (before : List Line) → Line → Input → (rest : List Line) → Type 0) : Type 0 where
  pub shows : (w : World) (h : List Line) (k : IsMoment w h) (m : Move) → due (plan_at k) w ≡ Some m.action
      → AreWritten (h ++ lines_in w m) → (front : List Line) (l : Line) (after : List Line)
      → lines_in w m ≡ front ++ l ∷ after → (i : Input) → IsMoved w h m front l after i → Holds (h ++ front) l i after

module _ (read : BookIsRead) (step_read : StepIsRead) (moves : ServerMoves) (more : OneEventMore) (on : ServerGoesOn) where
  module _ (w : World) (h : List Line) (k : IsMoment w h) (m : Move) (d : due (plan_at k) w ≡ Some m.action)
      (written : AreWritten (h ++ lines_in w m)) (front : List Line) (l : Line) (after : List Line)
      (is : lines_in w m ≡ front ++ l ∷ after) (i : Input) (comes : input_at (server_seen (h ++ front)) l ≡ Some i) where
    read_there : IsRead w h front l after m
    read_there = line_read on w h m front l after is (i, comes) (step_read w h k m d written)

    there : server_after (h ++ front) ≡ w.server
    there = read_there.server ∙ ap (λ (s : ServerSeen). s.server) (read w h k (written_front h (lines_in w m) written))

    does : did_in w m ≡ Some (step w.server (placed_in after) i)
    does =
        sym read_there.does ∙ ap (step_by (server_after (h ++ front)) (placed_in after)) comes
        ∙ ap (λ (s : Server). Some (step s (placed_in after) i)) there

    state_is : (move w m).world.server ≡ (step w.server (placed_in after) i).state
    state_is = (moves w m).server ∙ ap (λ (t : Option Step). server_behind w.server t) does

    moved : IsMoved w h m front l after i
    moved = record {
      comes = comes;
      head = input_head (server_seen (h ++ front)) l i comes;
      alone = read_there.alone;
      server = there;
      did = does;
      state = state_is;
      behind =
          ap server_after (append_assoc h front (l ∷ after)) ∙ ap (λ (ls : List Line). server_after (h ++ ls)) (sym is)
          ∙ ap (λ (s : ServerSeen). s.server) (read (move w m).world (h ++ lines_in w m) (next_moment w h k m d) written)
          ∙ state_is;
    }

  module _ (Holds : (before : List Line) → Line → Input → (rest : List Line) → Type 0) (shown : IsShown Holds) where
    abbrev So : World → List Line → Type 0
    So w h = AreWritten h → AtInputs Holds h

    nothing : AtInputs Holds []
    nothing [] l after i is comes = absurd (cc is)
    nothing (x ∷ before) l after i is comes = absurd (cc is)

    one_more : (w : World) (h : List Line) (k : IsMoment w h) (m : Move) → due (plan_at k) w ≡ Some m.action → So w h
        → So (move w m).world (h ++ lines_in w m)
    one_more w h k m d so written before l after i is comes =
        elim (place_of h (lines_in w m) before after l is) [
          | inl (rest, own, behind) ↦
              let e = so (written_front h (lines_in w m) written) before l rest i own comes in
              record {
                rest = e.rest;
                more = e.more ++ lines_in w m;
                cut = behind ∙ ap (λ (ls : List Line). ls ++ lines_in w m) e.cut ∙ append_assoc e.rest e.more (lines_in w m);
                of_step = e.of_step;
                ends = begin_more e.more (lines_in w m) e.ends (move_begins w m);
                holds = e.holds;
              }
          | inr (front, own, it) ↦
              let here : input_at (server_seen (h ++ front)) l ≡ Some i =
              subst (λ (ls : List Line). input_at (server_seen ls) l ≡ Some i) own comes in
              record {
                rest = after;
                more = [];
                cut = sym (append-nil after);
                of_step = (read_there w h k m d written front l after it i here).alone;
                ends = tt;
                holds =
                    subst (λ (ls : List Line). Holds ls l i after) (sym own)
                    (shown.shows w h k m d written front l after it i (moved w h k m d written front l after it i here));
              }
        ]

    pub at_inputs : (w : World) (h : List Line) → StandsFor w h → AreWritten h → AtInputs Holds h
    at_inputs w h s written =
        stands_kept So (record { starts = λ none. nothing; moves = one_more }) more w h s written
