-- What is kept follows all moves of an event.
use Rattle.std.proofs.Common.{◌≡◌, ◌++◌, ◌∷◌, [], List, Some, None, refl, sym, ap, subst, ◌∙◌, append_assoc}
use Rattle.std.proofs.lemmas.List.{append-nil}
use Rattle.scenario_text.specs.declared.event.Event.{Event}
use Rattle.scenario_text.specs.declared.line.Line.{Line}
use Rattle.scenario_text.specs.declared.line.Line.TheVariants as line
use Rattle.world_history.specs.State.{World}
use Rattle.world_history.specs.Moves.{Action, Opens}
use Rattle.world_history.specs.Sending.{Move, move}
use Rattle.world_history.specs.Plans.{Plan, due, went_on, plan_of}
use Rattle.world_history.specs.Runs.{world_after, lines_of, AreDue}
use Rattle.world_history.specs.Calm.{seen}
use Rattle.world_history.specs.Guesses.{guarded}
use Rattle.world_history.proofs.Runs.{due_more, plan_more, world_more}
use Rattle.world_watch.specs.Sighted.{Table}
use Rattle.world_watch.specs.Tied.{AreOf}
use Rattle.world_calm.specs.Seeing.{CalmState}
use Rattle.history_law.proofs.Moments.{so_far_more}
use Rattle.calm_law.specs.Following.{Follows}
use Rattle.history_law.specs.BookMoments.{IsMoment, with_event, lines_in, lines_so_far, plan_at}
use Rattle.history_law.specs.Read.{AreWritten}
use Rattle.history_law.proofs.Staying.{written_front}
use Rattle.calm_law.specs.Moving.{MoveFollows, EventFollows, sees_one, sees_moves}
use Rattle.component_law.proofs.NextMoves.{next_opens, plain_lines}

-- ---- a moment, and the next one

abbrev next_moment : (w : World) (h : List Line) (k : IsMoment w h) (m : Move) → due (plan_at k) w ≡ Some m.action
    → IsMoment (move w m).world (h ++ lines_in w m)
next_moment w h k m n =
    let there : due (plan_at k) (world_after k.before k.moves) ≡ Some m.action =
    ap (λ (v : World). due (plan_at k) v) (sym k.world_is) ∙ n in
    record {
      before = k.before;
      history = k.history;
      stands = k.stands;
      event = k.event;
      allowed = k.allowed;
      moves = k.moves ++ m ∷ [];
      are_due = due_more (plan_of k.before k.event) k.before k.moves m k.are_due there;
      world_is = ap (λ (v : World). (move v m).world) k.world_is ∙ sym (world_more k.before k.moves m);
      lines_are = ap (λ (ls : List Line). ls ++ lines_in w m) k.lines_are
          ∙ append_assoc k.history (lines_so_far k.before k.event k.moves) (lines_in w m)
          ∙ ap (λ (ls : List Line). k.history ++ ls)
          (ap (λ (v : World). lines_so_far k.before k.event k.moves ++ lines_in v m) k.world_is
          ∙ sym (so_far_more k.before k.event k.moves m there));
    }

-- ---- several moves

pub lines_all : World → List Move → List Line
lines_all w [] = []
lines_all w (m ∷ ms) = lines_in w m ++ lines_all (move w m).world ms

rest_follows : MoveFollows → (w : World) (h : List Line) (k : IsMoment w h) (ms : List Move) (t : Table) (c : CalmState)
    → AreDue (plan_at k) w ms → AreWritten (h ++ lines_all w ms) → AreOf (guarded k.history).sent t → Follows (seen h) c
    → Follows (seen (h ++ lines_all w ms)) (sees_moves t c w ms)
unfolding lines_all
rest_follows one w h k [] t c d a of f =
    subst (λ (ls : List Line). Follows (seen ls) c) (sym (append-nil h)) f
rest_follows one w h k (m ∷ ms) t c d a of f =
    let joined : (h ++ lines_in w m) ++ lines_all (move w m).world ms
    ≡ h ++ (lines_in w m ++ lines_all (move w m).world ms) =
    append_assoc h (lines_in w m) (lines_all (move w m).world ms) in
    let here : AreWritten ((h ++ lines_in w m) ++ lines_all (move w m).world ms) =
    subst (λ (ls : List Line). AreWritten ls) (sym joined) a in
    let due_then : AreDue (plan_at (next_moment w h k m d.0)) (move w m).world ms =
    subst (λ (p : Plan). AreDue p (move w m).world ms) (sym (plan_more (plan_of k.before k.event) k.moves m)) d.1 in
    subst (λ (ls : List Line). Follows (seen ls) (sees_moves t (sees_one t c w m) (move w m).world ms)) joined
    (rest_follows one (move w m).world (h ++ lines_in w m) (next_moment w h k m d.0) ms t (sees_one t c w m) due_then here of
    (one w h k m t c d.0 (written_front (h ++ lines_in w m) (lines_all (move w m).world ms) here) of f))

-- ---- all moves of an event

pub later_lines : (p : Plan) (w : World) (ms : List Move) → p.opening ≡ None → AreDue p w ms → lines_all w ms ≡ lines_of w ms
unfolding lines_all
later_lines p w [] o d = refl
later_lines p w (m ∷ ms) o d =
    ap (λ (ls : List Line). ls ++ lines_all (move w m).world ms)
    (plain_lines m.action (move w m).lines (next_opens p [] w m.action o d.0))
    ∙ ap (λ (ls : List Line). (move w m).lines ++ ls) (later_lines (went_on p m.action) (move w m).world ms refl d.1)

pub event_lines : (w : World) (e : Event) (m : Move) (ms : List Move) → AreDue (plan_of w e) w (m ∷ ms)
    → lines_all w (m ∷ ms) ≡ line.Event e ∷ lines_of w (m ∷ ms)
unfolding lines_all
event_lines w e m ms d =
    let opens : Opens e ≡ m.action = cc d.0 in
    ap (λ (a : Action). with_event a (move w m).lines ++ lines_all (move w m).world ms) (sym opens)
    ∙ ap (λ (ls : List Line). line.Event e ∷ ((move w m).lines ++ ls))
    (later_lines (went_on (plan_of w e) m.action) (move w m).world ms refl d.1)

pub event_follows : MoveFollows → EventFollows
event_follows one w h e m ms t c st allowed d a of f =
    let k : IsMoment w h = record {
      before = w;
      history = h;
      stands = st;
      event = e;
      allowed = allowed;
      moves = [];
      are_due = tt;
      world_is = refl;
      lines_are = sym (append-nil h);
    } in
    let lines : lines_all w (m ∷ ms) ≡ line.Event e ∷ lines_of w (m ∷ ms) = event_lines w e m ms d in
    subst (λ (ls : List Line). Follows (seen (h ++ ls)) (sees_moves t c w (m ∷ ms))) lines
    (rest_follows one w h k (m ∷ ms) t c d (subst (λ (ls : List Line). AreWritten (h ++ ls)) (sym lines) a) of f)
