-- An event that goes on by a move.
use Rattle.std.proofs.Common.{◌≡◌, ◌++◌, ◌∷◌, [], List, Some, Result, Ok, Err, refl, sym, ap, subst, ◌∙◌, append_assoc}
use Rattle.std.proofs.lemmas.List.{append-nil}
use Rattle.scenario_text.specs.declared.event.Event.{Event}
use Rattle.scenario_text.specs.declared.line.Line.{Line}
use Rattle.scenario_text.specs.declared.line.Line.TheVariants as line
use Rattle.world_history.specs.declared.err.WorldErr.{WorldErr}
use Rattle.world_history.specs.declared.err.WorldErr.TheVariants.{NoName, Taken, Dead, Alive, NotKept, Down, Running, NoMessage, KeptFull, Memory}
use Rattle.world_history.specs.State.{World}
use Rattle.world_history.specs.Moves.{Action, acts}
use Rattle.world_history.specs.Sending.{Move, move, cut_lines}
use Rattle.world_history.specs.Plans.{Plan, due, went_on, plan_of}
use Rattle.world_history.specs.Runs.{world_after, lines_of, AreDue, plan_after}
use Rattle.world_history.specs.History.Begins.{Part}
use Rattle.world_history.proofs.Runs.{due_more, plan_more, world_more, lines_more}
use Rattle.layout_world.specs.declared.parties.Parties.{Parties}
use Rattle.layout_world.specs.State.{Shows}
use Rattle.world_watch.specs.Sighted.{Table}
use Rattle.world_watch.specs.Guessing.{GuessState}
use Rattle.world_calm.specs.Seeing.{CalmState}
use Rattle.world_watch.specs.State.{WatchState}
use Rattle.calm_law.specs.Moving.{sees_one, sees_moves}
use Rattle.layout_world.specs.Going.{Sees, HasSeenAll, MovesBy, Far, Broken, Comes}

-- ---- one more move

-- ---- an event

-- what is appended behind the lines of an event
behind_lines : (w : World) (e : Event) (before lines after more : List Line) (ms : List Move) → after ≡ lines ++ more
    → lines ≡ before ++ line.Event e ∷ lines_of w ms → after ≡ before ++ line.Event e ∷ (lines_of w ms ++ more)
behind_lines w e before lines after more ms a l =
    a ∙ ap (λ (x : List Line). x ++ more) l ∙ append_assoc before (line.Event e ∷ lines_of w ms) more

-- the lines end here
pub broken_here : (w : World) (e : Event) (before : List Line) (watch : WatchState) (plan : Plan) (p : Parties)
    (now : WatchState) (lines : List Line) → Far w e before watch plan p now lines → Broken w e before lines
broken_here w e before watch plan p now lines f =
    let own : List Line = line.Event e ∷ lines_of w f.moves in
    record {
      lines = own;
      appended = f.lines_are;
      begins = Part e (record {
        allowed = f.allowed;
        moves = f.moves;
        are_due = f.are_due;
        part = ([], sym (append-nil own));
      });
    }

-- the watch saw one more move
sees_more : (t : Table) (c : CalmState) (w : World) (ms : List Move) (m : Move)
    → sees_moves t c w (ms ++ m ∷ []) ≡ sees_one t (sees_moves t c w ms) (world_after w ms) m
sees_more t c w [] m = refl
sees_more t c w (x ∷ ms) m = sees_more t (sees_one t c w x) (move w x).world ms m

seen_more : (w : World) (ms : List Move) (m : Move) (watch now next : WatchState) → HasSeenAll w ms watch now
    → Sees (world_after w ms) m now next → HasSeenAll w (ms ++ m ∷ []) watch next
seen_more w ms m watch now next f s = (
  s.0 ∙ f.0,
  s.1
      ∙ ap (λ (g : GuessState). sees_one g.sightings now.moments (world_after w ms) m) f.0
      ∙ ap (λ (c : CalmState). sees_one watch.guesses.sightings c (world_after w ms) m) f.1
      ∙ sym (sees_more watch.guesses.sightings watch.moments w ms m),
)

-- a move that was due
pub comes : (w : World) (e : Event) (before : List Line) (watch : WatchState) (plan : Plan) (p : Parties)
    (now : WatchState) (lines : List Line) (f : Far w e before watch plan p now lines) (action : Action) (new : Parties)
    (next : WatchState) (after : List Line) (r : Result (Unit {0}) WorldErr)
    → due plan (world_after w f.moves) ≡ Some action
    → MovesBy (world_after w f.moves) action new now next lines after r
    → Comes w e before watch (went_on plan action) new next after r
comes w e before watch plan p now_seen lines f action new next after (Ok u) d b =
    let m : Move = record { action = action; chosen = b.chosen } in
    let now : World = world_after w f.moves in
    let due_now : due (plan_after (plan_of w e) f.moves) now ≡ Some action = ap (λ (x : Plan). due x now) f.plan_is ∙ d in
    record {
      allowed = f.allowed;
      moves = f.moves ++ m ∷ [];
      are_due = due_more (plan_of w e) w f.moves m f.are_due due_now;
      plan_is = plan_more (plan_of w e) f.moves m ∙ ap (λ (x : Plan). went_on x action) f.plan_is;
      lines_are = behind_lines w e before lines after (move now m).lines f.moves b.performed.1 f.lines_are
          ∙ ap (λ (x : List Line). before ++ line.Event e ∷ x) (sym (lines_more w f.moves m));
      shows = subst (λ (x : World). Shows new x) (sym (world_more w f.moves m)) b.performed.0;
      sees = seen_more w f.moves m watch now_seen next f.sees b.sees;
    }
comes w e before watch plan p now_seen lines f action new next after (Err KeptFull) d b =
    let now : World = world_after w f.moves in
    record {
      lines = line.Event e ∷ (lines_of w f.moves ++ cut_lines (acts now b.chosen action));
      appended = behind_lines w e before lines after (cut_lines (acts now b.chosen action)) f.moves b.performed.1 f.lines_are;
      fills = record {
        allowed = f.allowed;
        moves = f.moves;
        are_due = f.are_due;
        last = record { action = action; chosen = b.chosen };
        last_is_due = ap (λ (x : Plan). due x now) f.plan_is ∙ d;
        passes = b.performed.0;
        lines_are = refl;
      };
    }
comes w e before watch plan p now_seen lines f action new next after (Err Memory) d b =
    let m : Move = record { action = action; chosen = b.chosen } in
    let now : World = world_after w f.moves in
    let front : List Line = b.performed.0 in
    let rest : List Line = b.performed.2.0 in
    let due_now : due (plan_after (plan_of w e) f.moves) now ≡ Some action = ap (λ (x : Plan). due x now) f.plan_is ∙ d in
    record {
      lines = line.Event e ∷ (lines_of w f.moves ++ front);
      appended = behind_lines w e before lines after front f.moves b.performed.1 f.lines_are;
      begins = Part e (record {
        allowed = f.allowed;
        moves = f.moves ++ m ∷ [];
        are_due = due_more (plan_of w e) w f.moves m f.are_due due_now;
        part = (
          rest,
          ap (λ (x : List Line). line.Event e ∷ x) (lines_more w f.moves m
              ∙ ap (λ (x : List Line). lines_of w f.moves ++ x) b.performed.2.1
              ∙ sym (append_assoc (lines_of w f.moves) front rest)),
        );
      });
    }
comes w e before watch plan p now_seen lines f action new next after (Err NoName) d b = absurd b.performed
comes w e before watch plan p now_seen lines f action new next after (Err Taken) d b = absurd b.performed
comes w e before watch plan p now_seen lines f action new next after (Err Dead) d b = absurd b.performed
comes w e before watch plan p now_seen lines f action new next after (Err Alive) d b = absurd b.performed
comes w e before watch plan p now_seen lines f action new next after (Err NotKept) d b = absurd b.performed
comes w e before watch plan p now_seen lines f action new next after (Err Down) d b = absurd b.performed
comes w e before watch plan p now_seen lines f action new next after (Err Running) d b = absurd b.performed
comes w e before watch plan p now_seen lines f action new next after (Err (NoMessage k)) d b = absurd b.performed
