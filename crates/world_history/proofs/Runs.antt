-- An event that goes on by one move.
use Rattle.std.proofs.Common.{◌≡◌, ◌++◌, ◌∷◌, [], List, Some, refl, sym, ap, ◌∙◌, append_assoc, None}
use Rattle.std.proofs.lemmas.List.{append-nil}
use Rattle.scenario_text.specs.declared.line.Line.{Line}
use Rattle.world_history.specs.State.{World}
use Rattle.world_history.specs.Sending.{Move, move}
use Rattle.world_history.specs.Plans.{Plan, due, went_on}
use Rattle.world_history.specs.Runs.{world_after, lines_of, AreDue, plan_after}

pub due_more : (p : Plan) (w : World) (ms : List Move) (m : Move) → AreDue p w ms
    → due (plan_after p ms) (world_after w ms) ≡ Some m.action → AreDue p w (ms ++ m ∷ [])
due_more p w [] m b n = (n, tt)
due_more p w (x ∷ ms) m b n = (b.0, due_more (went_on p x.action) (move w x).world ms m b.1 n)

pub plan_more : (p : Plan) (ms : List Move) (m : Move)
    → plan_after p (ms ++ m ∷ []) ≡ went_on (plan_after p ms) m.action
plan_more p [] m = refl
plan_more p (x ∷ ms) m = plan_more (went_on p x.action) ms m

pub world_more : (w : World) (ms : List Move) (m : Move)
    → world_after w (ms ++ m ∷ []) ≡ (move (world_after w ms) m).world
world_more w [] m = refl
world_more w (x ∷ ms) m = world_more (move w x).world ms m

pub lines_more : (w : World) (ms : List Move) (m : Move)
    → lines_of w (ms ++ m ∷ []) ≡ lines_of w ms ++ (move (world_after w ms) m).lines
lines_more w [] m = append-nil (move w m).lines
lines_more w (x ∷ ms) m =
    ap (λ (l : List Line). (move w x).lines ++ l) (lines_more (move w x).world ms m)
    ∙ sym (append_assoc (move w x).lines (lines_of (move w x).world ms) _)

pub no_opening : (p : Plan) (ms : List Move) → p.opening ≡ None → (plan_after p ms).opening ≡ None
no_opening p [] e = e
no_opening p (m ∷ ms) e = no_opening (went_on p m.action) ms refl
