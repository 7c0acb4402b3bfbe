-- A history that goes on by one event, or by a part of one.
use Rattle.std.proofs.Common.{◌≡◌, ℕ, ◌+◌, ◌-◌, ◌++◌, ◌∷◌, [], List, Bool, true, false, cond, length, refl, sym, ap, subst, ◌∙◌, append_assoc, ltb}
use Rattle.std.proofs.lemmas.List.{append-nil}
use Rattle.scenario_text.specs.declared.line.Line.{Line}
use Rattle.scenario_text.specs.declared.line.Line.TheVariants as line
use Rattle.world_history.specs.declared.limits.TheConstants.{MAX_KEPT}
use Rattle.world_history.specs.State.{World, empty_world}
use Rattle.world_history.specs.Handed.{Post}
use Rattle.world_history.specs.Moves.{Act, acts}
use Rattle.world_history.specs.Sending.{cost, sent_line, sent_lines, sends_all, fitting, cut_lines}
use Rattle.world_history.specs.Plans.{plan_of}
use Rattle.world_history.specs.Runs.{world_after, lines_of, IsFront, Carries}
use Rattle.world_history.specs.History.{Step, AreCarried, end_of, lines_of_steps, StandsFor, OneEventMore, OneEventCut, FullIsCut}
use Rattle.world_history.specs.History.Begins.{Part}
use Rattle.world_history.proofs.Runs.{due_more, lines_more}

-- ---- one event more

pub carried_more : (w : World) (steps : List Step) (s : Step) → AreCarried w steps
    → Carries (end_of w steps) s.event s.lines s.after
    → AreCarried w (steps ++ s ∷ [])
carried_more w [] s r c = (c, tt)
carried_more w (x ∷ steps) s r c = (r.0, carried_more x.after steps s r.1 c)

pub end_more : (w : World) (steps : List Step) (s : Step) → end_of w (steps ++ s ∷ []) ≡ s.after
end_more w [] s = refl
end_more w (x ∷ steps) s = end_more x.after steps s

pub steps_more : (steps : List Step) (s : Step) → lines_of_steps (steps ++ s ∷ []) ≡ lines_of_steps steps ++ s.lines
steps_more [] s = append-nil s.lines
steps_more (x ∷ steps) s =
    ap (λ (l : List Line). x.lines ++ l) (steps_more steps s)
    ∙ sym (append_assoc x.lines (lines_of_steps steps) s.lines)

pub one_event_more : OneEventMore
one_event_more w w' h lines e s c =
    let step : Step = record { event = e; lines = lines; after = w' } in
    record {
      steps = s.steps ++ step ∷ [];
      carried =
          carried_more empty_world s.steps step s.carried (subst (λ (x : World). Carries x e lines w') s.world_is c);
      world_is = sym (end_more empty_world s.steps step);
      lines_are = ap (λ (l : List Line). l ++ lines) s.lines_are ∙ sym (steps_more s.steps step);
    }

pub stands_empty : StandsFor empty_world []
stands_empty = record { steps = []; carried = tt; world_is = refl; lines_are = refl }

pub one_event_cut : OneEventCut
one_event_cut w h lines e s c = record {
  world = w;
  whole = h;
  stands = s;
  last = lines;
  begins =
      Part e c;
  lines_are = refl;
}

-- ---- lines up to the limit are a front of all lines

front_on : (x : Line) (front whole : List Line) → IsFront front whole → IsFront (x ∷ front) (x ∷ whole)
front_on x front whole f = (f.0, ap (λ (l : List Line). x ∷ l) f.1)

fitting_step : (b : Bool) (room n : ℕ) (p : Post) (ps : List Post)
    → IsFront (sent_lines (n + 1) (fitting (room - cost p) ps)) (sent_lines (n + 1) ps)
    → IsFront (sent_lines n (cond b [] (p ∷ fitting (room - cost p) ps))) (sent_lines n (p ∷ ps))
unfolding sent_lines
fitting_step true room n p ps f = (sent_lines n (p ∷ ps), refl)
fitting_step false room n p ps f = front_on (sent_line n p.message) _ _ f

fitting_front : (room n : ℕ) (ps : List Post) → IsFront (sent_lines n (fitting room ps)) (sent_lines n ps)
unfolding fitting sent_lines
fitting_front room n [] = ([], refl)
fitting_front room n (p ∷ ps) = fitting_step (ltb room (cost p)) room n p ps (fitting_front (room - cost p) (n + 1) ps)

front_after : (told front whole : List Line) → IsFront front whole → IsFront (told ++ front) (told ++ whole)
front_after told front whole f = (f.0, ap (λ (l : List Line). told ++ l) f.1 ∙ sym (append_assoc told front f.0))

cut_front : (a : Act) → IsFront (cut_lines a) (sends_all a).lines
cut_front a =
    front_after a.told _ _ (fitting_front (MAX_KEPT - a.world.network.kept) (length a.world.network.messages) a.posts)

-- an event that stops at the limit is one that is cut
pub full_is_cut : FullIsCut
full_is_cut w e lines c =
    let v : World = world_after w c.moves in
    let a : Act = acts v c.last.chosen c.last.action in
    let f : IsFront (lines_of w c.moves ++ cut_lines a) (lines_of w c.moves ++ (sends_all a).lines) =
    front_after (lines_of w c.moves) (cut_lines a) (sends_all a).lines (cut_front a) in
    record {
      allowed = c.allowed;
      moves = c.moves ++ c.last ∷ [];
      are_due = due_more (plan_of w e) w c.moves c.last c.are_due c.last_is_due;
      part = (
        f.0,
        ap (λ (l : List Line). line.Event e ∷ l) (lines_more w c.moves c.last ∙ f.1)
            ∙ ap (λ (l : List Line). l ++ f.0) (sym c.lines_are),
      );
    }
