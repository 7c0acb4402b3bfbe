-- The lines of events that a text may have are those of a text.
use Rattle.std.proofs.Common.{◌≡◌, ◌∷◌, [], List, false, true≢false, refl, sym, ap, subst, ◌∙◌, map}
use Rattle.scenario_text.specs.declared.event.Event.{Event}
use Rattle.scenario_text.specs.declared.line.Line.{Line}
use Rattle.scenario_text.specs.declared.line.Line.TheVariants as line
use Rattle.scenario_text.specs.Spelling.{Fits}
use Rattle.world_history.specs.State.{World, empty_world}
use Rattle.world_history.specs.Plans.{plan_of}
use Rattle.world_history.specs.Sending.{Move}
use Rattle.world_history.specs.Runs.{lines_of, AreDue, IsOver, plan_after, Carries}
use Rattle.world_history.specs.History.{Step, AreCarried, lines_of_steps}
use Rattle.component_law.specs.Words.{Each}
use Rattle.exchange_law.specs.Text.{IsOfText, AreOfText}
use Rattle.component_law.proofs.Shapes.{is_event}
use Rattle.component_law.proofs.Inside.{all_each, event_each}
use Rattle.history_claims.specs.Texts.{EventsFit, EventsMakeText}

pub text_inside : (l : Line) → is_event l ≡ false → IsOfText l
text_inside (line.Event e) i = absurd (true≢false i)
text_inside l i = tt

event_text : (w v : World) (e : Event) (lines : List Line) (c : Carries w e lines v) (ms : List Move) → c.moves ≡ ms
    → Fits e → Each IsOfText lines
event_text w v e lines c [] is f = absurd (cc (subst (λ (l : List Move). IsOver (plan_after (plan_of w e) l) v) is c.over))
event_text w v e lines c (m ∷ ms) is f =
    let same : lines ≡ line.Event e ∷ lines_of w (m ∷ ms) =
    c.lines_are ∙ ap (λ (l : List Move). line.Event e ∷ lines_of w l) is in
    subst (Each IsOfText) (sym same)
    (event_each IsOfText text_inside w e m ms c.allowed (subst (AreDue (plan_of w e) w) is c.are_due) f)

steps_text : (w : World) (steps : List Step) → AreCarried w steps → EventsFit (map (λ (x : Step). x.event) steps)
    → Each IsOfText (lines_of_steps steps)
steps_text w [] carried f = tt
steps_text w (s ∷ steps) carried f =
    all_each IsOfText text_inside s.lines (lines_of_steps steps)
    (event_text w s.after s.event s.lines carried.0 carried.0.moves refl f.0)
    (steps_text s.after steps carried.1 f.1)

pub each_text : (ls : List Line) → Each IsOfText ls → AreOfText ls
each_text [] e = tt
each_text (l ∷ ls) e = (e.0, each_text ls e.1)

pub events_make_text : EventsMakeText
events_make_text w h s f =
    subst AreOfText (sym s.lines_are) (each_text (lines_of_steps s.steps) (steps_text empty_world s.steps s.carried f))
