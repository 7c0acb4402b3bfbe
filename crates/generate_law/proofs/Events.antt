-- The events of a history, by its lines and by its steps.
use Rattle.std.proofs.Common.{◌≡◌, List, [], ◌∷◌, ◌++◌, map, false, refl, sym, ap, ◌∙◌, append_assoc}
use Rattle.scenario_text.specs.declared.event.Event.{Event}
use Rattle.scenario_text.specs.declared.line.Line.{Line}
use Rattle.scenario_text.specs.declared.line.Line.TheVariants as line
use Rattle.world_history.specs.State.{World, empty_world}
use Rattle.world_history.specs.Runs.{Carries, lines_of}
use Rattle.world_history.specs.History.{Step, AreCarried, lines_of_steps}
use Rattle.cause_law.specs.Lines.{is_event}
use Rattle.cause_law.proofs.Eventless.{NoEvent, first_plain, moves_plain}
use Rattle.generate_law.specs.Plays.{Plays}

-- the event that begins at a line, if one does
abbrev event_at : Line → List Event
event_at (line.Event e) = e ∷ []
event_at l = []

-- those of several lines, in order
abbrev pub events_in : List Line → List Event
events_in [] = []
events_in (l ∷ ls) = event_at l ++ events_in ls

pub events_more : (xs ys : List Line) → events_in (xs ++ ys) ≡ events_in xs ++ events_in ys
events_more [] ys = refl
events_more (x ∷ xs) ys =
    ap (λ (es : List Event). event_at x ++ es) (events_more xs ys) ∙ sym (append_assoc (event_at x) (events_in xs) (events_in ys))

none_at : (l : Line) → is_event l ≡ false → event_at l ≡ []
none_at (line.Event e) n = absurd (cc n)
none_at l n = refl

pub none_in : (ls : List Line) → NoEvent ls → events_in ls ≡ []
none_in [] n = refl
none_in (l ∷ ls) n =
    let p = first_plain l ls n in
    ap (λ (es : List Event). es ++ events_in ls) (none_at l p.0) ∙ none_in ls p.1

one_in_event : (w v : World) (e : Event) (lines : List Line) → Carries w e lines v → events_in lines ≡ e ∷ []
one_in_event w v e lines c =
    ap events_in c.lines_are ∙ ap (λ (es : List Event). e ∷ es) (none_in (lines_of w c.moves) (moves_plain w e c.moves c.are_due))

steps_have : (w : World) (steps : List Step) → AreCarried w steps
    → events_in (lines_of_steps steps) ≡ map (λ (s : Step). s.event) steps
steps_have w [] r = refl
steps_have w (s ∷ steps) r =
    events_more s.lines (lines_of_steps steps)
    ∙ ap (λ (es : List Event). es ++ events_in (lines_of_steps steps)) (one_in_event w s.after s.event s.lines r.0)
    ∙ ap (λ (es : List Event). s.event ∷ es) (steps_have s.after steps r.1)

-- the lines of a history have its events
pub events_are : (events : List Event) (w : World) (h : List Line) → Plays events w h → events_in h ≡ events
events_are events w h p =
    ap events_in p.stands.lines_are ∙ steps_have empty_world p.stands.steps p.stands.carried ∙ p.events_are
