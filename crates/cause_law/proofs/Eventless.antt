-- No line that a move tells or sends begins an event.
use Rattle.std.proofs.Common.{◌≡◌, ℕ, List, [], ◌∷◌, ◌++◌, true, false, true≢false, None, refl, sym, subst, ◌∙◌, inl, inr, Option, Some}
use Rattle.std.specs.List.{list_any}
use Rattle.std.proofs.lemmas.Bool.{cases_Bool, or_parts, or_from}
use Rattle.std.proofs.lemmas.List.Folds.{list_any-append}
use Rattle.scenario_text.specs.declared.event.Event.{Event}
use Rattle.scenario_text.specs.declared.event.Event.TheVariants as event
use Rattle.scenario_text.specs.declared.line.Line.{Line}
use Rattle.scenario_text.specs.declared.line.Line.TheVariants as line
use Rattle.world_history.specs.State.{World, DriveAt, at_number}
use Rattle.world_history.specs.Moves.{Action, Opens, Delivers, TimesOut, Pends, injects_at, injects, delivers, times_out, pends, begins, acts}
use Rattle.world_history.specs.Sending.{Move, move, sends_all, sent_lines}
use Rattle.world_history.specs.Plans.{Rule, due_by, went_on, plan_of}
use Rattle.world_history.specs.Runs.{lines_of, AreDue}
use Rattle.world_history.specs.Reading.{is_head}
use Rattle.world_history.proofs.ReadMessages.{never_opens}
use Rattle.component_law.specs.Opening.{is_opening}
use Rattle.component_law.proofs.Shapes.{Bare, Shape, IsHeaded, Nothing as NoLine, Left, Heads, is_event as begins_one, sent_bare, delivers_shape, times_shape, pends_shape}
use Rattle.component_law.proofs.MoveOpening.{begins_bare}
use Rattle.cause_law.specs.Lines.{is_event}

-- ---- lines among which no event begins

abbrev pub NoEvent : List Line → Type 0
NoEvent ls = list_any is_event ls ≡ false

pub first_plain : (l : Line) (ls : List Line) → NoEvent (l ∷ ls) → (is_event l ≡ false) × NoEvent ls
first_plain l ls h = or_parts (is_event l) (list_any is_event ls) h

pub more_plain : (l : Line) (ls : List Line) → is_event l ≡ false → NoEvent ls → NoEvent (l ∷ ls)
more_plain l ls p q = or_from (is_event l) (list_any is_event ls) p q

pub all_plain : (xs ys : List Line) → NoEvent xs → NoEvent ys → NoEvent (xs ++ ys)
all_plain xs ys p q =
    list_any-append is_event xs ys ∙ or_from (list_any is_event xs) (list_any is_event ys) p q

no_head : (l : Line) → is_head l ≡ false → is_event l ≡ false
no_head (line.Event e) h = absurd (true≢false h)
no_head l h = refl

none_begins : (l : Line) → begins_one l ≡ false → is_event l ≡ false
none_begins (line.Event e) h = absurd (true≢false h)
none_begins l h = refl

-- ---- the moves of an event

bare_plain : (ls : List Line) → Bare ls → NoEvent ls
bare_plain [] b = refl
bare_plain (l ∷ ls) b = more_plain l ls (no_head l b.0) (bare_plain ls b.1)

headed_plain : (ls : List Line) → IsHeaded ls → NoEvent ls
headed_plain ls x =
    subst NoEvent (sym x.are) (more_plain x.head x.rest (none_begins x.head x.inside) (bare_plain x.rest x.bare))

shape_plain : (ls : List Line) → Shape ls → NoEvent ls
shape_plain ls (NoLine e) = subst NoEvent (sym e) refl
shape_plain ls (Left c k e) = subst NoEvent (sym e) refl
shape_plain ls (Heads x) = headed_plain ls x

pub later_plain : (w : World) (r : Rule) (chosen : List ℕ) (a : Action) → due_by w r ≡ Some a
    → NoEvent (sends_all (acts w chosen a)).lines
later_plain w r chosen (Opens e) d = absurd (never_opens w r e d)
later_plain w r chosen (Delivers n) d = shape_plain (sends_all (delivers w chosen n)).lines (delivers_shape w chosen n)
later_plain w r chosen (TimesOut c k) d = shape_plain (sends_all (times_out w c k)).lines (times_shape w c k)
later_plain w r chosen (Pends c) d = shape_plain (sends_all (pends w c)).lines (pends_shape w c)

rest_plain : (r : Rule) (w : World) (ms : List Move) → AreDue (record { opening = None; rule = r }) w ms
    → NoEvent (lines_of w ms)
rest_plain r w [] d = refl
rest_plain r w (m ∷ ms) d =
    all_plain (move w m).lines (lines_of (move w m).world ms) (later_plain w r m.chosen m.action d.0)
    (rest_plain (went_on (record { opening = None; rule = r }) m.action).rule (move w m).world ms d.1)

-- ---- what an event begins with

injects_plain : (w : World) (d : ℕ) (bytes : List ℕ) (a : Option DriveAt)
    → NoEvent (sends_all (injects_at w d bytes a)).lines
unfolding sent_lines
injects_plain w d bytes None = refl
injects_plain w d bytes (Some a) = refl

inject_plain : (w : World) (d : ℕ) (bytes : List ℕ) → NoEvent (sends_all (injects w d bytes)).lines
unfolding injects
inject_plain w d bytes = injects_plain w d bytes (at_number w.drives d)

begins_plain : (w : World) (chosen : List ℕ) (e : Event) → is_opening e ≡ true
    → NoEvent (sends_all (begins w chosen e)).lines
unfolding begins
begins_plain w chosen (event.Deliver n) o = shape_plain (sends_all (delivers w chosen n)).lines (delivers_shape w chosen n)
begins_plain w chosen (event.Timeout c k) o = shape_plain (sends_all (times_out w c k)).lines (times_shape w c k)
begins_plain w chosen (event.Inject d bytes) o = inject_plain w d bytes
begins_plain w chosen e o = absurd (true≢false (sym o))

pub opens_plain : (w : World) (chosen : List ℕ) (e : Event) → NoEvent (sends_all (begins w chosen e)).lines
opens_plain w chosen e = elim (cases_Bool (is_opening e)) [
  | inl o ↦ begins_plain w chosen e o
  | inr o ↦ bare_plain (sends_all (begins w chosen e)).lines (sent_bare (begins w chosen e) (begins_bare w chosen e o))
]

-- no line of an event's moves is an event's
pub moves_plain : (w : World) (e : Event) (ms : List Move) → AreDue (plan_of w e) w ms → NoEvent (lines_of w ms)
moves_plain w e [] d = refl
moves_plain w e (m ∷ ms) d =
    let opens : Opens e ≡ m.action = cc d.0 in
    all_plain (move w m).lines (lines_of (move w m).world ms)
    (subst (λ (a : Action). NoEvent (sends_all (acts w m.chosen a)).lines) opens (opens_plain w m.chosen e))
    (rest_plain (went_on (plan_of w e) m.action).rule (move w m).world ms d.1)
