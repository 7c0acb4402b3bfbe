-- What holds of each line of an event, where it holds of the event's own line: no other event begins inside it.
use Rattle.std.proofs.Common.{◌≡◌, ℕ, ◌++◌, ◌∷◌, [], List, false, true≢false, None, refl, sym, subst, inl, inr}
use Rattle.std.proofs.lemmas.Bool.{cases_Bool}
use Rattle.scenario_text.specs.declared.event.Event.{Event}
use Rattle.scenario_text.specs.declared.line.Line.{Line}
use Rattle.scenario_text.specs.declared.line.Line.TheVariants as line
use Rattle.world_history.specs.State.{World}
use Rattle.world_history.specs.Moves.{Action, Opens, begins, acts}
use Rattle.world_history.specs.Sending.{Move, move, sends_all}
use Rattle.world_history.specs.Plans.{Plan, went_on, plan_of}
use Rattle.world_history.specs.Refusals.{refusal}
use Rattle.world_history.specs.Runs.{lines_of, AreDue}
use Rattle.world_history.specs.Reading.{is_head}
use Rattle.component_law.specs.Words.{Each}
use Rattle.component_law.specs.Opening.{is_opening}
use Rattle.component_law.specs.LeftPending.{left_pending}
use Rattle.component_law.proofs.Shapes.{Bare, Shape, IsHeaded, Nothing, Left, Heads, is_event, sent_bare}
use Rattle.component_law.proofs.MoveOpening.{opens_headed, begins_bare}
use Rattle.component_law.proofs.NextMoves.{next_opens, acts_shape}

-- ---- lines among which no event begins

no_event : (l : Line) → is_head l ≡ false → is_event l ≡ false
no_event (line.Event e) h = absurd (true≢false h)
no_event l h = refl

module _ (P : Line → Type 0) (inside : (l : Line) → is_event l ≡ false → P l) where
  bare_each : (ls : List Line) → Bare ls → Each P ls
  bare_each [] b = tt
  bare_each (l ∷ ls) b = (inside l (no_event l b.0), bare_each ls b.1)

  headed_each : (ls : List Line) → IsHeaded ls → Each P ls
  headed_each ls x =
      subst (λ (ys : List Line). Each P ys) (sym x.are) (inside x.head x.inside, bare_each x.rest x.bare)

  pub shape_each : (ls : List Line) → Shape ls → Each P ls
  shape_each ls (Nothing e) = subst (λ (ys : List Line). Each P ys) (sym e) tt
  shape_each ls (Left c k e) = subst (λ (ys : List Line). Each P ys) (sym e) (inside (left_pending c k) refl, tt)
  shape_each ls (Heads x) = headed_each ls x

  pub all_each : (xs ys : List Line) → Each P xs → Each P ys → Each P (xs ++ ys)
  all_each [] ys a b = b
  all_each (x ∷ xs) ys a b = (a.0, all_each xs ys a.1 b)

  -- ---- the moves of an event

  later_each : (p : Plan) (w : World) (ms : List Move) → p.opening ≡ None → AreDue p w ms → Each P (lines_of w ms)
  later_each p w [] o d = tt
  later_each p w (m ∷ ms) o d =
      all_each (move w m).lines (lines_of (move w m).world ms)
      (shape_each (move w m).lines (acts_shape w m.chosen m.action (next_opens p [] w m.action o d.0)))
      (later_each (went_on p m.action) (move w m).world ms refl d.1)

  pub opens_each : (w : World) (chosen : List ℕ) (e : Event) → refusal w e ≡ None
      → Each P (sends_all (begins w chosen e)).lines
  opens_each w chosen e r = elim (cases_Bool (is_opening e)) [
    | inl o ↦ headed_each (sends_all (begins w chosen e)).lines (opens_headed w chosen e o r)
    | inr o ↦
        bare_each (sends_all (begins w chosen e)).lines (sent_bare (begins w chosen e) (begins_bare w chosen e o))
  ]

  pub event_each : (w : World) (e : Event) (m : Move) (ms : List Move) → refusal w e ≡ None
      → AreDue (plan_of w e) w (m ∷ ms) → P (line.Event e) → Each P (line.Event e ∷ lines_of w (m ∷ ms))
  event_each w e m ms r d i =
      let opens : Opens e ≡ m.action = cc d.0 in (
        i,
        all_each (move w m).lines (lines_of (move w m).world ms)
            (subst (λ (a : Action). Each P (sends_all (acts w m.chosen a)).lines) opens (opens_each w m.chosen e r))
            (later_each (went_on (plan_of w e) m.action) (move w m).world ms refl d.1),
      )
