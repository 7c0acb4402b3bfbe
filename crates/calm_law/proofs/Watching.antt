-- All that is kept goes on with an event.
use Rattle.std.proofs.Common.{◌≡◌, ◌++◌, ◌∷◌, [], List, true, false, true≢false, None, refl, sym, subst}
use Rattle.scenario_text.specs.declared.event.Event.{Event}
use Rattle.scenario_text.specs.declared.line.Line.{Line}
use Rattle.scenario_text.specs.declared.line.Line.TheVariants as line
use Rattle.world_history.specs.State.{World}
use Rattle.world_history.specs.Sending.{Move}
use Rattle.world_history.specs.Plans.{plan_of}
use Rattle.world_history.specs.Refusals.{refusal}
use Rattle.world_history.specs.Runs.{lines_of, AreDue}
use Rattle.world_history.specs.Calm.{seen}
use Rattle.world_calm.specs.Seeing.{CalmState}
use Rattle.component_law.specs.Words.{Each}
use Rattle.calm_law.specs.Following.{Follows}
use Rattle.history_law.specs.Read.{is_written, is_written_line, AreWritten}
use Rattle.calm_law.specs.Moving.{EventFollows}
use Rattle.calm_law.specs.Watching.{WatchesEvent}
use Rattle.component_law.proofs.Shapes.{is_event}
use Rattle.component_law.proofs.Inside.{event_each}

-- ---- the lines of an event that a text may have

written_inside : (l : Line) → is_event l ≡ false → is_written_line l ≡ true
written_inside (line.Event e) i = absurd (true≢false i)
written_inside l i = refl

written_each : (ls : List Line) → Each (λ (l : Line). is_written_line l ≡ true) ls → AreWritten ls
written_each [] a = tt
written_each (l ∷ ls) a = (a.0, written_each ls a.1)

written_all : (xs ys : List Line) → AreWritten xs → AreWritten ys → AreWritten (xs ++ ys)
written_all [] ys a b = b
written_all (x ∷ xs) ys a b = (a.0, written_all xs ys a.1 b)

event_written : (w : World) (e : Event) (m : Move) (ms : List Move) → refusal w e ≡ None
    → AreDue (plan_of w e) w (m ∷ ms) → is_written e ≡ true → AreWritten (line.Event e ∷ lines_of w (m ∷ ms))
event_written w e m ms r d i =
    written_each (line.Event e ∷ lines_of w (m ∷ ms))
    (event_each (λ (l : Line). is_written_line l ≡ true) written_inside w e m ms r d i)

-- ---- all that is kept

pub watches_event : EventFollows → WatchesEvent
watches_event follows w h e [] after old new st r d over i k told moments = absurd (cc over)
watches_event follows w h e (m ∷ ms) after old new st r d over i k told moments =
    let written : AreWritten (h ++ line.Event e ∷ lines_of w (m ∷ ms)) =
    written_all h (line.Event e ∷ lines_of w (m ∷ ms)) k.written (event_written w e m ms r d i) in
    record {
      written = written;
      told = told;
      moments = subst (λ (c : CalmState). Follows (seen (h ++ line.Event e ∷ lines_of w (m ∷ ms))) c) (sym moments)
          (follows w h e m ms old.guesses.sightings old.moments st r d written k.told.guesses.sightings k.moments);
    }
