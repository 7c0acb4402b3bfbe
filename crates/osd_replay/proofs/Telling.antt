-- Histories that go on by one event.
use Rattle.std.proofs.Common.{Bool, ◌≡◌, ◌≤◌, List, [], ◌∷◌, ◌++◌, refl, sym, ap, subst, ◌∙◌, append_assoc, arith}
use Rattle.std.proofs.lemmas.List.{append-nil, map-append}
use Rattle.scenario_text.specs.declared.event.Event.{Event}
use Rattle.scenario_text.specs.declared.line.Line.{Line}
use Rattle.scenario_text.specs.declared.line.Line.TheVariants.{Last}
use Rattle.world_history.specs.State.{World, empty_world}
use Rattle.world_history.specs.Runs.{Carries}
use Rattle.world_history.specs.History.{Step, end_of, lines_of_steps}
use Rattle.world_history.specs.History.Begins.{Nothing}
use Rattle.world_history.specs.Calm.{calm}
use Rattle.calm_law.specs.Watching.{WatchesAll}
use Rattle.layout_world.specs.State.{WorldState}
use Rattle.history_claims.specs.Carried.{AreCarried}
use Rattle.history_claims.specs.Sound.{IsSound, HistoriesAreSound}
use Rattle.osd_replay.specs.Transcript.{Tells, EndsWith}
use Rattle.exchange_law.specs.Text.{AreOfText, AreFew}
use Rattle.history_claims.specs.Texts.{EventsFit}
use Rattle.world_history.specs.declared.limits.TheConstants.{MAX_KEPT}
use Rattle.world_history.proofs.Histories.{carried_more, end_more, steps_more}

-- the flags that are kept are the history's
pub last_said : (s : WorldState) (h : List Line) → WatchesAll h s.watch
    → EndsWith h (Last s.watch.moments.calm s.watch.guesses.unguessed)
last_said s h k =
    ap (λ (b : Bool). Last b s.watch.guesses.unguessed) k.moments.calm
    ∙ ap (λ (b : Bool). Last (calm h) b) k.told.guesses.unguessed

-- a history for which a world stands is sound, as each lawful one
pub told_sound : HistoriesAreSound → (events : List Event) (w : World) (h : List Line) → Tells events w h → IsSound h
told_sound law events w h t =
    law.sound h
    (record {
      world = w;
      whole = h;
      stands = t.stands;
      last = [];
      begins = Nothing refl;
      lines_are = sym (append-nil h);
    })

-- it is of a scenario's text, where a text may have these events
pub told_text : HistoriesAreSound → (events : List Event) (w : World) (h : List Line) → Tells events w h
    → EventsFit events → AreOfText h
told_text law events w h t fit = law.text w h t.stands (subst EventsFit (sym t.events_are) fit)

-- and has few messages
pub told_few : HistoriesAreSound → (events : List Event) (w : World) (h : List Line) → Tells events w h → AreFew h
told_few law events w h t = law.few w h t.stands t.fits

-- messages are of bytes in further lines, too
pub carried_on : (xs ys : List Line) → AreCarried xs → AreCarried ys → AreCarried (xs ++ ys)
carried_on [] ys p q = q
carried_on (x ∷ xs) ys p q = (p.0, carried_on xs ys p.1 q)

-- nothing was carried out
pub tells_none : Tells [] empty_world []
tells_none = record {
  stands = record { steps = []; carried = tt; world_is = refl; lines_are = refl };
  fits = omega arith;
  events_are = refl;
  carried = tt;
}

-- one event more
pub tells_more : (events : List Event) (w w' : World) (h lines : List Line) (e : Event) → Tells events w h
    → Carries w e lines w' → w'.network.kept ≤ MAX_KEPT → AreCarried lines → Tells (events ++ e ∷ []) w' (h ++ lines)
tells_more events w w' h lines e t c kept carried =
    let step : Step = record { event = e; lines = lines; after = w' } in
    let s : List Step = t.stands.steps in
    record {
      stands = record {
        steps = s ++ step ∷ [];
        carried =
            carried_more empty_world s step t.stands.carried
            (subst (λ (x : World). Carries x e lines w') t.stands.world_is c);
        world_is = sym (end_more empty_world s step);
        lines_are = ap (λ (l : List Line). l ++ lines) t.stands.lines_are ∙ sym (steps_more s step);
      };
      fits = kept;
      events_are =
          map-append (λ (x : Step). x.event) s (step ∷ [])
          ∙ ap (λ (es : List Event). es ++ e ∷ []) t.events_are;
      carried = carried_on h lines t.carried carried;
    }
