-- After the first call of the scenario, and each further one, the parties rest.
use Rattle.std.proofs.Common.{◌≡◌, ℕ, List, [], ◌∷◌, ◌++◌, map, refl, sym, ap, subst, ◌∙◌, append_assoc}
use Rattle.scenario_text.specs.declared.event.Event.{Event}
use Rattle.scenario_text.specs.declared.line.Line.{Line}
use Rattle.world_history.specs.State.{World, empty_world}
use Rattle.world_history.specs.Runs.{Carries}
use Rattle.world_history.specs.History.{Step, AreCarried, StandsFor, OneEventMore, end_of, lines_of_steps}
use Rattle.history_law.specs.Grants.{GrantsAreSafe}
use Rattle.ready_law.specs.Ready.{scene_of}
use Rattle.ready_law.specs.Rested.{ReadyCallsLeaveRest}
use Rattle.ready_law.specs.Worlds.{ScenesAreRead}
use Rattle.generate_law.specs.Going.{GoesWell}
use Rattle.generate_law.specs.Opening.{before_calls, EachCallRests}
use Rattle.generate_law.specs.Plays.{Plays}
use Rattle.generate_law.specs.Rests.{FILE_SIZE, Rests}
use Rattle.generate_law.specs.Scenario.{calls_from, first_call}
use Rattle.generate_law.proofs.Going.{calls_keep_rest, front_well, one_first}
use Rattle.generate_law.proofs.Opening.{opening_rests}
use Rattle.generate_law.proofs.Refusing.{scenario_is_unguessed}
use Rattle.generate_law.proofs.Texts.{scenario_is_text}

-- ---- a history in two parts

-- Steps from one world to another are those of some events, up to a world between, and those of others.
pub record Split (w v : World) (ls : List Line) (es fs : List Event) : Type 0 where
  pub between : World
  pub front : List Step
  pub back : List Step
  pub carried_front : AreCarried w front
  pub front_ends : between ≡ end_of w front
  pub front_events : map (λ (s : Step). s.event) front ≡ es
  pub carried_back : AreCarried between back
  pub back_ends : v ≡ end_of between back
  pub back_events : map (λ (s : Step). s.event) back ≡ fs
  pub lines_are : ls ≡ lines_of_steps front ++ lines_of_steps back

split : (es fs : List Event) (w v : World) (steps : List Step) → AreCarried w steps
    → map (λ (s : Step). s.event) steps ≡ es ++ fs → v ≡ end_of w steps → Split w v (lines_of_steps steps) es fs
split [] fs w v steps c is ends = record {
  between = w;
  front = [];
  back = steps;
  carried_front = tt;
  front_ends = refl;
  front_events = refl;
  carried_back = c;
  back_ends = ends;
  back_events = is;
  lines_are = refl;
}
split (e ∷ es) fs w v [] c is ends = absurd (cc is)
split (e ∷ es) fs w v (s ∷ steps) c is ends =
    let same : s.event ≡ e = cc is in
    let rest : map (λ (t : Step). t.event) steps ≡ es ++ fs = cc is in
    let r = split es fs s.after v steps c.1 rest ends in
    record {
      between = r.between;
      front = s ∷ r.front;
      back = r.back;
      carried_front = (c.0, r.carried_front);
      front_ends = r.front_ends;
      front_events =
          ap (λ (x : Event). x ∷ map (λ (t : Step). t.event) r.front) same ∙ ap (λ (xs : List Event). e ∷ xs) r.front_events;
      carried_back = r.carried_back;
      back_ends = r.back_ends;
      back_events = r.back_events;
      lines_are =
          ap (λ (ls : List Line). s.lines ++ ls) r.lines_are
          ∙ sym (append_assoc s.lines (lines_of_steps r.front) (lines_of_steps r.back));
    }

-- a history of two parts' events is cut between them
pub cut : (es fs : List Event) (w : World) (h : List Line) → Plays (es ++ fs) w h → Split empty_world w h es fs
cut es fs w h p =
    subst (λ (ls : List Line). Split empty_world w ls es fs) (sym p.stands.lines_are)
    (split es fs empty_world w p.stands.steps p.stands.carried p.events_are p.stands.world_is)

pub front_plays : (es fs : List Event) (w : World) (h : List Line) (s : Split empty_world w h es fs)
    → Plays es s.between (lines_of_steps s.front)
front_plays es fs w h s = record {
  stands = record { steps = s.front; carried = s.carried_front; world_is = s.front_ends; lines_are = refl };
  events_are = s.front_events;
}

-- ---- from the first call on

module _ (more : OneEventMore) (leaves : ReadyCallsLeaveRest) (safe : GrantsAreSafe) (scenes : ScenesAreRead) where
  from_first : (seed n : ℕ) (w : World) (h : List Line) (back : List Step) → StandsFor w h → Rests 0 (scene_of w h)
      → AreCarried w back → map (λ (s : Step). s.event) back ≡ first_call ∷ calls_from n 0 seed
      → GoesWell (h ++ lines_of_steps back) → Rests FILE_SIZE (scene_of (end_of w back) (h ++ lines_of_steps back))
  from_first seed n w h [] here r carried are good = absurd (cc are)
  from_first seed n w h (s ∷ steps) here r carried are good =
      let is : s.event ≡ first_call = cc are in
      let rest : map (λ (t : Step). t.event) steps ≡ calls_from n 0 seed = cc are in
      let joined : (h ++ s.lines) ++ lines_of_steps steps ≡ h ++ (s.lines ++ lines_of_steps steps) =
      append_assoc h s.lines (lines_of_steps steps) in
      let well : GoesWell ((h ++ s.lines) ++ lines_of_steps steps) = subst GoesWell (sym joined) good in
      let its : Carries w first_call s.lines s.after =
      subst (λ (e : Event). Carries w e s.lines s.after) is carried.0 in
      subst (λ (ls : List Line). Rests FILE_SIZE (scene_of (end_of s.after steps) ls)) joined
      (calls_keep_rest more leaves safe scenes n 0 seed s.after (h ++ s.lines) steps
      (more w s.after h s.lines first_call here its)
      (one_first more leaves safe scenes w s.after h s.lines here r its
      (front_well (h ++ s.lines) (lines_of_steps steps) well)) carried.1 rest well)

  pub each_call_rests : EachCallRests
  each_call_rests seed n w h p few =
      let s : Split empty_world w h before_calls (first_call ∷ calls_from n 0 seed) =
      cut before_calls (first_call ∷ calls_from n 0 seed) w h p in
      let front = front_plays before_calls (first_call ∷ calls_from n 0 seed) w h s in
      let text = scenario_is_text seed n w h p in
      let well : GoesWell h =
      record { written = text.0; text = text.1; few = few; clean = scenario_is_unguessed seed n w h p } in
      subst (λ (ls : List Line). Rests FILE_SIZE (scene_of w ls)) (sym s.lines_are)
      (subst (λ (x : World). Rests FILE_SIZE (scene_of x (lines_of_steps s.front ++ lines_of_steps s.back))) (sym s.back_ends)
      (from_first seed n s.between (lines_of_steps s.front) s.back front.stands
      (opening_rests s.between (lines_of_steps s.front) front) s.carried_back s.back_events
      (subst GoesWell s.lines_are well)))
