-- Each call of the scenario is ready where its event begins, so it ends in ok.
use Rattle.std.proofs.Common.{◌≡◌, ◌+◌, ℕ, zero, suc, List, [], ◌∷◌, ◌++◌, map, refl, sym, ap, subst, ◌∙◌}
use Rattle.std.specs.List.{AllByRecursion}
use Rattle.std.proofs.lemmas.List.{append-nil}
use Rattle.scenario_text.specs.declared.event.Call.{Call}
use Rattle.scenario_text.specs.declared.event.Event.{Event}
use Rattle.scenario_text.specs.declared.event.Event.TheVariants as event
use Rattle.scenario_text.specs.declared.line.Line.{Line}
use Rattle.scenario_text.specs.declared.line.Line.TheVariants as line
use Rattle.world_history.specs.State.{World}
use Rattle.world_history.specs.Moves.{op_of}
use Rattle.world_history.specs.History.{Step, StandsFor, Lawful}
use Rattle.world_history.specs.History.Begins.{Nothing}
use Rattle.history_law.specs.Grants.{GrantsAreSafe}
use Rattle.history_law.specs.Read.{AreWritten}
use Rattle.history_law.proofs.Staying.{written_front}
use Rattle.exchange_law.specs.Text.{AreFew}
use Rattle.exchange_law.proofs.CountGrowing.{fewer}
use Rattle.ready_law.specs.Answered.{ReadyIsAnswered, scene_in}
use Rattle.ready_law.specs.Events.{EventsStandApart, StandsApart}
use Rattle.ready_law.specs.Ready.{IsReady, Scene, scene_of}
use Rattle.ready_law.specs.Worlds.{ScenesAreRead}
use Rattle.generate_law.specs.Opening.{before_calls, EachCallRests, ScenarioCallsEndInOk}
use Rattle.generate_law.specs.Plays.{Plays}
use Rattle.generate_law.specs.Scenario.{call_event, calls_from, first_call, next_random, scenario_of}
use Rattle.generate_law.proofs.Events.{events_in, events_are, events_more}
use Rattle.generate_law.proofs.Opening.{opening_rests}
use Rattle.generate_law.proofs.Readiness.{each_call_is_ready, first_call_is_ready}
use Rattle.generate_law.proofs.Texts.{scenario_is_text}

-- ---- where a call is among the events

-- the event is no call
abbrev IsNoCall : Event → Type 0
IsNoCall (event.Do c x) = ⊥
IsNoCall e = Unit {0}

module _ (c : ℕ) (x : Call) (rest : List Event) where
  -- a call comes after the events that are none
  pub after_others : (es fs : List Event) → AllByRecursion IsNoCall es → (front : List Event)
      → front ++ event.Do c x ∷ rest ≡ es ++ fs → (back : List Event) × (front ≡ es ++ back) × (back ++ event.Do c x ∷ rest ≡ fs)
  after_others [] fs none front e = (front, refl, e)
  after_others (y ∷ es) fs none [] e =
      let same : event.Do c x ≡ y = cc e in
      absurd (subst IsNoCall (sym same) none.0)
  after_others (y ∷ es) fs none (f ∷ front) e =
      let same : f ≡ y = cc e in
      let others : front ++ event.Do c x ∷ rest ≡ es ++ fs = cc e in
      let r = after_others es fs none.1 front others in
      (r.0, ap (λ (z : Event). z ∷ front) same ∙ ap (λ (zs : List Event). y ∷ zs) r.1, r.2)

  -- one among the calls comes after some of them
  pub among_calls : (n k y : ℕ) (front : List Event) → front ++ event.Do c x ∷ rest ≡ calls_from n k y
      → (j m z : ℕ) × (front ≡ calls_from j k y) × (event.Do c x ≡ call_event m z)
  among_calls zero k y [] e = absurd (cc e)
  among_calls zero k y (f ∷ front) e = absurd (cc e)
  among_calls (suc n) k y [] e =
      let same : event.Do c x ≡ call_event k y = cc e in
      (0, k, y, refl, same)
  among_calls (suc n) k y (f ∷ front) e =
      let same : f ≡ call_event k y = cc e in
      let others : front ++ event.Do c x ∷ rest ≡ calls_from n (k + 1) (next_random y) = cc e in
      let r = among_calls n (k + 1) (next_random y) front others in (
        suc r.0,
        r.1,
        r.2,
        ap (λ (z : Event). z ∷ front) same ∙ ap (λ (zs : List Event). call_event k y ∷ zs) r.3,
        r.4,
      )

no_calls : AllByRecursion IsNoCall before_calls
no_calls = (tt, (tt, (tt, (tt, (tt, (tt, (tt, (tt, (tt, (tt, tt))))))))))

-- ---- it is ready there

module _ (rests : EachCallRests) (safe : GrantsAreSafe) (seed n : ℕ) (u : World) (h : List Line) (here : StandsFor u h)
    (few : AreFew h) (c : ℕ) (x : Call) where
  abbrev events : List Event
  events = map (λ (s : Step). s.event) here.steps

  abbrev Ready : Event → Type 0
  Ready (event.Do k y) = IsReady (scene_of u h) k (op_of y)
  Ready e = Unit {0}

  plays : (es : List Event) → events ≡ es → Plays es u h
  plays es is = record { stands = here; events_are = is }

  ready_in : (rest back : List Event) → events ≡ before_calls ++ back
      → back ++ event.Do c x ∷ rest ≡ first_call ∷ calls_from n 0 seed → IsReady (scene_of u h) c (op_of x)
  ready_in rest [] is e =
      let same : event.Do c x ≡ first_call = cc e in
      subst Ready (sym same) (first_call_is_ready safe u h here (opening_rests u h (plays before_calls is)))
  ready_in rest (b ∷ back) is e =
      let same : b ≡ first_call = cc e in
      let others : back ++ event.Do c x ∷ rest ≡ calls_from n 0 seed = cc e in
      let r = among_calls c x rest n 0 seed back others in
      let all : events ≡ scenario_of seed r.0 =
      is ∙ ap (λ (z : Event). before_calls ++ z ∷ back) same
      ∙ ap (λ (zs : List Event). before_calls ++ first_call ∷ zs) r.3 in
      subst Ready (sym r.4) (each_call_is_ready safe u h r.1 r.2 here (rests seed r.0 u h (plays (scenario_of seed r.0) all) few))

  ready_there : (rest : List Event) → events ++ event.Do c x ∷ rest ≡ scenario_of seed n → IsReady (scene_of u h) c (op_of x)
  ready_there rest e =
      let r = after_others c x rest before_calls (first_call ∷ calls_from n 0 seed) no_calls events e in
      ready_in rest r.0 r.1 r.2

-- ---- so it ends in ok

pub scenario_calls_end_in_ok : EachCallRests → ReadyIsAnswered → GrantsAreSafe → ScenesAreRead → EventsStandApart
    → ScenarioCallsEndInOk
scenario_calls_end_in_ok rests answered safe scenes apart seed n w h p few before body c x over =
    let text = scenario_is_text seed n w h p in
    let whole : Lawful h = record {
      world = w;
      whole = h;
      stands = p.stands;
      last = [];
      begins = Nothing refl;
      lines_are = sym (append-nil h);
    } in
    let a : StandsApart before (event.Do c x) body = apart h before (event.Do c x) body whole over in
    let written : AreWritten before =
    written_front before (line.Event (event.Do c x) ∷ (body ++ over.after)) (subst AreWritten over.lines_are text.0) in
    let little : AreFew before =
    fewer before (line.Event (event.Do c x) ∷ (body ++ over.after)) (subst AreFew over.lines_are few) in
    let own : events_in before ≡ map (λ (s : Step). s.event) a.stands.steps =
    events_are (map (λ (s : Step). s.event) a.stands.steps) a.world before (record { stands = a.stands; events_are = refl }) in
    let all : map (λ (s : Step). s.event) a.stands.steps ++ event.Do c x ∷ events_in (body ++ over.after) ≡ scenario_of seed n =
    ap (λ (es : List Event). es ++ event.Do c x ∷ events_in (body ++ over.after)) (sym own)
    ∙ sym (events_more before (line.Event (event.Do c x) ∷ (body ++ over.after)))
    ∙ ap events_in (sym over.lines_are) ∙ events_are (scenario_of seed n) w h p in
    let ready : IsReady (scene_in before) c (op_of x) =
    subst (λ (s : Scene). IsReady s c (op_of x)) (sym (scenes a.world before a.stands written))
    (ready_there rests safe seed n a.world before a.stands little c x (events_in (body ++ over.after)) all) in
    (answered h whole text.0 text.1 few before body c x over ready).0
