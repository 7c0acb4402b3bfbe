-- What carrying out an event gives is what carrying out its line gives.
use Rattle.std.proofs.Common.{◌≡◌, ℕ, Bool, true, false, List, [], Some, Result, Ok, Err, IfErr, IfOk, OnOk, ap, subst, ◌∙◌, inr}
use Rattle.scenario_text.specs.declared.event.Event.{Event}
use Rattle.scenario_text.specs.declared.line.Line.{Line}
use Rattle.scenario_text.specs.LineSpelling.{lines_text}
use Rattle.scenario_text.specs.Spelling.{Fits, Spells}
use Rattle.world_history.specs.declared.err.WorldErr.{WorldErr}
use Rattle.world_history.specs.declared.err.WorldErr.TheVariants as why
use Rattle.world_history.specs.State.{World}
use Rattle.world_history.specs.Refusals.{refusal}
use Rattle.history_claims.specs.Carried.{AreCarried}
use Rattle.layout_world.specs.State.{WorldState, Shows}
use Rattle.layout_world.specs.Steps.{StepsAs}
use Rattle.layout_world.specs.Watching.{WatchesOn}
use Rattle.osd_replay.specs.LineCarried.{CarriesBy, CarriesEvent, CarriesLine, StopsEvent, StopsIn, StopsLine, StopsLineIn, step_gives}
use Rattle.osd_replay.specs.declared.carry_out.Carried.{Carried}
use Rattle.osd_replay.specs.declared.status.ScenarioKind.TheVariants.{World as WorldKind}
use Rattle.osd_replay.specs.declared.stop.Stop.{Stop}
use Rattle.osd_replay.specs.declared.stop.Stop.TheVariants.{Refused, Read, Memory, Full}

-- ---- a step of the world

pub carried_by : (e : Event) (lines : List Line) (old new : WorldState) (r : Result (Unit {0}) WorldErr) (is_full : Bool)
    (text : List ℕ) (w : World) → StepsAs e [] lines old new r → OnOk r (WatchesOn e [] lines old new) →
    step_gives r ≡ Ok is_full → text ≡ lines_text lines → AreCarried lines
    → Shows old.parties w → CarriesBy w e old new text is_full
carried_by e lines old new (Ok u) true text w steps on full is carried shows = absurd (cc full)
carried_by e lines old new (Ok u) false text w steps on full is carried shows =
    let s = steps w shows in
    record {
      lines = s.goes.lines;
      world = s.world;
      shows = s.shows;
      carries = s.goes.carries;
      fits = s.goes.fits;
      watches =
          λ h st may k. on w h s.goes.lines shows st s.goes.appended may k;
      text_is = is ∙ ap lines_text s.goes.appended;
      carried = subst AreCarried s.goes.appended carried;
    }
carried_by e lines old new (Err why.KeptFull) false text w steps on full is carried shows = absurd (cc full)
carried_by e lines old new (Err why.KeptFull) true text w steps on full is carried shows =
    let s = steps w shows in
    record {
      lines = s.lines;
      fills = s.fills;
      lawful = s.lawful;
      text_is = is ∙ ap lines_text s.appended;
      carried = subst AreCarried s.appended carried;
    }
carried_by e lines old new (Err why.Memory) is_full text w steps on full is carried shows = absurd (cc full)
carried_by e lines old new (Err why.NoName) is_full text w steps on full is carried shows = absurd (cc full)
carried_by e lines old new (Err why.Taken) is_full text w steps on full is carried shows = absurd (cc full)
carried_by e lines old new (Err why.Dead) is_full text w steps on full is carried shows = absurd (cc full)
carried_by e lines old new (Err why.Alive) is_full text w steps on full is carried shows = absurd (cc full)
carried_by e lines old new (Err why.NotKept) is_full text w steps on full is carried shows = absurd (cc full)
carried_by e lines old new (Err why.Down) is_full text w steps on full is carried shows = absurd (cc full)
carried_by e lines old new (Err why.Running) is_full text w steps on full is carried shows = absurd (cc full)
carried_by e lines old new (Err (why.NoMessage n)) is_full text w steps on full is carried shows = absurd (cc full)

refused_in : (w : World) (e : Event) (cause : WorldErr) (stop : Stop) → refusal w e ≡ Some cause →
    Refused (WorldKind cause) ≡ stop → StopsIn w e stop
refused_in w e cause (Refused kind) refused is = (cause, cc is, refused)
refused_in w e cause Read refused is = absurd (cc is)
refused_in w e cause Memory refused is = absurd (cc is)
refused_in w e cause (Full q) refused is = absurd (cc is)

-- the stop of a step
pub stopped_by : (e : Event) (lines : List Line) (old new : WorldState) (r : Result (Unit {0}) WorldErr) (stop : Stop)
    (w : World) → StepsAs e [] lines old new r → step_gives r ≡ Err stop → Shows old.parties w → StopsIn w e stop
stopped_by e lines old new (Ok u) stop w steps is shows = absurd (cc is)
stopped_by e lines old new (Err why.KeptFull) stop w steps is shows = absurd (cc is)
stopped_by e lines old new (Err why.Memory) (Refused kind) w steps is shows = absurd (cc is)
stopped_by e lines old new (Err why.Memory) Read w steps is shows = absurd (cc is)
stopped_by e lines old new (Err why.Memory) (Full q) w steps is shows = absurd (cc is)
stopped_by e lines old new (Err why.Memory) Memory w steps is shows = tt
stopped_by e lines old new (Err why.NoName) stop w steps is shows =
    refused_in w e why.NoName stop (steps w shows).cause_is (cc is)
stopped_by e lines old new (Err why.Taken) stop w steps is shows = refused_in w e why.Taken stop (steps w shows).cause_is (cc is)
stopped_by e lines old new (Err why.Dead) stop w steps is shows = refused_in w e why.Dead stop (steps w shows).cause_is (cc is)
stopped_by e lines old new (Err why.Alive) stop w steps is shows = refused_in w e why.Alive stop (steps w shows).cause_is (cc is)
stopped_by e lines old new (Err why.NotKept) stop w steps is shows =
    refused_in w e why.NotKept stop (steps w shows).cause_is (cc is)
stopped_by e lines old new (Err why.Down) stop w steps is shows = refused_in w e why.Down stop (steps w shows).cause_is (cc is)
stopped_by e lines old new (Err why.Running) stop w steps is shows =
    refused_in w e why.Running stop (steps w shows).cause_is (cc is)
stopped_by e lines old new (Err (why.NoMessage n)) stop w steps is shows =
    refused_in w e (why.NoMessage n) stop (steps w shows).cause_is (cc is)

-- ---- the line of an event

pub line_carries : (e : Event) (line : List ℕ) (old new : WorldState) (r : Result Carried Stop) → Fits e → Spells e line →
    IfOk r (CarriesEvent e old new) → IfOk r (CarriesLine line old new)
line_carries e line old new (Ok carried) fits spells h = inr (record { event = e; fits = fits; spells = spells; carries = h })
line_carries e line old new (Err stop) fits spells h = h

stops_in : (w : World) (e : Event) (line : List ℕ) (stop : Stop) → Fits e → Spells e line → StopsIn w e stop →
    StopsLineIn w line stop
stops_in w e line (Refused kind) fits spells h =
    inr (record { event = e; fits = fits; spells = spells; cause = h.0; kind_is = h.1; refused = h.2 })
stops_in w e line Read fits spells h = h
stops_in w e line Memory fits spells h = h
stops_in w e line (Full quantity) fits spells h = h

pub line_stops : {A : Type 0} (e : Event) (line : List ℕ) (old : WorldState) (r : Result A Stop) → Fits e → Spells e line →
    IfErr r (StopsEvent e old) → IfErr r (StopsLine line old)
line_stops e line old (Ok a) fits spells h = h
line_stops e line old (Err stop) fits spells h = λ w shows. stops_in w e line stop fits spells (h w shows)
