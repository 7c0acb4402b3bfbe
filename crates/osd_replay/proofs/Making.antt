-- A scenario made from a seed, event by event, and what it comes to.
use Rattle.std.proofs.Common.{◌≡◌, ℕ, ◌<◌, ◌≤◌, Bool, true, false, List, [], ◌∷◌, ◌++◌, length, take, refl, sym, ap, subst, ◌∙◌, append_assoc}
use Rattle.std.specs.Io.KnownBytes.{Appends}
use Rattle.sha1.specs.Sha1.{Holds}
use Rattle.osd_bytes.specs.Causes.{Rose}
use Rattle.scenario_text.specs.declared.event.Event.{Event}
use Rattle.scenario_text.specs.declared.line.Line.{Line}
use Rattle.scenario_text.specs.declared.line.Line.TheVariants.{Last}
use Rattle.scenario_text.specs.LineSpelling.{lines_text}
use Rattle.world_history.specs.State.{World, empty_world}
use Rattle.world_history.specs.declared.summary.Summary.{Summary}
use Rattle.world_history.specs.Guesses.{last_line, unguessed}
use Rattle.world_history.specs.Summing.{summary_of}
use Rattle.world_watch.specs.Capping.{capped_summary}
use Rattle.scenario_text.specs.Spelling.{Fits}
use Rattle.exchange_law.specs.Text.{AreFew}
use Rattle.scenario_text.proofs.Histories.{lines_text_more}
use Rattle.calm_law.specs.Watching.{WatchesAll}
use Rattle.layout_world.specs.State.{WorldState, Shows}
use Rattle.history_claims.specs.Sound.{HistoriesAreSound}
use Rattle.osd_replay.specs.Ends.{Ends, PutsError}
use Rattle.osd_replay.specs.Puts.{Puts}
use Rattle.osd_replay.specs.Stops.{error_of, status_of}
use Rattle.osd_replay.specs.Generate.{Made, FillsBehind, StopsBehind, StopsAmong, ComesTo, IsDone, IsWriteFault, Promises, result_text}
use Rattle.generate_law.specs.Plays.{Plays, NoneIsRefused}
use Rattle.generate_law.specs.Scenario.{scenario_of}
use Rattle.generate_law.specs.Kept.{MOST_CALLS, NoneFillsUp, ScenarioGoesWell, WentWell}
use Rattle.generate_law.specs.Sums.{IsPlainSum, SummaryIsPlain}
use Rattle.generate_law.proofs.Counting.{scenario_has_counts}
use Rattle.osd_replay.specs.Transcript.{Tells}
use Rattle.osd_replay.specs.LineCarried.{CarriesEvent, CarriesBy, StopsEvent, StopsIn}
use Rattle.osd_replay.specs.declared.carry_out.Carried.{Carried}
use Rattle.osd_replay.specs.declared.generate.Digested.{Digested}
use Rattle.osd_replay.specs.declared.command.TheConstants.{MAX_CALLS}
use Rattle.osd_replay.specs.declared.status.Quantity.TheVariants.{Input, Kept, Line as LineQuantity}
use Rattle.osd_replay.specs.declared.stop.Stop.{Stop}
use Rattle.osd_replay.specs.declared.stop.Stop.TheVariants.{Refused, Read, Memory, Full}
use Rattle.osd_replay.proofs.Telling.{told_sound, told_text, told_few, tells_none, tells_more, last_said}
use Rattle.osd_replay.proofs.SoFar.{appends_none}
use Rattle.osd_replay.proofs.Promised.{tells}
use Rattle.exchange_law.proofs.CountWorlds.{event_written}
use Rattle.osd_replay.proofs.Written.{scenario_fits}

-- ---- one event more

made_by : (front : List Event) (e : Event) (old new : Digested) (text : List ℕ) (is_full : Bool) → is_full ≡ false → Fits e →
    (m : Made front old) → CarriesBy m.world e old.world new.world text is_full
    → ((m : List ℕ) → Holds old.digest m → Holds new.digest (m ++ text)) → Made (front ++ e ∷ []) new
made_by front e old new text true whole may m by holds = absurd (cc whole)
made_by front e old new text false whole may m by holds = record {
  world = by.world;
  history = m.history ++ by.lines;
  shows = by.shows;
  tells = tells_more front m.world by.world m.history by.lines e m.tells by.carries by.fits by.carried;
  watches = by.watches m.history m.tells.stands (event_written e may) m.watches;
  holds = subst (λ (x : List ℕ). Holds new.digest x)
      (sym (lines_text_more m.history by.lines ∙ ap (λ (x : List ℕ). lines_text m.history ++ x) (sym by.text_is)))
      (holds (lines_text m.history) m.holds);
}

pub made_more : (front : List Event) (e : Event) (old new : Digested) (carried : Carried) → carried.is_full ≡ false → Fits e →
    Made front old → CarriesEvent e old.world new.world carried
    → ((m : List ℕ) → Holds old.digest m → Holds new.digest (m ++ carried.text)) → Made (front ++ e ∷ []) new
made_more front e old new carried whole may m carries holds =
    made_by front e old new carried.text carried.is_full whole may m (carries m.world m.shows) holds

fills_by : (front : List Event) (e : Event) (old : Digested) (new : WorldState) (text : List ℕ) (is_full : Bool) →
    is_full ≡ true → (m : Made front old) → CarriesBy m.world e old.world new text is_full → FillsBehind front e
fills_by front e old new text false full m by = absurd (cc full)
fills_by front e old new text true full m cut =
    record { world = m.world; history = m.history; tells = m.tells; cut = cut.lines; fills = cut.fills }

pub fills_behind : (front : List Event) (e : Event) (old : Digested) (new : WorldState) (carried : Carried) →
    carried.is_full ≡ true → Made front old → CarriesEvent e old.world new carried → FillsBehind front e
fills_behind front e old new carried full m carries =
    fills_by front e old new carried.text carried.is_full full m (carries m.world m.shows)

stops_by : (front : List Event) (e : Event) (old : Digested) (stop : Stop) → (m : Made front old) → StopsIn m.world e stop →
    StopsBehind front e stop
stops_by front e old (Refused kind) m h =
    record { world = m.world; history = m.history; tells = m.tells; cause = h.0; kind_is = h.1; refused = h.2 }
stops_by front e old Read m h = h
stops_by front e old Memory m h = tt
stops_by front e old (Full quantity) m h = absurd h

pub stops_behind : (front : List Event) (e : Event) (old : Digested) (stop : Stop) → Made front old →
    StopsEvent e old.world stop → StopsBehind front e stop
stops_behind front e old stop m h = stops_by front e old stop m (h m.world m.shows)

pub stops_among : (all front rest : List Event) (e : Event) (stop : Stop) → all ≡ front ++ e ∷ rest → StopsBehind front e stop →
    StopsAmong all stop
stops_among all front rest e (Refused kind) is h = record { events = front; next = e; rest = rest; all_are = is; stops = h }
stops_among all front rest e Read is h = absurd h
stops_among all front rest e Memory is h = tt
stops_among all front rest e (Full quantity) is h = record { events = front; next = e; rest = rest; all_are = is; stops = h }

-- ---- the whole scenario

-- the calls that are asked for are few
few_so : (calls : ℕ) → calls ≤ MAX_CALLS → calls ≤ MOST_CALLS
few_so calls low = low

-- nothing was made yet
pub made_none : (d : Digested) → Shows d.world.parties empty_world → WatchesAll [] d.world.watch → Holds d.digest [] → Made [] d
made_none d shows watches holds =
    record { world = empty_world; history = []; shows = shows; tells = tells_none; watches = watches; holds = holds }

-- so they are played
plays_it : {events : List Event} → {w : World} → {h : List Line} → Tells events w h → Plays events w h
plays_it {events} {w} {h} t = record { stands = t.stands; events_are = t.events_are }

pub comes_to : HistoriesAreSound → SummaryIsPlain → ScenarioGoesWell → (seed calls : ℕ) → calls ≤ MAX_CALLS →
    (events : List Event) (d : Digested) (text : List ℕ) →
    events ≡ scenario_of seed calls → Made events d
    → ((h : List Line) → Holds d.digest (lines_text h) →
    text ≡ result_text d.world.watch.summary h (Last d.world.watch.moments.calm d.world.watch.guesses.unguessed)) →
    ComesTo seed calls text
comes_to law plain well seed calls low events d text is m told =
    let here : Made (scenario_of seed calls) d = subst (λ (es : List Event). Made es d) is m in
    let here_well : WentWell here.history = well seed calls here.world here.history (few_so calls low) (plays_it here.tells) in
    let last : last_line here.history ≡ Last true true =
    ap (λ (b : Bool). Last b (unguessed here.history)) here_well.calm ∙ ap (λ (b : Bool). Last true b) here_well.unguessed in
    let few : AreFew here.history = told_few law (scenario_of seed calls) here.world here.history here.tells in
    let sums : IsPlainSum seed calls (summary_of here.history) =
    plain seed calls here.world here.history (plays_it here.tells) few here_well.calm in
    record {
      outcome = record {
        world = here.world;
        history = here.history;
        tells = here.tells;
        sound = told_sound law (scenario_of seed calls) here.world here.history here.tells;
        written = here.watches.written;
        text = told_text law (scenario_of seed calls) here.world here.history here.tells (scenario_fits seed calls);
        few = few;
        counted = scenario_has_counts seed calls here.world here.history (plays_it here.tells);
        plain = sums;
        ends = sym last;
      };
      text_is =
          told here.history here.holds
          ∙ ap (λ (l : Line). result_text d.world.watch.summary here.history l)
          (last_said d.world here.history here.watches ∙ last)
          ∙ ap (λ (s : Summary). result_text s here.history (Last true true))
          (here.watches.told.summary ∙ ap capped_summary sums.sum);
    }

pub all_told : (seed calls : ℕ) (b a : Ends) (text : List ℕ) → ComesTo seed calls text → Appends b.taken a.taken text →
    a.writes_failed ≡ b.writes_failed → IsDone seed calls b a
all_told seed calls b a text h out same =
    record { outcome = h.outcome; out = subst (λ (x : List ℕ). Appends b.taken a.taken x) h.text_is out; writes = same }

pub part_told : (seed calls : ℕ) (b a : Ends) (text : List ℕ) (upto : ℕ) → ComesTo seed calls text → upto < length text →
    Appends b.taken a.taken (take upto text) → Rose b.writes_failed a.writes_failed → IsWriteFault seed calls b a
part_told seed calls b a text upto h short out rose = record {
  outcome = h.outcome;
  upto = upto;
  short = subst (λ (x : List ℕ). upto < length x) h.text_is short;
  out = subst (λ (x : List ℕ). Appends b.taken a.taken (take upto x)) h.text_is out;
  rose = rose;
}

-- only an error line went out
only_error : (b a : Ends) (error : List ℕ) (whole : Bool) → Puts b.taken a.taken b.writes_failed a.writes_failed error whole →
    PutsError b a [] error
only_error b a error whole put = tells b a b.taken [] error b.writes_failed whole (appends_none b.taken) put refl

pub not_made : NoneIsRefused → NoneFillsUp → (seed calls : ℕ) → calls ≤ MAX_CALLS → (b a : Ends) (stop : Stop) (whole : Bool) →
    StopsAmong (scenario_of seed calls) stop →
    Puts b.taken a.taken b.writes_failed a.writes_failed (error_of stop 0) whole → Promises seed calls b a (status_of stop 0)
not_made none fills seed calls low b a (Refused kind) whole h put =
    absurd (cc (sym (none seed calls h.events h.next h.rest h.stops.world h.stops.history h.all_are (plays_it h.stops.tells))
    ∙ h.stops.refused))
not_made none fills seed calls low b a Read whole h put = absurd h.stops
not_made none fills seed calls low b a Memory whole h put = record { puts = only_error b a _ whole put }
not_made none fills seed calls low b a (Full Kept) whole h put =
    absurd (fills seed calls h.events h.next h.rest h.stops.world h.stops.history h.stops.cut (few_so calls low) h.all_are
    (plays_it h.stops.tells) h.stops.fills)
not_made none fills seed calls low b a (Full Input) whole h put = absurd h.stops
not_made none fills seed calls low b a (Full LineQuantity) whole h put = absurd h.stops

-- ---- pieces of text

pub two_more : (a b c t1 t2 t3 : List ℕ) → t1 ≡ a → t2 ≡ t1 ++ b → t3 ≡ t2 ++ c → t3 ≡ a ++ (b ++ c)
two_more a b c t1 t2 t3 e1 e2 e3 = rw (e3, e2, e1) (append_assoc a b c)

pub five_more : (a b c d e f t1 t2 t3 t4 t5 t6 : List ℕ) → t1 ≡ a → t2 ≡ t1 ++ b → t3 ≡ t2 ++ c → t4 ≡ t3 ++ d → t5 ≡ t4 ++ e →
    t6 ≡ t5 ++ f
    → t6 ≡ a ++ (b ++ (c ++ (d ++ (e ++ f))))
five_more a b c d e f t1 t2 t3 t4 t5 t6 e1 e2 e3 e4 e5 e6 =
    rw (e6, e5, e4, e3, e2, e1)
    (append_assoc (((a ++ b) ++ c) ++ d) e f ∙ append_assoc ((a ++ b) ++ c) d (e ++ f) ∙ append_assoc (a ++ b) c (d ++ (e ++ f))
    ∙ append_assoc a b (c ++ (d ++ (e ++ f))))
