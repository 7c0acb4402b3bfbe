-- A replay so far: the lines that were carried out, and what went out for them.
use Rattle.std.proofs.Common.{◌≡◌, ℕ, ◌+◌, Bool, true, false, List, [], ◌∷◌, ◌++◌, length, Option, Some, None, Ok, refl, sym, ap, subst, ◌∙◌, append_assoc, arith, inl, inr}
use Rattle.std.specs.Io.KnownBytes.{Appends}
use Rattle.std.proofs.lemmas.List.{append-nil, length-append}
use Rattle.std.proofs.lemmas.Grind.{flat_map-append}
use Rattle.osd_bytes.specs.Lines.{Yields, TakesLine, lines_of}
use Rattle.osd_bytes.proofs.Known.{Appends-then}
use Rattle.scenario_text.specs.declared.event.Event.{Event}
use Rattle.scenario_text.specs.declared.line.Line.{Line}
use Rattle.scenario_text.specs.LineSpelling.{line_text, lines_text}
use Rattle.scenario_text.proofs.Histories.{lines_text_more}
use Rattle.world_history.specs.State.{World, empty_world}
use Rattle.calm_law.specs.Watching.{WatchesAll}
use Rattle.layout_world.specs.State.{WorldState, Shows}
use Rattle.history_claims.specs.Sound.{HistoriesAreSound}
use Rattle.osd_replay.specs.Transcript.{Tells}
use Rattle.osd_replay.specs.Replay.{HasEvents}
use Rattle.osd_replay.specs.LineCarried.{CarriesLine, CarriesSpelled, CarriesBy}
use Rattle.osd_replay.specs.declared.carry_out.Carried.{Carried}
use Rattle.osd_replay.proofs.Telling.{tells_none, tells_more}
use Rattle.exchange_law.proofs.CountWorlds.{event_written}

-- the input's bytes up to those that are still to come, and their lines
abbrev pub Reached : Option (List ℕ) → List (List ℕ) → ℕ → Option (List ℕ) → Type 0
Reached None lines taken now = Unit {0}
Reached (Some input) lines taken None = ⊥
Reached (Some input) lines taken (Some rest) =
    (front : List ℕ) × (input ≡ front ++ rest) × (length front ≡ taken) × (lines_of input ≡ lines ++ lines_of rest)

pub record SoFar (input now : Option (List ℕ)) (taken : ℕ) (before after : Option (List ℕ)) (number : ℕ)
    (state : WorldState) : Type 0 where
  pub lines : List (List ℕ)
  pub events : List Event
  pub world : World
  pub history : List Line
  pub count : number ≡ length lines
  pub reached : Reached input lines taken now
  pub spelled : HasEvents lines events
  pub tells : Tells events world history
  pub shows : Shows state.parties world
  pub watches : WatchesAll history state.watch
  pub out : Appends before after (lines_text history)
  pub law : HistoriesAreSound

-- ---- lists that grow at their end

pub events_more : (lines : List (List ℕ)) (events : List Event) (line : List ℕ) (more : List Event) → HasEvents lines events →
    HasEvents (line ∷ []) more → HasEvents (lines ++ line ∷ []) (events ++ more)
events_more [] events line more h g = subst (λ (es : List Event). HasEvents (line ∷ []) (es ++ more)) (sym h) g
events_more (l ∷ lines) events line more (inl h) g = inl (h.0, events_more lines events line more h.1 g)
events_more (l ∷ lines) events line more (inr h) g =
    inr (h.0, h.1 ++ more, ap (λ (es : List Event). es ++ more) h.2, h.3, h.4, events_more lines h.1 line more h.5 g)

pub reached_more : (input now next : Option (List ℕ)) (lines : List (List ℕ)) (line : List ℕ) (taken more : ℕ) →
    Reached input lines taken now → Yields now next (Ok (Some line)) → TakesLine taken more now next (Ok (Some line)) →
    Reached input (lines ++ line ∷ []) more next
reached_more None now next lines line taken more r y t = tt
reached_more (Some input) None next lines line taken more r y t = absurd r
reached_more (Some input) (Some rest) None lines line taken more r y t = absurd y
reached_more (Some input) (Some rest) (Some later) lines line taken more r y t =
    let bytes = line ++ t.0 in (
      r.0 ++ bytes,
      r.1 ∙ ap (λ (x : List ℕ). r.0 ++ x) t.1 ∙ sym (append_assoc r.0 bytes later),
      omega (arith, length-append r.0 bytes, r.2, t.2),
      r.3 ∙ ap (λ (x : List (List ℕ)). lines ++ x) y ∙ sym (append_assoc lines (line ∷ []) (lines_of later)),
    )

-- ---- one line more

-- the history after a line, which adds an event where it spells one
pub record OneMore (lines : List (List ℕ)) (history : List Line) (line text : List ℕ) (new : WorldState) : Type 0 where
  pub events_after : List Event
  pub world_after : World
  pub history_after : List Line
  pub spelled : HasEvents (lines ++ line ∷ []) events_after
  pub tells : Tells events_after world_after history_after
  pub shows : Shows new.parties world_after
  pub watches : WatchesAll history_after new.watch
  pub text_is : lines_text history_after ≡ lines_text history ++ text

spells_more : (lines : List (List ℕ)) (events : List Event) (w : World) (h : List Line) (line : List ℕ) (old new : WorldState)
    (carried : Carried) (is_full : Bool) → is_full ≡ false → HasEvents lines events → Tells events w h → WatchesAll h old.watch →
    (c : CarriesSpelled line old new carried) → CarriesBy w c.event old new carried.text is_full →
    OneMore lines h line carried.text new
spells_more lines events w h line old new carried true whole spelled tells watches c by = absurd (cc whole)
spells_more lines events w h line old new carried false whole spelled tells watches c by = record {
  events_after = events ++ c.event ∷ [];
  world_after = by.world;
  history_after = h ++ by.lines;
  spelled = events_more lines events line (c.event ∷ []) spelled (inr (c.event, [], refl, c.fits, c.spells, refl));
  tells = tells_more events w by.world h by.lines c.event tells by.carries by.fits by.carried;
  shows = by.shows;
  watches = by.watches h tells.stands (event_written c.event c.fits) watches;
  text_is = lines_text_more h by.lines ∙ ap (λ (x : List ℕ). lines_text h ++ x) (sym by.text_is);
}

pub one_more : (lines : List (List ℕ)) (events : List Event) (w : World) (h : List Line) (line : List ℕ) (old new : WorldState)
    (carried : Carried) → carried.is_full ≡ false → HasEvents lines events → Tells events w h →
    Shows old.parties w → WatchesAll h old.watch → CarriesLine line old new carried → OneMore lines h line carried.text new
one_more lines events w h line old new carried whole spelled tells shows watches (inl skips) = record {
  events_after = events;
  world_after = w;
  history_after = h;
  spelled = subst (HasEvents (lines ++ line ∷ [])) (append-nil events)
      (events_more lines events line [] spelled (inl (skips.skipped, refl)));
  tells = tells;
  shows = subst (λ (s : WorldState). Shows s.parties w) (sym skips.state) shows;
  watches = subst (λ (s : WorldState). WatchesAll h s.watch) (sym skips.state) watches;
  text_is = sym (append-nil (lines_text h)) ∙ ap (λ (x : List ℕ). lines_text h ++ x) (sym skips.text);
}
one_more lines events w h line old new carried whole spelled tells shows watches (inr c) =
    spells_more lines events w h line old new carried carried.is_full whole spelled tells watches c (c.carries w shows)

pub goes_on : (input now next : Option (List ℕ)) (taken more : ℕ) (before middle after : Option (List ℕ)) (number : ℕ)
    (old new : WorldState) (line : List ℕ) (carried : Carried) → SoFar input now taken before middle number old →
    Yields now next (Ok (Some line)) → TakesLine taken more now next (Ok (Some line)) → CarriesLine line old new carried →
    carried.is_full ≡ false → Appends middle after carried.text → SoFar input next more before after (number + 1) new
goes_on input now next taken more before middle after number old new line carried s y t c whole out =
    let o = one_more s.lines s.events s.world s.history line old new carried whole s.spelled s.tells s.shows s.watches c in
    record {
      lines = s.lines ++ line ∷ [];
      events = o.events_after;
      world = o.world_after;
      history = o.history_after;
      count = omega (arith, s.count, length-append s.lines (line ∷ []));
      reached = reached_more input now next s.lines line taken more s.reached y t;
      spelled = o.spelled;
      tells = o.tells;
      shows = o.shows;
      watches = o.watches;
      out = subst (Appends before after) (sym o.text_is)
          (Appends-then before middle after (lines_text s.history) carried.text s.out out);
      law = s.law;
    }

pub reached_none : (input : Option (List ℕ)) → Reached input [] 0 input
reached_none None = tt
reached_none (Some input) = ([], refl, refl, refl)

pub appends_none : (taken : Option (List ℕ)) → Appends taken taken []
appends_none None = tt
appends_none (Some bytes) = sym (append-nil bytes)

pub nothing_yet : (input : Option (List ℕ)) (taken : Option (List ℕ)) (state : WorldState) → Shows state.parties empty_world →
    WatchesAll [] state.watch → HistoriesAreSound → SoFar input input 0 taken taken 0 state
nothing_yet input taken state shows watches law = record {
  lines = [];
  events = [];
  world = empty_world;
  history = [];
  count = refl;
  reached = reached_none input;
  spelled = refl;
  tells = tells_none;
  shows = shows;
  watches = watches;
  out = appends_none taken;
  law = law;
}
