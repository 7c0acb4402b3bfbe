-- Each way to end keeps its promise.
use Rattle.std.proofs.Common.{◌≡◌, ℕ, ◌+◌, ◌<◌, Bool, true, false, List, [], ◌∷◌, ◌++◌, length, take, Option, Some, None, Result, Ok, Err, refl, sym, ap, subst, ◌∙◌, arith, inl, inr}
use Rattle.std.specs.Prelude.{codes}
use Rattle.std.specs.Io.KnownBytes.{Appends, IsAtEnd, prepend_known}
use Rattle.std.proofs.Math.Seq.{take-append-add}
use Rattle.std.proofs.lemmas.List.{append-nil, length-append, take_all}
use Rattle.osd_bytes.specs.Reading.{SeesEnd}
use Rattle.osd_bytes.specs.Causes.{Rose}
use Rattle.osd_bytes.specs.Lines.{NextIs, Yields, TakesLine, lines_of, next_of}
use Rattle.osd_bytes.specs.declared.lines.LineErr.{LineErr}
use Rattle.osd_bytes.specs.declared.lines.LineErr.TheVariants.{TooLong, InputFull, ReadFault as LineFault, Memory as LineMemory}
use Rattle.osd_bytes.proofs.Known.{Appends-then}
use Rattle.scenario_text.specs.declared.line.Line.{Line}
use Rattle.scenario_text.specs.LineSpelling.{lines_text}
use Rattle.scenario_text.proofs.Histories.{lines_text_more}
use Rattle.world_history.specs.State.{World, empty_world}
use Rattle.calm_law.specs.Watching.{WatchesAll}
use Rattle.layout_world.specs.State.{WorldState}
use Rattle.history_claims.specs.Sound.{HistoriesAreSound}
use Rattle.osd_replay.specs.Transcript.{Tells, EndsWith}
use Rattle.osd_replay.specs.Errors.{error_line, full_name, kind_name}
use Rattle.osd_replay.specs.Puts.{Puts}
use Rattle.osd_replay.specs.Finish.{Finishes}
use Rattle.osd_replay.specs.Stops.{error_of, status_of, stop_of_line}
use Rattle.osd_replay.specs.LineCarried.{CarriesLine, CarriesSpelled, CarriesBy, CarriesCut, StopsLine, StopsLineIn}
use Rattle.osd_replay.specs.Ends.{Ends, Begins, IsAll, IsLineAt, PassesNext, PutsError, IsLimitPassed}
use Rattle.osd_replay.specs.Replay.{Runs, IsRefused, RefusesNext, CutsNext, IsTranscript, IsWriteFault, Promises, Stops}
use Rattle.osd_replay.specs.Replay.IsTranscript.{Whole, Cut, Ended}
use Rattle.osd_replay.specs.declared.carry_out.Carried.{Carried}
use Rattle.osd_replay.specs.declared.status.Quantity.{Quantity}
use Rattle.osd_replay.specs.declared.status.Quantity.TheVariants.{Input, Line as LineQuantity, Kept}
use Rattle.osd_replay.specs.declared.status.ScenarioKind.{ScenarioKind}
use Rattle.osd_replay.specs.declared.status.Status.{Status}
use Rattle.osd_replay.specs.declared.status.Status.TheVariants.{Done, BadWords, BadScenario, ReadFault, WriteFault, Memory, Full as IsFull}
use Rattle.osd_replay.specs.declared.stop.Stop.{Stop}
use Rattle.osd_replay.specs.declared.stop.Stop.TheVariants.{Refused, Read, Memory as WantsMemory, Full as StopsFull}
use Rattle.osd_replay.proofs.Telling.{told_sound, told_text, told_few, carried_on, tells_none, tells_more}
use Rattle.exchange_law.proofs.CountWorlds.{event_written}
use Rattle.osd_replay.proofs.Written.{fit_more, events_fit}
use Rattle.osd_replay.proofs.SoFar.{SoFar, Reached, events_more, reached_more, reached_none, appends_none}

-- what went out before an error line, and that line
pub tells : (b a : Ends) (middle : Option (List ℕ)) (bytes error : List ℕ) (failed : ℕ) (whole : Bool) →
    Appends b.taken middle bytes → Puts middle a.taken failed a.writes_failed error whole → failed ≡ b.writes_failed →
    PutsError b a bytes error
tells b a middle bytes error failed true out put same = record {
  upto = length error;
  out = Appends-then b.taken middle a.taken bytes (take (length error) error) out
      (subst (Appends middle a.taken) (sym (take_all (length error) error (omega arith))) put.0);
  cut = inl refl;
}
tells b a middle bytes error failed false out put same = record {
  upto = put.0;
  out = Appends-then b.taken middle a.taken bytes (take put.0 error) out put.2;
  cut = inr (subst (λ x. Rose x a.writes_failed) same put.3);
}

pub begins : (input : Option (List ℕ)) (lines : List (List ℕ)) (taken : ℕ) (now : Option (List ℕ)) →
    Reached input lines taken now → Begins input lines
begins None lines taken now r = tt
begins (Some input) lines taken None r = absurd r
begins (Some input) lines taken (Some rest) r = (lines_of rest, r.3)

pub all_lines : (input : Option (List ℕ)) (lines : List (List ℕ)) (taken : ℕ) (now next : Option (List ℕ)) →
    Reached input lines taken now → Yields now next (Ok None) → IsAll input lines
unfolding lines_of
all_lines None lines taken now next r y = tt
all_lines (Some input) lines taken None next r y = absurd r
all_lines (Some input) lines taken (Some rest) None r y = absurd y
all_lines (Some input) lines taken (Some rest) (Some later) r y =
    r.3 ∙ ap (λ (x : List ℕ). lines ++ lines_of x) y ∙ append-nil lines

runs : (input now : Option (List ℕ)) (taken : ℕ) (before after : Option (List ℕ)) (number : ℕ) (state : WorldState) →
    (s : SoFar input now taken before after number state) → Runs input s.lines s.world s.history
runs input now taken before after number state s =
    record {
      begins = begins input s.lines taken now s.reached;
      events = s.events;
      spelled = s.spelled;
      tells = s.tells;
      sound =
          told_sound s.law s.events s.world s.history s.tells;
      written = s.watches.written;
      text =
          told_text s.law s.events s.world s.history s.tells (events_fit s.lines s.events s.spelled);
      few =
          told_few s.law s.events s.world s.history s.tells;
    }

-- the front of some bytes and those behind them
front_and_more : (xs ys zs : List ℕ) (n : ℕ) → zs ≡ xs ++ ys → take (length xs + n) zs ≡ xs ++ take n ys
front_and_more xs ys zs n same = ap (take (length xs + n)) same ∙ take-append-add xs ys n

-- a part of these lines went out: all of a front of them, and a part of the rest
part_of : (b a : Ends) (middle : Option (List ℕ)) (text front more : List Line) (upto : ℕ) → IsTranscript b.left text →
    text ≡ front ++ more → upto < length (lines_text more) →
    Appends b.taken middle (lines_text front) → Appends middle a.taken (take upto (lines_text more)) →
    Rose b.writes_failed a.writes_failed → IsWriteFault b a
part_of b a middle text front more upto is split short out part rose =
    let whole : lines_text text ≡ lines_text front ++ lines_text more = ap lines_text split ∙ lines_text_more front more in
    record {
      text = text;
      transcript = is;
      upto = length (lines_text front) + upto;
      short = rw whole (omega (arith, short, length-append (lines_text front) (lines_text more)));
      out = subst (Appends b.taken a.taken)
          (sym (front_and_more (lines_text front) (lines_text more) (lines_text text) upto whole))
          (Appends-then b.taken middle a.taken (lines_text front) (take upto (lines_text more)) out part);
      rose = rose;
    }

pub finished : (b a : Ends) (now next : Option (List ℕ)) (taken : ℕ) (middle : Option (List ℕ)) (number failed : ℕ)
    (state : WorldState) (last : Line) (status : Status) → SoFar b.left now taken b.taken middle number state →
    Yields now next (Ok None) → IsAtEnd a.left → a.reads_failed ≡ b.reads_failed → failed ≡ b.writes_failed →
    ((h : List Line) → WatchesAll h state.watch → EndsWith h last) →
    Finishes last middle a.taken failed a.writes_failed status → Promises b a status
finished b a now next taken middle number failed state last Done s y end reads writes ends fin = record {
  lines = s.lines;
  world = s.world;
  history = s.history;
  runs = runs b.left now taken b.taken middle number state s;
  all = all_lines b.left s.lines taken now next s.reached y;
  last = last;
  ends = ends s.history s.watches;
  out = subst (Appends b.taken a.taken) (sym (lines_text_more s.history (last ∷ [])))
      (Appends-then b.taken middle a.taken (lines_text s.history) (lines_text (last ∷ [])) s.out fin.0);
  at_end = end;
  reads = reads;
  writes = fin.1 ∙ writes;
}
finished b a now next taken middle number failed state last WriteFault s y end reads writes ends fin =
    part_of b a middle (s.history ++ last ∷ []) s.history (last ∷ []) fin.0
    (Ended s.lines s.world s.history last (runs b.left now taken b.taken middle number state s)
    (all_lines b.left s.lines taken now next s.reached y) (ends s.history s.watches) refl)
    refl fin.1 s.out fin.2 (subst (λ x. Rose x a.writes_failed) writes fin.3)
finished b a now next taken middle number failed state last Memory s y end reads writes ends fin = record {
  lines = s.lines;
  world = s.world;
  history = s.history;
  runs = runs b.left now taken b.taken middle number state s;
  number = 0;
  number_is = inr (refl, inr (all_lines b.left s.lines taken now next s.reached y));
  puts = tells b a middle (lines_text s.history) (error_line 0 (codes "memory")) failed fin.0 s.out fin.1 writes;
}
finished b a now next taken middle number failed state last BadWords s y end reads writes ends fin = absurd fin
finished b a now next taken middle number failed state last ReadFault s y end reads writes ends fin = absurd fin
finished b a now next taken middle number failed state last (BadScenario line kind) s y end reads writes ends fin = absurd fin
finished b a now next taken middle number failed state last (IsFull quantity) s y end reads writes ends fin = absurd fin

-- the line reader answers that a quantity passes its limit
pub passes_next : (input now : Option (List ℕ)) (taken : ℕ) (lines : List (List ℕ)) (quantity : Quantity) (e : LineErr) →
    Reached input lines taken now → IsLimitPassed quantity e → NextIs taken now (Err e) → PassesNext input lines quantity
passes_next None now taken lines quantity e r limit next = tt
passes_next (Some input) None taken lines quantity e r limit next = absurd r
passes_next (Some input) (Some rest) taken lines Input InputFull r limit next =
    (r.0, rest, r.1, r.3, InputFull, limit, ap (λ n. next_of n rest) r.2 ∙ next)
passes_next (Some input) (Some rest) taken lines LineQuantity TooLong r limit next =
    (r.0, rest, r.1, r.3, TooLong, limit, ap (λ n. next_of n rest) r.2 ∙ next)
passes_next (Some input) (Some rest) taken lines Input TooLong r limit next = absurd (cc limit)
passes_next (Some input) (Some rest) taken lines Input LineFault r limit next = absurd (cc limit)
passes_next (Some input) (Some rest) taken lines Input LineMemory r limit next = absurd (cc limit)
passes_next (Some input) (Some rest) taken lines LineQuantity InputFull r limit next = absurd (cc limit)
passes_next (Some input) (Some rest) taken lines LineQuantity LineFault r limit next = absurd (cc limit)
passes_next (Some input) (Some rest) taken lines LineQuantity LineMemory r limit next = absurd (cc limit)
passes_next (Some input) (Some rest) taken lines Kept e r limit next = absurd limit

-- the line that comes next is refused
refuses : (input now : Option (List ℕ)) (taken : ℕ) (lines : List (List ℕ)) (w : World) (kind : ScenarioKind)
    (answer : Result (Option (List ℕ)) LineErr) → Reached input lines taken now → NextIs taken now answer →
    ((rest : List ℕ) → NextIs taken (Some rest) answer → IsRefused w kind (next_of taken rest)) → RefusesNext input lines w kind
refuses None now taken lines w kind answer r next refused = tt
refuses (Some input) None taken lines w kind answer r next refused = absurd r
refuses (Some input) (Some rest) taken lines w kind answer r next refused =
    (r.0, rest, r.1, r.3, subst (λ n. IsRefused w kind (next_of n rest)) (sym r.2) (refused rest next))

stops_at : (b a : Ends) (now : Option (List ℕ)) (taken : ℕ) (middle : Option (List ℕ)) (number failed : ℕ) (state : WorldState)
    (reason : List ℕ) (whole : Bool) → (s : SoFar b.left now taken b.taken middle number state) → failed ≡ b.writes_failed →
    Puts middle a.taken failed a.writes_failed (error_line (number + 1) reason) whole → Stops b a (number + 1) reason
stops_at b a now taken middle number failed state reason whole s writes put = record {
  lines = s.lines;
  world = s.world;
  history = s.history;
  runs = runs b.left now taken b.taken middle number state s;
  number_is = ap (λ n. n + 1) s.count;
  puts = tells b a middle (lines_text s.history) (error_line (number + 1) reason) failed whole s.out put writes;
}

-- there is no memory for the next line
no_memory : (b a : Ends) (now : Option (List ℕ)) (taken : ℕ) (middle : Option (List ℕ)) (number failed : ℕ) (state : WorldState)
    (whole : Bool) → SoFar b.left now taken b.taken middle number state → failed ≡ b.writes_failed →
    Puts middle a.taken failed a.writes_failed (error_line (number + 1) (codes "memory")) whole → Promises b a Memory
no_memory b a now taken middle number failed state whole s writes put = record {
  lines = s.lines;
  world = s.world;
  history = s.history;
  runs = runs b.left now taken b.taken middle number state s;
  number = number + 1;
  number_is = inl (ap (λ n. n + 1) s.count);
  puts = tells b a middle (lines_text s.history) (error_line (number + 1) (codes "memory")) failed whole s.out put writes;
}

pub no_line : (b a : Ends) (now : Option (List ℕ)) (taken : ℕ) (middle : Option (List ℕ)) (number failed : ℕ) (state : WorldState)
    (whole : Bool) (e : LineErr) → SoFar b.left now taken b.taken middle number state →
    NextIs taken now (Err e) → (e ≡ LineFault → Rose b.reads_failed a.reads_failed × IsLineAt (number + 1) b.left a.left) →
    failed ≡ b.writes_failed → Puts middle a.taken failed a.writes_failed (error_of (stop_of_line e) (number + 1)) whole →
    Promises b a (status_of (stop_of_line e) (number + 1))
unfolding stops_at
no_line b a now taken middle number failed state whole TooLong s next fault writes put = record {
  number = number + 1;
  stops = stops_at b a now taken middle number failed state (full_name LineQuantity) whole s writes put;
  passes = passes_next b.left now taken s.lines LineQuantity TooLong s.reached refl next;
}
no_line b a now taken middle number failed state whole InputFull s next fault writes put = record {
  number = number + 1;
  stops = stops_at b a now taken middle number failed state (full_name Input) whole s writes put;
  passes = passes_next b.left now taken s.lines Input InputFull s.reached refl next;
}
no_line b a now taken middle number failed state whole LineFault s next fault writes put = record {
  number = number + 1;
  stops = stops_at b a now taken middle number failed state (codes "read") whole s writes put;
  line = (fault refl).1;
  rose = (fault refl).0;
}
no_line b a now taken middle number failed state whole LineMemory s next fault writes put =
    no_memory b a now taken middle number failed state whole s writes put

stopped_in : (b a : Ends) (now : Option (List ℕ)) (taken : ℕ) (middle : Option (List ℕ)) (number failed : ℕ) (state : WorldState)
    (whole : Bool) (line : List ℕ) (stop : Stop) → (s : SoFar b.left now taken b.taken middle number state) →
    NextIs taken now (Ok (Some line)) → StopsLineIn s.world line stop → failed ≡ b.writes_failed →
    Puts middle a.taken failed a.writes_failed (error_of stop (number + 1)) whole →
    Promises b a (status_of stop (number + 1))
unfolding stops_at
stopped_in b a now taken middle number failed state whole line (Refused kind) s next stopped writes put = record {
  stops = stops_at b a now taken middle number failed state (kind_name kind) whole s writes put;
  refused = refuses b.left now taken s.lines s.world kind (Ok (Some line)) s.reached next (λ rest h. rw h stopped);
}
stopped_in b a now taken middle number failed state whole line Read s next stopped writes put = absurd stopped
stopped_in b a now taken middle number failed state whole line (StopsFull quantity) s next stopped writes put = absurd stopped
stopped_in b a now taken middle number failed state whole line WantsMemory s next stopped writes put =
    no_memory b a now taken middle number failed state whole s writes put

pub line_stopped : (b a : Ends) (now : Option (List ℕ)) (taken : ℕ) (middle : Option (List ℕ)) (number failed : ℕ)
    (state : WorldState) (whole : Bool) (line : List ℕ) (stop : Stop) → SoFar b.left now taken b.taken middle number state →
    NextIs taken now (Ok (Some line)) → StopsLine line state stop → failed ≡ b.writes_failed →
    Puts middle a.taken failed a.writes_failed (error_of stop (number + 1)) whole →
    Promises b a (status_of stop (number + 1))
line_stopped b a now taken middle number failed state whole line stop s next stopped writes put =
    stopped_in b a now taken middle number failed state whole line stop s next (stopped s.world s.shows) writes put

-- ---- an event that stops at the limit of kept bytes

cuts_next : (b : Ends) (now next : Option (List ℕ)) (taken more : ℕ) (middle : Option (List ℕ)) (number : ℕ)
    (old new : WorldState) (line : List ℕ) (carried : Carried) → (s : SoFar b.left now taken b.taken middle number old) →
    Yields now next (Ok (Some line)) → TakesLine taken more now next (Ok (Some line)) →
    (c : CarriesSpelled line old new carried) → (cut : CarriesCut s.world c.event carried.text) →
    CutsNext b.left s.lines s.world s.history cut.lines
cuts_next b now next taken more middle number old new line carried s y t c cut = record {
  line = line;
  begins = begins b.left (s.lines ++ line ∷ []) more next (reached_more b.left now next s.lines line taken more s.reached y t);
  event = c.event;
  fits = c.fits;
  spells = c.spells;
  fills = cut.fills;
  lawful = cut.lawful s.history s.tells.stands;
  sound = s.law.sound (s.history ++ cut.lines) (cut.lawful s.history s.tells.stands);
  written = s.law.cuts.written s.world s.history cut.lines c.event cut.fills s.watches.written (event_written c.event c.fits);
  text = s.law.cuts.text s.world s.history cut.lines c.event cut.fills
      (told_text s.law s.events s.world s.history s.tells (events_fit s.lines s.events s.spelled)) c.fits;
  few = s.law.cuts.few s.world s.history cut.lines c.event s.tells.stands cut.fills;
  carried = carried_on s.history cut.lines s.tells.carried cut.carried;
}

-- the sink fails in the lines of an event
part_by : (b a : Ends) (now next : Option (List ℕ)) (taken more : ℕ) (middle : Option (List ℕ)) (number upto : ℕ)
    (old new : WorldState) (line : List ℕ) (carried : Carried) (is_full : Bool) →
    (s : SoFar b.left now taken b.taken middle number old) →
    Yields now next (Ok (Some line)) → TakesLine taken more now next (Ok (Some line)) →
    (c : CarriesSpelled line old new carried) → CarriesBy s.world c.event old new carried.text is_full →
    upto < length carried.text → Appends middle a.taken (take upto carried.text) → Rose b.writes_failed a.writes_failed →
    Promises b a WriteFault
part_by b a now next taken more middle number upto old new line carried true s y t c cut short out rose =
    part_of b a middle (s.history ++ cut.lines) s.history cut.lines upto
    (Cut s.lines s.world s.history cut.lines (runs b.left now taken b.taken middle number old s)
    (cuts_next b now next taken more middle number old new line carried s y t c cut) refl)
    refl (rw cut.text_is at short) s.out (rw cut.text_is at out) rose
part_by b a now next taken more middle number upto old new line carried false s y t c by short out rose =
    let told : Tells (s.events ++ c.event ∷ []) by.world (s.history ++ by.lines) =
    tells_more s.events s.world by.world s.history by.lines c.event s.tells by.carries by.fits by.carried in
    let go : Runs b.left (s.lines ++ line ∷ []) by.world (s.history ++ by.lines) = record {
      begins = begins b.left (s.lines ++ line ∷ []) more next
          (reached_more b.left now next s.lines line taken more s.reached y t);
      events = s.events ++ c.event ∷ [];
      spelled = events_more s.lines s.events line (c.event ∷ []) s.spelled (inr (c.event, [], refl, c.fits, c.spells, refl));
      tells = told;
      sound = told_sound s.law (s.events ++ c.event ∷ []) by.world (s.history ++ by.lines) told;
      written = (by.watches s.history s.tells.stands (event_written c.event c.fits) s.watches).written;
      text = told_text s.law (s.events ++ c.event ∷ []) by.world (s.history ++ by.lines) told
          (fit_more s.events (c.event ∷ []) (events_fit s.lines s.events s.spelled) (c.fits, tt));
      few = told_few s.law (s.events ++ c.event ∷ []) by.world (s.history ++ by.lines) told;
    } in
    part_of b a middle (s.history ++ by.lines) s.history by.lines upto (Whole (s.lines ++ line ∷ []) by.world go) refl
    (rw by.text_is at short) s.out (rw by.text_is at out) rose

pub part_put : (b a : Ends) (now next : Option (List ℕ)) (taken more : ℕ) (middle : Option (List ℕ)) (number upto : ℕ)
    (old new : WorldState) (line : List ℕ) (carried : Carried) → SoFar b.left now taken b.taken middle number old →
    Yields now next (Ok (Some line)) → TakesLine taken more now next (Ok (Some line)) → CarriesLine line old new carried →
    upto < length carried.text → Appends middle a.taken (take upto carried.text) → Rose b.writes_failed a.writes_failed →
    Promises b a WriteFault
part_put b a now next taken more middle number upto old new line carried s y t (inl skips) short out rose =
    absurd (none (rw skips.text at short))
  where
    none : upto < 0 → ⊥
    none l = omega (arith, l)
part_put b a now next taken more middle number upto old new line carried s y t (inr c) short out rose =
    part_by b a now next taken more middle number upto old new line carried carried.is_full s y t c
    (c.carries s.world s.shows) short out rose

cut_by : (b a : Ends) (now next : Option (List ℕ)) (taken more : ℕ) (middle told : Option (List ℕ)) (number failed : ℕ)
    (whole : Bool) (old new : WorldState) (line : List ℕ) (carried : Carried) (is_full : Bool) → is_full ≡ true →
    (s : SoFar b.left now taken b.taken middle number old) →
    Yields now next (Ok (Some line)) → TakesLine taken more now next (Ok (Some line)) →
    (c : CarriesSpelled line old new carried) → CarriesBy s.world c.event old new carried.text is_full →
    Appends middle told carried.text → failed ≡ b.writes_failed →
    Puts told a.taken failed a.writes_failed (error_line (number + 1) (full_name Kept)) whole → Promises b a (IsFull Kept)
cut_by b a now next taken more middle told number failed whole old new line carried false full s y t c by out same put =
    absurd (cc full)
cut_by b a now next taken more middle told number failed whole old new line carried true full s y t c cut out same put =
    let text : lines_text (s.history ++ cut.lines) ≡ lines_text s.history ++ carried.text =
    lines_text_more s.history cut.lines ∙ ap (λ (x : List ℕ). lines_text s.history ++ x) (sym cut.text_is) in
    record {
      lines = s.lines;
      world = s.world;
      history = s.history;
      runs = runs b.left now taken b.taken middle number old s;
      part = cut.lines;
      cuts = cuts_next b now next taken more middle number old new line carried s y t c cut;
      number = number + 1;
      number_is = ap (λ n. n + 1) s.count;
      puts = subst (λ (x : List ℕ). PutsError b a x (error_line (number + 1) (full_name Kept))) (sym text)
          (tells b a told (lines_text s.history ++ carried.text) (error_line (number + 1) (full_name Kept)) failed whole
          (Appends-then b.taken middle told (lines_text s.history) carried.text s.out out) put same);
    }

-- the lines of a cut event went out, and then the error line
pub cut_put : (b a : Ends) (now next : Option (List ℕ)) (taken more : ℕ) (middle told : Option (List ℕ)) (number failed : ℕ)
    (whole : Bool) (old new : WorldState) (line : List ℕ) (carried : Carried) → SoFar b.left now taken b.taken middle number old →
    Yields now next (Ok (Some line)) → TakesLine taken more now next (Ok (Some line)) → CarriesLine line old new carried →
    carried.is_full ≡ true → Appends middle told carried.text → failed ≡ b.writes_failed →
    Puts told a.taken failed a.writes_failed (error_line (number + 1) (full_name Kept)) whole → Promises b a (IsFull Kept)
cut_put b a now next taken more middle told number failed whole old new line carried s y t (inl skips) full out same put =
    absurd (cc (full, skips.whole))
cut_put b a now next taken more middle told number failed whole old new line carried s y t (inr c) full out same put =
    cut_by b a now next taken more middle told number failed whole old new line carried carried.is_full full s y t c
    (c.carries s.world s.shows) out same put

-- there is no memory for the world: nothing was read
pub no_world : HistoriesAreSound → (b a : Ends) (whole : Bool) →
    Puts b.taken a.taken b.writes_failed a.writes_failed (error_of WantsMemory 0) whole → Promises b a Memory
no_world law b a whole put = record {
  lines = [];
  world = empty_world;
  history = [];
  runs = record {
    begins = begins b.left [] 0 b.left (reached_none b.left);
    events = [];
    spelled = refl;
    tells =
        tells_none;
    sound = told_sound law [] empty_world [] tells_none;
    written = tt;
    text = tt;
    few =
        told_few law [] empty_world [] tells_none;
  };
  number = 0;
  number_is = inr (refl, inl refl);
  puts = tells b a b.taken [] (error_line 0 (codes "memory")) b.writes_failed whole (appends_none b.taken) put refl;
}

pub nothing_ahead : (left : Option (List ℕ)) → prepend_known [] left ≡ left
nothing_ahead None = refl
nothing_ahead (Some bytes) = refl

-- an end that is seen is the source's
pub at_end : (ended_before ended : Bool) (left_before left : Option (List ℕ)) → SeesEnd ended_before left_before ended left →
    (ended_before ≡ true → IsAtEnd left_before) → ended ≡ true → IsAtEnd left
at_end ended_before ended left_before left sees before h = elim (sees h) [
  | inl same ↦ subst IsAtEnd (sym same.1) (before same.0)
  | inr end ↦ end
]
