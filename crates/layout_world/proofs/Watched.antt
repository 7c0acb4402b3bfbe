-- What is kept for the last line goes on with the lines of an event that was carried out.
use Rattle.std.proofs.Common.{◌≡◌, ◌≤◌, ◌+◌, ◌++◌, ◌∷◌, ℕ, List, true, Result, Ok, Err, sym, subst, ap, ◌∙◌, arith}
use Rattle.std.specs.Prelude.{drop, length, OnOk}
use Rattle.std.specs.List.{fold}
use Rattle.std.proofs.lemmas.List.{append_cancel_left, length-append}
use Rattle.std.proofs.Math.Seq.{drop-append_seam}
use Rattle.scenario_text.specs.declared.event.Event.{Event}
use Rattle.scenario_text.specs.declared.line.Line.{Line}
use Rattle.scenario_text.specs.declared.line.Line.TheVariants as line
use Rattle.world_history.specs.declared.err.WorldErr.{WorldErr}
use Rattle.world_history.specs.declared.messages.Sent.{Sent}
use Rattle.world_history.specs.declared.summary.Summary.{Summary}
use Rattle.world_history.specs.State.{World}
use Rattle.world_history.specs.Runs.{world_after, lines_of}
use Rattle.world_history.specs.History.{StandsFor, Appended, Goes}
use Rattle.world_history.specs.Summing.{counts_line}
use Rattle.world_watch.specs.Capping.{Counts}
use Rattle.world_watch.specs.Guessing.{GuessState}
use Rattle.world_network.specs.Network.{NetworkState}
use Rattle.world_network.specs.Shows.{Shows as ShowsNetwork}
use Rattle.world_watch.specs.State.{WatchState}
use Rattle.world_watch.specs.Watching.{HasSeen, Watches, sees_all}
use Rattle.world_watch.specs.Laws.{Tells, EventsTell, WatchGoesOn}
use Rattle.history_law.specs.Read.{is_written}
use Rattle.calm_law.specs.Moving.{sees_moves}
use Rattle.calm_law.specs.Watching.{WatchesAll, WatchesEvent}
use Rattle.layout_world.specs.State.{WorldState}
use Rattle.layout_world.specs.Steps.{StepsAs}
use Rattle.layout_world.specs.Watching.{LeavesTold, WatchesOn}

-- ---- moves

pub leaves_on : (a b c : WatchState) → LeavesTold a b → LeavesTold b c → LeavesTold a c
leaves_on a b c p q = (q.0 ∙ p.0, q.1 ∙ p.1)

-- ---- the lines of an event

seen_behind : (ms : List Sent) (lines : List Line) (old mid new : WatchState) → LeavesTold old mid
    → HasSeen ms lines mid new → HasSeen ms lines old new
seen_behind ms lines old mid new same seen = record {
  guesses = subst (λ (g : GuessState). new.guesses ≡ sees_all g ms lines) same.0 seen.guesses;
  summary = subst (λ (s : Summary). Counts (λ x. fold counts_line x lines) s new.summary) same.1 seen.summary;
}

-- the place where they begin is the length of what stood there
pub seen_from : (ms : List Sent) (n k : ℕ) (lines : List Line) (r : Result (Unit {0}) WorldErr) (old mid new : WatchState)
    → n ≡ k → LeavesTold old mid → OnOk r (n ≤ length lines → HasSeen ms (drop n lines) mid new)
    → OnOk r (k ≤ length lines → HasSeen ms (drop k lines) old new)
seen_from ms n k lines (Ok u) old mid new is same seen =
    subst (λ (x : ℕ). x ≤ length lines → HasSeen ms (drop x lines) old new) is
    (λ within. seen_behind ms (drop n lines) old mid new same (seen within))
seen_from ms n k lines (Err e) old mid new is same seen = tt

watched : EventsTell → WatchGoesOn → WatchesEvent → (w w' : World) (e : Event) (before after : List Line)
    (n : NetworkState) (old new : WatchState) (g : Goes w e before after w') → ShowsNetwork n w'.network
    → HasSeen n.messages (drop (length before) after) old new
    → new.moments ≡ sees_moves old.guesses.sightings old.moments w g.carries.moves → (h lines : List Line) → StandsFor w h
    → Appended before after lines → is_written e ≡ true → WatchesAll h old → WatchesAll (h ++ lines) new
watched tell goes_on follows w w' e before after n old new g shows seen moments h lines st a written k =
    let same : g.lines ≡ lines = append_cancel_left before g.lines lines (sym g.appended ∙ a) in
    let own : drop (length before) after ≡ lines = ap (λ ls. drop (length before) ls) a ∙ drop-append_seam before lines in
    let then_ : ShowsNetwork n (world_after w g.carries.moves).network =
    subst (λ (v : World). ShowsNetwork n v.network) g.carries.world_is shows in
    let told : Tells (h ++ lines) n.messages =
    subst (λ (ls : List Line). Tells (h ++ ls) n.messages) (sym g.carries.lines_are ∙ same)
    (tell w h e g.carries.moves n st then_) in
    let read : Watches (h ++ lines) new =
    goes_on h lines n.messages old new k.told told (subst (λ (ls : List Line). HasSeen n.messages ls old new) own seen) in
    let event : line.Event e ∷ lines_of w g.carries.moves ≡ lines = sym g.carries.lines_are ∙ same in
    subst (λ (ls : List Line). WatchesAll (h ++ ls) new) event
    (follows w h e g.carries.moves w' old new st g.carries.allowed g.carries.are_due g.carries.over written k
    (subst (λ (ls : List Line). Watches (h ++ ls) new) (sym event) read) moments)

-- ---- a step

pub watches_on : EventsTell → WatchGoesOn → WatchesEvent → (e : Event) (before after : List Line) (old new : WorldState)
    → StepsAs e before after old new (Ok tt)
    → (length before ≤ length after → HasSeen new.parties.network.messages (drop (length before) after) old.watch new.watch)
    → WatchesOn e before after old new
watches_on tell goes_on follows e before after old new steps seen = λ w h lines shows st a written k.
    let did = steps w shows in
    let long : length after ≡ length before + length lines = ap length a ∙ length-append before lines in
    watched tell goes_on follows w did.world e before after new.parties.network old.watch new.watch did.goes
    did.shows.network (seen (omega (arith, long))) did.moments h lines st a written k
