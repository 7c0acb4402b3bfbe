-- What is so of the history of a run.
use Rattle.std.proofs.Common.{◌≡◌, ℕ, ◌≤◌, Bool, true, false, List, [], ◌∷◌, ◌++◌, Option, Some, None, length, map, refl, sym, ap, subst, ◌∙◌}
use Rattle.std.specs.Prelude.{◌&&◌, not}
use Rattle.std.specs.List.{fold}
use Rattle.std.proofs.lemmas.List.{append-nil, length-map}
use Rattle.scenario_text.specs.declared.event.Event.{Event}
use Rattle.scenario_text.specs.declared.event.Event.TheVariants as event
use Rattle.scenario_text.specs.declared.line.Line.{Line}
use Rattle.scenario_text.specs.declared.line.Line.TheVariants as line
use Rattle.scenario_text.specs.Spelling.{Fits}
use Rattle.world_history.specs.ServerNames.{Order, OrderKind, ToRecall, ToRevoke, ToDeclare, ToRebuild, ToAudit}
use Rattle.world_history.specs.declared.limits.TheConstants.{MAX_KEPT}
use Rattle.world_history.specs.declared.messages.Posted.{Posted}
use Rattle.world_history.specs.declared.messages.Sent.{Sent}
use Rattle.world_history.specs.declared.messages.Message.{Message}
use Rattle.world_history.specs.State.{World}
use Rattle.world_history.specs.Calm.{calm}
use Rattle.world_history.specs.Guesses.{Guarded, guards, guarded, unguessed}
use Rattle.world_history.specs.Reading.{sent_in}
use Rattle.world_history.specs.History.{StandsFor, Lawful}
use Rattle.world_history.specs.History.Begins.{Nothing}
use Rattle.world_history.specs.Laws.{MessagesAreRead, shown}
use Rattle.exchange_law.specs.Text.{IsOfText, AreOfText, AreFew}
use Rattle.exchange_law.proofs.CountWorlds.{text_written}
use Rattle.file_simulation.specs.Claim.{IsOfScenario, IsCalmHistory, IsRight}
use Rattle.history_claims.specs.Sound.{IsSound, HistoriesAreSound}
use Rattle.cluster_history.specs.State.{empty_cluster}
use Rattle.cluster_history.specs.Steps.{Step, Knows, Raises, Makes, Hears, Obeys, Passes, Resends, Crashes, Opens, Takes, IsHit, Falls, Rises, IsLost, Begins, Calls, Learns, Misses, Leaves, SendsAgain, Ends}
use Rattle.cluster_history.specs.Events.{EachEvent, EachStep, IsNoHit}
use Rattle.cluster_history.specs.Deeds.{order_event}
use Rattle.cluster_history.specs.History.{AreSteps, cluster_after, history_of}
use Rattle.cluster_history.specs.Like.{LeadsTo}
use Rattle.cluster_history.specs.Laws.{EachRunHasAHistory, EachRunIsSound, AreFewSent, IsRun, EachRunIsOfScenario, UnhitRunsAreUnguessed, CalmRunsAreRight}
use Rattle.cluster_history.proofs.Telling.{EachLine, OfEvent, by_events, history_each}

-- ---- lawful, and sound

pub lawful_of : (w : World) (h : List Line) → StandsFor w h → Lawful h
lawful_of w h s = record {
  world = w;
  whole = h;
  stands = s;
  last = [];
  begins = Nothing refl;
  lines_are = sym (append-nil h);
}

pub each_run_is_sound : EachRunHasAHistory → HistoriesAreSound → EachRunIsSound
each_run_is_sound has sound steps are =
    let l : LeadsTo (history_of empty_cluster steps) (cluster_after empty_cluster steps) = has steps are in
    sound.sound (history_of empty_cluster steps) (lawful_of l.world (history_of empty_cluster steps) l.stands)

-- ---- of a text

text_line : (l : Line) → OfEvent Fits l → IsOfText l
text_line (line.Event e) f = f
text_line (line.Message number from to bytes) f = tt
text_line (line.Delivered number d) f = tt
text_line (line.Judged d verdict) f = tt
text_line (line.TimedOut c component) f = tt
text_line (line.Ended c o) f = tt
text_line (line.Refused c why) f = tt
text_line (line.Note f what) g = tt
text_line (line.Last calm unguessed) f = tt

pub text_of : (ls : List Line) → EachLine (OfEvent Fits) ls → AreOfText ls
text_of [] f = tt
text_of (l ∷ ls) f = (text_line l f.0, text_of ls f.1)

few_of : MessagesAreRead → (steps : List Step)
    → LeadsTo (history_of empty_cluster steps) (cluster_after empty_cluster steps) → AreFewSent steps
    → AreFew (history_of empty_cluster steps)
few_of read steps l few =
    let messages : sent_in (history_of empty_cluster steps) ≡ map shown l.world.network.messages =
    read l.world (history_of empty_cluster steps) l.stands in
    let many : length (sent_in (history_of empty_cluster steps)) ≡ length (cluster_after empty_cluster steps).sent =
    ap (λ (x : List Sent). length x) messages
    ∙ length-map l.world.network.messages shown
    ∙ sym (length-map l.world.network.messages (λ (p : Posted). p.message))
    ∙ ap (λ k. length k.sent) l.like.same in
    subst (λ (n : ℕ). n ≤ MAX_KEPT) (sym many) few

pub each_run_is_of_scenario : EachRunHasAHistory → MessagesAreRead → EachRunIsOfScenario
each_run_is_of_scenario has read steps run =
    let text : AreOfText (history_of empty_cluster steps) =
    text_of (history_of empty_cluster steps) (history_each (OfEvent Fits) (by_events Fits) empty_cluster steps run.spelled) in
    record {
      written = text_written (history_of empty_cluster steps) text;
      text = text;
      few = few_of read steps (has steps run.steps_are) run.few;
    }

-- ---- nothing is guessed

abbrev IsNoInject : Event → Type 0
IsNoInject (event.Inject d bytes) = ⊥
IsNoInject e = Unit {0}

no_order : (o : Order) → IsNoInject (order_event o.order o.target)
no_order o = of_kind o.order o.target
  where
    of_kind : (k : OrderKind) (n : ℕ) → IsNoInject (order_event k n)
    of_kind ToRecall n = tt
    of_kind ToRevoke n = tt
    of_kind ToDeclare n = tt
    of_kind ToRebuild n = tt
    of_kind ToAudit n = tt

none_injected : (s : Step) → IsNoHit s → EachEvent IsNoInject s
none_injected (Knows d key capacity) n = tt
none_injected (Raises format) n = tt
none_injected (Makes chosen f m) n = (tt, λ d l. (tt, tt))
none_injected (Hears time chosen k) n = (tt, tt)
none_injected (Obeys time chosen o) n = (tt, no_order o)
none_injected (Passes time chosen from bytes) n = tt
none_injected Resends n = tt
none_injected Crashes n = tt
none_injected Opens n = tt
none_injected (Takes d time k) n = (tt, tt)
none_injected (IsHit d time bytes) n = absurd n
none_injected (Falls d) n = tt
none_injected (Rises d) n = tt
none_injected (IsLost d) n = tt
none_injected (Begins c) n = tt
none_injected (Calls c op) n = tt
none_injected (Learns c k) n = tt
none_injected (Misses c component) n = tt
none_injected (Leaves c) n = tt
none_injected (SendsAgain c) n = tt
none_injected (Ends c) n = tt

none_in_any : (steps : List Step) → EachStep IsNoHit steps → EachStep (EachEvent IsNoInject) steps
none_in_any [] n = tt
none_in_any (s ∷ steps) n = (none_injected s n.0, none_in_any steps n.1)

one_guarded : (g : Guarded) (l : Line) → OfEvent IsNoInject l → g.unguessed ≡ true → (guards g l).unguessed ≡ true
one_guarded g (line.Event (event.Inject d bytes)) n e = absurd n
one_guarded g l n e = ap (λ (b : Bool). b && true) e

all_guarded : (g : Guarded) (ls : List Line) → EachLine (OfEvent IsNoInject) ls → g.unguessed ≡ true
    → (fold guards g ls).unguessed ≡ true
all_guarded g [] n e = e
all_guarded g (l ∷ ls) n e = all_guarded (guards g l) ls n.1 (one_guarded g l n.0 e)

pub unhit_runs_are_unguessed : UnhitRunsAreUnguessed
unhit_runs_are_unguessed steps n =
    all_guarded (record { keys = []; sent = []; unguessed = true }) (history_of empty_cluster steps)
    (history_each (OfEvent IsNoInject) (by_events IsNoInject) empty_cluster steps (none_in_any steps n)) refl

-- ---- the headline

pub calm_runs_are_right : EachRunIsSound → EachRunIsOfScenario → UnhitRunsAreUnguessed → CalmRunsAreRight
calm_runs_are_right sound scenario fair steps run unhit is_calm =
    (sound steps run.steps_are).reads.right (history_of empty_cluster steps) []
    (sym (append-nil (history_of empty_cluster steps)))
    (record {
      scenario = scenario steps run;
      is_calm = is_calm;
      is_unguessed = fair steps unhit;
    })
