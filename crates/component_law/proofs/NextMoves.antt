-- Which moves an event has behind its first, and the lines of one that begins no event.
use Rattle.std.proofs.Common.{◌≡◌, ℕ, ◌++◌, ◌∷◌, [], List, Bool, true, false, true≢false, Option, Some, None, is_some, refl, sym, ap, subst, ◌∙◌, if◌then◌else◌}
use Rattle.std.proofs.lemmas.List.{append-nil}
use Rattle.client_rules.specs.Steps.{awaits}
use Rattle.scenario_text.specs.declared.event.Event.{Event}
use Rattle.scenario_text.specs.declared.line.Line.{Line}
use Rattle.world_history.specs.ClientNames as client_rules
use Rattle.world_history.specs.State.{ClientAt, World, at_number}
use Rattle.world_history.specs.Moves.{Action, Opens, Delivers, TimesOut, Pends, acts}
use Rattle.world_history.specs.Sending.{Move, sends_all}
use Rattle.world_history.specs.Plans.{Plan, Rule, Alone, Prompt, due, due_by, due_in, due_pending, next_pending, quiet_of, quiet_at, when_quiet, went_on, plan_of}
use Rattle.world_history.specs.Runs.{world_after, plan_after}
use Rattle.world_history.specs.History.{StandsFor}
use Rattle.world_history.specs.Refusals.{refusal}
use Rattle.world_history.proofs.Runs.{no_opening}
use Rattle.history_law.specs.BookMoments.{IsMoment, with_event, lines_so_far, plan_at}
use Rattle.component_law.proofs.Shapes.{Shape, delivers_shape, times_shape, pends_shape}

abbrev pub is_opens : Action → Bool
is_opens (Opens e) = true
is_opens a = false

quiet_opens : (c : ℕ) (a : client_rules.Client) (x : client_rules.Awaits) (m : Action) → when_quiet c a x ≡ Some m
    → is_opens m ≡ false
quiet_opens c a (client_rules.ADrive k) m e =
    let same : TimesOut c k ≡ m = cc in
    ap (λ (x : Action). is_opens x) (sym same)
quiet_opens c a x m e = either (is_some a.call) e
  where
    either : (b : Bool) → (if b then Some (Pends c) else None) ≡ Some m → is_opens m ≡ false
    either true q =
        let same : Pends c ≡ m = cc in
        ap (λ (y : Action). is_opens y) (sym same)
    either false q = absurd (cc q)

due_opens : (w : World) (r : Rule) (m : Action) → due_by w r ≡ Some m → is_opens m ≡ false
due_opens w Alone m e = absurd (cc e)
due_opens w (Prompt first c) m e = pending (next_pending w first) e
  where
    at : (k : ℕ) (a : Option ClientAt) → quiet_at k a ≡ Some m → is_opens m ≡ false
    at k None q = absurd (cc q)
    at k (Some a) q = quiet_opens k a.state (awaits a.state) m q

    quiet : (o : Option ℕ) → quiet_of w o ≡ Some m → is_opens m ≡ false
    quiet None q = absurd (cc q)
    quiet (Some k) q = at k (at_number w.clients k) q

    pending : (o : Option ℕ) → due_pending w c o ≡ Some m → is_opens m ≡ false
    pending (Some n) q =
        let same : Delivers n ≡ m = cc in
        ap (λ (x : Action). is_opens x) (sym same)
    pending None q = quiet c q

-- behind the first move
pub next_opens : (p : Plan) (done : List Move) (v : World) (m : Action) → p.opening ≡ None
    → due (plan_after p done) v ≡ Some m → is_opens m ≡ false
next_opens p done v m none n =
    due_opens v (plan_after p done).rule m
    (sym (ap (λ (o : Option Event). due_in v (plan_after p done).rule o) (no_opening p done none)) ∙ n)

-- a moment at which an event begins: the world stands for all lines, and the event isn't refused
pub record IsBegun (w : World) (h : List Line) (e : Event) (history : List Line) : Type 0 where
  pub stands : StandsFor w h
  pub allowed : refusal w e ≡ None
  pub history_is : history ≡ h

pub first_begun : (w : World) (h : List Line) (k : IsMoment w h) (e : Event) → due (plan_at k) w ≡ Some (Opens e)
    → IsBegun w h e k.history
first_begun w h k e next = by_moves k.moves refl
  where
    by_moves : (ms : List Move) → k.moves ≡ ms → IsBegun w h e k.history
    by_moves [] q =
        let same : Some (Opens k.event) ≡ Some (Opens e) =
        ap (λ (ms : List Move). due (plan_after (plan_of k.before k.event) ms) w) (sym q) ∙ next in
        let is : k.event ≡ e = cc in
        let there : w ≡ k.before = k.world_is ∙ ap (λ (ms : List Move). world_after k.before ms) q in
        let same_lines : k.history ≡ h =
        sym (append-nil k.history)
        ∙ ap (λ (ms : List Move). k.history ++ lines_so_far k.before k.event ms) (sym q) ∙ sym k.lines_are in
        record {
          stands = subst (λ (v : World). StandsFor v h) (sym there)
              (subst (λ (ls : List Line). StandsFor k.before ls) same_lines k.stands);
          allowed = ap (λ (x : Event). refusal w x) (sym is) ∙ ap (λ (v : World). refusal v k.event) there ∙ k.allowed;
          history_is = same_lines;
        }
    by_moves (d ∷ done) q =
        let late : is_opens (Opens e) ≡ false =
        next_opens (went_on (plan_of k.before k.event) d.action) done w (Opens e) refl
        (ap (λ (ms : List Move). due (plan_after (plan_of k.before k.event) ms) w) (sym q) ∙ next) in
        absurd (true≢false late)

pub acts_shape : (w : World) (chosen : List ℕ) (a : Action) → is_opens a ≡ false → Shape (sends_all (acts w chosen a)).lines
acts_shape w chosen (Opens e) o = absurd (true≢false o)
acts_shape w chosen (Delivers n) o = delivers_shape w chosen n
acts_shape w chosen (TimesOut c k) o = times_shape w c k
acts_shape w chosen (Pends c) o = pends_shape w c

-- the event's own line stands before those of its first move alone
pub plain_lines : (a : Action) (ls : List Line) → is_opens a ≡ false → with_event a ls ≡ ls
plain_lines (Opens e) ls o = absurd (true≢false o)
plain_lines a ls o = refl
