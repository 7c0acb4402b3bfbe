-- The lines of the event of a ready call are of its client alone.
use Rattle.std.proofs.Common.{◌≡◌, ℕ, Bool, true, false, List, [], ◌∷◌, ◌++◌, Option, Some, None, is_some, if◌then◌else◌, refl, sym, ap, subst, ◌∙◌, append_assoc, inl, arith}
use Rattle.std.proofs.lemmas.List.{append-nil}
use Rattle.scenario_text.specs.declared.event.Event.{Event}
use Rattle.scenario_text.specs.declared.event.Event.TheVariants as event
use Rattle.scenario_text.specs.declared.line.Line.{Line}
use Rattle.scenario_text.specs.declared.line.Line.TheVariants as line
use Rattle.server_rules.specs.Laws.{In}
use Rattle.client_rules.specs.Steps.{awaits}
use Rattle.world_history.specs.ClientNames as client_rules
use Rattle.world_history.specs.State.{World, ClientAt, at_number}
use Rattle.world_history.specs.Moves.{Action, Opens, Delivers, TimesOut, Pends, op_of}
use Rattle.world_history.specs.Sending.{Move, move}
use Rattle.world_history.specs.Plans.{Plan, Rule, Alone, Prompt, next_pending, due_pending, due_by, due, when_quiet, quiet_at, went_on, plan_of, rule_of, is_refused}
use Rattle.world_history.specs.Runs.{lines_of, AreDue, plan_after, Carries}
use Rattle.world_history.proofs.ReadMessages.{never_opens}
use Rattle.history_law.specs.Read.{AreWritten}
use Rattle.history_law.specs.Moments.{IsMoment, with_event, lines_in}
use Rattle.history_law.proofs.Staying.{written_front}
use Rattle.exchange_law.proofs.HeldWorlds.{next_moment}
use Rattle.cause_law.specs.Queue.{IsHead}
use Rattle.cause_law.specs.Readable.{FilesAndAnswersAreReadable}
use Rattle.cause_law.proofs.PendingMoves.{taken_rule}
use Rattle.cause_law.proofs.Queue.{queue_is_due}
use Rattle.ready_law.specs.Answered.{scene_in}
use Rattle.ready_law.specs.Events.{StandsApart, EventsStandApart}
use Rattle.ready_law.specs.Ready.{Scene, scene_of, IsReady}
use Rattle.ready_law.specs.Worlds.{ScenesAreRead}
use Rattle.ready_law.proofs.Calls.{ReadyCall, op_at, first_at, IsIn}
use Rattle.ready_law.proofs.Going.{StagesGoOn}
use Rattle.ready_law.proofs.Opening.{body_of_moves, opened_clean, opens_call}
use Rattle.ready_law.proofs.Stages.{Stage, GoesOn, Further, Over}
use Rattle.ready_law.proofs.Walking.{Whole, IsFrontOf, fair_at, prompt_plan, counted, IsAt, goes_on, next_at, nothing_due}
use Rattle.history_claims.specs.Plain.{AreOnlyOf, ReadyCallsAreAlone}
use Rattle.history_claims.proofs.PlainMoves.{GoesOnlyTo, delivered_to, timed_to, pends_to, opens_to, both_only, move_only}
use Rattle.history_claims.proofs.PlainStages.{queue_received}

-- ---- one move

left_to : (w : World) (k : ℕ) (b : Bool) (a : Action) → (if b then Some (Pends k) else None) ≡ Some a → GoesOnlyTo w k a
left_to w k true a is = let same : Pends k ≡ a = cc is in subst (GoesOnlyTo w k) same (pends_to w k k)
left_to w k false a is = absurd (cc is)

-- a client that waits is told a timeout, or is left pending
quiet_to : (w : World) (k : ℕ) (x : client_rules.Client) (o : client_rules.Awaits) (a : Action) →
    when_quiet k x o ≡ Some a → GoesOnlyTo w k a
quiet_to w k x (client_rules.ADrive component) a is =
    let same : TimesOut k component ≡ a = cc is in subst (GoesOnlyTo w k) same (timed_to w k component)
quiet_to w k x client_rules.Nothing a is = left_to w k (is_some x.call) a is
quiet_to w k x client_rules.TheServer a is = left_to w k (is_some x.call) a is

module _ (s : ReadyCall) (w : World) (stage : Stage s w) where
  -- what is due goes to the call's client, or to one without a call
  due_to : (a : Action) → due (prompt_plan s) w ≡ Some a → GoesOnlyTo w s.client a
  due_to a is = by (next_pending w (first_at s)) refl is
    where
      by : (o : Option ℕ) → next_pending w (first_at s) ≡ o → due_pending w (Some s.client) o ≡ Some a →
          GoesOnlyTo w s.client a
      by (Some n) e d =
          let head : IsHead w (first_at s) n = queue_is_due.head w (first_at s) n e in
          let same : Delivers n ≡ a = cc d in
          subst (GoesOnlyTo w s.client) same
          (delivered_to w s.client n head.posted head.found
          (queue_received s w stage head.posted.message
          (subst (In head.posted.message) (sym head.queue_is) (inl refl))))
      by None e d = at_ (at_number w.clients s.client) d
        where
          at_ : (o : Option ClientAt) → quiet_at s.client o ≡ Some a → GoesOnlyTo w s.client a
          at_ None q = absurd (cc q)
          at_ (Some x) q = quiet_to w s.client x.state (awaits x.state) a q

-- ---- the moves of the event

module _ (readable : FilesAndAnswersAreReadable) (stages : StagesGoOn) (t : Whole) (s : ReadyCall) where
  -- a move behind the opening one begins no event
  plain_lines : (w : World) (m : Move) → due (prompt_plan s) w ≡ Some m.action → lines_in w m ≡ (move w m).lines
  plain_lines w m d = by m.action d
    where
      by : (a : Action) → due (prompt_plan s) w ≡ Some a → with_event a (move w m).lines ≡ (move w m).lines
      by (Opens e) o = absurd (never_opens w (prompt_plan s).rule e o)
      by (Delivers n) o = refl
      by (TimesOut c k) o = refl
      by (Pends c) o = refl

  none_more : (w : World) (ns : List Move) → due (prompt_plan s) w ≡ None → AreDue (prompt_plan s) w ns →
      AreOnlyOf s.client (lines_of w ns)
  none_more w [] none are = λ l i. absurd i
  none_more w (n ∷ ns) none are = absurd (cc (sym are.0 ∙ none))

  moves_only : (ns : List Move) (w : World) (h : List Line) → IsAt s w h → AreDue (prompt_plan s) w ns →
      IsFrontOf (h ++ lines_of w ns) t → AreOnlyOf s.client (lines_of w ns)
  moves_only [] w h x are front = λ l i. absurd i
  moves_only (n ∷ ns) w h x are front =
      let lines : lines_in w n ≡ (move w n).lines = plain_lines w n are.0 in
      let all : h ++ lines_of w (n ∷ ns) ≡ (h ++ lines_in w n) ++ lines_of (move w n).world ns =
      sym (append_assoc h (move w n).lines (lines_of (move w n).world ns))
      ∙ ap (λ (l : List Line). (h ++ l) ++ lines_of (move w n).world ns) (sym lines) in
      let behind : IsFrontOf ((h ++ lines_in w n) ++ lines_of (move w n).world ns) t =
      (front.0, front.1 ∙ ap (λ (l : List Line). l ++ front.0) all) in
      let cut : IsFrontOf (h ++ lines_in w n) t = (
        lines_of (move w n).world ns ++ front.0,
        behind.1 ∙ append_assoc (h ++ lines_in w n) (lines_of (move w n).world ns) front.0,
      ) in
      let one = goes_on readable stages t s w h x n are.0 cut in
      both_only s.client (move w n).lines (lines_of (move w n).world ns)
      (move_only w n s.client (due_to s w x.stage n.action are.0))
      (rest (λ y due. moves_only ns (move w n).world (h ++ lines_in w n) y due behind) one.0 cut
      (subst (λ (p : Plan). AreDue p (move w n).world ns) one.0 are.1) one.1)
    where
      rest : (IsAt s (move w n).world (h ++ lines_in w n) → AreDue (prompt_plan s) (move w n).world ns →
          AreOnlyOf s.client (lines_of (move w n).world ns)) →
          (went_on (prompt_plan s) n.action ≡ prompt_plan s) → IsFrontOf (h ++ lines_in w n) t →
          AreDue (prompt_plan s) (move w n).world ns → GoesOn s (move w n).world (lines_in w n) →
          AreOnlyOf s.client (lines_of (move w n).world ns)
      rest later stays cut due (Further stage silence) = later (next_at readable stages t s w h x n are.0 stays cut stage) due
      rest later stays cut due (Over done ends) =
          none_more (move w n).world ns (nothing_due readable stages t s (move w n).world done) due

  -- ---- the opening move

  module _ (after : World) (body : List Line)
      (carries : Carries s.world (event.Do s.client s.its) (line.Event (event.Do s.client s.its) ∷ body) after)
      (front : IsFrontOf (s.history ++ line.Event (event.Do s.client s.its) ∷ body) t) where
    abbrev v : World
    v = s.world

    abbrev own : Event
    own = event.Do s.client s.its

    abbrev start : IsMoment v s.history
    start = record {
      before = v;
      history = s.history;
      stands = s.stands;
      event = own;
      allowed = carries.allowed;
      moves = [];
      are_due = tt;
      world_is = refl;
      lines_are = sym (append-nil s.history);
    }

    start_in : IsIn s v s.history
    start_in = record {
      fair = fair_at readable t v s.history start (
        (line.Event own ∷ body) ++ front.0,
        front.1 ∙ append_assoc s.history (line.Event own ∷ body) front.0,
      ) s.ready.unguessed;
      begins = refl;
      behind = refl;
      event_is = refl;
    }

    module _ (m : Move) (ns : List Move) (moves_are : carries.moves ≡ m ∷ ns) where
      are_due : AreDue (plan_of v own) v (m ∷ ns)
      are_due = subst (AreDue (plan_of v own) v) moves_are carries.are_due

      opens : m.action ≡ Opens own
      opens = sym (cc are_due.0)

      own_lines : lines_in v m ≡ line.Event own ∷ (move v m).lines
      own_lines = ap (λ (a : Action). with_event a (move v m).lines) opens

      body_is : body ≡ (move v m).lines ++ lines_of (move v m).world ns
      body_is = body_of_moves v after own body carries m ns moves_are

      opened_front : IsFrontOf ((s.history ++ lines_in v m) ++ lines_of (move v m).world ns) t
      opened_front = (
        front.0,
        front.1 ∙ ap (λ (l : List Line). l ++ front.0)
            (ap (λ (l : List Line). s.history ++ line.Event own ∷ l) body_is
            ∙ ap (λ (l : List Line). s.history ++ (l ++ lines_of (move v m).world ns)) (sym own_lines)
            ∙ sym (append_assoc s.history (lines_in v m) (lines_of (move v m).world ns))),
      )

      next_in : IsIn s (move v m).world (s.history ++ lines_in v m)
      unfolding next_moment
      next_in = record {
        fair = fair_at readable t (move v m).world (s.history ++ lines_in v m) (next_moment v s.history start m are_due.0) (
          lines_of (move v m).world ns ++ opened_front.0,
          opened_front.1 ∙ append_assoc (s.history ++ lines_in v m) (lines_of (move v m).world ns) opened_front.0,
        ) (opened_clean s m opens);
        begins = refl;
        behind = refl;
        event_is = refl;
      }

      first_only : AreOnlyOf s.client (move v m).lines
      first_only = move_only v m s.client (subst (GoesOnlyTo v s.client) (sym opens) (opens_to v s.client s.its))

      -- a call that is refused ends the event
      refused_only : rule_of v own ≡ Alone → AreOnlyOf s.client (lines_of (move v m).world ns)
      refused_only alone = by ns are_due.1
        where
          by : (ms : List Move) → AreDue (went_on (plan_of v own) m.action) (move v m).world ms →
              AreOnlyOf s.client (lines_of (move v m).world ms)
          by [] are = λ l i. absurd i
          by (y ∷ ms) are =
              let none : due (went_on (plan_of v own) m.action) (move v m).world ≡ None =
              ap (λ (a : Action). due (went_on (plan_of v own) a) (move v m).world) opens
              ∙ ap (λ (r : Rule). due_by (move v m).world r) alone in
              absurd (cc (sym are.0 ∙ none))

      -- any other goes on
      taken_only : rule_of v own ≡ Prompt (first_at s) (Some s.client) → AreOnlyOf s.client (lines_of (move v m).world ns)
      unfolding next_in next_moment
      taken_only prompt =
          let plan_then : went_on (plan_of v own) m.action ≡ prompt_plan s =
          ap (λ (a : Action). went_on (plan_of v own) a) opens
          ∙ ap (λ (r : Rule). record { opening = None; rule = r }) prompt in
          let due_then : AreDue (prompt_plan s) (move v m).world ns =
          subst (λ (p : Plan). AreDue p (move v m).world ns) plan_then are_due.1 in
          by plan_then due_then (stages.opens s m (opens_call s m opens) start_in next_in)
        where
          by : (went_on (plan_of v own) m.action ≡ prompt_plan s) → AreDue (prompt_plan s) (move v m).world ns →
              GoesOn s (move v m).world (lines_in v m) → AreOnlyOf s.client (lines_of (move v m).world ns)
          by plan_then due_then (Further stage silence) =
              moves_only ns (move v m).world (s.history ++ lines_in v m) (record {
                within = next_in;
                plan_is = plan_then;
                longer = omega (arith, counted v m);
                stage = stage;
              }) due_then opened_front
          by plan_then due_then (Over done ends) =
              none_more (move v m).world ns (nothing_due readable stages t s (move v m).world done) due_then

      behind_only : (b : Bool) → is_refused (at_number v.clients s.client) (op_at s) ≡ b →
          AreOnlyOf s.client (lines_of (move v m).world ns)
      unfolding rule_of
      behind_only true is = refused_only (rw is refl)
      behind_only false is = taken_only (taken_rule v s.client s.its is)

      opened_only : AreOnlyOf s.client body
      opened_only =
          subst (AreOnlyOf s.client) (sym body_is)
          (both_only s.client (move v m).lines (lines_of (move v m).world ns) first_only
          (behind_only (is_refused (at_number v.clients s.client) (op_at s)) refl))

    all_moves : (ms : List Move) → carries.moves ≡ ms → AreOnlyOf s.client body
    all_moves [] none =
        let over : due (plan_of v own) after ≡ None =
        subst (λ (ms : List Move). due (plan_after (plan_of v own) ms) after ≡ None) none carries.over in
        absurd (cc over)
    all_moves (m ∷ ns) some = opened_only m ns some

    pub body_only : AreOnlyOf s.client body
    body_only = all_moves carries.moves refl

-- ---- in a history

-- Each ready call's event is of its client alone.
pub ready_calls_are_alone : EventsStandApart → ScenesAreRead → FilesAndAnswersAreReadable → StagesGoOn → ReadyCallsAreAlone
ready_calls_are_alone apart scenes readable stages h lawful are_written of_text few before body c x over ready =
    let a : StandsApart before (event.Do c x) body = apart h before (event.Do c x) body lawful over in
    let t : Whole = record { lines = h; lawful = lawful; written = are_written; of_text = of_text; few = few } in
    let scene : scene_in before ≡ scene_of a.world before =
    scenes a.world before a.stands
    (written_front before (line.Event (event.Do c x) ∷ (body ++ over.after)) (subst AreWritten over.lines_are are_written)) in
    let s : ReadyCall = record {
      world = a.world;
      history = before;
      stands = a.stands;
      client = c;
      its = x;
      ready = subst (λ (z : Scene). IsReady z c (op_of x)) scene ready;
    } in
    body_only readable stages t s a.next body a.carries
    (over.after, over.lines_are ∙ sym (append_assoc before (line.Event (event.Do c x) ∷ body) over.after))
