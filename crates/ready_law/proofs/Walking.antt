-- From stage to stage: a ready call's event goes on until the call has ended in ok.
use Rattle.std.proofs.Common.{◌≡◌, ◌≤◌, ◌+◌, ◌&&◌, ℕ, suc, Bool, true, false, not, List, [], ◌∷◌, ◌++◌, length, map, fold, Option, Some, None, is_some, if◌then◌else◌, refl, sym, ap, subst, ◌∙◌, append_assoc, arith}
use Rattle.std.specs.List.{list_any}
use Rattle.std.proofs.lemmas.Bool.{or_from}
use Rattle.std.proofs.lemmas.List.{append-nil, length-append}
use Rattle.std.proofs.lemmas.List.Folds.{list_any-append}
use Rattle.std.proofs.lemmas.List.Sums.{fold-append}
use Rattle.scenario_text.specs.declared.line.Line.{Line}
use Rattle.scenario_text.specs.declared.line.Line.TheVariants as line
use Rattle.client_rules.specs.Messages.{awaited_of}
use Rattle.client_rules.specs.Steps.{awaits_by, awaits}
use Rattle.world_history.specs.declared.messages.Message.{Message}
use Rattle.world_history.specs.State.{World, ClientAt, at_number}
use Rattle.world_history.specs.Moves.{Act, Action, Opens, Delivers, TimesOut, Pends, acts}
use Rattle.world_history.specs.Sending.{Move, move, fresh}
use Rattle.world_history.specs.ClientNames.{Client, Call, Request}
use Rattle.world_history.specs.Plans.{Plan, Prompt, next_pending, due_pending, due, when_quiet, quiet_at, went_on, plan_of}
use Rattle.world_history.specs.Runs.{world_after, lines_of, AreDue, plan_after, IsOver}
use Rattle.world_history.specs.History.{Lawful}
use Rattle.world_history.specs.Guesses.{Guarded, guards, guarded, guessed_at, unguessed}
use Rattle.world_history.proofs.ReadMessages.{never_opens}
use Rattle.world_history.proofs.Runs.{plan_more}
use Rattle.history_law.specs.Read.{AreWritten}
use Rattle.history_law.proofs.Staying.{written_front}
use Rattle.history_law.specs.Moments.{IsMoment, with_event, lines_in, plan_at}
use Rattle.history_law.proofs.Goes.{moves_are_steps}
use Rattle.exchange_law.specs.Doing.{posted}
use Rattle.exchange_law.specs.Text.{AreOfText, AreFew}
use Rattle.exchange_law.proofs.CountGrowing.{fewer, text_front}
use Rattle.exchange_law.proofs.HeldWorlds.{next_moment}
use Rattle.exchange_law.proofs.Knowing.{lawful_at}
use Rattle.cause_law.specs.Readable.{FilesAndAnswersAreReadable}
use Rattle.cause_law.specs.Lines.{is_event}
use Rattle.cause_law.specs.Queue.{IsHead}
use Rattle.cause_law.proofs.Eventless.{NoEvent, first_plain, later_plain}
use Rattle.cause_law.proofs.Queue.{queue_is_due, said_length}
use Rattle.ready_law.specs.Answered.{EndsOk, ends_call}
use Rattle.ready_law.specs.Fair.{IsFair}
use Rattle.ready_law.proofs.Calls.{ReadyCall, op_at, first_at, queue_at, IsIn, DeliversHead, TellsTimeout, request_message, answer_message, lost_at}
use Rattle.ready_law.proofs.Stages.{Stage, Returning, Returned, Asking, Recalling, AskingAgain, Getting, Committing, Committed, Reporting, Reported, Returns, WasReturned, AsksFirst, Recalls, AsksAgain, Gets, Works, Commits, WasCommitted, Reports, WasReported, Working, IsDone, GoesOn, Further, Over, HasSent, asking_at, work_at, IsRested}
use Rattle.ready_law.proofs.Going.{StagesGoOn, GoesOnBy, AwaitsDrive}

-- ---- the whole history

-- a lawful history of a scenario's text with few messages
pub record Whole : Type 0 where
  pub lines : List Line
  pub lawful : Lawful lines
  pub written : AreWritten lines
  pub of_text : AreOfText lines
  pub few : AreFew lines

-- these lines stand at its begin
abbrev pub IsFrontOf : List Line → Whole → Type 0
IsFrontOf h t = (rest : List Line) × (t.lines ≡ h ++ rest)

abbrev pub fair_at : FilesAndAnswersAreReadable → (t : Whole) (w : World) (h : List Line) → IsMoment w h → IsFrontOf h t
    → unguessed h ≡ true → IsFair w h
fair_at readable t w h k front clean =
    let of_text : AreOfText h = text_front h front.0 (subst AreOfText front.1 t.of_text) in
    let few : AreFew h = fewer h front.0 (subst AreFew front.1 t.few) in
    record {
      moment = k;
      lawful = lawful_at w h k;
      written = written_front h front.0 (subst AreWritten front.1 t.written);
      of_text = of_text;
      few = few;
      unguessed = clean;
      readable = readable h (lawful_at w h k) of_text few;
    }

-- ---- nothing is guessed in the event

not_guessed : (g : Guarded) (l : Line) → is_event l ≡ false → guessed_at g l ≡ false
not_guessed g (line.Event e) n = absurd (cc n)
not_guessed g l n = refl

and_true : (b : Bool) → (b && true) ≡ b
and_true true = refl
and_true false = refl

stays_clean : (g : Guarded) (ls : List Line) → NoEvent ls → (fold guards g ls).unguessed ≡ g.unguessed
stays_clean g [] n = refl
stays_clean g (l ∷ ls) n =
    let p = first_plain l ls n in
    stays_clean (guards g l) ls p.1
    ∙ ap (λ (b : Bool). g.unguessed && not b) (not_guessed g l p.0) ∙ and_true g.unguessed

pub clean_behind : (h ls : List Line) → NoEvent ls → unguessed h ≡ true → unguessed (h ++ ls) ≡ true
clean_behind h ls n e =
    ap (λ (g : Guarded). g.unguessed) (fold-append guards _ h ls) ∙ stays_clean (guarded h) ls n ∙ e

-- ---- the next move

-- what is due behind the opening move
abbrev pub prompt_plan : ReadyCall → Plan
prompt_plan s = record { opening = None; rule = Prompt (first_at s) (Some s.client) }

-- the first of the queue, where something is behind it
first_of : (xs ys : List Message) (y : Message) → (x : Message) × (rest : List Message) × (xs ++ y ∷ ys ≡ x ∷ rest)
first_of [] ys y = (y, ys, refl)
first_of (x ∷ xs) ys y = (x, xs ++ y ∷ ys, refl)

fresh_length : (ps : List _) → length (map fresh ps) ≡ length ps
fresh_length [] = refl
fresh_length (p ∷ ps) = ap (λ (k : ℕ). suc k) (fresh_length ps)

-- each move has as many messages more as it sends
pub counted : (w : World) (m : Move) → length (move w m).world.network.messages
    ≡ length w.network.messages + length (acts w m.chosen m.action).posts
counted w m =
    let a : Act = acts w m.chosen m.action in
    let same : length a.world.network.messages ≡ length w.network.messages =
    sym (said_length a.world.network.messages)
    ∙ ap (λ (ms : List Message). length ms) (moves_are_steps w m.chosen m.action).said
    ∙ said_length w.network.messages in
    omega (arith, same, fresh_length a.posts, length-append a.world.network.messages (map fresh a.posts))

module _ (s : ReadyCall) (w : World) (m : Move) (d : due (prompt_plan s) w ≡ Some m.action) where
  abbrev first : ℕ
  first = first_at s

  -- ---- the queue has a first message
  pub delivers : (x : Message) (rest : List Message) → queue_at s w ≡ x ∷ rest → DeliversHead s w m x rest
  delivers x rest q = by (next_pending w first) refl
    where
      by : (o : Option ℕ) → next_pending w first ≡ o → DeliversHead s w m x rest
      by None e = absurd (cc (sym ((queue_is_due.none w first).0 e) ∙ q))
      by (Some n) e =
          let head : IsHead w first n = queue_is_due.head w first n e in
          let same : head.posted.message ∷ head.rest ≡ x ∷ rest = sym head.queue_is ∙ q in
          let action : Delivers n ≡ m.action =
          cc (sym (ap (λ (o : Option ℕ). due_pending w (Some s.client) o) e) ∙ d) in
          let others : head.rest ≡ rest = cc same in
          record {
            number = n;
            action_is = sym action;
            posted_as = head.posted;
            found = head.found;
            message_is = cc same;
            queue_is =
                subst (λ (a : Action). queue_at s (move w (record { action = a; chosen = m.chosen })).world
                ≡ rest ++ posted (acts w m.chosen a).posts) action
                (head.goes_on m.chosen
                ∙ ap (λ (ms : List Message). ms ++ posted (acts w m.chosen (Delivers n)).posts) others);
            count_is = counted w m;
          }

  -- ---- it is empty
  pub silent : (k : ℕ) → first ≤ length w.network.messages → queue_at s w ≡ []
      → quiet_at s.client (at_number w.clients s.client) ≡ Some (TimesOut s.client k) → TellsTimeout s w m k
  silent k longer q t =
      let none : next_pending w first ≡ None = (queue_is_due.none w first).1 q in
      let is : TimesOut s.client k ≡ m.action =
      cc (sym t ∙ sym (ap (λ (o : Option ℕ). due_pending w (Some s.client) o) none) ∙ d) in
      record {
        action_is = sym is;
        queue_is =
            subst (λ (a : Action). queue_at s (move w (record { action = a; chosen = m.chosen })).world
            ≡ posted (acts w m.chosen a).posts) is
            (queue_is_due.stays w first (record { action = TimesOut s.client k; chosen = m.chosen }) tt longer
            ∙ ap (λ (ms : List Message). ms ++ posted (acts w m.chosen (TimesOut s.client k)).posts) q);
        count_is = counted w m;
      }

-- ---- lines that tell how the call ended

-- no line tells so
abbrev pub IsSilent : ReadyCall → List Line → Type 0
IsSilent s ls = list_any (ends_call s.client) ls ≡ false

pub both_silent : (s : ReadyCall) (xs ys : List Line) → IsSilent s xs → IsSilent s ys → IsSilent s (xs ++ ys)
both_silent s xs ys p q =
    list_any-append (ends_call s.client) xs ys
    ∙ or_from (list_any (ends_call s.client) xs) (list_any (ends_call s.client) ys) p q

-- before it silent lines may stand
pub ends_behind : (s : ReadyCall) (xs ys : List Line) → IsSilent s xs → EndsOk s.client (op_at s) ys
    → EndsOk s.client (op_at s) (xs ++ ys)
ends_behind s xs ys n e = record {
  front = xs ++ e.front;
  outcome = e.outcome;
  back = e.back;
  lines_are =
      ap (λ (l : List Line). xs ++ l) e.lines_are
      ∙ sym (append_assoc xs e.front (line.Ended s.client e.outcome ∷ e.back));
  ok = e.ok;
  once = (both_silent s xs e.front n e.once.0, e.once.1);
}

-- a client without a call has nothing due
rests : (x : Client) (c : ℕ) → x.call ≡ None → when_quiet c x (awaits x) ≡ None
unfolding awaits
rests x c free =
    ap (λ (o : Option Call). when_quiet c x (awaits_by (awaited_of o) x.outstanding)) free ∙ by x.outstanding
  where
    by : (o : Option Request) → when_quiet c x (awaits_by [] o) ≡ None
    by None = ap (λ (o : Option Call). if is_some o then Some (Pends c) else None) free
    by (Some r) = ap (λ (o : Option Call). if is_some o then Some (Pends c) else None) free

-- ---- the moves of the event

-- behind the opening move, and the event is at a stage; the plan is to deliver what is sent
pub record IsAt (s : ReadyCall) (w : World) (h : List Line) : Type 0 where
  pub within : IsIn s w h
  pub plan_is : plan_at within.fair.moment ≡ prompt_plan s
  pub longer : first_at s ≤ length w.network.messages
  pub stage : Stage s w

-- the call ended in ok, and so many messages were sent at most
pub record EndsWithin (s : ReadyCall) (w : World) (ls : List Line) : Type 0 where
  pub ends : EndsOk s.client (op_at s) ls
  pub sent : HasSent s w (asking_at s + work_at s + 4)
  pub rests : lost_at s ≡ [] → IsRested s w
  -- the moment at its end
  pub history : List Line
  pub within : IsIn s w history

module _ (readable : FilesAndAnswersAreReadable) (stages : StagesGoOn) (t : Whole) (s : ReadyCall) where
  -- ---- one move

  module _ (w : World) (h : List Line) (x : IsAt s w h) (m : Move) (d : due (prompt_plan s) w ≡ Some m.action) where
    due_so : due (plan_at x.within.fair.moment) w ≡ Some m.action
    due_so = ap (λ (p : Plan). due p w) x.plan_is ∙ d

    -- the lines of a move that begins no event
    lines_are : lines_in w m ≡ (move w m).lines
    lines_are = later_lines m.action d
      where
        later_lines : (a : Action) → due (prompt_plan s) w ≡ Some a → with_event a (move w m).lines ≡ (move w m).lines
        later_lines (Opens e) o = absurd (never_opens w (prompt_plan s).rule e o)
        later_lines (Delivers n) o = refl
        later_lines (TimesOut c k) o = refl
        later_lines (Pends c) o = refl

    plain : NoEvent (lines_in w m)
    plain = subst NoEvent (sym lines_are) (later_plain w (prompt_plan s).rule m.chosen m.action d)

    next_in : IsFrontOf (h ++ lines_in w m) t → IsIn s (move w m).world (h ++ lines_in w m)
    unfolding next_moment
    next_in front = record {
      fair =
          fair_at readable t (move w m).world (h ++ lines_in w m) (next_moment w h x.within.fair.moment m due_so) front
          (clean_behind h (lines_in w m) plain x.within.fair.unguessed);
      begins = x.within.begins;
      behind = x.within.behind;
      event_is = x.within.event_is;
    }

    -- it begins no event, and leaves no call pending
    abbrev Stays : Type 0
    Stays = went_on (prompt_plan s) m.action ≡ prompt_plan s

    -- the first message of the queue is delivered
    by_head : (Has : ReadyCall → World → Type 0) → GoesOnBy Has → Has s w
        → ((y : Message) × (rest : List Message) × (queue_at s w ≡ y ∷ rest)) → IsFrontOf (h ++ lines_in w m) t
        → Stays × GoesOn s (move w m).world (lines_in w m)
    by_head Has goes has (y, rest, q) front =
        let head : DeliversHead s w m y rest = delivers s w m d y rest q in (
          ap (λ (a : Action). went_on (prompt_plan s) a) head.action_is,
          goes s w h x.within m (next_in front) has y rest q head,
        )

    by_works : (a : Working s w) → (ms : List Message) → queue_at s w ≡ ms → IsFrontOf (h ++ lines_in w m) t
        → Stays × GoesOn s (move w m).world (lines_in w m)
    by_works a (y ∷ ms) q front = by_head Working stages.working a (y, ms, q) front
    by_works a [] q front =
        let next : AwaitsDrive s w a = stages.waits s w a in
        let timeout : TellsTimeout s w m next.component = silent s w m d next.component x.longer q next.due in (
          ap (λ (o : Action). went_on (prompt_plan s) o) timeout.action_is,
          stages.times_out s w h x.within m (next_in front) a q next.component next.some timeout,
        )

    pub goes_on : IsFrontOf (h ++ lines_in w m) t → Stays × GoesOn s (move w m).world (lines_in w m)
    goes_on front = by x.stage
      where
        by : Stage s w → Stays × GoesOn s (move w m).world (lines_in w m)
        by (Returns a) = by_head Returning stages.returning a (request_message a.request, [], a.queue) front
        by (WasReturned a) = by_head Returned stages.returned a (answer_message a.answer, [], a.queue) front
        by (AsksFirst a) = by_head Asking stages.asking a (request_message a.request, [], a.queue) front
        by (Recalls a) =
            let f = first_of a.recalls a.returns (answer_message a.answer) in
            by_head Recalling stages.recalling a (f.0, f.1, a.queue ∙ f.2) front
        by (AsksAgain a) =
            let f = first_of (a.halves ++ a.returns) a.taken_by (request_message a.request) in
            by_head AskingAgain stages.asking_again a
            (f.0, f.1, a.queue ∙ f.2) front
        by (Gets a) =
            let f = first_of a.taken_by [] (answer_message a.answer) in
            by_head Getting stages.getting a (f.0, f.1, a.queue ∙ f.2) front
        by (Works a) = by_works a (queue_at s w) refl front
        by (Commits a) = by_head Committing stages.committing a (request_message a.request, [], a.queue) front
        by (WasCommitted a) = by_head Committed stages.committed a (answer_message a.answer, [], a.queue) front
        by (Reports a) = by_head Reporting stages.reporting a (request_message a.request, [], a.queue) front
        by (WasReported a) = by_head Reported stages.reported a (answer_message a.answer, [], a.queue) front

    pub next_at : Stays → IsFrontOf (h ++ lines_in w m) t → Stage s (move w m).world
        → IsAt s (move w m).world (h ++ lines_in w m)
    unfolding next_in next_moment
    next_at stays front stage = record {
      within = next_in front;
      plan_is =
          plan_more (plan_of x.within.fair.moment.before x.within.fair.moment.event) x.within.fair.moment.moves m
          ∙ ap (λ (p : Plan). went_on p m.action) x.plan_is ∙ stays;
      longer = omega (arith, x.longer, counted w m);
      stage = stage;
    }

  -- ---- what is due at a stage

  due_first : (w : World) → due (prompt_plan s) w ≡ None → (next_pending w (first_at s) ≡ None)
      × (quiet_at s.client (at_number w.clients s.client) ≡ None)
  due_first w none = by (next_pending w (first_at s)) refl none
    where
      by : (o : Option ℕ) → next_pending w (first_at s) ≡ o → due_pending w (Some s.client) o ≡ None
          → (next_pending w (first_at s) ≡ None) × (quiet_at s.client (at_number w.clients s.client) ≡ None)
      by None e q = (e, q)
      by (Some n) e q = absurd (cc q)

  -- so at each stage something is
  something_due : (w : World) (h : List Line) → IsAt s w h → due (prompt_plan s) w ≡ None → ⊥
  something_due w h x none = by x.stage
    where
      empty : queue_at s w ≡ []
      empty = (queue_is_due.none w (first_at s)).0 (due_first w none).0

      has_one : ((y : Message) × (rest : List Message) × (queue_at s w ≡ y ∷ rest)) → ⊥
      has_one (y, rest, q) = absurd (cc (sym q ∙ empty))

      by : Stage s w → ⊥
      by (Returns a) = has_one (request_message a.request, [], a.queue)
      by (WasReturned a) = has_one (answer_message a.answer, [], a.queue)
      by (AsksFirst a) = has_one (request_message a.request, [], a.queue)
      by (Recalls a) = let f = first_of a.recalls a.returns (answer_message a.answer) in has_one (f.0, f.1, a.queue ∙ f.2)
      by (AsksAgain a) =
          let f = first_of (a.halves ++ a.returns) a.taken_by (request_message a.request) in
          has_one (f.0, f.1, a.queue ∙ f.2)
      by (Gets a) = let f = first_of a.taken_by [] (answer_message a.answer) in has_one (f.0, f.1, a.queue ∙ f.2)
      by (Works a) = absurd (cc (sym (stages.waits s w a).due ∙ (due_first w none).1))
      by (Commits a) = has_one (request_message a.request, [], a.queue)
      by (WasCommitted a) = has_one (answer_message a.answer, [], a.queue)
      by (Reports a) = has_one (request_message a.request, [], a.queue)
      by (WasReported a) = has_one (answer_message a.answer, [], a.queue)

  -- and nothing is once the call is over
  pub nothing_due : (w : World) → IsDone s w → due (prompt_plan s) w ≡ None
  nothing_due w x =
      ap (λ (o : Option ℕ). due_pending w (Some s.client) o) ((queue_is_due.none w (first_at s)).1 x.queue)
      ∙ ap (λ (o : Option ClientAt). quiet_at s.client o) x.there ∙ rests x.at.state s.client x.free

  -- ---- the moves

  pub goes : (ns : List Move) (w : World) (h : List Line) → IsAt s w h → AreDue (prompt_plan s) w ns
      → IsOver (plan_after (prompt_plan s) ns) (world_after w ns) → IsFrontOf (h ++ lines_of w ns) t
      → EndsWithin s (world_after w ns) (lines_of w ns)
  goes [] w h x due over front = absurd (something_due w h x over)
  goes (n ∷ ns) w h x are over front =
      let lines : lines_in w n ≡ (move w n).lines = lines_are w h x n are.0 in
      let cut : IsFrontOf (h ++ lines_in w n) t = (
        lines_of (move w n).world ns ++ front.0,
        front.1 ∙ ap (λ (l : List Line). l ++ front.0) (sym (append_assoc h (move w n).lines (lines_of (move w n).world ns)))
            ∙ append_assoc (h ++ (move w n).lines) (lines_of (move w n).world ns) front.0
            ∙ ap (λ (l : List Line). (h ++ l) ++ (lines_of (move w n).world ns ++ front.0)) (sym lines),
      ) in
      let one = goes_on w h x n are.0 cut in
      by (λ y due over front. goes ns (move w n).world (h ++ lines_in w n) y due over front) one.0 cut lines one.1
    where
      by : (IsAt s (move w n).world (h ++ lines_in w n) → AreDue (prompt_plan s) (move w n).world ns
          → IsOver (plan_after (prompt_plan s) ns) (world_after (move w n).world ns)
          → IsFrontOf ((h ++ lines_in w n) ++ lines_of (move w n).world ns) t
          → EndsWithin s (world_after (move w n).world ns) (lines_of (move w n).world ns))
          → (went_on (prompt_plan s) n.action ≡ prompt_plan s) → IsFrontOf (h ++ lines_in w n) t
          → lines_in w n ≡ (move w n).lines → GoesOn s (move w n).world (lines_in w n)
          → EndsWithin s (world_after (move w n).world ns) ((move w n).lines ++ lines_of (move w n).world ns)
      by goes_further stays cut lines (Further stage silence) =
          let rest =
          goes_further (next_at w h x n are.0 stays cut stage)
          (subst (λ (p : Plan). AreDue p (move w n).world ns) stays are.1)
          (subst (λ (p : Plan). IsOver (plan_after p ns) (world_after (move w n).world ns)) stays over) (
            front.0,
            front.1 ∙ ap (λ (l : List Line). l ++ front.0)
                (sym (append_assoc h (move w n).lines (lines_of (move w n).world ns))
                ∙ ap (λ (l : List Line). (h ++ l) ++ lines_of (move w n).world ns) (sym lines)),
          ) in
          record {
            ends = ends_behind s (move w n).lines (lines_of (move w n).world ns) (subst (IsSilent s) lines silence) rest.ends;
            sent = rest.sent;
            rests = rest.rests;
            history = rest.history;
            within = rest.within;
          }
      by goes_further stays cut lines (Over done ends) = last ns refl
        where
          last : (ms : List Move) → ns ≡ ms
              → EndsWithin s (world_after (move w n).world ns) ((move w n).lines ++ lines_of (move w n).world ns)
          last [] none = subst (λ (l : List Move). EndsWithin s (world_after (move w n).world l)
              ((move w n).lines ++ lines_of (move w n).world l)) (sym none) (record {
                ends =
                    subst (EndsOk s.client (op_at s)) (lines ∙ sym (append-nil (move w n).lines)) ends;
                sent = done.sent;
                rests = done.rests;
                history = h ++ lines_in w n;
                within = next_in w h x n are.0 cut;
              })
          last (y ∷ ms) some =
              let are_due : AreDue (prompt_plan s) (move w n).world (y ∷ ms) =
              subst (AreDue (prompt_plan s) (move w n).world) some
              (subst (λ (p : Plan). AreDue p (move w n).world ns) stays are.1) in
              absurd (cc (sym are_due.0 ∙ nothing_due (move w n).world done))
