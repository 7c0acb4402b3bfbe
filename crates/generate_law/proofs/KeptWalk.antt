-- Along the moves of a ready call's event, where nothing is lost, few bytes are kept, and no loss is told.
use Rattle.cause_law.proofs.Eventless.{NoEvent, first_plain, later_plain, opens_plain}
use Rattle.cause_law.proofs.PendingMoves.{taken_rule}
use Rattle.client_rules.specs.Calls.{bytes_of, span_of}
use Rattle.client_rules.specs.Steps.{calls, is_bad_range, is_spent}
use Rattle.client_rules.specs.declared.limits.TheConstants.{GREATEST_SEQUENCE}
use Rattle.exchange_law.proofs.CountGrowing.{as_many}
use Rattle.exchange_law.proofs.CountMoments.{at_moment}
use Rattle.exchange_law.proofs.HeldWorlds.{next_moment}
use Rattle.exchange_law.proofs.Knowing.{lawful_at}
use Rattle.exchange_law.specs.Counters.{ClientCounts}
use Rattle.exchange_law.specs.Doing.{posted}
use Rattle.exchange_law.specs.Text.{AreFew, AreOfText}
use Rattle.generate_law.proofs.KeptHears.{GoesQuietly, NoLoss, OpensQuietly, both_no_loss, delivers_quietly, opens_quietly}
use Rattle.generate_law.proofs.KeptLogs.{logged_in, spare_of}
use Rattle.generate_law.proofs.KeptMoves.{IsShort, MOST_AT_ONCE, SendsLittle}
use Rattle.generate_law.proofs.KeptStages.{IsOfScenario, IsSmall, asking_again_small, asking_small, recalling_small, returned_small, returning_small}
use Rattle.generate_law.proofs.KeptWorks.{committed_small, committing_small, getting_small, opens_little, working_never_waits, working_small}
use Rattle.generate_law.specs.Few.{MESSAGES_A_CALL}
use Rattle.generate_law.specs.Kept.{BYTES_A_CALL, BYTES_A_MESSAGE}
use Rattle.history_law.proofs.Counting.{acts_count}
use Rattle.history_law.proofs.DriveEvents.{IsRead, kept}
use Rattle.history_law.specs.Moments.{IsMoment, IsReached, lines_in, plan_at, with_event}
use Rattle.history_law.specs.Read.{AreWritten, is_written}
use Rattle.load_law.proofs.Runs.{each_call_sends_few}
use Rattle.ready_law.proofs.Calls.{IsIn, ReadyCall, answer_message, first_at, kept_at, lost_at, op_at, queue_at, request_message}
use Rattle.ready_law.proofs.Opening.{opened_clean, opens_call}
use Rattle.ready_law.proofs.Stages.{AsksAgain, AsksFirst, Commits, Further, Gets, GoesOn, IsDone, Over, Recalls, Reports, Returns, Stage, WasCommitted, WasReported, WasReturned, Working, Works, asking_at, work_at}
use Rattle.ready_law.proofs.Together.{ReadyLaws, stages}
use Rattle.ready_law.proofs.Walking.{IsAt, IsFrontOf, Whole, counted, delivers, fair_at, goes_on, next_at, nothing_due, prompt_plan}
use Rattle.ready_law.proofs.WorkingStage.{grant_agrees, sends_few}
use Rattle.scenario_text.specs.Spelling.{Fits}
use Rattle.scenario_text.specs.declared.event.Event.{Event}
use Rattle.scenario_text.specs.declared.line.Line.{Line}
use Rattle.server_rules.specs.Laws.{In}
use Rattle.std.proofs.Common.{ℕ, List, None, Option, Some, [], ap, arith, false, inl, is_err, length, refl, subst, sym, true, ◌*◌, ◌++◌, ◌+◌, ◌∙◌, ◌∷◌, ◌≡◌, ◌≤◌}
use Rattle.std.proofs.lemmas.Bool.Decides.{nat_tests}
use Rattle.std.proofs.lemmas.List.{append-nil, length-append}
use Rattle.std.proofs.lemmas.List.Sums.{sum_by-cons}
use Rattle.std.specs.List.{AllByRecursion, sum_by}
use Rattle.stripe_plan.specs.Lost.{among}
use Rattle.world_history.proofs.ReadMessages.{never_opens}
use Rattle.world_history.specs.ClientNames.{CallOp, Read, TimedOut, Write}
use Rattle.world_history.specs.Handed.{Post}
use Rattle.world_history.specs.Moves.{Action, Delivers, Opens, Pends, TimesOut, acts}
use Rattle.world_history.specs.Plans.{Plan, Rule, due, is_refused, plan_of, went_on}
use Rattle.world_history.specs.Refusals.{refusal}
use Rattle.world_history.specs.Runs.{AreDue, lines_of, world_after}
use Rattle.world_history.specs.Sending.{Move, cost, move, sends_all}
use Rattle.world_history.specs.ServerNames.{Grant}
use Rattle.world_history.specs.State.{ClientAt, World, at_number}
use Rattle.world_history.specs.declared.limits.TheConstants.{MAX_KEPT}
use Rattle.world_history.specs.declared.messages.Message.{Message}
use Rattle.scenario_text.specs.declared.event.Event.TheVariants as event
use Rattle.scenario_text.specs.declared.line.Line.TheVariants as line

-- ---- bytes

bytes_few : (ps : List Post) → AllByRecursion IsShort (posted ps) → sum_by cost ps ≤ logged_in ps + BYTES_A_MESSAGE * length ps
bytes_few [] s = omega arith
bytes_few (p ∷ ps) s =
    omega (arith, s.0, bytes_few ps s.1, sum_by-cons cost p ps, sum_by-cons (λ (y : Post). y.logged) p ps)

-- what a move keeps
move_keeps : (w : World) (m : Move) → SendsLittle w m
    → (move w m).world.network.kept ≤ w.network.kept + logged_in (acts w m.chosen m.action).posts
    + BYTES_A_MESSAGE * length (acts w m.chosen m.action).posts
move_keeps w m little =
    omega (arith, (acts_count w m.chosen m.action).kept, bytes_few (acts w m.chosen m.action).posts little.short)

-- ---- the history

written_more : (h ls : List Line) → AreWritten h → NoEvent ls → AreWritten (h ++ ls)
written_more [] [] g n = tt
written_more [] (line.Event e ∷ ls) g n = absurd (cc (first_plain (line.Event e) ls n).0)
written_more [] (l ∷ ls) g n = (refl, written_more [] ls tt (first_plain l ls n).1)
written_more (l ∷ h) ls g n = (g.0, written_more h ls g.1 n)

text_more : (h ls : List Line) → AreOfText h → NoEvent ls → AreOfText (h ++ ls)
text_more [] [] g n = tt
text_more [] (line.Event e ∷ ls) g n = absurd (cc (first_plain (line.Event e) ls n).0)
text_more [] (l ∷ ls) g n = (tt, text_more [] ls tt (first_plain l ls n).1)
text_more (l ∷ h) ls g n = (g.0, text_more h ls g.1 n)

written_both : (xs ys : List Line) → AreWritten xs → AreWritten ys → AreWritten (xs ++ ys)
written_both [] ys p q = q
written_both (x ∷ xs) ys p q = (p.0, written_both xs ys p.1 q)

text_both : (xs ys : List Line) → AreOfText xs → AreOfText ys → AreOfText (xs ++ ys)
text_both [] ys p q = q
text_both (x ∷ xs) ys p q = (p.0, text_both xs ys p.1 q)

few_then : (w : World) (h : List Line) → IsMoment w h → length w.network.messages ≤ MAX_KEPT → AreFew h
few_then w h k few = omega (arith, as_many w h (at_moment IsRead kept w h k), few)

-- the whole history up to a moment
whole_at : (w : World) (h : List Line) → IsMoment w h → AreWritten h → AreOfText h → length w.network.messages ≤ MAX_KEPT → Whole
whole_at w h k written text few = record {
  lines = h;
  lawful = lawful_at w h k;
  written = written;
  of_text = text;
  few = few_then w h k few;
}

-- ---- what the walk keeps

-- From one world of the event to another: what is kept, and what may still be logged, rise by no more than 1,256 bytes a message;
-- there are few messages; and these lines tell no loss.
pub record Walked (s : ReadyCall) (w v : World) (ls : List Line) : Type 0 where
  pub bytes : v.network.kept + spare_of (length (bytes_of (op_at s))) (at_number v.clients s.client)
      + BYTES_A_MESSAGE * length w.network.messages
      ≤ w.network.kept + spare_of (length (bytes_of (op_at s))) (at_number w.clients s.client)
      + BYTES_A_MESSAGE * length v.network.messages
  pub few : length v.network.messages ≤ first_at s + MESSAGES_A_CALL
  pub told : NoLoss ls

none_empty : (xs : List Message) (y : Message) (ys : List Message) → xs ++ y ∷ ys ≡ [] → ⊥
none_empty [] y ys e = cc e
none_empty (x ∷ xs) y ys e = cc e

gone_none : (lost : List ℕ) (j : ℕ) → lost ≡ [] → among j lost ≡ true → ⊥
gone_none [] j none e = absurd (cc e)
gone_none (x ∷ xs) j none e = absurd (cc none)

module _ (all : ReadyLaws) (s : ReadyCall) (known : IsOfScenario s)
    (few_calls : asking_at s + work_at s + 4 ≤ MESSAGES_A_CALL) where
  -- ---- how many messages at a stage

  module _ (w : World) (h : List Line) (k : IsIn s w h) where
    work_few : (a : Working s w) → 2 * length a.commands ≤ work_at s
    work_few a =
        sends_few each_call_sends_few s a.begun a.has.held a.phase a.commands a.run a.has.good
        (grant_agrees all.asking s w h k a.has.caller.at a.has.caller.there a.has.held a.has.holds a.has.grants (kept_at s).size
        a.has.server a.has.grant a.has.granted).map a.size

    stage_few : Stage s w → length w.network.messages ≤ first_at s + MESSAGES_A_CALL
    stage_few (Returns a) = omega (arith, a.sent, few_calls)
    stage_few (WasReturned a) = omega (arith, a.sent, few_calls)
    stage_few (AsksFirst a) = omega (arith, a.sent, few_calls)
    stage_few (Recalls a) =
        omega (
          arith,
          a.sent,
          few_calls,
          ap (λ (gs : List Grant). length gs) a.all,
          length-append a.done a.left,
        )
    stage_few (AsksAgain a) =
        omega (
          arith,
          a.sent,
          few_calls,
          ap (λ (gs : List Grant). length gs) a.all,
          length-append (a.done ++ a.half) a.left,
          length-append a.done a.half,
          length-append a.done (a.half ++ a.left),
          length-append a.half a.left,
        )
    stage_few (Gets a) = omega (arith, a.sent, few_calls)
    stage_few (Works a) = omega (arith, a.sent, few_calls, work_few a)
    stage_few (Commits a) = omega (arith, a.sent, few_calls)
    stage_few (WasCommitted a) = omega (arith, a.sent, few_calls)
    stage_few (Reports a) = omega (arith, a.sent, few_calls)
    stage_few (WasReported a) = omega (arith, a.sent, few_calls)

    -- ---- one move

    module _ (m : Move) (d : due (prompt_plan s) w ≡ Some m.action) where
      abbrev Small : Type 0
      Small = SendsLittle w m × GoesQuietly s w m

      so : (x : Message) (rest : List Message) (q : queue_at s w ≡ x ∷ rest) → IsSmall s w m x → Small
      so x rest q it = (it.little, delivers_quietly s w m x rest (delivers s w m d x rest q) it.hears)

      by_stage : Stage s w → (ms : List Message) → queue_at s w ≡ ms → Small
      by_stage (Returns a) [] q = absurd (cc (sym q ∙ a.queue))
      by_stage (WasReturned a) [] q = absurd (cc (sym q ∙ a.queue))
      by_stage (AsksFirst a) [] q = absurd (cc (sym q ∙ a.queue))
      by_stage (Recalls a) [] q = absurd (none_empty a.recalls (answer_message a.answer) a.returns (sym a.queue ∙ q))
      by_stage (AsksAgain a) [] q =
          absurd (none_empty (a.halves ++ a.returns) (request_message a.request) a.taken_by (sym a.queue ∙ q))
      by_stage (Gets a) [] q = absurd (none_empty a.taken_by (answer_message a.answer) [] (sym a.queue ∙ q))
      by_stage (Works a) [] q = absurd (working_never_waits all s known w h k m a q)
      by_stage (Commits a) [] q = absurd (cc (sym q ∙ a.queue))
      by_stage (WasCommitted a) [] q = absurd (cc (sym q ∙ a.queue))
      by_stage (Reports a) ms q = by a.timed refl
        where
          by : (ts : List TimedOut) → a.timed ≡ ts → Small
          by [] none = absurd (a.some none)
          by (t ∷ ts) is =
              absurd (gone_none (lost_at s) t.ask.component known.whole (a.silent.lost t (subst (In t) (sym is) (inl refl))))
      by_stage (WasReported a) ms q = absurd (a.some_lost known.whole)
      by_stage (Returns a) (x ∷ rest) q = so x rest q (returning_small all s known w h k m a x rest q (delivers s w m d x rest q))
      by_stage (WasReturned a) (x ∷ rest) q =
          so x rest q (returned_small all s known w h k m a x rest q (delivers s w m d x rest q))
      by_stage (AsksFirst a) (x ∷ rest) q = so x rest q (asking_small all s known w h k m a x rest q (delivers s w m d x rest q))
      by_stage (Recalls a) (x ∷ rest) q = so x rest q (recalling_small all s known w h k m a x rest q (delivers s w m d x rest q))
      by_stage (AsksAgain a) (x ∷ rest) q =
          so x rest q (asking_again_small all s known w h k m a x rest q (delivers s w m d x rest q))
      by_stage (Gets a) (x ∷ rest) q = so x rest q (getting_small all s known w h k m a x rest q (delivers s w m d x rest q))
      by_stage (Works a) (x ∷ rest) q = so x rest q (working_small all s known w h k m a x rest q (delivers s w m d x rest q))
      by_stage (Commits a) (x ∷ rest) q =
          so x rest q (committing_small all s known w h k m a x rest q (delivers s w m d x rest q))
      by_stage (WasCommitted a) (x ∷ rest) q =
          so x rest q (committed_small all s known w h k m a x rest q (delivers s w m d x rest q))

  -- ---- the moves

  done_few : (w : World) → IsDone s w → length w.network.messages ≤ first_at s + MESSAGES_A_CALL
  done_few w x = omega (arith, x.sent, few_calls)

  module _ (low : first_at s + MESSAGES_A_CALL + MOST_AT_ONCE ≤ MAX_KEPT) where
    pub walk : (ns : List Move) (w : World) (h : List Line) (x : IsAt s w h) → AreWritten h → AreOfText h
        → AreDue (prompt_plan s) w ns → Walked s w (world_after w ns) (lines_of w ns)
    unfolding whole_at
    walk [] w h x written text due_all = record {
      bytes = omega arith;
      few = stage_few w h x.within x.stage;
      told = tt;
    }
    walk (n ∷ ns) w h x written text due_all =
        let small = by_stage w h x.within n due_all.0 x.stage (queue_at s w) refl in
        let v : World = (move w n).world in
        let due_there : due (plan_at x.within.fair.moment) w ≡ Some n.action =
        ap (λ (p : Plan). due p w) x.plan_is ∙ due_all.0 in
        let plain : NoEvent (move w n).lines = later_plain w (prompt_plan s).rule n.chosen n.action due_all.0 in
        let own_lines : lines_in w n ≡ (move w n).lines = unopened n.action due_all.0 in
        let plain_in : NoEvent (lines_in w n) = subst NoEvent (sym own_lines) plain in
        let moment : IsMoment v (h ++ lines_in w n) = next_moment w h x.within.fair.moment n due_there in
        let most : length v.network.messages ≤ MAX_KEPT =
        omega (arith, counted w n, small.0.count, stage_few w h x.within x.stage, low) in
        let written_then : AreWritten (h ++ lines_in w n) = written_more h (lines_in w n) written plain_in in
        let text_then : AreOfText (h ++ lines_in w n) = text_more h (lines_in w n) text plain_in in
        let t : Whole = whole_at v (h ++ lines_in w n) moment written_then text_then most in
        let front : IsFrontOf (h ++ lines_in w n) t = ([], sym (append-nil (h ++ lines_in w n))) in
        let one = goes_on all.readable (stages all) t s w h x n due_all.0 front in
        let keeps = move_keeps w n small.0 in
        let more = counted w n in
        by one.0 one.1 t front written_then text_then keeps more small.1
        (walk ns v (h ++ lines_in w n))
      where
        unopened : (a : Action) → due (prompt_plan s) w ≡ Some a → with_event a (move w n).lines ≡ (move w n).lines
        unopened (Opens e) o = absurd (never_opens w (prompt_plan s).rule e o)
        unopened (Delivers j) o = refl
        unopened (TimesOut c j) o = refl
        unopened (Pends c) o = refl

        by : (went_on (prompt_plan s) n.action ≡ prompt_plan s) → GoesOn s (move w n).world (lines_in w n) → (t : Whole)
            → IsFrontOf (h ++ lines_in w n) t → AreWritten (h ++ lines_in w n) → AreOfText (h ++ lines_in w n)
            → (move w n).world.network.kept ≤ w.network.kept + logged_in (acts w n.chosen n.action).posts
            + BYTES_A_MESSAGE * length (acts w n.chosen n.action).posts
            → length (move w n).world.network.messages ≡ length w.network.messages + length (acts w n.chosen n.action).posts
            → GoesQuietly s w n
            → (IsAt s (move w n).world (h ++ lines_in w n) → AreWritten (h ++ lines_in w n) → AreOfText (h ++ lines_in w n)
            → AreDue (prompt_plan s) (move w n).world ns
            → Walked s (move w n).world (world_after (move w n).world ns) (lines_of (move w n).world ns))
            → Walked s w (world_after (move w n).world ns) ((move w n).lines ++ lines_of (move w n).world ns)
        by stays (Further stage silence) t front written_then text_then keeps more quietly on =
            let at : IsAt s (move w n).world (h ++ lines_in w n) =
            next_at all.readable (stages all) t s w h x n due_all.0 stays front stage in
            let rest =
            on at written_then text_then
            (subst (λ (p : Plan). AreDue p (move w n).world ns) stays due_all.1) in
            record {
              bytes = omega (arith, rest.bytes, keeps, more, quietly.logs);
              few = rest.few;
              told =
                  both_no_loss (move w n).lines (lines_of (move w n).world ns)
                  (subst NoLoss (unopened n.action due_all.0) quietly.told) rest.told;
            }
        by stays (Over done ends) t front written_then text_then keeps more quietly on = last ns refl
          where
            last : (ms : List Move) → ns ≡ ms
                → Walked s w (world_after (move w n).world ns) ((move w n).lines ++ lines_of (move w n).world ns)
            last [] none =
                subst (λ (l : List Move). Walked s w (world_after (move w n).world l)
                ((move w n).lines ++ lines_of (move w n).world l)) (sym none) (record {
                  bytes = omega (arith, keeps, more, quietly.logs);
                  few = done_few (move w n).world done;
                  told =
                      both_no_loss (move w n).lines [] (subst NoLoss (unopened n.action due_all.0) quietly.told) tt;
                })
            last (y ∷ ms) some =
                let are_due : AreDue (prompt_plan s) (move w n).world (y ∷ ms) =
                subst (AreDue (prompt_plan s) (move w n).world) some
                (subst (λ (p : Plan). AreDue p (move w n).world ns) stays due_all.1) in
                absurd (cc (sym are_due.0 ∙ nothing_due all.readable (stages all) t s (move w n).world done))

    -- ---- the whole event

    -- from its begin to some moves on
    pub record CallKeeps (ms : List Move) : Type 0 where
      pub kept : (world_after s.world ms).network.kept ≤ s.world.network.kept + BYTES_A_CALL
      pub few : length (world_after s.world ms).network.messages ≤ first_at s + MESSAGES_A_CALL
      pub told : NoLoss (lines_of s.world ms)

    module _ (written : AreWritten s.history) (text : AreOfText s.history) (its_written : is_written (event.Do s.client s.its) ≡ true)
        (its_text : Fits (event.Do s.client s.its)) (allowed : refusal s.world (event.Do s.client s.its) ≡ None) where
      abbrev own : Event
      own = event.Do s.client s.its

      abbrev start_moment : IsMoment s.world s.history
      start_moment = record {
        before = s.world;
        history = s.history;
        stands = s.stands;
        event = own;
        allowed = allowed;
        moves = [];
        are_due = tt;
        world_is = refl;
        lines_are = sym (append-nil s.history);
      }

      start_whole : Whole
      start_whole = whole_at s.world s.history start_moment written text (omega (arith, low))

      begins_in : IsIn s s.world s.history
      unfolding start_whole whole_at
      begins_in = record {
        fair = fair_at all.readable start_whole s.world s.history start_moment ([], sym (append-nil s.history)) s.ready.unguessed;
        begins = refl;
        behind = refl;
        event_is = refl;
      }

      not_refused : is_refused (at_number s.world.clients s.client) (op_at s) ≡ false
      unfolding calls
      not_refused =
          let r = s.ready in
          let here : IsReached s.world = record {
            before = s.world;
            history = s.history;
            stands = s.stands;
            moves = [];
            world_is = refl;
          } in
          let c : ClientCounts r.caller.state (length s.world.network.messages) =
          all.asking.counts s.world here s.client r.caller r.there in
          ap (λ (o : Option ClientAt). is_refused o (op_at s)) r.there
          ∙ taken r.caller (op_at s) r.idle.free r.range
          (not_spent r.caller.state.next (length s.world.network.messages) c.requests (omega (arith, low)) c.spent)
        where
          not_spent : (next sent : ℕ) → next ≤ sent + 1 → sent ≤ MAX_KEPT → (next ≡ 0 → GREATEST_SEQUENCE ≤ sent)
              → is_spent next ≡ false
          not_spent next sent l few none = grind (arith, nat_tests, l, few, none)

          taken : (a : ClientAt) (op : CallOp) → a.state.call ≡ None → is_bad_range (span_of op) ≡ false
              → is_spent a.state.next ≡ false → is_err (calls a.state op) ≡ false
          taken a op free range spent = rw free (rw range (rw spent refl))

      module _ (m : Move) (ns : List Move) (due_all : AreDue (plan_of s.world own) s.world (m ∷ ns)) where
        abbrev v : World
        v = (move s.world m).world

        opens : m.action ≡ Opens own
        opens = sym (cc due_all.0)

        plan_then : went_on (plan_of s.world own) m.action ≡ prompt_plan s
        plan_then =
            ap (λ (a : Action). went_on (plan_of s.world own) a) opens
            ∙ ap (λ (r : Rule). record { opening = None; rule = r }) (taken_rule s.world s.client s.its not_refused)

        own_lines : lines_in s.world m ≡ line.Event own ∷ (move s.world m).lines
        own_lines = ap (λ (a : Action). with_event a (move s.world m).lines) opens

        plain : NoEvent (move s.world m).lines
        plain =
            subst (λ (a : Action). NoEvent (sends_all (acts s.world m.chosen a)).lines) (sym opens)
            (opens_plain s.world m.chosen own)

        little : SendsLittle s.world m
        little = opens_little all s known m (opens_call s m opens) begins_in

        quietly : OpensQuietly s m
        quietly = opens_quietly s m opens

        written_then : AreWritten (s.history ++ lines_in s.world m)
        written_then =
            written_both s.history (lines_in s.world m) written
            (subst AreWritten (sym own_lines) (its_written, written_more [] (move s.world m).lines tt plain))

        text_then : AreOfText (s.history ++ lines_in s.world m)
        text_then =
            text_both s.history (lines_in s.world m) text
            (subst AreOfText (sym own_lines) (its_text, text_more [] (move s.world m).lines tt plain))

        moment_then : IsMoment v (s.history ++ lines_in s.world m)
        moment_then = next_moment s.world s.history start_moment m due_all.0

        most : length v.network.messages ≤ MAX_KEPT
        most = omega (arith, counted s.world m, little.count, low)

        whole_then : Whole
        whole_then = whole_at v (s.history ++ lines_in s.world m) moment_then written_then text_then most

        next_in : IsIn s v (s.history ++ lines_in s.world m)
        unfolding next_moment whole_then whole_at moment_then
        next_in = record {
          fair =
              fair_at all.readable whole_then v (s.history ++ lines_in s.world m) moment_then
              ([], sym (append-nil (s.history ++ lines_in s.world m))) (opened_clean s m opens);
          begins = refl;
          behind = refl;
          event_is = refl;
        }

        rest_due : AreDue (prompt_plan s) v ns
        rest_due = subst (λ (p : Plan). AreDue p v ns) plan_then due_all.1

        own_quiet : NoLoss (move s.world m).lines
        own_quiet = (subst NoLoss own_lines quietly.told).1

        walked : GoesOn s v (lines_in s.world m) → Walked s v (world_after v ns) (lines_of v ns)
        unfolding next_in moment_then next_moment
        walked (Further stage silence) =
            let at : IsAt s v (s.history ++ lines_in s.world m) = record {
              within = next_in;
              plan_is = plan_then;
              longer = omega (arith, counted s.world m);
              stage = stage;
            } in
            walk ns v (s.history ++ lines_in s.world m) at written_then text_then rest_due
        walked (Over done ends) = last ns refl
          where
            last : (ms : List Move) → ns ≡ ms → Walked s v (world_after v ns) (lines_of v ns)
            last [] none =
                subst (λ (l : List Move). Walked s v (world_after v l) (lines_of v l)) (sym none) (record {
                  bytes = omega arith;
                  few = done_few v done;
                  told = tt;
                })
            last (y ∷ ms) some =
                let are_due : AreDue (prompt_plan s) v (y ∷ ms) = subst (AreDue (prompt_plan s) v) some rest_due in
                absurd (cc (sym are_due.0 ∙ nothing_due all.readable (stages all) whole_then s v done))

        bytes_short : (op : CallOp) → length (bytes_of op) ≤ (span_of op).length
        bytes_short (Write file offset bytes) = omega arith
        bytes_short (Read file offset count) = omega arith

        pub keeps_all : CallKeeps (m ∷ ns)
        keeps_all =
            let rest = walked ((stages all).opens s m (opens_call s m opens) begins_in next_in) in
            let first = move_keeps s.world m little in
            record {
              kept = omega (
                arith,
                rest.bytes,
                rest.few,
                first,
                quietly.logs,
                counted s.world m,
                bytes_short (op_at s),
                known.short,
              );
              few = rest.few;
              told = both_no_loss (move s.world m).lines (lines_of v ns) own_quiet rest.told;
            }

      pub call_keeps : (ms : List Move) → AreDue (plan_of s.world own) s.world ms → CallKeeps ms
      call_keeps [] due_all = record { kept = omega arith; few = omega arith; told = tt }
      call_keeps (m ∷ ns) due_all = keeps_all m ns due_all
