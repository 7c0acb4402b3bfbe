-- Each ready call whose event is over ended in ok, within its bound of messages.
use Rattle.std.proofs.Common.{◌≡◌, ◌≤◌, ◌+◌, ◌*◌, max, ℕ, false, List, [], ◌∷◌, ◌++◌, length, fold, slice_get, Option, Some, None, is_err, refl, sym, ap, subst, ◌∙◌, append_assoc, arith}
use Rattle.std.specs.List.{list_any, sum_by}
use Rattle.std.proofs.Math.Nat.{mul-le-mul_left}
use Rattle.std.proofs.lemmas.Bool.{or_parts}
use Rattle.std.proofs.lemmas.Bool.Decides.{nat_tests}
use Rattle.std.proofs.lemmas.List.{append-nil, length-append, length-map}
use Rattle.std.proofs.lemmas.List.Sums.{fold-append, sum_by-cons}
use Rattle.osd_lists.proofs.Slices.{length_set}
use Rattle.scenario_text.specs.declared.event.Call.{Call as EventCall}
use Rattle.scenario_text.specs.declared.event.Event.{Event}
use Rattle.scenario_text.specs.declared.event.Event.TheVariants as event
use Rattle.scenario_text.specs.declared.line.Line.{Line}
use Rattle.scenario_text.specs.declared.line.Line.TheVariants as line
use Rattle.client_rules.specs.declared.limits.TheConstants.{GREATEST_SEQUENCE}
use Rattle.client_rules.specs.Steps.{calls, is_spent, is_bad_range}
use Rattle.client_rules.specs.Calls.{span_of}
use Rattle.world_history.specs.ClientNames.{CallOp}
use Rattle.world_history.specs.declared.limits.TheConstants.{MAX_KEPT}
use Rattle.world_history.specs.declared.messages.Sent.{Sent}
use Rattle.world_history.specs.State.{World, ClientAt, at_number}
use Rattle.world_history.specs.Moves.{Action, Opens, op_of}
use Rattle.world_history.specs.Sending.{Move, move}
use Rattle.world_history.specs.Reading.{arrived, left_out, changed_by, changed_at, sent_after_event, sent_after, sent_in}
use Rattle.world_history.specs.Plans.{Plan, Rule, went_on, plan_of, is_refused}
use Rattle.world_history.specs.Runs.{world_after, lines_of, AreDue, plan_after, IsOver, Carries}
use Rattle.world_history.specs.History.{Lawful, StandsFor, OneEventMore}
use Rattle.world_history.specs.Laws.{shown, MessagesAreRead}
use Rattle.history_law.specs.Read.{AreWritten}
use Rattle.history_law.proofs.Staying.{written_front}
use Rattle.history_law.specs.Moments.{IsReached, IsMoment, with_event, lines_in}
use Rattle.exchange_law.specs.Counters.{ClientsAreCounted, ClientCounts}
use Rattle.exchange_law.specs.Text.{AreOfText, AreFew}
use Rattle.exchange_law.proofs.HeldWorlds.{next_moment}
use Rattle.cause_law.specs.Readable.{FilesAndAnswersAreReadable}
use Rattle.cause_law.proofs.Files.{few_there}
use Rattle.cause_law.proofs.PendingMoves.{taken_rule}
use Rattle.ready_law.specs.Answered.{scene_in, EndsOk, ends_call, messages_at, message_bound, ReadyIsAnswered}
use Rattle.ready_law.specs.Events.{IsOver as IsOverIn, StandsApart, EventsStandApart}
use Rattle.ready_law.specs.Ready.{Scene, scene_of, IsReady, touched, lost_of}
use Rattle.ready_law.specs.Worlds.{ScenesAreRead}
use Rattle.ready_law.proofs.Calls.{ReadyCall, op_at, kept_at, opposed_at, IsIn}
use Rattle.ready_law.proofs.Stages.{GoesOn, Further, Over, asking_at, work_at}
use Rattle.ready_law.proofs.Going.{StagesGoOn}
use Rattle.ready_law.proofs.Opening.{body_of_moves, opened_clean, opens_call}
use Rattle.ready_law.proofs.Walking.{Whole, IsFrontOf, fair_at, prompt_plan, counted, IsSilent, ends_behind, IsAt, EndsWithin, goes, nothing_due}
use Rattle.ready_law.proofs.AskingForms.{AskingLaws}
use Rattle.ready_law.proofs.Leaving.{leaves_rest}
use Rattle.ready_law.specs.Rested.{LeavesRest, ReadyCallsLeaveRest}

-- ---- how many messages lines tell of

same_length : (ss : List Sent) (number : ℕ) (change : Sent → Sent) → length (changed_at ss number change) ≡ length ss + 0
same_length ss number change = by (slice_get ss number)
  where
    by : (o : Option Sent) → length (changed_by ss number change o) ≡ length ss + 0
    by None = omega arith
    by (Some s) = omega (arith, length_set ss number (change s))

event_more : (ss : List Sent) (e : Event) → length (sent_after_event ss e) ≡ length ss + 0
event_more ss (event.DropMessage number) = same_length ss number left_out
event_more ss e = omega arith

one_more : (ss : List Sent) (l : Line) → length (sent_after ss l) ≡ length ss + messages_at l
one_more ss (line.Message number from to bytes) =
    length-append ss (record { from = from; to = to; bytes = bytes; delivered = false; dropped = false } ∷ [])
one_more ss (line.Delivered number delivery) = same_length ss number arrived
one_more ss (line.Event e) = event_more ss e
one_more ss l = omega arith

sent_more : (ss : List Sent) (ls : List Line) → length (fold sent_after ss ls) ≡ length ss + sum_by messages_at ls
sent_more ss [] = omega arith
sent_more ss (l ∷ ls) =
    let rest : length (fold sent_after (sent_after ss l) ls) ≡ length (sent_after ss l) + sum_by messages_at ls =
    sent_more (sent_after ss l) ls in
    let here : length (sent_after ss l) ≡ length ss + messages_at l = one_more ss l in
    omega (arith, rest, here, sum_by-cons messages_at l ls)

-- ---- the call is taken

-- few numbers of requests were used
not_spent : (next sent : ℕ) → next ≤ sent + 1 → sent ≤ MAX_KEPT → (next ≡ 0 → GREATEST_SEQUENCE ≤ sent) → is_spent next ≡ false
not_spent next sent l few none = grind (arith, nat_tests, l, few, none)

taken : (a : ClientAt) (op : CallOp) → a.state.call ≡ None → is_bad_range (span_of op) ≡ false
    → is_spent a.state.next ≡ false → is_err (calls a.state op) ≡ false
unfolding calls
taken a op free range spent = rw free (rw range (rw spent refl))

-- ---- the line of the event

-- it tells no end of a call
ends_alone : {c : ℕ} → {op : CallOp} → (e : Event) (ls : List Line) → EndsOk c op (line.Event e ∷ ls) → EndsOk c op ls
ends_alone {c} {op} e ls x = by x.front x.lines_are x.once.0
  where
    by : (front : List Line) → line.Event e ∷ ls ≡ front ++ line.Ended c x.outcome ∷ x.back
        → list_any (ends_call c) front ≡ false → EndsOk c op ls
    by [] is n = absurd (cc is)
    by (l ∷ front) is n = record {
      front = front;
      outcome = x.outcome;
      back = x.back;
      lines_are = cc is;
      ok = x.ok;
      once = ((or_parts (ends_call c l) (list_any (ends_call c) front) n).1, x.once.1);
    }

module _ (more : OneEventMore) (apart : EventsStandApart) (scenes : ScenesAreRead) (read : MessagesAreRead)
    (counts : ClientsAreCounted) (readable : FilesAndAnswersAreReadable) (stages : StagesGoOn) where
  -- so many messages more were sent
  sent_behind : (v w : World) (h ls : List Line) → StandsFor v h → StandsFor w (h ++ ls)
      → length w.network.messages ≡ length v.network.messages + sum_by messages_at ls
  unfolding sent_in
  sent_behind v w h ls sv sw =
      let before : length (sent_in h) ≡ length v.network.messages =
      ap (λ (ss : List Sent). length ss) (read v h sv) ∙ length-map v.network.messages shown in
      let behind : length (sent_in (h ++ ls)) ≡ length w.network.messages =
      ap (λ (ss : List Sent). length ss) (read w (h ++ ls) sw) ∙ length-map w.network.messages shown in
      let both : length (sent_in (h ++ ls)) ≡ length (fold sent_after (sent_in h) ls) =
      ap (λ (ss : List Sent). length ss) (fold-append sent_after [] h ls) in
      omega (arith, before, behind, both, sent_more (sent_in h) ls)

  module _ (t : Whole) (s : ReadyCall) (after : World) (body : List Line)
      (carries : Carries s.world (event.Do s.client s.its) (line.Event (event.Do s.client s.its) ∷ body) after)
      (front : IsFrontOf (s.history ++ line.Event (event.Do s.client s.its) ∷ body) t) where
    abbrev v : World
    v = s.world

    abbrev own : Event
    own = event.Do s.client s.its

    -- ---- before the opening move

    abbrev start_moment : IsMoment v s.history
    start_moment = record {
      before = v;
      history = s.history;
      stands = s.stands;
      event = own;
      allowed = carries.allowed;
      moves = [];
      are_due = tt;
      world_is = refl;
      lines_are = sym (append-nil s.history);
    }

    front_of : (ls rest : List Line) → line.Event own ∷ body ≡ ls ++ rest → IsFrontOf (s.history ++ ls) t
    front_of ls rest is = (
      rest ++ front.0,
      front.1 ∙ ap (λ (l : List Line). (s.history ++ l) ++ front.0) is
          ∙ ap (λ (l : List Line). l ++ front.0) (sym (append_assoc s.history ls rest))
          ∙ append_assoc (s.history ++ ls) rest front.0,
    )

    start_front : IsFrontOf s.history t
    start_front = (
      (line.Event own ∷ body) ++ front.0,
      front.1 ∙ append_assoc s.history (line.Event own ∷ body) front.0,
    )

    begins_in : IsIn s v s.history
    begins_in = record {
      fair = fair_at readable t v s.history start_moment start_front s.ready.unguessed;
      begins = refl;
      behind = refl;
      event_is = refl;
    }

    -- the call is taken
    not_refused : is_refused (at_number v.clients s.client) (op_at s) ≡ false
    not_refused =
        let r = s.ready in
        let reached : IsReached v = record {
          before = v;
          history = s.history;
          stands = s.stands;
          moves = [];
          world_is = refl;
        } in
        let c : ClientCounts r.caller.state (length v.network.messages) = counts v reached s.client r.caller r.there in
        let few : length v.network.messages ≤ MAX_KEPT = few_there v s.history start_moment begins_in.fair.few in
        ap (λ (o : Option ClientAt). is_refused o (op_at s)) r.there
        ∙ taken r.caller (op_at s) r.idle.free r.range
        (not_spent r.caller.state.next (length v.network.messages) c.requests few c.spent)

    -- ---- the opening move

    module _ (m : Move) (ns : List Move) (moves_are : carries.moves ≡ m ∷ ns) where
      are_due : AreDue (plan_of v own) v (m ∷ ns)
      are_due = subst (AreDue (plan_of v own) v) moves_are carries.are_due

      opens : m.action ≡ Opens own
      opens = sym (cc are_due.0)

      plan_then : went_on (plan_of v own) m.action ≡ prompt_plan s
      plan_then =
          ap (λ (a : Action). went_on (plan_of v own) a) opens
          ∙ ap (λ (r : Rule). record { opening = None; rule = r }) (taken_rule v s.client s.its not_refused)

      own_lines : lines_in v m ≡ line.Event own ∷ (move v m).lines
      own_lines = ap (λ (a : Action). with_event a (move v m).lines) opens

      body_is : body ≡ (move v m).lines ++ lines_of (move v m).world ns
      body_is = body_of_moves v after own body carries m ns moves_are

      after_is : after ≡ world_after (move v m).world ns
      after_is = carries.world_is ∙ ap (λ (ms : List Move). world_after v ms) moves_are

      over : IsOver (plan_after (prompt_plan s) ns) (world_after (move v m).world ns)
      over =
          subst (λ (p : Plan). IsOver (plan_after p ns) (world_after (move v m).world ns)) plan_then
          (subst (λ (w : World). IsOver (plan_after (plan_of v own) (m ∷ ns)) w) after_is
          (subst (λ (ms : List Move). IsOver (plan_after (plan_of v own) ms) after) moves_are carries.over))

      rest_due : AreDue (prompt_plan s) (move v m).world ns
      rest_due = subst (λ (p : Plan). AreDue p (move v m).world ns) plan_then are_due.1

      one_front : IsFrontOf (s.history ++ lines_in v m) t
      one_front =
          front_of (lines_in v m) (lines_of (move v m).world ns)
          (ap (λ (l : List Line). line.Event own ∷ l) body_is
          ∙ ap (λ (l : List Line). l ++ lines_of (move v m).world ns) (sym own_lines))

      next_in : IsIn s (move v m).world (s.history ++ lines_in v m)
      unfolding next_moment
      next_in = record {
        fair =
            fair_at readable t (move v m).world (s.history ++ lines_in v m) (next_moment v s.history start_moment m are_due.0)
            one_front (opened_clean s m opens);
        begins = refl;
        behind = refl;
        event_is = refl;
      }

      -- ---- and those behind it

      silent_body : IsSilent s (lines_in v m) → IsSilent s (move v m).lines
      silent_body n = subst (IsSilent s) own_lines n

      own_ends : EndsOk s.client (op_at s) (lines_in v m) → EndsOk s.client (op_at s) (move v m).lines
      own_ends e = ends_alone own (move v m).lines (subst (EndsOk s.client (op_at s)) own_lines e)

      all_within : GoesOn s (move v m).world (lines_in v m)
          → EndsWithin s (world_after (move v m).world ns) ((move v m).lines ++ lines_of (move v m).world ns)
      unfolding next_in next_moment
      all_within (Further stage silence) =
          let at : IsAt s (move v m).world (s.history ++ lines_in v m) = record {
            within = next_in;
            plan_is = plan_then;
            longer = omega (arith, counted v m);
            stage = stage;
          } in
          let rest =
          goes readable stages t s ns (move v m).world (s.history ++ lines_in v m) at rest_due over (
            front.0,
            front.1 ∙ ap (λ (l : List Line). (s.history ++ l) ++ front.0)
                (ap (λ (l : List Line). line.Event own ∷ l) body_is
                ∙ ap (λ (l : List Line). l ++ lines_of (move v m).world ns) (sym own_lines))
                ∙ ap (λ (l : List Line). l ++ front.0)
                (sym (append_assoc s.history (lines_in v m) (lines_of (move v m).world ns))),
          ) in
          record {
            ends =
                ends_behind s (move v m).lines (lines_of (move v m).world ns) (silent_body silence) rest.ends;
            sent = rest.sent;
            rests = rest.rests;
            history = rest.history;
            within = rest.within;
          }
      all_within (Over done ends) = last ns refl
        where
          last : (ms : List Move) → ns ≡ ms
              → EndsWithin s (world_after (move v m).world ns) ((move v m).lines ++ lines_of (move v m).world ns)
          last [] none =
              subst (λ (l : List Move). EndsWithin s (world_after (move v m).world l)
              ((move v m).lines ++ lines_of (move v m).world l)) (sym none) (record {
                ends = subst (EndsOk s.client (op_at s)) (sym (append-nil (move v m).lines)) (own_ends ends);
                sent = done.sent;
                rests = done.rests;
                history = s.history ++ lines_in v m;
                within = next_in;
              })
          last (y ∷ ms) some =
              let due_then : AreDue (prompt_plan s) (move v m).world (y ∷ ms) =
              subst (AreDue (prompt_plan s) (move v m).world) some rest_due in
              absurd (cc (sym due_then.0 ∙ nothing_due readable stages t s (move v m).world done))

      pub ends_within : EndsWithin s after body
      ends_within =
          subst (λ (w : World). EndsWithin s w body) (sym after_is)
          (subst (EndsWithin s (world_after (move v m).world ns)) (sym body_is)
          (all_within (stages.opens s m (opens_call s m opens) begins_in next_in)))

    all_moves : (ms : List Move) → carries.moves ≡ ms → EndsWithin s after body
    all_moves [] none =
        let over : IsOver (plan_of v own) after =
        subst (λ (ms : List Move). IsOver (plan_after (plan_of v own) ms) after) none carries.over in
        absurd (cc over)
    all_moves (m ∷ ns) some = ends_within m ns some

    pub ends : EndsWithin s after body
    ends = all_moves carries.moves refl

  -- ---- all

  bounded : (n comps stripes sent : ℕ) → sent ≤ 6 + 4 * n + 12 * comps * max 1 stripes + 4
      → sent ≤ 16 + 4 * n + 12 * comps * (stripes + 1)
  bounded n comps stripes sent l =
      let counts : max 1 stripes ≤ stripes + 1 = omega arith in
      grind (arith, l, mul-le-mul_left (12 * comps) counts)

  module _ (h : List Line) (lawful : Lawful h) (written : AreWritten h) (of_text : AreOfText h) (few : AreFew h)
      (before body : List Line) (c : ℕ) (x : EventCall) (over : IsOverIn h before (event.Do c x) body) where
    abbrev all : Whole
    all = record { lines = h; lawful = lawful; written = written; of_text = of_text; few = few }

    abbrev Answers : Scene → Type 0
    Answers z =
        (r : IsReady z c (op_of x))
        → EndsOk c (op_of x) body × (sum_by messages_at body ≤ message_bound z c (op_of x) r)

    module _ (a : StandsApart before (event.Do c x) body) where
      abbrev call : IsReady (scene_of a.world before) c (op_of x) → ReadyCall
      call ready = record {
        world = a.world;
        history = before;
        stands = a.stands;
        client = c;
        its = x;
        ready = ready;
      }

      answered : Answers (scene_of a.world before)
      answered ready =
          let s : ReadyCall = call ready in
          let e : EndsWithin s a.next body =
          ends all s a.next body a.carries
          (over.after, over.lines_are ∙ sym (append_assoc before (line.Event (event.Do c x) ∷ body) over.after)) in
          let sent : length a.next.network.messages
          ≡ length a.world.network.messages + sum_by messages_at (line.Event (event.Do c x) ∷ body) =
          sent_behind a.world a.next before (line.Event (event.Do c x) ∷ body) a.stands
          (more a.world a.next before (line.Event (event.Do c x) ∷ body) (event.Do c x) a.stands a.carries) in
          let few_enough : sum_by messages_at body ≤ asking_at s + work_at s + 4 =
          omega (arith, e.sent, sent, sum_by-cons messages_at (line.Event (event.Do c x)) body) in (
            e.ends,
            bounded (length (opposed_at s)) (kept_at s).map.comps (length (touched (kept_at s) (op_at s)))
                (sum_by messages_at body) few_enough,
          )

      -- where no component is lost, the parties rest behind it
      rested : AskingLaws → (ready : IsReady (scene_of a.world before) c (op_of x))
          → lost_of (scene_of a.world before) ready.file.kept ≡ []
          → LeavesRest (scene_of a.world before) (scene_of a.next (before ++ line.Event (event.Do c x) ∷ body)) c (op_of x)
          ready.file
      rested laws ready whole =
          let s : ReadyCall = call ready in
          let e : EndsWithin s a.next body =
          ends all s a.next body a.carries
          (over.after, over.lines_are ∙ sym (append_assoc before (line.Event (event.Do c x) ∷ body) over.after)) in
          leaves_rest laws s a.next e.history e.within (e.rests whole) (before ++ line.Event (event.Do c x) ∷ body)

      abbrev Leaves : Scene → Type 0
      Leaves z =
          (r : IsReady z c (op_of x)) → lost_of z r.file.kept ≡ []
          → LeavesRest z (scene_in (before ++ line.Event (event.Do c x) ∷ body)) c (op_of x) r.file

      leaves : AskingLaws → Leaves (scene_in before)
      leaves laws =
          let after_are : h ≡ (before ++ line.Event (event.Do c x) ∷ body) ++ over.after =
          over.lines_are ∙ sym (append_assoc before (line.Event (event.Do c x) ∷ body) over.after) in
          subst Leaves
          (sym (scenes a.world before a.stands
          (written_front before (line.Event (event.Do c x) ∷ (body ++ over.after)) (subst AreWritten over.lines_are written))))
          (λ r whole. subst (λ (z : Scene). LeavesRest (scene_of a.world before) z c (op_of x) r.file)
          (sym (scenes a.next (before ++ line.Event (event.Do c x) ∷ body)
          (more a.world a.next before (line.Event (event.Do c x) ∷ body) (event.Do c x) a.stands a.carries)
          (written_front (before ++ line.Event (event.Do c x) ∷ body) over.after (subst AreWritten after_are written))))
          (rested laws r whole))

      answers : Answers (scene_in before)
      answers =
          subst Answers
          (sym (scenes a.world before a.stands
          (written_front before (line.Event (event.Do c x) ∷ (body ++ over.after)) (subst AreWritten over.lines_are written))))
          answered

  pub ready_leaves_rest : AskingLaws → ReadyCallsLeaveRest
  ready_leaves_rest laws h lawful written of_text few before body c x over r whole =
      leaves h lawful written of_text few before body c x over (apart h before (event.Do c x) body lawful over) laws r whole

  pub ready_is_answered : ReadyIsAnswered
  ready_is_answered h lawful written of_text few before body c x over r =
      answers h lawful written of_text few before body c x over (apart h before (event.Do c x) body lawful over) r
