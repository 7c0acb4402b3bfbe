-- The client of a ready call takes the answer to its commit, or to its report.
use Rattle.std.proofs.Common.{◌≡◌, ◌+◌, ◌==◌, ℕ, Bool, true, true≢false, List, [], ◌∷◌, ◌++◌, length, filter, Option, Some, option_map, if◌then◌else◌, refl, sym, ap, subst, ◌∙◌, inl, arith, is_some}
use Rattle.std.proofs.lemmas.Bool.{and_parts, eqb-true}
use Rattle.osd_lists.specs.declared.node.Node.TheVariants as node
use Rattle.layout_ops.specs.declared.statuses.TheConstants.{NFS4_OK}
use Rattle.scenario_text.specs.declared.line.Line.{Line}
use Rattle.scenario_text.specs.declared.line.Line.TheVariants as line
use Rattle.scenario_text.specs.declared.line.Outcome.TheVariants as told
use Rattle.server_rules.specs.Slots.{admit, slot_of}
use Rattle.stripe_plan.specs.Touched.{stripes}
use Rattle.client_rules.specs.declared.limits.TheConstants.{LOSS_TAKEN}
use Rattle.client_rules.specs.Calls.{span_of, is_write}
use Rattle.client_rules.specs.Grants.{clipped, held_of}
use Rattle.client_rules.specs.History.{Hears, step}
use Rattle.client_rules.specs.Messages.{Step as ClientStep, Answers}
use Rattle.client_rules.specs.Requests.{return_args, report_of, object_of, error_at}
use Rattle.client_rules.specs.Results.{status_of}
use Rattle.client_rules.proofs.HeldGrants.{held_file, put_at}
use Rattle.world_history.specs.ClientNames.{Client, Call, CallOp, Write, Read, Held, TimedOut, Need, Commit, Report, Waits, WriteOk, Request, Answer}
use Rattle.world_history.specs.ServerNames.{Server, Drive, Grant}
use Rattle.world_history.specs.declared.messages.Message.{Message}
use Rattle.world_history.specs.State.{World, ClientAt}
use Rattle.world_history.specs.Handed.{Post, is_addressed, client_posts, ended_by}
use Rattle.world_history.specs.Moves.{acts}
use Rattle.world_history.specs.Sending.{Move, move}
use Rattle.history_law.specs.BookMoments.{lines_in}
use Rattle.exchange_law.specs.Doing.{posted}
use Rattle.component_law.specs.Listed.{ListsComponents}
use Rattle.ready_law.specs.Answered.{IsOk}
use Rattle.ready_law.specs.Enough.{IsEnough}
use Rattle.ready_law.specs.Reacting.{IsGood, touched_under}
use Rattle.ready_law.specs.Stepping.{holding, unasked, ends_step, asks_step, IsAnsweredAt, without_call}
use Rattle.ready_law.proofs.Calls.{ReadyCall, op_at, file_at_call, kept_at, lost_at, IsIn, DeliversHead, answer_message}
use Rattle.ready_law.proofs.Going.{GoesOnBy}
use Rattle.ready_law.proofs.Stages.{Caller, IsAnsweredBy, HasSent, AreSilent, Committed, Reported, asking_at, work_at, GoesOn, Over, IsRested, Serves}
use Rattle.ready_law.proofs.Stepping.{answers_step}
use Rattle.ready_law.proofs.AskingForms.{Steps}
use Rattle.ready_law.proofs.AskingFrames.{serves_stays, aside_still}
use Rattle.ready_law.proofs.AskingAsks.{in_step_there, its_answer, answer_steps, asks_new}
use Rattle.ready_law.proofs.WorkingForms.{UnderGrant, TakesTurn}
use Rattle.ready_law.proofs.WorkingReports.{turn_reports}
use Rattle.ready_law.proofs.ReportingForms.{ReportingLaws}
use Rattle.ready_law.proofs.ReportingGrants.{commit_under, call_fine}
use Rattle.ready_law.proofs.ReportingServed.{head_of}
use Rattle.ready_law.proofs.WorkingTurns.{drives_on}
use Rattle.ready_law.proofs.Resting.{write_grows}

-- ---- a write ends

-- so it can be told
told_ok : (c : ℕ) (op : CallOp)
    → ended_by c (Some op) (Some (WriteOk (span_of op).length)) ≡ line.Ended c (told.WriteOk (span_of op).length) ∷ []
told_ok c (Write file offset bytes) = refl
told_ok c (Read file offset count) = refl

is_ok : (op : CallOp) → is_write op ≡ true → IsOk op (told.WriteOk (span_of op).length)
is_ok (Write file offset bytes) writes = refl
is_ok (Read file offset count) writes = absurd (cc writes)

-- The client's step ends the write in ok and sends nothing, and nothing else is on its way: the call is over.
write_ends : (s : ReadyCall) (w : World) (m : Move) (before : ClientAt) (t : ClientStep)
    → Steps w m s.client before (Some (op_at s)) t → (c : Client) → t ≡ ends_step c (WriteOk (span_of (op_at s)).length)
    → is_write (op_at s) ≡ true → (x : Message) → DeliversHead s w m x [] → HasSent s w (asking_at s + work_at s + 4)
    → (lost_at s ≡ [] → IsRested s (move w m).world) → GoesOn s (move w m).world (lines_in w m)
write_ends s w m before t st c is writes x d sent rests =
    let none : (acts w m.chosen m.action).posts ≡ [] =
    st.posts
    ∙ ap (λ (y : ClientStep). filter is_addressed (client_posts s.client st.wrote st.logged y.sends)) is in
    Over
    (record {
      at = st.after;
      there = st.there;
      free = ap (λ (y : Client). y.call) (st.state ∙ ap (λ (y : ClientStep). y.client) is);
      queue = d.queue_is ∙ ap posted none;
      sent = omega (arith, sent, d.count_is, ap (λ (ps : List Post). length ps) none);
      rests = rests;
    })
    (record {
      front = st.front;
      outcome = told.WriteOk (span_of (op_at s)).length;
      back = st.back;
      lines_are =
          st.lines
          ∙ ap (λ (y : ClientStep). st.front ++ (ended_by s.client (Some (op_at s)) y.outcome ++ st.back)) is
          ∙ ap (λ (ls : List Line). st.front ++ (ls ++ st.back)) (told_ok s.client (op_at s));
      ok = is_ok (op_at s) writes;
      once = (st.no_front s.client, st.no_back s.client);
    })

-- ---- the answer that comes

module _ (laws : ReportingLaws) (s : ReadyCall) (w : World) (h : List Line) (k : IsIn s w h) (q : Request) (a : Answer)
    (need : Need) (caller : Caller s w (Waits need) (Some q)) (answered : IsAnsweredBy s w q a)
    (status : status_of a.results ≡ NFS4_OK) (m : Move) (d : DeliversHead s w m (answer_message a) []) where
  abbrev its_step : ClientStep
  its_step = step caller.at.state (Hears node.Server (Answers a))

  -- the client takes it, and nothing else happens
  takes_it : Steps w m s.client caller.at (Some (op_at s)) its_step
  takes_it =
      subst (λ (o : Option CallOp). Steps w m s.client caller.at o its_step)
      (ap (option_map (λ (c : Call). c.op)) caller.call)
      (answer_steps laws.asking s w h k q a need caller answered m [] d)

  awaited_there : (n : Need) → need ≡ n → IsAnsweredAt caller.at.state (op_at s) n a
  awaited_there n is = record {
    pending = caller.call ∙ ap (λ (y : Need). Some (record { op = op_at s; phase = Waits y })) is;
    none_due = caller.due;
    request = q;
    asked = caller.outstanding;
    its = its_answer laws.asking s w h k q a need caller answered (inl status);
  }

-- ---- the answer to a report

pub reported_goes_on : ReportingLaws → GoesOnBy Reported
reported_goes_on laws s w h k m next a x rest queue d =
    let e = head_of d (sym queue ∙ a.queue) in
    let loss = and_parts (status_of a.answer.results == NFS4_OK) (a.answer.detail == LOSS_TAKEN) a.taken in
    let status = eqb-true (status_of a.answer.results) NFS4_OK loss.0 in
    let c : Client = a.caller.at.state in
    write_ends s w m a.caller.at (step c (Hears node.Server (Answers a.answer)))
    (takes_it laws s w h k a.request a.answer (Report a.timed) a.caller a.answered status m e) (unasked c)
    (answers_step.reported c (op_at s) a.timed a.answer
    (awaited_there laws s w h k a.request a.answer (Report a.timed) a.caller a.answered status m e (Report a.timed) refl)
    a.taken)
    a.writes (answer_message a.answer) e a.sent (λ none. absurd (a.some_lost none))

-- ---- the answer to a commit

-- the grant, with the size that the answer tells
abbrev sized : Held → (size : ℕ) → Held
sized h n = record h { size = n }

-- a write reaches the same, whatever the size
good_sized : (h : Held) (op : CallOp) (lost : List ℕ) (n : ℕ) → is_write op ≡ true → IsGood h op lost
    → IsGood (sized h n) op lost
good_sized h op lost n writes g =
    let same : touched_under h op ≡ touched_under (sized h n) op =
    ap (λ (b : Bool). stripes h.map (if b then span_of op else clipped h.size (span_of op))) writes
    ∙ ap (λ (b : Bool). stripes h.map (if b then span_of op else clipped n (span_of op))) (sym writes) in
    record {
      checked = g.checked;
      complete = g.complete;
      missing = g.missing;
      enough = subst (IsEnough h.map lost) same g.enough;
      probed = λ reads none. absurd (true≢false (sym writes ∙ reads));
    }

-- What the call works under stays, where the size is told and a client takes a step.
under_sized : (s : ReadyCall) (w : World) (m : Move) (before : ClientAt) (op : Option CallOp) (t : ClientStep)
    → Steps w m s.client before op t → (held : Held) (size n : ℕ) → is_write (op_at s) ≡ true → UnderGrant s w held size
    → UnderGrant s (move w m).world (sized held n) size
under_sized s w m before op t st held size n writes u = record {
  grants = u.grants;
  grant = u.grant;
  granted = u.granted;
  others = u.others;
  aside = aside_still s w (move w m).world u.grants st.others u.aside;
  server = serves_stays s w (move w m).world u.grants size st.server st.clock st.down u.server;
  good = good_sized held (op_at s) (lost_at s) n writes u.good;
  listed = u.listed;
  agrees = record {
    file = u.agrees.file;
    number = u.agrees.number;
    rw = u.agrees.rw;
    extending = u.agrees.extending;
    first = u.agrees.first;
    end = u.agrees.end;
    map = u.agrees.map;
  };
  lists =
      subst (λ (ds : List Drive).
      ListsComponents ds (record (kept_at s) { grants = u.grants; size = size; high = u.server.high }) u.grant held.components)
      (sym (ap (λ (x : Server). x.drives) st.server)) u.lists;
  for_writing = u.for_writing;
}

module _ (laws : ReportingLaws) (s : ReadyCall) (w : World) (h : List Line) (k : IsIn s w h) (m : Move)
    (next : IsIn s (move w m).world (h ++ lines_in w m)) (a : Committed s w)
    (d : DeliversHead s w m (answer_message a.answer) []) where
  abbrev c : Client
  c = a.has.caller.at.state

  abbrev held_then : Held
  held_then = sized a.has.held a.answer.size

  abbrev step_then : ClientStep
  step_then = step c (Hears node.Server (Answers a.answer))

  steps_then : Steps w m s.client a.has.caller.at (Some (op_at s)) step_then
  steps_then = takes_it laws s w h k a.request a.answer (Commit a.timed) a.has.caller a.answered a.status m d

  answered_at : (timed : List TimedOut) → a.timed ≡ timed → IsAnsweredAt c (op_at s) (Commit timed) a.answer
  answered_at timed is =
      awaited_there laws s w h k a.request a.answer (Commit a.timed) a.has.caller a.answered a.status m d (Commit timed)
      (ap (λ (ts : List TimedOut). Commit ts) is)

  abbrev takes_turn : TakesTurn s w m held_then []
  takes_turn = record {
    base = unasked c;
    number = (in_step_there laws.asking w h k.fair s.client a.has.caller.at a.has.caller.there).number;
    free = refl;
    due = a.has.caller.due;
    file_is = held_file c.held (file_at_call s) a.has.held a.has.holds;
    new =
        ap (λ (x : Server). admit (slot_of x.slots s.client) c.next) steps_then.server
        ∙ asks_new laws.asking s w h k a.request a.answer (Commit a.timed) a.has.caller a.answered;
    before = a.has.caller.at;
    alive = a.has.caller.alive;
    result = step_then;
    step = steps_then;
    queue = d.queue_is;
    count = d.count_is;
  }

  -- what timed out is reported, whatever the size
  reports_then : (t : TimedOut) (timed : List TimedOut) → a.timed ≡ t ∷ timed
      → step_then ≡ asks_step (holding (unasked c) held_then) (op_at s) (Report (t ∷ timed))
      (return_args held_then.number (report_of held_then (t ∷ timed)))
  unfolding report_of object_of error_at
  reports_then t timed is =
      answers_step.committed_but c a.has.held (op_at s) t timed a.answer (answered_at (t ∷ timed) is) a.has.holds a.status

  silent_then : (timed : List TimedOut) → a.timed ≡ timed → AreSilent s held_then timed
  silent_then timed is =
      subst (AreSilent s held_then) is
      (record { lost = a.silent.lost; touched = a.silent.touched; listed = a.silent.listed })

  -- the size is committed, and the client rests
  rested_then : a.timed ≡ [] → IsRested s (move w m).world
  rested_then is =
      let after : steps_then.after.state ≡ without_call (holding (unasked c) held_then) =
      steps_then.state
      ∙ ap (λ (y : ClientStep). y.client)
      (answers_step.committed c a.has.held (op_at s) a.answer (answered_at [] is) a.has.holds a.status) in
      let some = (call_fine laws.asking s w h k (Waits (Commit a.timed)) (Some a.request) a.size a.has).0.some in
      record {
        grants = a.has.grants;
        server =
            subst (λ (n : ℕ). Serves s (move w m).world a.has.grants n)
            (a.size_is ∙ sym (write_grows (kept_at s) (op_at s) a.writes some))
            (serves_stays s w (move w m).world a.has.grants a.size steps_then.server steps_then.clock steps_then.down
            a.has.server);
        at = steps_then.after;
        there = steps_then.there;
        idle = record {
          alive = steps_then.stopped ∙ a.has.caller.alive;
          free = ap (λ (z : Client). z.call) after;
          answered = ap (λ (z : Client). z.outstanding) after;
        };
        alike =
            ap (λ (z : Client). is_some (held_of z.held (file_at_call s))) after
            ∙ ap (λ (o : Option Held). is_some o)
            (put_at c.held held_then (file_at_call s) (held_file c.held (file_at_call s) a.has.held a.has.holds))
            ∙ sym (ap (λ (o : Option Grant). is_some o) a.has.granted);
        others = a.has.others;
        aside = aside_still s w (move w m).world a.has.grants steps_then.others a.has.aside;
        drives = drives_on a.drives steps_then.drives;
      }

  goes_by : (timed : List TimedOut) → a.timed ≡ timed → GoesOn s (move w m).world (lines_in w m)
  goes_by [] is =
      write_ends s w m a.has.caller.at step_then steps_then (holding (unasked c) held_then)
      (answers_step.committed c a.has.held (op_at s) a.answer (answered_at [] is) a.has.holds a.status)
      a.writes (answer_message a.answer) d (omega (arith, a.sent)) (λ whole. rested_then is)
  goes_by (t ∷ timed) is =
      turn_reports laws.asking s w m held_then a.size t timed takes_turn (reports_then t timed is) (h ++ lines_in w m) next
      (under_sized s w m a.has.caller.at (Some (op_at s)) step_then steps_then a.has.held a.size a.answer.size
      a.writes (commit_under laws.asking s w h k a.timed a.request a.size a.has))
      a.writes (silent_then (t ∷ timed) is) a.sent

pub committed_goes_on : ReportingLaws → GoesOnBy Committed
committed_goes_on laws s w h k m next a x rest queue d =
    goes_by laws s w h k m next a (head_of d (sym queue ∙ a.queue)) a.timed refl
