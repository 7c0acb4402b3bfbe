-- Each move keeps that the pending calls of the log are those of the clients.
use Rattle.std.proofs.Common.{◌≡◌, true≢false, ℕ, Bool, true, false, ◌&&◌, nat_lt, List, [], ◌∷◌, ◌++◌, Option, Some, None, Result, Ok, Err, length, refl, sym, ap, subst, ◌∙◌}
use Rattle.std.specs.List.{fold, filter_map, cons_option, list_any}
use Rattle.std.specs.Prelude.{◌||◌}
use Rattle.std.proofs.lemmas.List.Sums.{fold-append}
use Rattle.scenario_text.specs.declared.event.Call.{Call as ToldCall}
use Rattle.scenario_text.specs.declared.event.Event.{Event}
use Rattle.scenario_text.specs.declared.event.Event.TheVariants as event
use Rattle.scenario_text.specs.declared.event.Sender.TheVariants as sender
use Rattle.scenario_text.specs.declared.line.Delivery.{Delivery}
use Rattle.scenario_text.specs.declared.line.Delivery.TheVariants as delivery
use Rattle.scenario_text.specs.declared.line.Line.{Line}
use Rattle.scenario_text.specs.declared.names.TheConstants.{FILES}
use Rattle.client_rules.specs.Messages.{Step as ClientStep}
use Rattle.osd_commands.specs.Commands as commands
use Rattle.server_rules.specs.Files.{Step as ServerStep}
use Rattle.server_rules.specs.Making.{add_drive}
use Rattle.server_rules.specs.History as server
use Rattle.client_rules.specs.Steps.{new_client, calls}
use Rattle.client_rules.specs.History.{Input, Calls as Called, Hears, TimesOut as Times, Leaves, Resends, unless_refused, step}
use Rattle.world_history.specs.ServerNames.{Note}
use Rattle.world_history.specs.ClientNames.{Client, CallOp, CallErr, Outcome}
use Rattle.world_history.specs.declared.messages.Posted.{Posted}
use Rattle.world_history.specs.State.{World, ClientAt, at_number, with_client, with_drive}
use Rattle.world_history.specs.Names.{is_tellable, is_tellable_note, where_known, note_line, known_note_line}
use Rattle.world_history.specs.Drives.{judges, command_in}
use Rattle.world_history.specs.Handed.{Post, Handed, pending_op, op_in, wrote_in, is_write_out, ended_by, server_did, client_did, drive_replies}
use Rattle.world_history.specs.Moves.{Act, Action, Opens, Delivers, TimesOut, Pends, acts, begins, calls_at, by_client, called, op_of, changed, told_delivered, judged_at, known_drive, adds_client}
use Rattle.world_history.specs.Refusals.{refusal, unless_stopped}
use Rattle.world_history.specs.ReadLog.{Log, called as logs_call, log_after_event, log_after, empty_log, log_in}
use Rattle.world_history.specs.Sending.{Move, move, sent_lines}
use Rattle.world_history.specs.Plans.{Plan, due, due_in, went_on, plan_of}
use Rattle.world_history.specs.Runs.{world_after, plan_after}
use Rattle.world_history.specs.History.{OneEventMore}
use Rattle.world_history.proofs.Runs.{no_opening}
use Rattle.world_history.proofs.ReadMessages.{never_opens}
use Rattle.history_law.specs.Said.{with_marks}
use Rattle.history_law.specs.Moves.{ForClient, IsForClient, asked_in, front_of, fronted, serving, drive_more}
use Rattle.history_law.proofs.Moves.{each_act, front_cases}
use Rattle.history_law.specs.BookMoments.{IsMoment, with_event, lines_in, plan_at}
use Rattle.exchange_law.specs.InStep.{state_of}
use Rattle.exchange_law.proofs.Each.{stopped_same, come_same}
use Rattle.exchange_law.proofs.SlotMoments.{comes_new, always}
use Rattle.exchange_law.specs.Pending.{logged_op, OutcomesAreTold, CallsArePending}
use Rattle.exchange_law.proofs.PendingEntries.{AreRising}
use Rattle.exchange_law.proofs.PendingLines.{Calls, sent_keeps, quiet_same}
use Rattle.exchange_law.proofs.PendingTurns.{EndsAs, turn_ends, calls_end}
use Rattle.exchange_law.proofs.PendingCalls.{Agree, AgreeBut, going_agrees, refused_agrees, called_agrees}

-- ---- clients that are as they were

abbrev AgreeOn : List (ℕ × ClientAt) → Calls → Type 0
AgreeOn xs ps = AreRising ps × ((c : ℕ) → logged_op (at_number ps c) ≡ pending_op (state_of c (at_number xs c)))

log_same : (w : World) (l m : Log) → m ≡ l → Agree w l.pending → Agree w m.pending
log_same w l m same h = subst (λ (n : Log). Agree w n.pending) (sym same) h

-- ---- lines that change no log

notes_same : (l : Log) (ns : List Note) → fold log_after l (filter_map known_note_line ns) ≡ l
notes_same l [] = refl
notes_same l (n ∷ ns) = by (nat_lt n.file FILES && is_tellable_note n.kind) (notes_same l ns)
  where
    by : (b : Bool) → fold log_after l (filter_map known_note_line ns) ≡ l →
        fold log_after l (cons_option (where_known b (note_line n)) (filter_map known_note_line ns)) ≡ l
    by true rest = rest
    by false rest = rest

front_same : (l : Log) (action : Action) (d : Delivery) (ls : List Line) →
    fold log_after l (front_of action d ++ ls) ≡ fold log_after l ls
front_same l action d ls =
    front_cases (λ (f : List Line). fold log_after l (f ++ ls) ≡ fold log_after l ls) refl (λ n d. refl) (λ c k. refl)
    action d

-- no client is called
abbrev NoCall : Action → Type 0
NoCall (Opens (event.Do c x)) = ⊥
NoCall (Opens (event.Call c x)) = ⊥
NoCall action = Unit {0}

event_same : (l : Log) (action : Action) (ls : List Line) → NoCall action →
    fold log_after l (with_event action ls) ≡ fold log_after l ls
event_same l (Opens (event.Do c x)) ls n = absurd n
event_same l (Opens (event.Call c x)) ls n = absurd n
event_same l (Opens e) ls n = refl
event_same l action ls n = refl

is_call : Option ForClient → Bool
is_call None = false
is_call (Some x) = calls_it x.input
  where
    calls_it : Input → Bool
    calls_it (Called op) = true
    calls_it i = false

none_called : (action : Action) → NoCall action → (c : ℕ) (op : CallOp) →
    asked_in action ≡ Some (record { number = c; input = Called op }) → ⊥
unfolding is_call
none_called (Opens (event.Do d x)) n c op e = n
none_called (Opens (event.Call d x)) n c op e = n
none_called (Opens (event.Resend (sender.Client d))) n c op e = true≢false (sym (ap is_call e))
none_called (Opens (event.Timeout d k)) n c op e = true≢false (sym (ap is_call e))
none_called (Opens (event.Leave d)) n c op e = true≢false (sym (ap is_call e))
none_called (TimesOut d k) n c op e = true≢false (sym (ap is_call e))
none_called action n c op e = true≢false (sym (ap is_call e))

-- ---- an event that is allowed

allowed_by : (v w : World) (e f : Event) (ms : List Move) → w ≡ world_after v ms → refusal v e ≡ None →
    due (plan_after (plan_of v e) ms) w ≡ Some (Opens f) → refusal w f ≡ None
allowed_by v w e f [] is allowed d =
    let same : e ≡ f = opened d in
    ap (λ (x : Event). refusal w x) (sym same) ∙ ap (λ (u : World). refusal u e) is ∙ allowed
  where
    opened : Some (Opens e) ≡ Some (Opens f) → e ≡ f
    opened x = cc x
allowed_by v w e f (m ∷ ms) is allowed d =
    let p : Plan = plan_after (plan_of v e) (m ∷ ms) in
    absurd
    (never_opens w p.rule f
    (sym (ap (due_in w p.rule) (no_opening (went_on (plan_of v e) m.action) ms refl)) ∙ d))

-- an event that begins at a moment isn't refused there
pub opening_allowed : (w : World) (h : List Line) (k : IsMoment w h) (e : Event) →
    due (plan_at k) w ≡ Some (Opens e) → refusal w e ≡ None
opening_allowed w h k e d = allowed_by k.before w k.event e k.moves k.world_is k.allowed d

-- ---- a move

-- of which a line can tell each outcome
module _ (w : World) (h : List Line) (k : IsMoment w h) (m : Move) (d : due (plan_at k) w ≡ Some m.action)
    (told : (c : ℕ) (a : ClientAt) → at_number w.clients c ≡ Some a → (i : Input) → IsForClient w m.action c a i
    → (o : Outcome) → (step a.state i).outcome ≡ Some o → is_tellable o ≡ true) (before : Agree w (log_in h).pending) where
  abbrev l : Log
  l = log_in h

  -- what is told leaves the calls of the world behind
  abbrev Tells : Action → Act → Type 0
  Tells action a = Agree a.world (fold log_after l (with_event action a.told)).pending

  same_told : (a : Act) → a.world.clients ≡ w.clients → NoCall m.action → fold log_after l a.told ≡ l → Tells m.action a
  same_told a clients n same =
      subst (λ (xs : List (ℕ × ClientAt)). AgreeOn xs (fold log_after l (with_event m.action a.told)).pending) (sym clients)
      (log_same w l (fold log_after l (with_event m.action a.told)) (event_same l m.action a.told n ∙ same) before)

  states_told : (v : World) → NoCall m.action →
      ((c : ℕ) → state_of c (at_number v.clients c) ≡ state_of c (at_number w.clients c)) → Tells m.action (changed v)
  states_told v n same =
      log_same v l (fold log_after l (with_event m.action [])) (event_same l m.action [] n)
      (before.0, λ c. before.1 c ∙ sym (ap pending_op (same c)))

  but : (ms : List Posted) (c : ℕ) (a : ClientAt) → at_number w.clients c ≡ Some a →
      AgreeBut (with_marks w ms) c (pending_op a.state) l.pending
  but ms c a found = (
    before.0,
    before.1 c ∙ ap (λ (o : Option ClientAt). pending_op (state_of c o)) found,
    λ q other. before.1 q,
  )

  -- the call that a step is about is the pending one
  op_same : NoCall m.action → (c : ℕ) (a : ClientAt) (i : Input) → IsForClient w m.action c a i →
      (op_in a.state i ≡ pending_op a.state) × ((op : CallOp) → i ≡ Called op → ⊥)
  op_same n c a (Called op) is = absurd (none_called m.action n c op is)
  op_same n c a (Hears from x) is = (refl, λ op e. cc e)
  op_same n c a (Times j) is = (refl, λ op e. cc e)
  op_same n c a Leaves is = (refl, λ op e. cc e)
  op_same n c a Resends is = (refl, λ op e. cc e)

  goes_told : NoCall m.action → (ms : List Posted) (c : ℕ) (a b : ClientAt) → at_number w.clients c ≡ Some a →
      (i : Input) → IsForClient w m.action c a i → b.state ≡ (step a.state i).client → (ps : List Post) →
      Tells m.action (record {
        world = with_client (with_marks w ms) c b;
        told = front_of m.action delivery.Taken ++ ended_by c (op_in a.state i) (step a.state i).outcome;
        posts = ps;
      })
  goes_told n ms c a b found i is state ps =
      let op = op_same n c a i is in
      let v : World = with_client (with_marks w ms) c b in
      let tail : List Line = ended_by c (op_in a.state i) (step a.state i).outcome in
      log_same v (fold log_after l tail) (fold log_after l (with_event m.action (front_of m.action delivery.Taken ++ tail)))
      (event_same l m.action (front_of m.action delivery.Taken ++ tail) n ∙ front_same l m.action delivery.Taken tail)
      (subst (λ (o : Option CallOp). Agree v (fold log_after l (ended_by c o (step a.state i).outcome)).pending) (sym op.0)
      (going_agrees (with_marks w ms) c a b found l (pending_op a.state) (step a.state i).outcome (but ms c a found)
      (subst (λ (x : Client). EndsAs (pending_op a.state) (step a.state i).outcome x.call) (sym state)
      (turn_ends a.state i op.1))
      (λ o e. told c a found i is o e)))

  no_call : NoCall m.action → Tells m.action (acts w m.chosen m.action)
  no_call n = each_act w m.chosen (Tells m.action) m.action (record {
    rests = λ ms same ls quiet.
        same_told (record { world = with_marks w ms; told = ls; posts = [] }) refl n (quiet_same l ls quiet);
    refused = λ c a found op is e why. absurd (none_called m.action n c op is);
    clock = λ time. same_told (changed (record w { clock = time })) refl n refl;
    serves = λ ms same i is.
        let did : ServerStep = server.step w.server m.chosen i in
        same_told (fronted (front_of m.action delivery.Taken) (server_did (serving w ms i) did)) refl n
        (front_same l m.action delivery.Taken (filter_map known_note_line did.notes) ∙ notes_same l did.notes);
    goes = λ ms same c a found i is.
        let h : Handed = client_did (with_marks w ms) c a i (step a.state i) in
        goes_told n ms c a (record a {
          state = (step a.state i).client;
          wrote = wrote_in a i || list_any is_write_out (step a.state i).sends;
        }) found i is refl h.posts;
    comes = λ c is.
        states_told (adds_client w c) n
        (λ q. come_same w.clients c q (record { state = new_client c 1; stopped = false; wrote = false })
        (comes_new w h k c (d ∙ ap (λ (x : Action). Some x) is)) refl);
    stops = λ c a found.
        states_told (with_client w c (record a { stopped = true })) n
        (λ q. stopped_same w.clients c q a (record a { stopped = true }) found refl);
    judged = λ ms same drive a found deaf x number.
        same_told (told_delivered x.number
        (drive_replies (with_marks w ms) drive x.posted.message.from (judges a (command_in x.posted.message.body))))
        refl n refl;
    injected = λ drive bytes is a found. same_told (judged_at w drive (judges a (commands.reading bytes))) refl n refl;
    turns = λ drive a b found t. same_told (changed (with_drive w drive b)) refl n refl;
    known = λ drive key capacity stored is knows. same_told (changed (drive_more w drive key capacity stored)) refl n refl;
    adds = λ drive key capacity stored is knows.
        same_told (record {
          world = record (drive_more w drive key capacity stored) {
            server = record w.server { drives = add_drive w.server.drives (known_drive drive key capacity) };
          };
          told = [];
          posts = [];
        }) refl n refl;
  })

  -- ---- a client is called

  -- by the event of a call, or that of one whose messages are delivered at once
  module _ (e : Event) (c : ℕ) (x : ToldCall) (is : m.action ≡ Opens e) (asks : asked_in (Opens e) ≡ Some (record {
    number = c;
    input = Called (op_of x);
  })) (logs : log_after_event l e ≡ logs_call l c x) (acts_as : acts w m.chosen (Opens e) ≡ calls_at w c (op_of x))
      (living : refusal w e ≡ unless_stopped (at_number w.clients c)) where
    at_result : (a : ClientAt) → at_number w.clients c ≡ Some a → (r : Result ClientStep CallErr) →
        calls a.state (op_of x) ≡ r → Agree (called w c a (op_of x) r).world
        (fold log_after (logs_call l c x) (called w c a (op_of x) r).told).pending
    at_result a found (Err f) r = refused_agrees w l c a found x before f r
    at_result a found (Ok s) r =
        going_agrees w c a (record a { state = s.client; wrote = false || list_any is_write_out s.sends }) found (logs_call l c x)
        (Some (op_of x)) s.outcome
        (called_agrees w l c a found x before s r)
        (calls_end a.state (op_of x) s r)
        (λ o out. told c a found (Called (op_of x)) (ap asked_in is ∙ asks) o
        (ap (λ (q : Result ClientStep CallErr). (unless_refused a.state q).outcome) r ∙ out))

    at_client_told : (o : Option ClientAt) → at_number w.clients c ≡ o → unless_stopped o ≡ None →
        Agree (by_client w (λ a. called w c a (op_of x) (calls a.state (op_of x))) o).world
        (fold log_after (logs_call l c x) (by_client w (λ a. called w c a (op_of x) (calls a.state (op_of x))) o).told).pending
    at_client_told None found alive = absurd (cc alive)
    at_client_told (Some a) found alive = at_result a found (calls a.state (op_of x)) refl

    calls_told : Tells (Opens e) (calls_at w c (op_of x))
    unfolding calls_at
    calls_told =
        subst (λ (y : Log). Agree (calls_at w c (op_of x)).world (fold log_after y (calls_at w c (op_of x)).told).pending)
        (sym logs)
        (at_client_told (at_number w.clients c) refl
        (sym living ∙ opening_allowed w h k e (d ∙ ap (λ (y : Action). Some y) is)))

    event_told : Tells m.action (acts w m.chosen m.action)
    event_told =
        subst (λ (y : Action). Tells y (acts w m.chosen y)) (sym is)
        (subst (Tells (Opens e)) (sym acts_as) calls_told)

  any_told : (action : Action) → m.action ≡ action → Tells m.action (acts w m.chosen m.action)
  unfolding begins refusal
  any_told (Opens (event.Do c x)) is = event_told (event.Do c x) c x is refl refl refl refl
  any_told (Opens (event.Call c x)) is = event_told (event.Call c x) c x is refl refl refl refl
  any_told (Opens e) is = no_call (subst NoCall (sym is) tt)
  any_told (Delivers number) is = no_call (subst NoCall (sym is) tt)
  any_told (TimesOut c j) is = no_call (subst NoCall (sym is) tt)
  any_told (Pends c) is = no_call (subst NoCall (sym is) tt)

  -- ---- what is sent

  event_more : (action : Action) (x y : List Line) → with_event action (x ++ y) ≡ with_event action x ++ y
  event_more (Opens e) x y = refl
  event_more (Delivers number) x y = refl
  event_more (TimesOut c j) x y = refl
  event_more (Pends c) x y = refl

  pub move_agrees : Agree (move w m).world (log_in (h ++ lines_in w m)).pending
  move_agrees =
      let a : Act = acts w m.chosen m.action in
      let middle : Log = fold log_after l (with_event m.action a.told) in
      let sent : List Line = sent_lines (length a.world.network.messages) a.posts in
      let all : log_in (h ++ lines_in w m) ≡ fold log_after middle sent =
      fold-append log_after empty_log h (lines_in w m)
      ∙ ap (fold log_after l) (event_more m.action a.told sent)
      ∙ fold-append log_after l (with_event m.action a.told) sent in
      let here : Agree a.world middle.pending = any_told m.action refl in
      let keeps = sent_keeps middle (length a.world.network.messages) a.posts in
      subst (λ (y : Log). Agree (move w m).world y.pending) (sym all)
      (keeps.0 here.0, λ c. keeps.1 c ∙ here.1 c)

-- at each moment the calls that are pending by the lines are those of the clients
pub calls_are_pending : OutcomesAreTold → OneEventMore → CallsArePending
calls_are_pending told more w h at =
    (always (λ w h. Agree w (log_in h).pending) (record {
      starts = (tt, λ c. refl);
      moves = λ v g k m d x. move_agrees v g k m d (told v g k m d) x;
    }) more w h at).1
