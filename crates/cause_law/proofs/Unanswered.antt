-- A line tells that a call is left pending only if the answer that its client waits for can't come within the event.
use Rattle.std.proofs.Common.{◌≡◌, ◌⊎◌, ◌<◌, ℕ, true, false, List, [], ◌∷◌, ◌++◌, length, Option, Some, None, refl, sym, ap, subst, ◌∙◌, append_assoc, inl, inr}
use Rattle.std.proofs.lemmas.List.{append-nil}
use Rattle.scenario_text.specs.declared.names.TheConstants.{CLIENTS}
use Rattle.scenario_text.specs.declared.event.Call.{Call as EventCall}
use Rattle.scenario_text.specs.declared.event.Event.{Event}
use Rattle.scenario_text.specs.declared.event.Event.TheVariants as event
use Rattle.scenario_text.specs.declared.line.CallKind.{CallKind}
use Rattle.scenario_text.specs.declared.line.Ending.TheVariants.{Pending}
use Rattle.scenario_text.specs.declared.line.Outcome.TheVariants.{Failed}
use Rattle.scenario_text.specs.declared.line.Line.{Line}
use Rattle.scenario_text.specs.declared.line.Line.TheVariants as line
use Rattle.server_rules.specs.Laws.{In}
use Rattle.world_history.specs.ClientNames.{CallOp, Request}
use Rattle.world_history.specs.State.{World, ClientAt, at_number}
use Rattle.world_history.specs.Told.{kind_of}
use Rattle.world_history.specs.Handed.{pending_op}
use Rattle.world_history.specs.Moves.{Action, Opens, Delivers, TimesOut, Pends, op_of, by_client, pends_as, pends}
use Rattle.world_history.specs.Sending.{Move, sends_all, sent_lines}
use Rattle.world_history.specs.Plans.{due_pending, next_pending, Prompt, due, due_in, due_by, is_refused, rule_of, plan_of}
use Rattle.world_history.specs.Refusals.{refusal}
use Rattle.world_history.specs.Runs.{world_after, lines_of, AreDue, plan_after, CarriesPart}
use Rattle.world_history.specs.History.{StandsFor, Begins, OneEventMore}
use Rattle.world_history.specs.History.Begins.{Nothing, Part}
use Rattle.world_history.proofs.Runs.{no_opening}
use Rattle.history_law.specs.Grants.{GrantsAreSafe}
use Rattle.history_law.proofs.Each.{EachBehind, each_more, each_front, at_each_line}
use Rattle.history_law.specs.Moments.{IsMoment, lines_so_far, lines_in, plan_at}
use Rattle.history_law.proofs.Moments.{always}
use Rattle.exchange_law.specs.Counters.{CountersStayLow}
use Rattle.exchange_law.specs.InStep.{ClientsAreInStep, state_of}
use Rattle.exchange_law.specs.Requests.{OneRequest}
use Rattle.exchange_law.specs.Text.{AreOfText, AreFew}
use Rattle.exchange_law.proofs.CountGrowing.{text_behind}
use Rattle.exchange_law.proofs.Knowing.{lawful_at}
use Rattle.cause_law.specs.Readable.{FilesAndAnswersAreReadable}
use Rattle.cause_law.specs.Reports.{RequestsCanBeRead}
use Rattle.cause_law.specs.Pending.{IsLeft, pending_line}
use Rattle.cause_law.specs.Waiting.{PendingCallsWait, WaitsForAnswer}
use Rattle.cause_law.proofs.CallHistories.{clients_are_read, clients_at}
use Rattle.cause_law.proofs.PendingLines.{IsNone, TellNone, IsOther, others_none}
use Rattle.cause_law.proofs.PendingMoves.{rule_there, taken_rule, each_call_is_left_so}
use Rattle.cause_law.specs.Lines.{IsInDo}
use Rattle.cause_law.specs.Down.{is_down}
use Rattle.cause_law.specs.Unanswered.{Awaits, IsUnanswered, UnansweredAt, PendingCallsAreUnanswered}
use Rattle.cause_law.proofs.Eventless.{moves_plain}
use Rattle.cause_law.proofs.Down.{down_is_read}
use Rattle.cause_law.proofs.Queue.{queue_is_due}
use Rattle.cause_law.proofs.Sends.{outstanding_of}
use Rattle.cause_law.proofs.Waiting.{IsOnItsWay, IsWaiting, waits}

-- a world that stands for a history is at a moment, whatever comes then
pub between : (w : World) (h : List Line) → StandsFor w h → IsMoment w h
unfolding refusal
between w h s = record {
  before = w;
  history = h;
  stands = s;
  event = event.Settle;
  allowed = refl;
  moves = [];
  are_due = tt;
  world_is = refl;
  lines_are = sym (append-nil h);
}

module _ (one : OneRequest) (in_step : ClientsAreInStep) (readable : FilesAndAnswersAreReadable) (can : RequestsCanBeRead)
    (low : CountersStayLow) (safe : GrantsAreSafe) (more : OneEventMore) (wait : PendingCallsWait) where
  -- ---- the call of a `do`, at its last move

  module _ (w : World) (h : List Line) (k : IsMoment w h) (m : Move) (d : due (plan_at k) w ≡ Some m.action)
      (text : AreOfText h) (few : AreFew h) (c : ℕ) (j : ℕ) (last : m.action ≡ Pends j)
      (l : (kind : CallKind) × IsLeft k.history k.event h c kind) where
    abbrev v : World
    v = k.before

    abbrev first : ℕ
    first = length v.network.messages

    abbrev call : EventCall
    call = l.1.its

    abbrev e : Event
    e = event.Do c call

    event_is : k.event ≡ e
    event_is = l.1.event_is

    -- the client took the call
    abbrev caller : ClientAt
    caller = l.1.takes.caller

    called : at_number v.clients c ≡ Some caller
    called = sym (clients_are_read v k.history k.stands c) ∙ l.1.takes.there

    taken : is_refused (at_number v.clients c) (op_of call) ≡ false
    taken = ap (λ (o : Option ClientAt). is_refused o (op_of call)) called ∙ l.1.takes.taken

    are_due : AreDue (plan_of v e) v k.moves
    are_due = subst (λ (x : Event). AreDue (plan_of v x) v k.moves) event_is k.are_due

    lines : h ≡ k.history ++ lines_so_far v e k.moves
    lines = k.lines_are ∙ ap (λ (x : Event). k.history ++ lines_so_far v x k.moves) event_is

    -- it isn't the event's first move
    begun : (ms : List Move) → k.moves ≡ ms → (lines_so_far v e ms ≡ line.Event e ∷ lines_of v ms) × ((plan_at k).opening ≡ None)
    begun [] none =
        let opens : Some (Opens k.event) ≡ Some (Pends j) =
        sym (ap (λ (ms : List Move). due (plan_after (plan_of v k.event) ms) w) none) ∙ d ∙ ap (λ (a : Action). Some a) last in
        absurd (cc opens)
    begun (x ∷ ms) some = (
      refl,
      ap (λ (ns : List Move). (plan_after (plan_of v k.event) ns).opening) some ∙ no_opening _ ms refl,
    )

    own_lines : lines_so_far v e k.moves ≡ line.Event e ∷ lines_of v k.moves
    own_lines = (begun k.moves refl).0

    in_do : IsInDo h c
    in_do = record {
      start = k.history;
      its = call;
      body = lines_of v k.moves;
      lines_are = lines ∙ ap (λ (ls : List Line). k.history ++ ls) own_lines;
      own = moves_plain v e k.moves are_due;
    }

    named : c < CLIENTS
    named =
        (text_behind k.history (line.Event e ∷ lines_of v k.moves)
        (subst AreOfText (lines ∙ ap (λ (ls : List Line). k.history ++ ls) own_lines) text)).0.1.0

    holds : IsWaiting v c w
    holds =
        subst (IsWaiting v c) (sym k.world_is)
        (waits one in_step readable can low safe more v c named k.history k.stands call
        (subst (λ (x : Event). refusal v x ≡ None) event_is k.allowed) taken k.moves are_due (subst AreOfText lines text)
        (subst AreFew lines few))

    -- no message of the event is left
    rule_is : (plan_at k).rule ≡ Prompt first (Some c)
    rule_is =
        rule_there v k.event k.moves w m.action d ∙ ap (rule_of v) event_is ∙ taken_rule v c call taken

    none_next : next_pending w first ≡ None
    none_next = by (next_pending w first) refl due_so
      where
        due_so : due_pending w (Some c) (next_pending w first) ≡ Some (Pends j)
        due_so =
            ap (due_by w) (sym rule_is)
            ∙ ap (λ (o : Option Event). due_in w (plan_at k).rule o) (sym (begun k.moves refl).1)
            ∙ d ∙ ap (λ (a : Action). Some a) last

        by : (o : Option ℕ) → next_pending w first ≡ o → due_pending w (Some c) o ≡ Some (Pends j)
            → next_pending w first ≡ None
        by None e x = e
        by (Some n) e x = absurd (cc x)

    none_comes : (r : Request) → IsOnItsWay first c w r → ⊥
    none_comes r x = subst (In x.message) ((queue_is_due.none w first).0 none_next) x.there

    -- ---- why

    waiting : WaitsForAnswer l.1.still
    waiting = wait w h k (readable h (lawful_at w h k) text few) c l.1.still l.1.quiet

    out : outstanding_of w c ≡ Some waiting.request
    out =
        ap (λ (o : Option ClientAt). (state_of c o).outstanding) (sym (clients_at w h k c) ∙ l.1.still.there)
        ∙ waiting.outstanding

    because : Awaits k.history c waiting.request ⊎ (is_down k.history ≡ true)
    because = elim (holds.cause waiting.request out) [
      | inl o ↦ inl (record {
        caller = caller;
        there = l.1.takes.there;
        outstanding = ap (λ (x : Option ClientAt). (state_of c x).outstanding) (sym called) ∙ o;
      })
      | inr (inl down) ↦ inr (down_is_read more v k.history (between v k.history k.stands) ∙ down)
      | inr (inr x) ↦ absurd (none_comes waiting.request x)
    ]

    pub is_unanswered : IsUnanswered h c
    unfolding in_do
    is_unanswered = record {
      event = in_do;
      request = waiting.request;
      awaits = record { caller = l.1.still.caller; there = l.1.still.there; outstanding = waiting.outstanding };
      cause = because;
    }

  -- ---- the lines of a move

  plain : (g : List Line) (l : Line) → IsNone l → UnansweredAt g l
  plain g (line.Ended c (Failed kind Pending)) n = absurd n
  plain g l n = tt

  plain_lines : (g ls : List Line) → TellNone ls → EachBehind UnansweredAt g ls
  plain_lines g [] n = tt
  plain_lines g (l ∷ ls) n = (plain g l n.0, plain_lines (g ++ l ∷ []) ls n.1)

  module _ (w : World) (h : List Line) (k : IsMoment w h) (m : Move) (d : due (plan_at k) w ≡ Some m.action) where
    pends_lines : (j : ℕ) → m.action ≡ Pends j → (o : Option ClientAt) → at_number w.clients j ≡ o
        → EachBehind UnansweredAt h (sends_all (by_client w (λ (a : ClientAt). pends_as w j (pending_op a.state)) o)).lines
    unfolding sent_lines pends
    pends_lines j is None there = tt
    pends_lines j is (Some a) there = by (pending_op a.state) refl
      where
        told : (op : CallOp) → pending_op a.state ≡ Some op → lines_in w m ≡ pending_line j (kind_of op) ∷ []
        told op its =
            ap (λ (x : Action). lines_in w (record { action = x; chosen = m.chosen })) is
            ∙ ap (λ (o : Option ClientAt).
            (sends_all (by_client w (λ (y : ClientAt). pends_as w j (pending_op y.state)) o)).lines) there
            ∙ ap (λ (o : Option CallOp). (sends_all (pends_as w j o)).lines) its

        by : (o : Option CallOp) → pending_op a.state ≡ o → EachBehind UnansweredAt h (sends_all (pends_as w j o)).lines
        by None its = tt
        by (Some op) its = (
          λ text few.
              let i : In (pending_line j (kind_of op)) (lines_in w m) =
              subst (In (pending_line j (kind_of op))) (sym (told op its)) (inl refl) in
              is_unanswered w h k m d text few j j is (kind_of op, ((each_call_is_left_so w h k m d).left j (kind_of op) i).0),
          tt,
        )

    move_told : EachBehind UnansweredAt h (lines_in w m)
    unfolding pends
    move_told = by m.action refl
      where
        other : IsOther m.action → EachBehind UnansweredAt h (lines_in w m)
        other o = plain_lines h (lines_in w m) (others_none w m o)

        by : (a : Action) → m.action ≡ a → EachBehind UnansweredAt h (lines_in w m)
        by (Pends j) is =
            subst (λ (a : Action). EachBehind UnansweredAt h (lines_in w (record { action = a; chosen = m.chosen }))) (sym is)
            (pends_lines j is (at_number w.clients j) refl)
        by (Opens e) is = other (subst IsOther (sym is) tt)
        by (Delivers n) is = other (subst IsOther (sym is) tt)
        by (TimesOut c n) is = other (subst IsOther (sym is) tt)

  -- ---- all lines

  abbrev Told : World → List Line → Type 0
  Told w h = EachBehind UnansweredAt [] h

  told : (w : World) (h : List Line) → IsMoment w h → Told w h
  told w h k =
      always Told (record {
        starts = tt;
        moves = λ u g j m d x. each_more UnansweredAt [] g (lines_in u m) x (move_told u g j m d);
      }) more w h k

  part_told : (w : World) (whole last : List Line) (e : Event) (c : CarriesPart w e last) (ms : List Move) → c.moves ≡ ms
      → StandsFor w whole → EachBehind UnansweredAt [] (whole ++ last)
  part_told w whole last e c [] none s =
      let own_line : line.Event e ∷ [] ≡ last ++ c.part.0 =
      ap (λ (l : List Move). line.Event e ∷ lines_of w l) (sym none) ∙ c.part.1 in
      let all : EachBehind UnansweredAt [] (whole ++ (line.Event e ∷ [])) =
      each_more UnansweredAt [] whole (line.Event e ∷ []) (told w whole (between w whole s)) (tt, tt) in
      each_front UnansweredAt [] (whole ++ last) c.part.0
      (subst (EachBehind UnansweredAt [])
      (ap (λ (l : List Line). whole ++ l) own_line ∙ sym (append_assoc whole last c.part.0)) all)
  part_told w whole last e c (m ∷ ms) some s =
      let moment : IsMoment (world_after w (m ∷ ms)) (whole ++ lines_so_far w e (m ∷ ms)) = record {
        before = w;
        history = whole;
        stands = s;
        event = e;
        allowed = c.allowed;
        moves = m ∷ ms;
        are_due = subst (AreDue (plan_of w e) w) some c.are_due;
        world_is = refl;
        lines_are = refl;
      } in
      let lines : lines_so_far w e (m ∷ ms) ≡ last ++ c.part.0 =
      ap (λ (l : List Move). line.Event e ∷ lines_of w l) (sym some) ∙ c.part.1 in
      each_front UnansweredAt [] (whole ++ last) c.part.0
      (subst (EachBehind UnansweredAt [])
      (ap (λ (l : List Line). whole ++ l) lines ∙ sym (append_assoc whole last c.part.0))
      (told (world_after w (m ∷ ms)) (whole ++ lines_so_far w e (m ∷ ms)) moment))

  begun_told : (w : World) (whole last : List Line) → StandsFor w whole → Begins w last
      → EachBehind UnansweredAt [] (whole ++ last)
  begun_told w whole last s (Nothing none) =
      subst (λ (l : List Line). EachBehind UnansweredAt [] (whole ++ l)) (sym none)
      (subst (EachBehind UnansweredAt []) (sym (append-nil whole)) (told w whole (between w whole s)))
  begun_told w whole last s (Part e c) = part_told w whole last e c c.moves refl s

  pub pending_calls_are_unanswered : PendingCallsAreUnanswered
  pending_calls_are_unanswered h l =
      at_each_line UnansweredAt h
      (subst (EachBehind UnansweredAt []) (sym l.lines_are) (begun_told l.world l.whole l.last l.stands l.begins))
