-- While a `do` runs, an answer that its client waits for is on its way, unless the client waited for it before or the server
-- is down.
use Rattle.std.proofs.Common.{◌≡◌, ◌⊎◌, ◌<◌, ◌≤◌, ℕ, Bool, true, false, List, [], ◌∷◌, ◌++◌, length, Option, Some, None, is_some, refl, sym, ap, subst, ◌∙◌, append_assoc, inl, inr, arith, if◌then◌else◌}
use Rattle.std.proofs.lemmas.Bool.{cases_Bool}
use Rattle.std.proofs.lemmas.Bool.Decides.{nat_tests}
use Rattle.std.proofs.lemmas.List.{append-nil}
use Rattle.osd_lists.specs.declared.node.Node.TheVariants as node
use Rattle.layout_ops.specs.declared.messages.Answer.{Answer}
use Rattle.scenario_text.specs.declared.names.TheConstants.{CLIENTS}
use Rattle.scenario_text.specs.declared.event.Call.{Call as EventCall}
use Rattle.scenario_text.specs.declared.event.Event.{Event}
use Rattle.scenario_text.specs.declared.event.Event.TheVariants as event
use Rattle.scenario_text.specs.declared.line.Line.{Line}
use Rattle.server_rules.specs.Laws.{In}
use Rattle.server_rules.proofs.Members.{in_front, in_behind}
use Rattle.client_rules.specs.Steps.{awaits}
use Rattle.world_history.specs.ClientNames as client_rules
use Rattle.world_history.specs.ClientNames.{Client, Request}
use Rattle.world_history.specs.declared.err.WorldErr.TheVariants.{Dead}
use Rattle.world_history.specs.declared.messages.Message.{Message}
use Rattle.world_history.specs.declared.messages.Posted.{Posted}
use Rattle.world_history.specs.State.{World, ClientAt, at_number}
use Rattle.world_history.specs.Handed.{handed_to}
use Rattle.world_history.specs.Moves.{Act, Action, Opens, Delivers, TimesOut, Pends, marked, told_delivered, op_of, acts}
use Rattle.world_history.specs.Sending.{Move, move}
use Rattle.world_history.specs.Plans.{when_quiet, quiet_at, due_pending, next_pending, Rule, Prompt, Plan, due, due_in, due_by, went_on, is_refused, plan_of}
use Rattle.world_history.specs.Refusals.{refusal, unless_stopped}
use Rattle.world_history.specs.Runs.{world_after, AreDue, plan_after}
use Rattle.world_history.specs.History.{StandsFor, OneEventMore}
use Rattle.world_history.proofs.Runs.{due_more, plan_more, world_more, no_opening}
use Rattle.history_law.specs.Grants.{GrantsAreSafe}
use Rattle.history_law.specs.Said.{posted}
use Rattle.history_law.specs.Moments.{IsMoment, lines_so_far, lines_in}
use Rattle.history_law.proofs.Moments.{so_far_more}
use Rattle.exchange_law.specs.Counters.{CountersStayLow}
use Rattle.exchange_law.specs.InStep.{ClientsAreInStep, IsInStep, state_of}
use Rattle.exchange_law.specs.Meeting.{IsReadable}
use Rattle.exchange_law.specs.Requests.{OneRequest}
use Rattle.exchange_law.specs.Text.{AreOfText, AreFew}
use Rattle.exchange_law.proofs.CountGrowing.{fewer, text_front}
use Rattle.exchange_law.proofs.HeldWorlds.{readable_there}
use Rattle.exchange_law.proofs.Knowing.{lawful_at}
use Rattle.cause_law.specs.Readable.{FilesAndAnswersAreReadable}
use Rattle.cause_law.specs.Reports.{RequestsCanBeRead}
use Rattle.cause_law.proofs.PendingMoves.{rule_there, taken_rule}
use Rattle.cause_law.specs.Queue.{queue, IsHead, DeliversNone}
use Rattle.cause_law.proofs.Queue.{queue_is_due}
use Rattle.cause_law.proofs.Sends.{request_message, answer_message, outstanding_of, move_asks}
use Rattle.cause_law.proofs.Frames.{IsAlive, delivered_act, delivers_frame, other_frame}
use Rattle.cause_law.proofs.PendingAnswering.{IsReplied, is_replied}
use Rattle.cause_law.proofs.Taking.{awaiting, is_taken, asks_behind}

-- it brings an answer to the request: it is the request, or the answer
abbrev pub Brings : (client : ℕ) → Request → Message → Type 0
Brings c r m =
    (m ≡ request_message c r)
    ⊎ ((a : Answer) × (m ≡ answer_message c a) × (a.client ≡ c) × (a.sequence ≡ r.sequence))

-- such a message is pending, of those from a number on
pub record IsOnItsWay (first c : ℕ) (w : World) (r : Request) : Type 0 where
  pub message : Message
  pub there : In message (queue first w)
  pub brings : Brings c r message

-- The client isn't stopped, and the server is down or not as at the begin. What the client waits for it waited for at the
-- begin, or the server is down, or it is on its way.
pub record IsWaiting (v : World) (c : ℕ) (w : World) : Type 0 where
  pub alive : IsAlive c w
  pub down : w.down ≡ v.down
  pub longer : length v.network.messages ≤ length w.network.messages
  pub cause : (r : Request) → outstanding_of w c ≡ Some r
      → (outstanding_of v c ≡ Some r) ⊎ ((v.down ≡ true) ⊎ IsOnItsWay (length v.network.messages) c w r)

module _ (one : OneRequest) (in_step : ClientsAreInStep) (readable : FilesAndAnswersAreReadable) (can : RequestsCanBeRead)
    (low : CountersStayLow) (safe : GrantsAreSafe) (more : OneEventMore) (v : World) (c : ℕ) (named : c < CLIENTS) where
  abbrev first : ℕ
  first = length v.network.messages

  abbrev Holds : World → Type 0
  Holds w = IsWaiting v c w

  -- ---- a move

  module _ (w : World) (h : List Line) (k : IsMoment w h) (text : AreOfText h) (few : AreFew h) (holds : Holds w)
      (chosen : List ℕ) where
    abbrev Cause : World → Request → Type 0
    Cause u r = (outstanding_of v c ≡ Some r) ⊎ ((v.down ≡ true) ⊎ IsOnItsWay first c u r)

    -- what is on its way stays so, or is sent
    module _ (a : Action) (rest : List Message)
        (goes_on : queue first (move w (record { action = a; chosen = chosen })).world
        ≡ rest ++ posted (acts w chosen a).posts) where
      abbrev behind : World
      behind = (move w (record { action = a; chosen = chosen })).world

      sent : (r : Request) (m : Message) → In m (posted (acts w chosen a).posts) → Brings c r m → Cause behind r
      sent r m i brings = inr (inr (record {
        message = m;
        there = subst (In m) (sym goes_on) (in_behind m rest (posted (acts w chosen a).posts) i);
        brings = brings;
      }))

      left : (r : Request) (m : Message) → In m rest → Brings c r m → Cause behind r
      left r m i brings = inr (inr (record {
        message = m;
        there = subst (In m) (sym goes_on) (in_front m rest (posted (acts w chosen a).posts) i);
        brings = brings;
      }))

      asked : (r : Request) → ((r : Request) → outstanding_of w c ≡ Some r → outstanding_of behind c ≡ Some r → Cause behind r)
          → outstanding_of behind c ≡ Some r → Cause behind r
      asked r old e = elim (move_asks one w chosen a c r e) [
        | inl i ↦ sent r (request_message c r) i (inl refl)
        | inr was ↦ old r was e
      ]

    -- ---- nothing is delivered

    module _ (a : Action) (none : DeliversNone a) where
      stays : queue first (move w (record { action = a; chosen = chosen })).world
          ≡ queue first w ++ posted (acts w chosen a).posts
      stays = queue_is_due.stays w first (record { action = a; chosen = chosen }) none holds.longer

      pub keeps_other : Holds (move w (record { action = a; chosen = chosen })).world
      keeps_other =
          let f = other_frame c w chosen a none in
          record {
            alive = f.alive holds.alive;
            down = f.down ∙ holds.down;
            longer = queue_is_due.longer w first (record { action = a; chosen = chosen }) holds.longer;
            cause = λ r e. asked a (queue first w) stays r old e;
          }
        where
          old : (r : Request) → outstanding_of w c ≡ Some r
              → outstanding_of (move w (record { action = a; chosen = chosen })).world c ≡ Some r
              → Cause (move w (record { action = a; chosen = chosen })).world r
          old r was e = elim (holds.cause r was) [
            | inl o ↦ inl o
            | inr (inl d) ↦ inr (inl d)
            | inr (inr x) ↦ left a (queue first w) stays r x.message x.there x.brings
          ]

    -- ---- a message is delivered

    module _ (n : ℕ) (next : next_pending w first ≡ Some n) where
      head : IsHead w first n
      head = queue_is_due.head w first n next

      abbrev posted_one : Posted
      posted_one = head.posted

      abbrev arrival : Action
      arrival = Delivers n

      abbrev after : World
      after = (move w (record { action = Delivers n; chosen = chosen })).world

      goes_on : queue first after ≡ head.rest ++ posted (acts w chosen arrival).posts
      goes_on = head.goes_on chosen

      met : IsInStep w h c (state_of c (at_number w.clients c))
      met = in_step w h k c

      is_readable : IsReadable w
      is_readable = readable_there w h k (readable h (lawful_at w h k) text few)

      module _ (r : Request) (was : outstanding_of w c ≡ Some r) (e : outstanding_of after c ≡ Some r) where
        -- the request comes to the server
        comes : posted_one.message ≡ request_message c r → Cause after r
        comes is = elim (cases_Bool w.down) [
          | inl d ↦ inr (inl (sym holds.down ∙ d))
          | inr up ↦ by up
        ]
          where
            by : w.down ≡ false → Cause after r
            by up =
                let x : IsReplied (marked w n posted_one) chosen c r
                (awaiting safe more w h c met r was).client (can w h k c r was) (is_readable.requests c r was)
                (handed_to (marked w n posted_one) chosen (request_message c r) node.Server) =
                is_replied (marked w n posted_one) chosen c r (awaiting safe more w h c met r was).client (can w h k c r was)
                (is_readable.requests c r was) up (low w h k text few) (omega (arith, named))
                (grind (arith, nat_tests, named)) met.slot in
                let act : acts w chosen arrival
                ≡ told_delivered n (handed_to (marked w n posted_one) chosen (request_message c r) node.Server) =
                delivered_act w chosen n posted_one head.found
                ∙ ap (λ (m : Message). told_delivered n (handed_to (marked w n posted_one) chosen m m.to)) is in
                sent arrival head.rest goes_on r (answer_message c x.answer)
                (subst (λ (y : Act). In (answer_message c x.answer) (posted y.posts)) (sym act) x.sent)
                (inr (x.answer, refl, x.to, x.sequence))

        -- the answer comes to the client
        is_answered : (b : Answer) → posted_one.message ≡ answer_message c b → b.client ≡ c → b.sequence ≡ r.sequence
            → Cause after r
        is_answered b is to sequence = by (at_number w.clients c) refl
          where
            by : (o : Option ClientAt) → at_number w.clients c ≡ o → Cause after r
            by None none =
                absurd (cc (sym (ap (λ (o : Option ClientAt). (state_of c o).outstanding) none) ∙ was))
            by (Some caller) there =
                let act : acts w chosen arrival
                ≡ told_delivered n (handed_to (marked w n posted_one) chosen (answer_message c b) (node.Client c)) =
                delivered_act w chosen n posted_one head.found
                ∙ ap (λ (m : Message). told_delivered n (handed_to (marked w n posted_one) chosen m m.to)) is in
                let taken =
                is_taken safe more w h c met r was b n posted_one head.found is to sequence one is_readable chosen caller there
                (holds.alive caller there) in
                let did = act ∙ ap (λ (y : _). told_delivered n y) taken in
                sent arrival head.rest goes_on r (request_message c r)
                (subst (λ (y : Act). In (request_message c r) (posted y.posts)) (sym did)
                (asks_behind safe more w h c met r was b n posted_one head.found is to sequence one is_readable chosen
                caller there
                (holds.alive caller there) r
                (ap (λ (y : Act). outstanding_of y.world c) (sym did) ∙ e)))
                (inl refl)

        brought : (m : Message) → posted_one.message ≡ m → Brings c r m → Cause after r
        brought m is (inl q) = comes (is ∙ q)
        brought m is (inr b) = is_answered b.0 (is ∙ b.1) b.2 b.3

        on_its_way : IsOnItsWay first c w r → Cause after r
        on_its_way x = elim (subst (In x.message) head.queue_is x.there) [
          | inl same ↦ brought x.message (sym same) x.brings
          | inr i ↦ left arrival head.rest goes_on r x.message i x.brings
        ]

        old : Cause after r
        old = elim (holds.cause r was) [
          | inl o ↦ inl o
          | inr (inl d) ↦ inr (inl d)
          | inr (inr x) ↦ on_its_way x
        ]

      pub keeps_delivery : Holds after
      keeps_delivery =
          let f = delivers_frame c w chosen n posted_one head.found in
          record {
            alive = f.alive holds.alive;
            down = f.down ∙ holds.down;
            longer = queue_is_due.longer w first (record { action = arrival; chosen = chosen }) holds.longer;
            cause = λ r e. asked arrival head.rest goes_on r old e;
          }

  -- ---- what is due

  pends_none : (b : Bool) (a : Action) → (if b then Some (Pends c) else None) ≡ Some a → DeliversNone a
  pends_none true a d = let is : Pends c ≡ a = cc d in subst DeliversNone is tt
  pends_none false a d = absurd (cc d)

  awaits_none : (x : Client) (y : client_rules.Awaits) (a : Action) → when_quiet c x y ≡ Some a → DeliversNone a
  awaits_none x (client_rules.ADrive n) a d = let is : TimesOut c n ≡ a = cc d in subst DeliversNone is tt
  awaits_none x client_rules.TheServer a d = pends_none (is_some x.call) a d
  awaits_none x client_rules.Nothing a d = pends_none (is_some x.call) a d

  quiet_none : (o : Option ClientAt) (a : Action) → quiet_at c o ≡ Some a → DeliversNone a
  quiet_none None a d = absurd (cc d)
  quiet_none (Some x) a d = awaits_none x.state (awaits x.state) a d

  module _ (w : World) (h : List Line) (k : IsMoment w h) (text : AreOfText h) (few : AreFew h) (holds : Holds w)
      (chosen : List ℕ) where
    by_next : (o : Option ℕ) → next_pending w first ≡ o → (a : Action) → due_pending w (Some c) o ≡ Some a
        → Holds (move w (record { action = a; chosen = chosen })).world
    by_next (Some n) next a d =
        let is : Delivers n ≡ a = cc d in
        subst (λ (x : Action). Holds (move w (record { action = x; chosen = chosen })).world) is
        (keeps_delivery w h k text few holds chosen n next)
    by_next None next a d = keeps_other w h k text few holds chosen a (quiet_none (at_number w.clients c) a d)

  -- ---- the event

  module _ (h : List Line) (stands : StandsFor v h) (its : EventCall) (allowed : refusal v (event.Do c its) ≡ None)
      (taken : is_refused (at_number v.clients c) (op_of its) ≡ false) where
    abbrev own : Event
    own = event.Do c its

    abbrev plan : Plan
    plan = plan_of v own

    stopped : (o : Option ClientAt) → unless_stopped o ≡ None → (x : ClientAt) → o ≡ Some x → x.stopped ≡ false
    stopped None n x is = absurd (cc n)
    stopped (Some y) n x is = ap (λ (z : ClientAt). z.stopped) (sym (same is)) ∙ by y.stopped n
      where
        same : Some y ≡ Some x → y ≡ x
        same i = cc i

        by : (b : Bool) → (if b then Some Dead else None) ≡ None → b ≡ false
        by true m = absurd (cc m)
        by false m = refl

    begins : Holds v
    unfolding refusal
    begins = record {
      alive = λ a there. stopped (at_number v.clients c) allowed a there;
      down = refl;
      longer = omega arith;
      cause = λ r o. inl o;
    }

    abbrev At : List Move → Type 0
    At ms = AreOfText (h ++ lines_so_far v own ms) → AreFew (h ++ lines_so_far v own ms) → Holds (world_after v ms)

    -- an action that is due is one of these
    module _ (ms : List Move) (w : World) (g : List Line) (k : IsMoment w g) (text : AreOfText g) (few : AreFew g)
        (holds : Holds w) where
      by_opening : (o : Option Event) (r : Rule) → ((x : Event) → o ≡ Some x → x ≡ own) → r ≡ Prompt first (Some c)
          → (m : Move) → due_in w r o ≡ Some m.action → Holds (move w m).world
      by_opening (Some x) r same rule m d =
          let opens : Opens x ≡ m.action = cc d in
          let is : m.action ≡ Opens (event.Do c its) = sym opens ∙ ap (λ (y : Event). Opens y) (same x refl) in
          keeps_other w g k text few holds m.chosen m.action (subst DeliversNone (sym is) tt)
      by_opening None r same rule m d =
          by_next w g k text few holds m.chosen (next_pending w first) refl m.action
          (sym (ap (due_by w) rule) ∙ d)

      opening : (x : Event) → (plan_after plan ms).opening ≡ Some x → x ≡ own
      opening x is = by ms is
        where
          by : (ns : List Move) → (plan_after plan ns).opening ≡ Some x → x ≡ own
          by [] i = cc i
          by (n ∷ ns) i = absurd (cc (sym (no_opening _ ns refl) ∙ i))

      one_holds : (m : Move) → due (plan_after plan ms) w ≡ Some m.action → Holds (move w m).world
      one_holds m d =
          by_opening (plan_after plan ms).opening (plan_after plan ms).rule opening
          (rule_there v own ms w m.action d ∙ taken_rule v c its taken) m d

    one_more : (ms : List Move) (m : Move) → AreDue plan v ms
        → due (plan_after plan ms) (world_after v ms) ≡ Some m.action → At ms → At (ms ++ m ∷ [])
    one_more ms m a d x text few =
        let w : World = world_after v ms in
        let g : List Line = h ++ lines_so_far v own ms in
        let k : IsMoment w g = record {
          before = v;
          history = h;
          stands = stands;
          event = own;
          allowed = allowed;
          moves = ms;
          are_due = a;
          world_is = refl;
          lines_are = refl;
        } in
        let is : h ++ lines_so_far v own (ms ++ m ∷ []) ≡ g ++ lines_in w m =
        ap (λ (l : List Line). h ++ l) (so_far_more v own ms m d) ∙ sym (append_assoc h (lines_so_far v own ms) (lines_in w m)) in
        let t : AreOfText g = text_front g (lines_in w m) (subst AreOfText is text) in
        let f : AreFew g = fewer g (lines_in w m) (subst AreFew is few) in
        subst Holds (sym (world_more v ms m)) (one_holds ms w g k t f (x t f) m d)

    goes : (done ms : List Move) → AreDue plan v done → AreDue (plan_after plan done) (world_after v done) ms → At done
        → At (done ++ ms)
    goes done [] a b x = subst At (sym (append-nil done)) x
    goes done (m ∷ ms) a b x =
        subst At (append_assoc done (m ∷ []) ms)
        (goes (done ++ m ∷ []) ms (due_more plan v done m a b.0)
        (subst (λ (q : Plan). AreDue q (world_after v (done ++ m ∷ [])) ms) (sym (plan_more plan done m))
        (subst (λ (w : World). AreDue (went_on (plan_after plan done) m.action) w ms) (sym (world_more v done m)) b.1))
        (one_more done m a b.0 x))

    pub waits : (ms : List Move) → AreDue plan v ms → At ms
    waits ms a = goes [] ms tt a (λ t f. begins)
