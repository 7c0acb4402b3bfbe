-- A reply to a working call comes, or a component times out.
use Rattle.std.proofs.Common.{◌≡◌, ◌⊎◌, ◌+◌, ◌==◌, not, ℕ, true, List, [], ◌∷◌, ◌++◌, length, filter, option_map, Option, Some, true≢false, refl, sym, ap, subst, ◌∙◌, inl, inr, arith, eq-eqb, if◌then◌else◌}
use Rattle.std.proofs.lemmas.Bool.{eqb-true}
use Rattle.osd_lists.specs.declared.node.Node.{Node}
use Rattle.server_rules.specs.Laws.{In}
use Rattle.server_rules.proofs.Members.{in_filtered}
use Rattle.stripe_plan.specs.Lost.{among}
use Rattle.client_rules.specs.Commands.{is_of, of_component, not_of, others, counted}
use Rattle.client_rules.specs.History.{Hears, TimesOut as ComponentTimesOut, step}
use Rattle.client_rules.specs.Io.{awaited_in}
use Rattle.client_rules.specs.Laws.{nonce_of}
use Rattle.client_rules.specs.Messages.{Step, Replies}
use Rattle.client_rules.specs.Replies.{replied, timed_out}
use Rattle.client_rules.proofs.HeldGrants.{held_file}
use Rattle.scenario_text.specs.declared.line.Line.{Line}
use Rattle.scenario_text.specs.declared.line.Line.TheVariants as line
use Rattle.world_history.specs.ClientNames.{Call, CallOp, Held, Awaited, Phase, Goes, Moved, Reply}
use Rattle.world_history.specs.declared.messages.Message.{Message}
use Rattle.world_history.specs.State.{World, ClientAt}
use Rattle.world_history.specs.Handed.{client_goes, pending_op}
use Rattle.world_history.specs.Moves.{Action, TimesOut, acts, behind, by_client, times_out}
use Rattle.world_history.specs.Sending.{Move, move}
use Rattle.history_law.specs.BookMoments.{with_event, lines_in}
use Rattle.exchange_law.specs.Doing.{posted}
use Rattle.load_law.specs.Load.{Deals}
use Rattle.load_law.specs.Load as load
use Rattle.ready_law.specs.Load.{Runs}
use Rattle.ready_law.specs.Stepping.{StepsWell}
use Rattle.ready_law.proofs.Stepping.{replies_step, timeouts_step}
use Rattle.ready_law.proofs.AskingForms.{Steps}
use Rattle.ready_law.proofs.AskingMoves.{steps_so, delivered_steps}
use Rattle.ready_law.proofs.Calls.{ReadyCall, op_at, file_at_call, lost_at, queue_at, IsIn, DeliversHead, TellsTimeout}
use Rattle.ready_law.proofs.Stages.{IsReplyTo, AreOf, HaveOwnNonces, is_to_drive, commands_in, Working, GoesOn}
use Rattle.ready_law.proofs.WorkingForms.{WorkingLaws, TurnsOn}
use Rattle.ready_law.proofs.WorkingMessages.{none_of, in_others}
use Rattle.ready_law.proofs.WorkingTurns.{drives_on}
use Rattle.ready_law.proofs.WorkingStage.{under_at, number_is, next_is_new, working_at, few_so_far}
use Rattle.ready_law.proofs.Turning.{turn_goes_on}

-- ---- runs

-- the count under a grant goes on
same_counted : (b g k : Held) (n : ℕ) (sent : List Awaited) → g ≡ record b { count = n } → k ≡ counted g sent
    → k ≡ record b { count = n + length sent }
same_counted b g k n sent is now = now ∙ ap (λ (x : Held). counted x sent) is

run_replied : (b g : Held) (op : CallOp) (p : Phase) (sent : List Awaited) → Runs b op g p sent → (y : Awaited) (r : Reply)
    → In y (awaited_in p) → (q : Phase) → (replied g op p y r).turn ≡ Goes q
    → (replied g op p y r).held ≡ counted g (replied g op p y r).sent
    → Runs b op (replied g op p y r).held q (sent ++ (replied g op p y r).sent)
run_replied b g op p sent run y r there q goes now = record {
  moved = replied g op p y r;
  deals =
      subst (λ (x : Held). Deals b op (replied x op p y r) (sent ++ (replied x op p y r).sent)) run.held
      (load.AtReply run.moved sent p y r run.deals run.turn there);
  held = refl;
  turn = goes;
  count = run.count + length (replied g op p y r).sent;
  same = same_counted b g _ run.count _ run.same now;
}

run_timed : (b g : Held) (op : CallOp) (p : Phase) (sent : List Awaited) → Runs b op g p sent → (k : ℕ) (y : Awaited)
    (ys : List Awaited) → of_component k (awaited_in p) ≡ y ∷ ys → (q : Phase) → (timed_out g op p k y ys).turn ≡ Goes q
    → (timed_out g op p k y ys).held ≡ counted g (timed_out g op p k y ys).sent
    → Runs b op (timed_out g op p k y ys).held q (sent ++ (timed_out g op p k y ys).sent)
run_timed b g op p sent run k y ys some q goes now = record {
  moved = timed_out g op p k y ys;
  deals =
      subst (λ (x : Held). Deals b op (timed_out x op p k y ys) (sent ++ (timed_out x op p k y ys).sent)) run.held
      (load.AtTimeout run.moved sent p k y ys run.deals run.turn some);
  held = refl;
  turn = goes;
  count = run.count + length (timed_out g op p k y ys).sent;
  same = same_counted b g _ run.count _ run.same now;
}

-- ---- the call's client takes a step

-- a timeout isn't what an event begins with
timeout_event : (m : Move) (c k : ℕ) → m.action ≡ TimesOut c k → (ls : List Line) → with_event m.action ls ≡ ls
timeout_event m c k action ls = ap (λ (a : Action). with_event a ls) action

module _ (laws : WorkingLaws) (s : ReadyCall) (w : World) (h : List Line) (i : IsIn s w h) (m : Move)
    (after : IsIn s (move w m).world (h ++ lines_in w m)) (a : Working s w) where
  abbrev its : ClientAt
  its = a.has.caller.at

  abbrev held : Held
  held = a.has.held

  pending_is : pending_op its.state ≡ Some (op_at s)
  pending_is = ap (option_map (λ (call : Call). call.op)) a.has.caller.call

  -- so it goes on
  by_step : (result : Step) → Steps w m s.client its (pending_op its.state) result → (mv : Moved) (rest : List Message)
      (awaited waiting : List Awaited) → StepsWell its.state held (op_at s) (lost_at s) awaited mv result
      → TurnsOn s w held a.begun mv a.commands awaited waiting rest
      → queue_at s (move w m).world ≡ rest ++ posted (acts w m.chosen m.action).posts
      → length (move w m).world.network.messages ≡ length w.network.messages + length (acts w m.chosen m.action).posts
      → GoesOn s (move w m).world (lines_in w m)
  by_step result st mv rest awaited waiting well o queue count =
      turn_goes_on laws.asking s w m held mv rest
      (record {
        base = its.state;
        number = number_is laws s w h i a;
        free = a.has.caller.outstanding;
        due = a.has.caller.due;
        file_is = held_file its.state.held (file_at_call s) held a.has.holds;
        new = next_is_new laws s w h i a (move w m).world st.server;
        before = its;
        alive = a.has.caller.alive;
        result = result;
        step = subst (λ (op : Option CallOp). Steps w m s.client its op result) pending_is st;
        queue = queue;
        count = count;
      })
      (h ++ lines_in w m) after (under_at laws s w h i a (move w m).world st.server st.clock st.down st.others)
      (record { size = a.size; in_time = a.in_time; drives = drives_on a.drives st.drives })
      a.begun a.commands awaited waiting o well

  -- ---- a reply comes

  module _ (x : Message) (rest : List Message) (full : queue_at s w ≡ x ∷ rest) (d : DeliversHead s w m x rest) (y : Awaited)
      (ys : List Awaited) (waiting_is : a.waiting ≡ y ∷ ys) (it : IsReplyTo s.client y x) (rest_of : AreOf s.client ys rest) where
    reply : Reply
    reply = it.tells.reply

    mine : In y (awaited_in a.phase)
    mine = a.awaited y (subst (In y) (sym waiting_is) (inl refl))

    own_nonces : HaveOwnNonces (y ∷ ys)
    own_nonces = subst HaveOwnNonces waiting_is a.own

    abbrev answered : Moved
    answered = replied held (op_at s) a.phase y it.tells.reply

    abbrev left : List Awaited
    left = others (awaited_in a.phase) (nonce_of y)

    reply_steps : Steps w m s.client its (pending_op its.state)
        (step its.state (Hears x.from (Replies it.tells.reply)))
    reply_steps =
        delivered_steps w m d.number s.client d.posted_as x its (Replies it.tells.reply) d.action_is d.found d.message_is
        it.to_is a.has.caller.there a.has.caller.alive it.tells.read

    reply_well : StepsWell its.state held (op_at s) (lost_at s) left answered
        (step its.state (Hears x.from (Replies it.tells.reply)))
    reply_well =
        subst (λ (n : Node). StepsWell its.state held (op_at s) (lost_at s) left answered
        (step its.state (Hears n (Replies it.tells.reply)))) (sym it.from_is)
        (replies_step its.state held (op_at s) (lost_at s) a.phase a.has.good a.well (working_at laws s w h i a) y mine
        it.tells.reply it.tells.done (sym it.tells.its))

    reply_heard : (z : Awaited) → In z left → In z ys ⊎ (among z.ask.component (lost_at s) ≡ true)
    unfolding others
    reply_heard z j =
        let k = in_filtered (λ (b : Awaited). not (b.command.nonce == nonce_of y)) z (awaited_in a.phase) j in
        elim (a.heard z k.0) [
          | inr gone ↦ inr gone
          | inl waits ↦ elim (subst (In z) waiting_is waits) [
            | inr other ↦ inl other
            | inl same ↦
                let test : (nonce_of z == nonce_of y) ≡ true = eq-eqb (nonce_of z) (nonce_of y) (ap nonce_of same) in
                absurd (true≢false (sym k.1 ∙ ap not test))
          ]
        ]

    to_client : commands_in (x ∷ rest) ≡ commands_in rest
    to_client =
        ap (λ (n : Node). length (if is_to_drive n then x ∷ filter (λ (z : Message). is_to_drive z.to) rest
        else filter (λ (z : Message). is_to_drive z.to) rest)) it.to_is

    pub reply_goes_on : GoesOn s (move w m).world (lines_in w m)
    reply_goes_on =
        by_step _ reply_steps answered rest left ys reply_well
        (record {
          own = own_nonces.1;
          queue = rest_of;
          among_them = λ z j.
              in_others z (nonce_of y) (awaited_in a.phase) (a.awaited z (subst (In z) (sym waiting_is) (inr j)))
              (λ e. own_nonces.0 z j (sym e));
          heard = reply_heard;
          run = λ q goes now.
              run_replied a.begun held (op_at s) a.phase a.commands a.run y it.tells.reply mine q goes now;
          few = few_so_far laws s w h i a;
          sent = omega (arith, a.sent, ap commands_in full, to_client);
        })
        d.queue_is d.count_is

  -- ---- a component times out

  module _ (empty : queue_at s w ≡ []) (k : ℕ) (y : Awaited) (ys : List Awaited)
      (some : of_component k (awaited_in a.phase) ≡ y ∷ ys) (t : TellsTimeout s w m k) where
    timed_steps : Steps w m s.client its (pending_op its.state) (step its.state (ComponentTimesOut k))
    unfolding times_out
    timed_steps =
        steps_so w m s.client its a.has.caller.there (ComponentTimesOut k) (step its.state (ComponentTimesOut k))
        w.network.messages (line.TimedOut s.client k)
        (line.TimedOut s.client k ∷ (client_goes w s.client its (ComponentTimesOut k)).told) (λ c. refl)
        (ap (acts w m.chosen) t.action_is
        ∙ ap (by_client w (λ b. behind (line.TimedOut s.client k) (client_goes w s.client b (ComponentTimesOut k))))
        a.has.caller.there)
        (timeout_event m s.client k t.action_is _)

    nothing_waits : a.waiting ≡ []
    nothing_waits = none_of s.client a.waiting (subst (AreOf s.client a.waiting) empty a.queue)

    gone : (z : Awaited) → In z (awaited_in a.phase) → among z.ask.component (lost_at s) ≡ true
    gone z j = elim (a.heard z j) [
      | inr lost ↦ lost
      | inl waits ↦ absurd (subst (In z) nothing_waits waits)
    ]

    its_component : among k (lost_at s) ≡ true
    unfolding of_component
    its_component =
        let j = in_filtered (is_of k) y (awaited_in a.phase) (subst (In y) (sym some) (inl refl)) in
        subst (λ (n : ℕ). among n (lost_at s) ≡ true) (eqb-true y.ask.component k j.1) (gone y j.0)

    abbrev timed : Moved
    timed = timed_out held (op_at s) a.phase k y ys

    abbrev kept : List Awaited
    kept = not_of k (awaited_in a.phase)

    timed_well : StepsWell its.state held (op_at s) (lost_at s) kept timed (step its.state (ComponentTimesOut k))
    timed_well =
        timeouts_step its.state held (op_at s) (lost_at s) a.phase a.has.good a.well (working_at laws s w h i a) k its_component
        y ys some

    still_awaited : (z : Awaited) → In z kept → In z (awaited_in a.phase)
    unfolding not_of
    still_awaited z j = (in_filtered (λ (b : Awaited). not (is_of k b)) z (awaited_in a.phase) j).0

    pub timeout_goes_on : GoesOn s (move w m).world (lines_in w m)
    timeout_goes_on =
        by_step _ timed_steps timed [] kept [] timed_well
        (record {
          own = tt;
          queue = tt;
          among_them = λ z j. absurd j;
          heard = λ z j. inr (gone z (still_awaited z j));
          run = λ q goes now. run_timed a.begun held (op_at s) a.phase a.commands a.run k y ys some q goes now;
          few = few_so_far laws s w h i a;
          sent = omega (arith, a.sent);
        })
        t.queue_is t.count_is
