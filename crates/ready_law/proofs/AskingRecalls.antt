-- Conflicting grants are recalled one after another, and then the call asks for its grant once more.
use Rattle.std.proofs.Common.{◌≡◌, ◌≢◌, ◌==◌, ℕ, not, List, [], ◌∷◌, ◌++◌, length, inl, inr, refl, sym, ap, subst, ◌∙◌, append_assoc, ne_eqb, arith}
use Rattle.std.proofs.lemmas.List.{append-nil, length-append}
use Rattle.scenario_text.specs.declared.line.Line.{Line}
use Rattle.server_rules.specs.Answers.{recall_of}
use Rattle.server_rules.specs.Grants.{without}
use Rattle.server_rules.specs.Laws.{In}
use Rattle.server_rules.specs.Slots.{admit, slot_of}
use Rattle.server_rules.proofs.Members.{in_behind, in_filter, in_filtered, in_front}
use Rattle.client_rules.specs.Grants.{held_of}
use Rattle.client_rules.specs.Requests.{get_args}
use Rattle.world_history.specs.ClientNames.{Client, Held, Get}
use Rattle.world_history.specs.ServerNames.{Server, Grant}
use Rattle.world_history.specs.declared.messages.Message.{Message}
use Rattle.world_history.specs.State.{World}
use Rattle.world_history.specs.Handed.{pending_op}
use Rattle.world_history.specs.Sending.{Move, move}
use Rattle.history_law.specs.BookMoments.{lines_in}
use Rattle.ready_law.specs.Stepping.{unasked, IsAnsweredAt}
use Rattle.ready_law.proofs.Calls.{ReadyCall, op_at, file_at_call, kept_at, opposed_at, IsIn, DeliversHead, request_message, answer_message}
use Rattle.ready_law.proofs.Going.{GoesOnBy}
use Rattle.ready_law.proofs.Stages.{Recalling, AreRecalls, AreReturns, Recalls, AsksAgain, GoesOn, Further, HaveOwnClients}
use Rattle.ready_law.proofs.ServingForms.{recall_message}
use Rattle.component_law.proofs.Without.{no_grant, other_grant}
use Rattle.ready_law.proofs.Stepping.{answers_step}
use Rattle.ready_law.proofs.AskingAsks.{AsksNext, asks_next, in_step_there, its_answer, answer_steps, asks_new}
use Rattle.ready_law.proofs.AskingForms.{AskingLaws}
use Rattle.ready_law.proofs.AskingFrames.{own_apart, own_opposed, against_others, opposed_in, serves_stays, caller_stays, IsKept, answered_stays, returns_stay, returns_more, sent_more, own_behind}
use Rattle.ready_law.proofs.AskingHolders.{GivesBack, gives_back}
use Rattle.std.proofs.lemmas.Bool.{cases_eq}

module _ (laws : AskingLaws) (s : ReadyCall) (w : World) (h : List Line) (k : IsIn s w h) (m : Move) (a : Recalling s w) where
  abbrev v : World
  v = (move w m).world

  -- ---- a recall comes to its client

  module _ (g : Grant) (gs : List Grant) (ms rest : List Message) (count : ℕ) (left : a.left ≡ g ∷ gs)
      (are : AreRecalls gs ms) (is : rest ≡ ms ++ answer_message a.answer ∷ a.returns)
      (d : DeliversHead s w m (recall_message (recall_of g count)) rest) where
    all : opposed_at s ≡ a.done ++ g ∷ gs
    all = a.all ∙ ap (λ (xs : List Grant). a.done ++ xs) left

    own : HaveOwnClients (a.done ++ g ∷ gs)
    own = subst HaveOwnClients all (own_opposed laws s)

    opposed : In g (opposed_at s)
    opposed = subst (In g) (sym all) (in_behind g a.done (g ∷ gs) (inl refl))

    other : g.client ≢ s.client
    other = (opposed_in s g opposed).1

    live : In g (without (kept_at s).grants s.client)
    live =
        in_filter (λ (x : Grant). not (x.client == s.client)) g (kept_at s).grants (opposed_in s g opposed).0
        (ap not (ne_eqb g.client s.client other))

    gives : GivesBack s w m g
    gives =
        gives_back laws s w h k m g opposed (without (kept_at s).grants s.client) a.asks.server live
        (a.untouched g (subst (In g) (sym left) (inl refl))) count rest d

    its_own : IsKept w v s.client
    its_own = gives.others s.client (λ e. other (sym e))

    pub recall_goes_on : GoesOn s v (lines_in w m)
    recall_goes_on = Further (Recalls (record {
      request = a.request;
      answer = a.answer;
      asks = record {
        args_are = a.asks.args_are;
        caller = caller_stays s w v _ _ its_own.client a.asks.caller;
        released = a.asks.released;
        uncovered = a.asks.uncovered;
        server = serves_stays s w v _ _ gives.server gives.clock gives.down a.asks.server;
        drives = gives.drives ∙ a.asks.drives;
      };
      answered = answered_stays s w v a.request a.answer its_own a.answered;
      status = a.status;
      done = a.done ++ g ∷ [];
      left = gs;
      all = all ∙ sym (append_assoc a.done (g ∷ []) gs);
      some = a.some;
      recalls = ms;
      returns = a.returns ++ gives.answer ∷ request_message gives.request ∷ [];
      are_recalls = are;
      are_returns =
          returns_more s v a.done g a.returns gives.answer (request_message gives.request)
          (returns_stay s w v a.done a.returns
          (λ x i. gives.others x.client (λ e. own_apart a.done (g ∷ gs) own x g i (inl refl) (sym e))) a.are_returns)
          (gives.answers, (gives.request, gives.returning, refl), tt);
      untouched =
          λ x i. (gives.others x.client ((own_behind a.done (g ∷ gs) own).0 x i)).client
          ∙ a.untouched x (subst (In x) (sym left) (inr i));
      aside = λ e apart. elim (cases_eq e g.client) [
        | inl same ↦ inl (g, in_behind g a.done (g ∷ []) (inl refl), sym same)
        | inr differs ↦ elim (a.aside e apart) [
          | inl one ↦ inl (one.0, in_front one.0 a.done (g ∷ []) one.1, one.2)
          | inr u ↦ inr ((gives.others e differs).client ∙ u)
        ]
      ];
      queue =
          d.queue_is ∙ ap (λ (xs : List Message). rest ++ xs) gives.posts
          ∙ ap (λ (xs : List Message). xs ++ gives.answer ∷ request_message gives.request ∷ []) is
          ∙ append_assoc ms (answer_message a.answer ∷ a.returns) (gives.answer ∷ request_message gives.request ∷ []);
      sent =
          sent_more s w m _ _ _ a.sent d.count_is gives.posts (omega (arith, length-append a.done (g ∷ [])));
    })) gives.silent

  -- ---- all were recalled: the answer comes

  module _ (left : a.left ≡ []) (rest : List Message) (is : rest ≡ a.returns)
      (d : DeliversHead s w m (answer_message a.answer) rest) where
    abbrev c : Client
    c = a.asks.caller.at.state

    answered_at : IsAnsweredAt c (op_at s) (Get 0) a.answer
    answered_at = record {
      pending = a.asks.caller.call;
      none_due = a.asks.caller.due;
      request = a.request;
      asked = a.asks.caller.outstanding;
      its = its_answer laws s w h k a.request a.answer (Get 0) a.asks.caller a.answered (inr a.status);
    }

    asks : AsksNext s w m (unasked c) (Get 1) (get_args (op_at s))
    asks =
        asks_next s w m (unasked c) (Get 1) (get_args (op_at s)) a.asks.caller.at (pending_op c) _
        (answer_steps laws s w h k a.request a.answer (Get 0) a.asks.caller a.answered m rest d) a.asks.caller.alive
        (in_step_there laws w h k.fair s.client a.asks.caller.at a.asks.caller.there).number a.asks.caller.due
        (answers_step.later c (op_at s) 0 a.answer answered_at a.status refl)

    all_done : opposed_at s ≡ a.done
    all_done = a.all ∙ ap (λ (xs : List Grant). a.done ++ xs) left ∙ append-nil a.done

    pub answer_goes_on : GoesOn s v (lines_in w m)
    answer_goes_on =
        let st = answer_steps laws s w h k a.request a.answer (Get 0) a.asks.caller a.answered m rest d in
        Further (AsksAgain (record {
          request = asks.request;
          grants = without (kept_at s).grants s.client;
          asks = record {
            args_are = asks.args_are;
            caller = asks.caller;
            released = ap (λ (hs : List Held). held_of hs (file_at_call s)) asks.held ∙ a.asks.released;
            uncovered = a.asks.uncovered;
            server = serves_stays s w v _ _ st.server st.clock st.down a.asks.server;
            drives = st.drives ∙ a.asks.drives;
          };
          asked = record {
            client_is = asks.client_is;
            file_is = asks.file_is;
            new =
                ap (λ (x : Server). admit (slot_of x.slots s.client) asks.request.sequence) st.server
                ∙ ap (λ (n : ℕ). admit (slot_of w.server.slots s.client) n) asks.sequence
                ∙ asks_new laws s w h k a.request a.answer (Get 0) a.asks.caller a.answered;
          };
          done = [];
          half = [];
          left = opposed_at s;
          all = refl;
          against_are = against_others s a.asks.uncovered;
          own = no_grant (kept_at s).grants s.client;
          others = λ g i. (in_filtered (λ (x : Grant). not (x.client == s.client)) g (kept_at s).grants i).0;
          halves = [];
          returns = a.returns;
          taken_by = [];
          are_halves = tt;
          are_returns =
              subst (λ (gs : List Grant). AreReturns s v gs a.returns) (sym all_done)
              (returns_stay s w v a.done a.returns
              (λ x i. record {
                client = st.others x.client (opposed_in s x (subst (In x) (sym all_done) i)).1;
                slot = ap (λ (z : Server). slot_of z.slots x.client) st.server;
              }) a.are_returns);
          are_taken = tt;
          gone = λ g i. absurd i;
          aside = λ e other. elim (a.aside e other) [
            | inl one ↦ inl (one.0, subst (In one.0) (sym all_done) one.1, one.2)
            | inr u ↦
                inr (inl (record {
                  client = st.others e other ∙ u;
                  grant = other_grant (kept_at s).grants e s.client other;
                }))
          ];
          queue =
              d.queue_is ∙ ap (λ (xs : List Message). rest ++ xs) asks.posts
              ∙ ap (λ (xs : List Message). xs ++ request_message asks.request ∷ []) is;
          sent = sent_more s w m _ _ _ a.sent d.count_is asks.posts (omega (arith, ap length all_done));
        })) asks.silent

  -- ---- whichever comes

  by_left : (left : List Grant) (recalls : List Message) → a.left ≡ left → AreRecalls left recalls → (x : Message)
      (rest : List Message) → DeliversHead s w m x rest → x ∷ rest ≡ recalls ++ answer_message a.answer ∷ a.returns
      → GoesOn s v (lines_in w m)
  by_left [] [] left are x rest d is =
      let head : x ≡ answer_message a.answer = cc is in
      let tail : rest ≡ a.returns = cc is in
      answer_goes_on left rest tail (subst (λ (y : Message). DeliversHead s w m y rest) head d)
  by_left [] (r ∷ rs) left are x rest d is = absurd are
  by_left (g ∷ gs) [] left are x rest d is = absurd are
  by_left (g ∷ gs) (r ∷ rs) left are x rest d is =
      let head : x ≡ r = cc is in
      let tail : rest ≡ rs ++ answer_message a.answer ∷ a.returns = cc is in
      recall_goes_on g gs rs rest are.0.0 left are.1 tail
      (subst (λ (y : Message). DeliversHead s w m y rest) (head ∙ are.0.1) d)

pub recalling_goes_on : AskingLaws → GoesOnBy Recalling
recalling_goes_on laws s w h k m next a x rest queue d =
    by_left laws s w h k m a a.left a.recalls refl a.are_recalls x rest d (sym queue ∙ a.queue)
