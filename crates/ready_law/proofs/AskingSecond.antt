-- The call's second LAYOUTGET is behind the returns of the conflicting grants.
use Rattle.std.proofs.Common.{◌≡◌, ◌≢◌, ◌<◌, ◌==◌, ℕ, not, List, [], ◌∷◌, ◌++◌, length, Option, refl, sym, ap, subst, ◌∙◌, append_assoc, inl, arith, None, inr}
use Rattle.std.proofs.lemmas.List.{append-nil, length-append}
use Rattle.scenario_text.specs.declared.names.TheConstants.{CLIENTS}
use Rattle.scenario_text.specs.declared.line.Line.{Line}
use Rattle.server_rules.specs.Grants.{against, conflicts, grant_of, without}
use Rattle.server_rules.specs.Laws.{In, Apart}
use Rattle.server_rules.specs.Slots.{admit, slot_of}
use Rattle.server_rules.proofs.FileLaws.{safe_at, file_in}
use Rattle.server_rules.proofs.Members.{in_behind, in_filtered, in_either}
use Rattle.world_history.specs.ClientNames.{Request}
use Rattle.world_history.specs.ServerNames.{Server, File, Grant}
use Rattle.world_history.specs.declared.messages.Message.{Message}
use Rattle.world_history.specs.State.{World, ClientAt, at_number}
use Rattle.world_history.specs.Moves.{Action, acts}
use Rattle.world_history.specs.Sending.{Move, move}
use Rattle.history_law.specs.BookMoments.{lines_in}
use Rattle.exchange_law.specs.InStep.{state_of}
use Rattle.exchange_law.proofs.HeldWorlds.{reached}
use Rattle.component_law.specs.Order.{Rise}
use Rattle.component_law.proofs.Server.{found_own}
use Rattle.cause_law.proofs.Sends.{outstanding_of}
use Rattle.ready_law.proofs.Calls.{ReadyCall, file_at_call, kept_at, wanted_at, opposed_at, IsIn, DeliversHead, request_message, answer_message}
use Rattle.ready_law.proofs.Going.{GoesOnBy}
use Rattle.ready_law.proofs.Stages.{IsReturning, IsRecallAnswer, AreHalves, AreReturns, AskingAgain, AsksAgain, GoesOn, Further, IsTaking, HaveOwnClients, OthersRest}
use Rattle.ready_law.proofs.ServingForms.{IsNothing}
use Rattle.component_law.proofs.Without.{other_grant, no_grant}
use Rattle.ready_law.proofs.ServingGrants.{others_left}
use Rattle.ready_law.proofs.ServingReturns.{given_back, recall_answer_is_nothing}
use Rattle.ready_law.proofs.AskingForms.{AskingLaws}
use Rattle.ready_law.proofs.AskingFrames.{own_behind, own_opposed, opposed_in, serves_stays, caller_stays, IsKept, asked_stays, returning_stays, returns_stay, taken_stay, taken_more, sent_more, delivery_silent, aside_stays, own_apart}
use Rattle.ready_law.proofs.AskingGives.{caller_named, gives_goes_on}
use Rattle.ready_law.proofs.AskingServed.{Arrives, IsSent, IsDone, return_done, served_silent, served_queue, served_others, served_client, served_file}
use Rattle.std.proofs.lemmas.Bool.{cases_eq}

module _ (laws : AskingLaws) (s : ReadyCall) (w : World) (h : List Line) (k : IsIn s w h) (m : Move)
    (next : IsIn s (move w m).world (h ++ lines_in w m)) (a : AskingAgain s w) where
  abbrev v : World
  v = (move w m).world

  own : HaveOwnClients (a.done ++ (a.half ++ a.left))
  own = subst HaveOwnClients (a.all ∙ append_assoc a.done a.half a.left) (own_opposed laws s)

  abbrev file_now : File
  file_now = record s.ready.file { kept = record (kept_at s) { grants = a.grants; high = a.asks.server.high } }

  apart_now : Apart a.grants
  apart_now =
      (safe_at w.server.files _ file_now (laws.safe w (reached w h k.fair.moment)) a.asks.server.found).apart

  rise_now : Rise a.grants
  rise_now =
      (laws.order w (reached w h k.fair.moment) file_now
      (file_in w.server.files (file_at_call s) file_now a.asks.server.found)).rise

  -- ---- a return comes

  module _ (g : Grant) (half : a.half ≡ g ∷ []) (q : Request) (it : IsReturning s w g q) (rest : List Message)
      (d : DeliversHead s w m (request_message q) rest) (is : rest ≡ a.returns ++ request_message a.request ∷ a.taken_by) where
    all : opposed_at s ≡ a.done ++ g ∷ a.left
    all = a.all ∙ append_assoc a.done a.half a.left ∙ ap (λ (gs : List Grant). a.done ++ (gs ++ a.left)) half

    own_here : HaveOwnClients (a.done ++ g ∷ a.left)
    own_here = subst (λ (gs : List Grant). HaveOwnClients (a.done ++ (gs ++ a.left))) half own

    against_are : against a.grants (wanted_at s) ≡ g ∷ a.left
    against_are = a.against_are ∙ ap (λ (gs : List Grant). gs ++ a.left) half

    other : q.client ≢ s.client
    other same =
        (opposed_in s g (subst (In g) (sym all) (in_behind g a.done (g ∷ a.left) (inl refl)))).1 (sym it.client_is ∙ same)

    live : In g a.grants
    live = (in_filtered (conflicts (wanted_at s)) g a.grants (subst (In g) (sym against_are) (inl refl))).0

    abbrev its_arrival : Arrives s w m (request_message q) rest a.grants
    its_arrival = record { history = h; within = k; head = d; server = a.asks.server }

    sent : IsSent laws its_arrival q
    sent = record {
      message = refl;
      file_is = it.file_is;
      outstanding =
          ap (λ (c : ℕ). outstanding_of w c) it.client_is
          ∙ ap (λ (o : Option ClientAt). (state_of g.client o).outstanding) it.there ∙ it.outstanding;
      new = ap (λ (c : ℕ). admit (slot_of w.server.slots c) q.sequence) it.client_is ∙ it.new;
    }

    done : IsDone laws its_arrival q (given_back q.client q file_now)
    done =
        return_done laws its_arrival q sent g.number it.args_are g
        (ap (grant_of a.grants) it.client_is ∙ found_own a.grants g apart_now live)

    later : (x : Grant) → In x a.left → x.client ≢ q.client
    later x i same = (own_behind a.done (g ∷ a.left) own_here).0 x i (same ∙ it.client_is)

    earlier : (x : Grant) → In x a.done → x.client ≢ q.client
    earlier x i same = own_apart a.done (g ∷ a.left) own_here x g i (inl refl) (sym it.client_is ∙ sym same)

    -- its client has the answer to come
    taking : IsTaking s v g (given_back q.client q file_now).answer
    taking = record {
      at = it.at;
      there = served_client laws its_arrival q _ sent done g.client ∙ it.there;
      alive = it.alive;
      free = it.free;
      request = q;
      outstanding = it.outstanding;
      due = it.due;
      released = it.released;
      client_is = it.client_is;
      sequence = refl;
      status = refl;
      slot = record { client = q.client; last = q.sequence; kept = (given_back q.client q file_now).answer };
      slot_is = ap (slot_of v.server.slots) (sym it.client_is) ∙ done.slot;
      kept = refl;
    }

    pub return_goes_on : GoesOn s v (lines_in w m)
    return_goes_on = Further (AsksAgain (record {
      request = a.request;
      grants = without a.grants q.client;
      asks = record {
        args_are = a.asks.args_are;
        caller = caller_stays s w v _ _ (served_client laws its_arrival q _ sent done s.client) a.asks.caller;
        released = a.asks.released;
        uncovered = a.asks.uncovered;
        server = served_file laws its_arrival q _ sent done (without a.grants q.client) a.asks.server.high refl;
        drives = done.drives ∙ a.asks.drives;
      };
      asked =
          asked_stays s w v a.request (served_others laws its_arrival q _ sent done s.client (λ e. other (sym e))) a.asked;
      done = a.done ++ g ∷ [];
      half = [];
      left = a.left;
      all =
          all ∙ sym (append_assoc a.done (g ∷ []) a.left)
          ∙ ap (λ (gs : List Grant). gs ++ a.left) (sym (append-nil (a.done ++ g ∷ [])));
      against_are =
          ap (λ (c : ℕ). against (without a.grants c) (wanted_at s)) it.client_is
          ∙ others_left a.grants (wanted_at s) g a.left apart_now rise_now against_are;
      own = other_grant a.grants s.client q.client (λ e. other (sym e)) ∙ a.own;
      others = λ x i. a.others x (in_filtered (λ (y : Grant). not (y.client == q.client)) x a.grants i).0;
      halves = [];
      returns = a.returns;
      taken_by = a.taken_by ++ answer_message (given_back q.client q file_now).answer ∷ [];
      are_halves = tt;
      are_returns =
          returns_stay s w v a.left a.returns
          (λ x i. served_others laws its_arrival q _ sent done x.client (later x i)) a.are_returns;
      are_taken =
          taken_more s v a.done g a.taken_by _
          (taken_stay s w v a.done a.taken_by
          (λ x i. served_others laws its_arrival q _ sent done x.client (earlier x i)) a.are_taken) (
            ((given_back q.client q file_now).answer, taking, refl),
            tt,
          );
      gone = λ x i. elim (in_either x a.done (g ∷ []) i) [
        | inl old ↦ other_grant a.grants x.client q.client (earlier x old) ∙ a.gone x old
        | inr (inl same) ↦
            subst (λ (c : ℕ). grant_of (without a.grants q.client) c ≡ None)
            (it.client_is ∙ sym (ap (λ (y : Grant). y.client) same)) (no_grant a.grants q.client)
        | inr (inr none) ↦ absurd none
      ];
      aside =
          aside_stays s w v a.grants (without a.grants q.client) (opposed_at s) (λ e apart. elim (cases_eq e q.client) [
            | inl same ↦
                inl (g, subst (In g) (sym all) (in_behind g a.done (g ∷ a.left) (inl refl)), sym it.client_is ∙ sym same)
            | inr differs ↦
                inr (served_client laws its_arrival q _ sent done e, other_grant a.grants e q.client differs)
          ]) a.aside;
      queue =
          served_queue laws its_arrival q _ sent done
          ∙ ap (λ (ms : List Message). ms ++ answer_message (given_back q.client q file_now).answer ∷ []) is
          ∙ append_assoc a.returns (request_message a.request ∷ a.taken_by) _;
      sent = sent_more s w m _ _ _ a.sent d.count_is done.posts (omega (arith, length-append a.done (g ∷ [])));
    })) (served_silent laws its_arrival q _ sent done s.client)

  -- ---- the answer to a recall comes

  module _ (half : a.half ≡ []) (g : Grant) (gs : List Grant) (left : a.left ≡ g ∷ gs) (x y : Message) (ms : List Message)
      (answers : IsRecallAnswer g.client x) (q : Request) (it : IsReturning s w g q) (message : y ≡ request_message q)
      (are : AreReturns s w gs ms) (rest : List Message) (d : DeliversHead s w m x rest)
      (is : rest ≡ y ∷ (ms ++ request_message a.request ∷ a.taken_by)) where
    nothing : IsNothing w d.number (acts w m.chosen m.action)
    nothing =
        subst (λ (b : Action). IsNothing w d.number (acts w m.chosen b)) (sym d.action_is)
        (recall_answer_is_nothing w m.chosen d.number d.posted_as d.found g.client answers.answer
        (d.message_is ∙ answers.message_is))

    kept : (c : ℕ) → IsKept w v c
    kept c = record {
      client = ap (λ (xs : List (ℕ × ClientAt)). at_number xs c) nothing.clients;
      slot = ap (λ (z : Server). slot_of z.slots c) nothing.server;
    }

    pub answer_goes_on : GoesOn s v (lines_in w m)
    answer_goes_on = Further (AsksAgain (record {
      request = a.request;
      grants = a.grants;
      asks = record {
        args_are = a.asks.args_are;
        caller = caller_stays s w v _ _ (kept s.client).client a.asks.caller;
        released = a.asks.released;
        uncovered = a.asks.uncovered;
        server = serves_stays s w v _ _ nothing.server nothing.clock nothing.down a.asks.server;
        drives = nothing.drives ∙ a.asks.drives;
      };
      asked = asked_stays s w v a.request (kept s.client) a.asked;
      done = a.done;
      half = g ∷ [];
      left = gs;
      all =
          a.all ∙ append_assoc a.done a.half a.left ∙ ap (λ (xs : List Grant). a.done ++ (xs ++ a.left)) half
          ∙ ap (λ (xs : List Grant). a.done ++ xs) left ∙ sym (append_assoc a.done (g ∷ []) gs);
      against_are = a.against_are ∙ ap (λ (xs : List Grant). xs ++ a.left) half ∙ left;
      own = a.own;
      others = a.others;
      halves = y ∷ [];
      returns = ms;
      taken_by = a.taken_by;
      are_halves = (q, returning_stays s w v g q (kept g.client) it, message);
      are_returns = returns_stay s w v gs ms (λ z i. kept z.client) are;
      are_taken = taken_stay s w v a.done a.taken_by (λ z i. kept z.client) a.are_taken;
      gone = a.gone;
      aside =
          aside_stays s w v a.grants a.grants (opposed_at s) (λ e other. inr ((kept e).client, refl)) a.aside;
      queue =
          d.queue_is ∙ ap (λ (xs : List Message). rest ++ xs) nothing.posts ∙ append-nil rest ∙ is;
      sent = sent_more s w m _ _ [] a.sent d.count_is nothing.posts (omega arith);
    })) (delivery_silent w m s.client d.number nothing.receipt [] d.action_is nothing.told)

  -- ---- whichever comes

  module _ (named : s.client < CLIENTS) (x : Message) (rest : List Message) (d : DeliversHead s w m x rest) where
    by_left : a.half ≡ [] → (left : List Grant) (returns : List Message) → a.left ≡ left → AreReturns s w left returns
        → x ∷ rest ≡ returns ++ request_message a.request ∷ a.taken_by → GoesOn s v (lines_in w m)
    by_left half [] [] left are is =
        let head : x ≡ request_message a.request = cc is in
        let tail : rest ≡ a.taken_by = cc is in
        let all : opposed_at s ≡ a.done =
        a.all ∙ append_assoc a.done a.half a.left ∙ ap (λ (gs : List Grant). a.done ++ (gs ++ a.left)) half
        ∙ ap (λ (gs : List Grant). a.done ++ gs) left ∙ append-nil a.done in
        gives_goes_on laws s w h k m next a.request a.grants 1 a.asks a.asked rest
        (subst (λ (y : Message). DeliversHead s w m y rest) head d) a.own named a.others
        (a.against_are ∙ ap (λ (gs : List Grant). gs ++ a.left) half ∙ left) a.done a.taken_by
        (subst HaveOwnClients all (own_opposed laws s)) a.are_taken tail _ a.sent (omega (arith, ap length all))
        (λ g i. (opposed_in s g (subst (In g) (sym all) i)).1) a.gone
        (subst (λ (gs : List Grant). OthersRest s w a.grants gs) all a.aside)
    by_left half [] (r ∷ rs) left are is = absurd are
    by_left half (g ∷ gs) [] left are is = absurd are
    by_left half (g ∷ gs) (y ∷ []) left are is = absurd are
    by_left half (g ∷ gs) (y ∷ z ∷ ms) left are is =
        let head : x ≡ y = cc is in
        let tail : rest ≡ z ∷ (ms ++ request_message a.request ∷ a.taken_by) = cc is in
        answer_goes_on half g gs left y z ms are.0 are.1.0 are.1.1 are.1.2 are.2 rest
        (subst (λ (u : Message). DeliversHead s w m u rest) head d) tail

    by_half : (half : List Grant) (halves : List Message) → a.half ≡ half → AreHalves s w half halves
        → x ∷ rest ≡ halves ++ (a.returns ++ request_message a.request ∷ a.taken_by) → GoesOn s v (lines_in w m)
    by_half [] [] half are is = by_left half a.left a.returns refl a.are_returns is
    by_half [] (r ∷ rs) half are is = absurd are
    by_half (g ∷ []) [] half are is = absurd are
    by_half (g ∷ []) (r ∷ []) half are is =
        let head : x ≡ r = cc is in
        let tail : rest ≡ a.returns ++ request_message a.request ∷ a.taken_by = cc is in
        return_goes_on g half are.0 are.1 rest
        (subst (λ (u : Message). DeliversHead s w m u rest) (head ∙ are.2) d) tail
    by_half (g ∷ []) (r ∷ r' ∷ rs) half are is = absurd are
    by_half (g ∷ g' ∷ gs) halves half are is = absurd are

pub asking_again_goes_on : AskingLaws → GoesOnBy AskingAgain
asking_again_goes_on laws s w h k m next a x rest queue d =
    by_half laws s w h k m next a (caller_named s w h k x rest queue) x rest d a.half a.halves refl a.are_halves
    (sym queue ∙ a.queue ∙ append_assoc a.halves a.returns (request_message a.request ∷ a.taken_by))
