-- A held grant that doesn't cover the call goes back before another one is asked for.
use Rattle.std.proofs.Common.{◌≡◌, ℕ, List, [], ◌∷◌, ◌++◌, Option, Some, None, option_map, inl, refl, sym, ap, subst, ◌∙◌, arith}
use Rattle.scenario_text.specs.declared.line.Line.{Line}
use Rattle.server_rules.specs.Grants.{grant_of, without}
use Rattle.server_rules.specs.Slots.{admit, slot_of}
use Rattle.client_rules.specs.Grants.{held_of}
use Rattle.client_rules.specs.Requests.{get_args}
use Rattle.world_history.specs.ClientNames.{Client, Held, First, Get}
use Rattle.world_history.specs.ServerNames.{Server, Grant}
use Rattle.world_history.specs.declared.messages.Message.{Message}
use Rattle.world_history.specs.State.{World}
use Rattle.world_history.specs.Handed.{pending_op}
use Rattle.world_history.specs.Sending.{Move, move}
use Rattle.history_law.specs.BookMoments.{lines_in}
use Rattle.ready_law.specs.Stepping.{unasked, IsAnsweredAt}
use Rattle.ready_law.proofs.Calls.{ReadyCall, op_at, file_at_call, kept_at, own_at, IsIn, DeliversHead, request_message, answer_message}
use Rattle.ready_law.proofs.Going.{GoesOnBy}
use Rattle.ready_law.proofs.Stages.{Returning, Returned, WasReturned, AsksFirst, GoesOn, Further}
use Rattle.ready_law.proofs.ServingReturns.{given_back}
use Rattle.ready_law.proofs.Stepping.{answers_step}
use Rattle.ready_law.proofs.AskingAsks.{AsksNext, asks_next, in_step_there, its_answer, answer_steps, asks_new}
use Rattle.ready_law.proofs.AskingForms.{AskingLaws}
use Rattle.ready_law.proofs.AskingFrames.{serves_stays, caller_stays, sent_more}
use Rattle.ready_law.proofs.AskingServed.{Arrives, IsSent, IsDone, own_sent, file_now, return_done, served_silent, served_queue, served_client, served_answer, served_file}

-- the server has the grant that was held
pub has_grant : (s : ReadyCall) (own : Held) → own_at s ≡ Some own
    → (g : Grant) × (grant_of (kept_at s).grants s.client ≡ Some g)
has_grant s own owned = by (grant_of (kept_at s).grants s.client) refl
  where
    by : (o : Option Grant) → grant_of (kept_at s).grants s.client ≡ o
        → (g : Grant) × (grant_of (kept_at s).grants s.client ≡ Some g)
    by (Some g) is = (g, is)
    by None is =
        let none : Some own.number ≡ None =
        sym (ap (option_map (λ (h : Held). h.number)) owned) ∙ s.ready.same
        ∙ ap (option_map (λ (g : Grant). g.number)) is in
        absurd (cc none)

module _ (laws : AskingLaws) (s : ReadyCall) (w : World) (h : List Line) (k : IsIn s w h) (m : Move) where
  abbrev v : World
  v = (move w m).world

  -- ---- the return comes

  module _ (a : Returning s w) (rest : List Message) (d : DeliversHead s w m (request_message a.request) rest)
      (none_else : rest ≡ []) where
    abbrev its_arrival : Arrives s w m (request_message a.request) rest (kept_at s).grants
    its_arrival = record { history = h; within = k; head = d; server = a.server }

    sent : IsSent laws its_arrival a.request
    sent = own_sent laws its_arrival _ a.request a.caller a.asked refl

    done : IsDone laws its_arrival a.request (given_back a.request.client a.request (file_now laws its_arrival))
    done =
        let has = has_grant s a.own a.owned in
        return_done laws its_arrival a.request sent a.number a.args_are has.0
        (ap (grant_of (kept_at s).grants) a.asked.client_is ∙ has.1)

    pub return_goes_on : GoesOn s v (lines_in w m)
    return_goes_on = Further (WasReturned (record {
      request = a.request;
      answer = (given_back a.request.client a.request (file_now laws its_arrival)).answer;
      answered = served_answer laws its_arrival a.request _ sent done a.asked.client_is refl refl;
      status = refl;
      caller = caller_stays s w v _ _ (served_client laws its_arrival a.request _ sent done s.client) a.caller;
      released = a.released;
      server =
          served_file laws its_arrival a.request _ sent done (without (kept_at s).grants s.client) a.server.high
          (ap (λ (c : ℕ). record s.ready.file {
            kept = record (kept_at s) { grants = without (kept_at s).grants c; high = a.server.high };
          }) a.asked.client_is);
      drives = done.drives ∙ a.drives;
      untouched = λ e other. served_client laws its_arrival a.request _ sent done e ∙ a.untouched e other;
      queue =
          served_queue laws its_arrival a.request _ sent done
          ∙ ap (λ (ms : List Message). ms
          ++ answer_message (given_back a.request.client a.request (file_now laws its_arrival)).answer ∷ []) none_else;
      uncovered = a.uncovered;
      sent = sent_more s w m _ _ _ a.sent d.count_is done.posts (omega arith);
    })) (served_silent laws its_arrival a.request _ sent done s.client)

  -- ---- its answer comes

  module _ (a : Returned s w) (rest : List Message) (d : DeliversHead s w m (answer_message a.answer) rest)
      (none_else : rest ≡ []) where
    abbrev c : Client
    c = a.caller.at.state

    answered_at : IsAnsweredAt c (op_at s) First a.answer
    answered_at = record {
      pending = a.caller.call;
      none_due = a.caller.due;
      request = a.request;
      asked = a.caller.outstanding;
      its = its_answer laws s w h k a.request a.answer First a.caller a.answered (inl a.status);
    }

    asks : AsksNext s w m (unasked c) (Get 0) (get_args (op_at s))
    asks =
        asks_next s w m (unasked c) (Get 0) (get_args (op_at s)) a.caller.at (pending_op c) _
        (answer_steps laws s w h k a.request a.answer First a.caller a.answered m rest d) a.caller.alive
        (in_step_there laws w h k.fair s.client a.caller.at a.caller.there).number a.caller.due
        (answers_step.returned c (op_at s) a.answer answered_at a.released)

    pub answer_goes_on : GoesOn s v (lines_in w m)
    answer_goes_on =
        let st = answer_steps laws s w h k a.request a.answer First a.caller a.answered m rest d in
        Further (AsksFirst (record {
          request = asks.request;
          asks = record {
            args_are = asks.args_are;
            caller = asks.caller;
            released = ap (λ (hs : List Held). held_of hs (file_at_call s)) asks.held ∙ a.released;
            uncovered = a.uncovered;
            server = serves_stays s w v _ _ st.server st.clock st.down a.server;
            drives = st.drives ∙ a.drives;
          };
          asked = record {
            client_is = asks.client_is;
            file_is = asks.file_is;
            new =
                ap (λ (x : Server). admit (slot_of x.slots s.client) asks.request.sequence) st.server
                ∙ ap (λ (n : ℕ). admit (slot_of w.server.slots s.client) n) asks.sequence
                ∙ asks_new laws s w h k a.request a.answer First a.caller a.answered;
          };
          untouched = λ e other. st.others e other ∙ a.untouched e other;
          queue =
              d.queue_is ∙ ap (λ (xs : List Message). rest ++ xs) asks.posts
              ∙ ap (λ (xs : List Message). xs ++ request_message asks.request ∷ []) none_else;
          sent = sent_more s w m _ _ _ a.sent d.count_is asks.posts (omega arith);
        })) asks.silent

pub returning_goes_on : AskingLaws → GoesOnBy Returning
returning_goes_on laws s w h k m next a x rest queue d =
    let is : x ∷ rest ≡ request_message a.request ∷ [] = sym queue ∙ a.queue in
    let head : x ≡ request_message a.request = cc is in
    let tail : rest ≡ [] = cc is in
    return_goes_on laws s w h k m a rest (subst (λ (y : Message). DeliversHead s w m y rest) head d) tail

pub returned_goes_on : AskingLaws → GoesOnBy Returned
returned_goes_on laws s w h k m next a x rest queue d =
    let is : x ∷ rest ≡ answer_message a.answer ∷ [] = sym queue ∙ a.queue in
    let head : x ≡ answer_message a.answer = cc is in
    let tail : rest ≡ [] = cc is in
    answer_goes_on laws s w h k m a rest (subst (λ (y : Message). DeliversHead s w m y rest) head d) tail
