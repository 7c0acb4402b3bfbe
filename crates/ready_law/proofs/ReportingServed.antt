-- The call's request comes to the server: it is carried out, and its answer is all that is on its way.
use Rattle.std.proofs.Common.{◌≡◌, ◌≤◌, ◌+◌, ℕ, false, List, [], ◌∷◌, ◌++◌, Option, Some, refl, sym, ap, subst, ◌∙◌, arith}
use Rattle.std.specs.List.{list_any}
use Rattle.server_rules.specs.Files.{file_at}
use Rattle.server_rules.specs.Grants.{grant_of}
use Rattle.server_rules.specs.Slots.{admit, slot_of}
use Rattle.world_history.specs.ClientNames.{Phase, Request}
use Rattle.world_history.specs.ServerNames.{File, Grant}
use Rattle.world_history.specs.declared.messages.Message.{Message}
use Rattle.world_history.specs.State.{World, ClientAt, at_number}
use Rattle.world_history.specs.Moves.{Action, Delivers, acts}
use Rattle.world_history.specs.Sending.{Move, move}
use Rattle.history_law.specs.BookMoments.{lines_in}
use Rattle.exchange_law.specs.Doing.{posted}
use Rattle.exchange_law.specs.InStep.{state_of}
use Rattle.exchange_law.proofs.Admitting.{is_next}
use Rattle.cause_law.proofs.Sends.{answer_message as pending_answer, outstanding_of}
use Rattle.ready_law.specs.Answered.{ends_call}
use Rattle.ready_law.proofs.Calls.{ReadyCall, queue_at, DeliversHead, request_message, answer_message}
use Rattle.ready_law.proofs.Stages.{Caller, Serves, IsAsked, IsAnsweredBy, HasSent}
use Rattle.ready_law.proofs.ServingForms.{Comes, Carried, recall_messages, Serves as IsServed}
use Rattle.ready_law.proofs.AskingFrames.{caller_stays, delivery_silent, sent_more}

-- the only message of the queue is delivered
pub head_of : {s : ReadyCall} {w : World} {m : Move} {x y : Message} {rest : List Message} → DeliversHead s w m x rest
    → x ∷ rest ≡ y ∷ [] → DeliversHead s w m y []
head_of {s} {w} {m} {x} {y} {rest} d one =
    let same : x ≡ y = cc one in
    let none : rest ≡ [] = cc one in
    record {
      number = d.number;
      action_is = d.action_is;
      posted_as = d.posted_as;
      found = d.found;
      message_is = d.message_is ∙ same;
      queue_is = d.queue_is ∙ ap (λ (ms : List Message). ms ++ posted (acts w m.chosen m.action).posts) none;
      count_is = d.count_is;
    }

-- The call waits for the answer to this request, which is new to the server; and the server has the call's file so.
pub record Awaits (s : ReadyCall) (w : World) (q : Request) : Type 0 where
  pub grants : List Grant
  pub size : ℕ
  pub server : Serves s w grants size
  pub asked : IsAsked s w q
  pub phase : Phase
  pub caller : Caller s w phase (Some q)

module _ (s : ReadyCall) (w : World) (m : Move) (q : Request) (d : DeliversHead s w m (request_message q) [])
    (z : Awaits s w q) where
  abbrev v : World
  v = (move w m).world

  -- the call's file as the server has it
  abbrev pub file_now : File
  file_now = record s.ready.file { kept = record s.ready.file.kept { grants = z.grants; size = z.size; high = z.server.high } }

  pub request_comes : Comes w q.client q file_now d.number
  request_comes = record {
    posted = d.posted_as;
    found = d.found;
    message = d.message_is;
    outstanding =
        ap (outstanding_of w) z.asked.client_is
        ∙ ap (λ (o : Option ClientAt). (state_of s.client o).outstanding) z.caller.there ∙ z.caller.outstanding;
    next =
        sym (is_next (slot_of w.server.slots q.client) q.sequence
        (ap (λ (c : ℕ). admit (slot_of w.server.slots c) q.sequence) z.asked.client_is ∙ z.asked.new)).next;
    up = z.server.up;
    file = ap (file_at w.server.files) z.asked.file_is ∙ z.server.found;
  }

  -- the client's grant, by the name of the request
  pub granted_to : (g : Grant) → grant_of z.grants s.client ≡ Some g → grant_of z.grants q.client ≡ Some g
  granted_to g has = ap (grant_of z.grants) z.asked.client_is ∙ has

  module _ (c : Carried) (none : c.recalled ≡ []) (own : c.answer.client ≡ q.client)
      (sequence : c.answer.sequence ≡ q.sequence)
      (served : IsServed w q.client q d.number c (acts w m.chosen (Delivers d.number))) where
    pub is_served : IsServed w q.client q d.number c (acts w m.chosen m.action)
    is_served = subst (λ (a : Action). IsServed w q.client q d.number c (acts w m.chosen a)) (sym d.action_is) served

    abbrev pub caller_then : Caller s v z.phase (Some q)
    caller_then =
        caller_stays s w v z.phase (Some q) (ap (λ (xs : List (ℕ × ClientAt)). at_number xs s.client) is_served.clients) z.caller

    pub answered_then : IsAnsweredBy s v q c.answer
    answered_then = record {
      client_is = own ∙ z.asked.client_is;
      sequence = sequence;
      slot = record { client = q.client; last = q.sequence; kept = c.answer };
      slot_is = ap (slot_of v.server.slots) (sym z.asked.client_is) ∙ is_served.slot;
      kept = refl;
      last = refl;
    }

    posts_then : posted (acts w m.chosen m.action).posts ≡ answer_message c.answer ∷ []
    posts_then =
        is_served.posts
        ∙ ap (λ (gs : List Grant). recall_messages w.server.next_recall gs ++ pending_answer q.client c.answer ∷ []) none
        ∙ ap (λ (n : ℕ). pending_answer n c.answer ∷ []) (sym own)

    pub queue_then : queue_at s v ≡ answer_message c.answer ∷ []
    queue_then = d.queue_is ∙ posts_then

    pub sent_then : (n k : ℕ) → HasSent s w n → n + 1 ≤ k → HasSent s v k
    sent_then n k before less =
        sent_more s w m n k (answer_message c.answer ∷ []) before d.count_is posts_then (omega (arith, less))

    pub silent_then : list_any (ends_call s.client) (lines_in w m) ≡ false
    silent_then = delivery_silent w m s.client d.number _ is_served.notes d.action_is is_served.told

    -- the file behind it, where no more than its size changed
    abbrev pub server_then : (size_then : ℕ) → c.left ≡ record file_now { kept = record file_now.kept { size = size_then } }
        → Serves s v z.grants size_then
    server_then size_then left = record {
      clock = is_served.clock ∙ z.server.clock;
      up = is_served.down ∙ z.server.up;
      high = z.server.high;
      found = ap (file_at v.server.files) (sym z.asked.file_is) ∙ is_served.file ∙ ap (λ (f : File). Some f) left;
    }
