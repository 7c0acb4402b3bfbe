-- The call's client asks the server: its next request is new there, and the call waits for the answer. An answer that the server
-- keeps for the outstanding request is taken.
use Rattle.std.proofs.Common.{◌≡◌, ◌≢◌, ◌⊎◌, ◌≤◌, ◌<◌, ℕ, true, false, nat_lt, List, [], ◌∷◌, ◌++◌, length, filter, Option, Some, None, inl, inr, refl, sym, ap, subst, ◌∙◌, eq-eqb, arith}
use Rattle.std.specs.List.{list_any}
use Rattle.std.proofs.lemmas.Bool.Decides.{nat_tests}
use Rattle.osd_lists.specs.declared.node.Node.TheVariants as node
use Rattle.osd_lists.proofs.Options.{same_some}
use Rattle.layout_ops.specs.declared.args.Args.{Args}
use Rattle.layout_ops.specs.declared.envelope.Envelope.TheVariants as envelope
use Rattle.layout_ops.specs.declared.statuses.TheConstants.{NFS4_OK, NFS4ERR_LAYOUTTRYLATER}
use Rattle.layout_ops.specs.Spelling.{EnvelopeFits}
use Rattle.scenario_text.specs.declared.names.TheConstants.{CLIENTS}
use Rattle.scenario_text.specs.declared.line.Line.{Line}
use Rattle.server_rules.specs.Laws.{last_of}
use Rattle.server_rules.specs.Slots.{New, admit, slot_of}
use Rattle.client_rules.specs.declared.limits.TheConstants.{MAX_CLIENT}
use Rattle.client_rules.specs.Going.{held_after, request_of}
use Rattle.client_rules.specs.History.{Hears, step}
use Rattle.client_rules.specs.Messages.{Answers, Step as ClientStep, names_nobody, is_awaited}
use Rattle.client_rules.specs.Results.{status_of}
use Rattle.world_history.specs.ClientNames.{Client, CallOp, Need, Waits, Request, Answer}
use Rattle.world_history.specs.ServerNames.{Slot}
use Rattle.world_history.specs.declared.limits.TheConstants.{MAX_KEPT}
use Rattle.world_history.specs.declared.messages.Body.TheVariants.{Envelope as OfEnvelope}
use Rattle.world_history.specs.declared.messages.Message.{Message}
use Rattle.world_history.specs.State.{World, ClientAt, at_number}
use Rattle.world_history.specs.Handed.{is_addressed, client_posts, ended_by, pending_op}
use Rattle.world_history.specs.Moves.{acts}
use Rattle.world_history.specs.Sending.{Move, move}
use Rattle.history_law.specs.BookMoments.{lines_in}
use Rattle.exchange_law.specs.Counters.{ClientCounts}
use Rattle.exchange_law.specs.Doing.{posted}
use Rattle.exchange_law.specs.InStep.{IsInStep, IsAwaiting, StandsAt, state_of}
use Rattle.exchange_law.specs.Messages.{last_before}
use Rattle.exchange_law.proofs.HeldWorlds.{reached, readable_there}
use Rattle.cause_law.proofs.Files.{few_there}
use Rattle.cause_law.proofs.Holders.{AnswerNames, grants_named, answer_names}
use Rattle.cause_law.proofs.Sends.{outstanding_of}
use Rattle.cause_law.proofs.Taking.{awaiting}
use Rattle.ready_law.specs.Answered.{ends_call}
use Rattle.ready_law.specs.Fair.{IsFair}
use Rattle.ready_law.specs.Stepping.{asks_step}
use Rattle.ready_law.proofs.Calls.{ReadyCall, op_at, file_at_call, IsIn, DeliversHead, request_message, answer_message}
use Rattle.ready_law.proofs.Stages.{Caller, IsAnsweredBy}
use Rattle.ready_law.proofs.AskingClients.{answer_read, next_new}
use Rattle.ready_law.proofs.AskingForms.{AskingLaws, Steps}
use Rattle.ready_law.proofs.AskingFrames.{both_none}
use Rattle.ready_law.proofs.AskingMoves.{delivered_steps}

-- ---- a client at a moment

module _ (laws : AskingLaws) (w : World) (h : List Line) (fair : IsFair w h) (c : ℕ) (a : ClientAt)
    (there : at_number w.clients c ≡ Some a) where
  pub in_step_there : IsInStep w h c a.state
  in_step_there = subst (IsInStep w h c) (ap (state_of c) there) (laws.in_step w h fair.moment c)

  -- it has a number for a further request
  pub has_number : a.state.next ≢ 0
  has_number none =
      let counts : ClientCounts a.state (length w.network.messages) = laws.counts w (reached w h fair.moment) c a there in
      let few : length w.network.messages ≤ MAX_KEPT = few_there w h fair.moment fair.few in
      absurd (omega (arith, counts.spent none, few))

  -- its next request is new: where it waits for no answer, and where the server answered the outstanding one
  pub new_idle : a.state.outstanding ≡ None → admit (slot_of w.server.slots c) a.state.next ≡ New
  new_idle out =
      let k = in_step_there in
      next_new (slot_of w.server.slots c) a.state.next has_number k.next
      (subst (StandsAt h c (slot_of w.server.slots c) (last_before a.state.next)) out k.stands)

  pub new_answered : (q : Request) (slot : Slot) → a.state.outstanding ≡ Some q → slot_of w.server.slots c ≡ Some slot
      → slot.last ≡ q.sequence → admit (slot_of w.server.slots c) a.state.next ≡ New
  new_answered q slot out kept last =
      let k = in_step_there in
      let awaits : IsAwaiting h c (slot_of w.server.slots c) (last_before a.state.next) q =
      subst (StandsAt h c (slot_of w.server.slots c) (last_before a.state.next)) out k.stands in
      next_new (slot_of w.server.slots c) a.state.next has_number k.next (ap last_of kept ∙ last ∙ awaits.sequence)

-- ---- a step without an end

ended_none : (c : ℕ) (op : Option CallOp) → ended_by c op None ≡ []
ended_none c None = refl
ended_none c (Some op) = refl

pub step_silent : (w : World) (m : Move) (c : ℕ) (before : ClientAt) (op : Option CallOp) (t : ClientStep)
    → Steps w m c before op t → t.outcome ≡ None → (d : ℕ) → list_any (ends_call d) (lines_in w m) ≡ false
step_silent w m c before op t st none d =
    let told : ended_by c op t.outcome ≡ [] = ap (ended_by c op) none ∙ ended_none c op in
    ap (list_any (ends_call d)) (st.lines ∙ ap (λ (ls : List Line). st.front ++ (ls ++ st.back)) told)
    ∙ both_none (ends_call d) st.front st.back (st.no_front d) (st.no_back d)

-- ---- the call's client asks

-- The call waits for the answer to this request, which is all that is sent.
pub record AsksNext (s : ReadyCall) (w : World) (m : Move) (c : Client) (n : Need) (a : Args) : Type 0 where
  pub request : Request
  pub args_are : request.args ≡ a
  pub sequence : request.sequence ≡ c.next
  pub client_is : request.client ≡ s.client
  pub file_is : request.file ≡ file_at_call s
  pub caller : Caller s (move w m).world (Waits n) (Some request)
  pub held : caller.at.state.held ≡ held_after c.held (file_at_call s) a
  pub posts : posted (acts w m.chosen m.action).posts ≡ request_message request ∷ []
  pub silent : list_any (ends_call s.client) (lines_in w m) ≡ false

pub asks_next : (s : ReadyCall) (w : World) (m : Move) (c : Client) (n : Need) (a : Args) (before : ClientAt)
    (op : Option CallOp) (t : ClientStep) → Steps w m s.client before op t → before.stopped ≡ false → c.number ≡ s.client
    → c.due ≡ [] → t ≡ asks_step c (op_at s) n a → AsksNext s w m c n a
asks_next s w m c n a before op t st alive number due is =
    let q : Request = request_of c (file_at_call s) a in
    let after : st.after.state ≡ (asks_step c (op_at s) n a).client = st.state ∙ ap (λ (x : ClientStep). x.client) is in
    record {
      request = q;
      args_are = refl;
      sequence = refl;
      client_is = number;
      file_is = refl;
      caller = record {
        at = st.after;
        there = st.there;
        alive = st.stopped ∙ alive;
        call = ap (λ (x : Client). x.call) after;
        outstanding = ap (λ (x : Client). x.outstanding) after;
        due = ap (λ (x : Client). x.due) after ∙ due;
      };
      held = ap (λ (x : Client). x.held) after;
      posts =
          ap posted st.posts
          ∙ ap (λ (x : ClientStep). posted (filter is_addressed (client_posts s.client st.wrote st.logged x.sends))) is
          ∙ ap (λ (j : ℕ). record { from = node.Client j; to = node.Server; body = OfEnvelope (envelope.Request q) } ∷ [])
          (sym number);
      silent = step_silent w m s.client before op t st (ap (λ (x : ClientStep). x.outcome) is) s.client;
    }

-- ---- it takes an answer

module _ (laws : AskingLaws) (s : ReadyCall) (w : World) (h : List Line) (k : IsIn s w h) (q : Request) (a : Answer)
    (need : Need) (caller : Caller s w (Waits need) (Some q)) (answered : IsAnsweredBy s w q a) where
  met : IsInStep w h s.client caller.at.state
  met = in_step_there laws w h k.fair s.client caller.at caller.there

  -- where it names the client of a grant that stands against the call, there is such a client
  names_there : status_of a.results ≡ NFS4ERR_LAYOUTTRYLATER → a.detail < CLIENTS
  names_there later = elim awaits.served [
    | inl v ↦ absurd (omega (arith, v, ap last_of answered.slot_is, answered.last))
    | inr v ↦
        let same : answered.slot ≡ v.slot =
        same_some answered.slot v.slot (slot_of w.server.slots s.client) answered.slot_is v.kept in
        let is : a ≡ v.slot.kept = sym answered.kept ∙ ap (λ (x : Slot). x.kept) same in
        let made = v.made in
        (subst AnswerNames (sym (is ∙ made.answer))
        (answer_names made.world.server made.world.clock made.next.chosen made.request
        (grants_named laws.safe laws.more made.world made.before made.moment))).holder later
  ]
    where
      out : outstanding_of w s.client ≡ Some q
      out = ap (λ (o : Option ClientAt). (state_of s.client o).outstanding) caller.there ∙ caller.outstanding

      awaits : IsAwaiting h s.client (slot_of w.server.slots s.client)
          (last_before (state_of s.client (at_number w.clients s.client)).next) q
      awaits = awaiting laws.safe laws.more w h s.client (laws.in_step w h k.fair.moment s.client) q out

  names_somebody : (status_of a.results ≡ NFS4_OK) ⊎ (status_of a.results ≡ NFS4ERR_LAYOUTTRYLATER)
      → names_nobody a ≡ false
  names_somebody (inl ok) = rw ok refl
  names_somebody (inr later) =
      let low : a.detail < CLIENTS = names_there later in
      let none : nat_lt MAX_CLIENT a.detail ≡ false = grind (arith, nat_tests, low) in
      rw (later, none) refl

  pub its_answer : (status_of a.results ≡ NFS4_OK) ⊎ (status_of a.results ≡ NFS4ERR_LAYOUTTRYLATER)
      → is_awaited caller.at.state a q ≡ true
  its_answer status =
      rw (
        eq-eqb a.client caller.at.state.number (answered.client_is ∙ sym met.number),
        eq-eqb a.sequence q.sequence answered.sequence,
        names_somebody status,
      ) refl

  fits : EnvelopeFits (envelope.Answer a)
  fits =
      subst (λ (z : Answer). EnvelopeFits (envelope.Answer z)) answered.kept
      ((readable_there w h k.fair.moment k.fair.readable).answers s.client answered.slot answered.slot_is)

  module _ (m : Move) (rest : List Message) (d : DeliversHead s w m (answer_message a) rest) where
    -- the move is the step of its client at the answer
    pub answer_steps : Steps w m s.client caller.at (pending_op caller.at.state)
        (step caller.at.state (Hears node.Server (Answers a)))
    answer_steps =
        delivered_steps w m d.number s.client d.posted_as (answer_message a) caller.at (Answers a) d.action_is d.found
        d.message_is (ap (λ (j : ℕ). node.Client j) answered.client_is) caller.there caller.alive (answer_read a fits)

  -- the request behind it is new
  pub asks_new : admit (slot_of w.server.slots s.client) caller.at.state.next ≡ New
  asks_new =
      new_answered laws w h k.fair s.client caller.at caller.there q answered.slot caller.outstanding answered.slot_is
      answered.last
