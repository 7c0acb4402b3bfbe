-- At each moment with few messages each client has run so.
use Rattle.std.proofs.Common.{◌≡◌, ◌⊎◌, ℕ, suc, ◌+◌, ◌<◌, ◌^◌, Bool, true, false, List, [], ◌∷◌, ◌++◌, Some, None, is_some, length, refl, sym, ap, subst, ◌∙◌, arith, inl, inr, if◌then◌else◌}
use Rattle.std.proofs.lemmas.Bool.{cases_eq}
use Rattle.std.proofs.lemmas.List.{length-append}
use Rattle.std.proofs.lemmas.Option.{same_Some}
use Rattle.osd_lists.specs.declared.node.Node.TheVariants as node
use Rattle.osd_lists.proofs.Options.{none_there}
use Rattle.server_rules.specs.Laws.{In}
use Rattle.server_rules.specs.History.{step as server_step}
use Rattle.server_rules.proofs.Members.{in_either}
use Rattle.client_rules.specs.Messages.{awaited_of}
use Rattle.client_rules.specs.History.{step as client_step}
use Rattle.history_law.specs.Said.{posted}
use Rattle.exchange_law.specs.Requests.{OneRequest}
use Rattle.history_law.specs.State.{Client, Awaited, Command}
use Rattle.scenario_text.specs.declared.event.Event.TheVariants as event
use Rattle.scenario_text.specs.declared.line.Line.{Line}
use Rattle.world_history.specs.declared.err.WorldErr.TheVariants.{Taken}
use Rattle.world_history.specs.declared.messages.Body.TheVariants.{Command as OfCommand}
use Rattle.world_history.specs.declared.messages.Message.{Message}
use Rattle.world_history.specs.declared.messages.Posted.{Posted}
use Rattle.world_history.specs.State.{ClientAt, World, at_number, empty_world}
use Rattle.world_history.specs.Handed.{Post}
use Rattle.world_history.specs.Moves.{Act, acts}
use Rattle.world_history.specs.Sending.{Move, move}
use Rattle.world_history.specs.Refusals.{refusal}
use Rattle.world_history.specs.History.{OneEventMore}
use Rattle.history_law.specs.Counters.{GrantsAreCounted}
use Rattle.history_law.specs.BookMoments.{IsMoment, lines_in}
use Rattle.exchange_law.specs.InStep.{IsInStep, state_of, ClientsAreInStep}
use Rattle.exchange_law.proofs.Along.{MayMove, at_moment}
use Rattle.exchange_law.proofs.Turning.{sent_by, bodies, AreSame, Becomes, Turn, ByServer, ByClient, ByDrive, Makes, Stops, Rests, ClientDoes, ClientMade}
use Rattle.exchange_law.proofs.Turns.{acts_turn, messages_behind}
use Rattle.exchange_law.proofs.Replied.{from_server, from_client, none_posted}
use Rattle.exchange_law.proofs.RefusalGiven.{AreOrdered, ordered_move, none_ordered}
use Rattle.exchange_law.proofs.Owning.{are_own}
use Rattle.exchange_law.proofs.Ran.{HasRun, StepSends, run_on, new_run, step_run, new_awaited}
use Rattle.exchange_law.proofs.HeldWorlds.{reached}

-- there are few messages
abbrev pub HasFew : World → Type 0
HasFew w = length w.network.messages < 2 ^ 31

pub record ClientsRan (w : World) : Type 0 where
  pub ordered : AreOrdered w
  pub clients : (c : ℕ) (a : ClientAt) → at_number w.clients c ≡ Some a → HasRun w c a.state
  pub absent : (c : ℕ) → at_number w.clients c ≡ None → (m : Message) → In m (sent_by w) → m.from ≡ node.Client c → ⊥

-- what is known besides, at each moment
pub record Known : Type 0 where
  pub further : OneEventMore
  pub counted : GrantsAreCounted
  pub one : OneRequest
  pub in_step : ClientsAreInStep

length_bodies : (ps : List Posted) → length (bodies ps) ≡ length ps
length_bodies [] = refl
length_bodies (p ∷ ps) = ap suc (length_bodies ps)

pub few_sent : (w : World) → HasFew w → length (sent_by w) < 2 ^ 31
few_sent w few = omega (arith, length_bodies w.network.messages, few)

pub grants_few : Known → (w : World) (h : List Line) → IsMoment w h → HasFew w → w.server.next_grant < 2 ^ 32
grants_few q w h k few = omega (arith, q.counted w (reached w h k), few)

pub fewer_before : (w : World) (m : Move) → HasFew (move w m).world → HasFew w
fewer_before w m few =
    let longer : length (sent_by (move w m).world)
    ≡ length (sent_by w) + length (posted (acts w m.chosen m.action).posts) =
    ap (λ (l : List Message). length l) (messages_behind w m)
    ∙ length-append (sent_by w) (posted (acts w m.chosen m.action).posts) in
    omega (arith, longer, length_bodies w.network.messages, length_bodies (move w m).world.network.messages, few)

unless_taken : (b : Bool) → (if b then Some Taken else None) ≡ None → b ≡ false
unless_taken true e = absurd (cc e)
unless_taken false e = refl

module _ (q : Known) (w : World) (h : List Line) (m : Move) (k : IsMoment w h)
    (next : IsMoment (move w m).world (h ++ lines_in w m)) (few : HasFew (move w m).world) (r : ClientsRan w) where
  abbrev a : Act
  a = acts w m.chosen m.action

  abbrev v : World
  v = (move w m).world

  abbrev new : List Message
  new = posted a.posts

  no_client : ((x : Message) → In x new → (c : ℕ) → x.from ≡ node.Client c → ⊥) → AreSame w a.world → ClientsRan v
  no_client none same = record {
    ordered = ordered_move w m r.ordered (grants_few q w h k (fewer_before w m few));
    clients =
        λ c b found. run_on w v new (messages_behind w m) c b.state (λ x i from. none x i c from)
        (r.clients c b (sym (same c) ∙ found));
    absent =
        λ c gone x i from. elim (in_either x (sent_by w) new (subst (In x) (messages_behind w m) i)) [
          | inl old ↦ r.absent c (sym (same c) ∙ gone) x old from
          | inr fresh ↦ none x fresh c from
        ];
  }

  -- one client has another state; no other sends
  one_client : (c : ℕ) (now : ClientAt) → Becomes w a.world c now → HasRun v c now.state
      → ((x : Message) → In x new → x.from ≡ node.Client c) → ClientsRan v
  one_client c now becomes run from_it = record {
    ordered = ordered_move w m r.ordered (grants_few q w h k (fewer_before w m few));
    clients =
        λ d b found. elim (cases_eq d c) [
          | inl it ↦
              let here : now ≡ b = same_Some now b (sym becomes.there
              ∙ ap (λ (n : ℕ). at_number v.clients n) (sym it) ∙ found) in
              subst (λ (n : ℕ). HasRun v n b.state) (sym it)
              (subst (λ (y : ClientAt). HasRun v c y.state) here run)
          | inr other ↦
              run_on w v new (messages_behind w m) d b.state
              (λ x i from. other (same_client d c (sym from ∙ from_it x i)))
              (r.clients d b (sym (becomes.others d other) ∙ found))
        ];
    absent =
        λ d gone x i from. elim (cases_eq d c) [
          | inl it ↦
              let there : at_number v.clients d ≡ Some now =
              ap (λ (n : ℕ). at_number v.clients n) it ∙ becomes.there in
              cc (sym gone ∙ there)
          | inr other ↦ elim (in_either x (sent_by w) new (subst (In x) (messages_behind w m) i)) [
            | inl old ↦ r.absent d (sym (becomes.others d other) ∙ gone) x old from
            | inr fresh ↦ other (same_client d c (sym from ∙ from_it x fresh))
          ]
        ];
  }
    where
      same_client : (d e : ℕ) → node.Client d ≡ node.Client e → d ≡ e
      same_client d e is = cc is

  -- what a step is of a client
  sends_of : (b : ClientDoes w a) → StepSends w v b.client (client_step b.caller.state b.input).sends
  sends_of b = record {
    wrote = b.wrote;
    logged = b.logged;
    is = messages_behind w m ∙ ap (λ (ps : List Post). sent_by w ++ posted ps) b.posts;
  }

  in_step_now : (b : ClientDoes w a) → IsInStep w h b.client b.caller.state
  in_step_now b =
      subst (λ (x : Client). IsInStep w h b.client x) (ap (state_of b.client) b.found) (q.in_step w h k b.client)

  in_step_then : (b : ClientDoes w a)
      → IsInStep v (h ++ lines_in w m) b.client (client_step b.caller.state b.input).client
  in_step_then b =
      subst (λ (x : Client). IsInStep v (h ++ lines_in w m) b.client x)
      (ap (state_of b.client) b.becomes.there ∙ b.state) (q.in_step v (h ++ lines_in w m) next b.client)

  pub client_run : (b : ClientDoes w a) → HasRun v b.client (client_step b.caller.state b.input).client
  client_run b =
      step_run q.one w v h (h ++ lines_in w m) r.ordered (are_own q.further w h k) b.client b.caller.state b.input
      (in_step_now b) (in_step_then b) b.server b.comes (r.clients b.client b.caller b.found) (few_sent v few)
      (sends_of b)

  -- what it awaits then it awaited before, or it has a nonce that it never had
  pub client_awaits : (b : ClientDoes w a) (x : Awaited)
      → In x (awaited_of (client_step b.caller.state b.input).client.call) → In x (awaited_of b.caller.state.call)
      ⊎ ((z : Command) (n : Message) → In n (sent_by w) → n.from ≡ node.Client b.client → n.body ≡ OfCommand z
      → z.nonce ≡ x.command.nonce → ⊥)
  client_awaits b x i =
      new_awaited q.one w v h (h ++ lines_in w m) r.ordered (are_own q.further w h k) b.client b.caller.state b.input
      (in_step_now b) (in_step_then b) b.server b.comes (r.clients b.client b.caller b.found) (few_sent v few)
      (sends_of b) x i

  made_absent : (b : ClientMade w m.action a) → MayMove w m → at_number w.clients b.client ≡ None
  unfolding refusal
  made_absent b may =
      none_there (at_number w.clients b.client)
      (unless_taken (is_some (at_number w.clients b.client)) (may (event.Client b.client) b.opens))

  turn_run : MayMove w m → Turn w m.action a → ClientsRan v
  turn_run may (ByServer t) =
      no_client (λ x i c from.
      let here : x.from ≡ node.Server = from_server x (server_step w.server t.chosen t.input).sends
      (subst (λ (l : List Post). In x (posted l)) t.posts i) in
      cc (sym from ∙ here)) t.clients
  turn_run may (ByClient b) =
      one_client b.client b.now b.becomes (subst (HasRun v b.client) (sym b.state) (client_run b))
      (λ x i. from_client x b.client b.wrote b.logged (client_step b.caller.state b.input).sends
      (subst (λ (l : List Post). In x (posted l)) b.posts i))
  turn_run may (ByDrive t) =
      no_client (λ x i c from. elim (subst (λ (l : List Post). In x (posted l)) t.posts i) [
        | inl e ↦ let here : x.from ≡ node.Drive t.drive = ap (λ (y : Message). y.from) e in cc (sym from ∙ here)
        | inr none ↦ none
      ]) t.clients
  turn_run may (Makes b) =
      let none : (x : Message) → In x new → ⊥ = λ x i. none_posted x a.posts b.posts i in
      one_client b.client b.now b.becomes
      (subst (HasRun v b.client) (sym b.state)
      (new_run v b.client (λ x i from. elim (in_either x (sent_by w) new (subst (In x) (messages_behind w m) i)) [
        | inl old ↦ r.absent b.client (made_absent b may) x old from
        | inr fresh ↦ none x fresh
      ])))
      (λ x i. absurd (none x i))
  turn_run may (Stops b) =
      let none : (x : Message) → In x new → ⊥ = λ x i. none_posted x a.posts b.posts i in
      one_client b.client b.now b.becomes
      (subst (HasRun v b.client) (sym b.state)
      (run_on w v new (messages_behind w m) b.client b.caller.state (λ x i from. none x i)
      (r.clients b.client b.caller b.found)))
      (λ x i. absurd (none x i))
  turn_run may (Rests b) = no_client (λ x i c from. none_posted x a.posts b.posts i) b.clients

none_ran : ClientsRan empty_world
none_ran = record {
  ordered = none_ordered;
  clients = λ c a found. absurd (cc found);
  absent = λ c gone m i from. i;
}

abbrev RanIfFew : World → List Line → Type 0
RanIfFew w h = HasFew w → ClientsRan w

pub clients_ran : Known → (w : World) (h : List Line) → IsMoment w h → HasFew w → ClientsRan w
clients_ran q w h k =
    at_moment q.further RanIfFew (record {
      starts = λ few. none_ran;
      moves = λ u g m l next may r few.
          turn_run q u g m l next few (r (fewer_before u m few)) may (acts_turn u m.chosen m.action).turn;
    }) w h k
