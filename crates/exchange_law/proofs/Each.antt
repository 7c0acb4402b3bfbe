-- At each moment each client is in step with the server.
use Rattle.std.proofs.Common.{◌≡◌, ◌≤◌, ℕ, List, [], ◌++◌, Option, Some, None, IsSome, refl, sym, ap, subst, ◌∙◌, arith, inl, inr}
use Rattle.std.proofs.lemmas.Bool.{cases_eq}
use Rattle.osd_lists.specs.declared.node.Node.{Node}
use Rattle.osd_lists.specs.declared.node.Node.TheVariants as node
use Rattle.osd_objects.proofs.Entries.{lookup_inserted, lookup_beside, lookup_set, lookup_set_beside}
use Rattle.client_rules.specs.declared.limits.TheConstants.{MAX_CLIENT}
use Rattle.server_rules.specs.declared.requests.ClientRequest.{ClientRequest}
use Rattle.server_rules.specs.declared.server.Server.{Server}
use Rattle.server_rules.specs.declared.server.Slot.{Slot}
use Rattle.server_rules.specs.Files.{Step as ServerStep}
use Rattle.server_rules.specs.Laws.{SlotsAreKept}
use Rattle.server_rules.specs.Slots.{New, slot_of, admit}
use Rattle.server_rules.specs.Messages.{Asks}
use Rattle.server_rules.specs.Envelopes as server
use Rattle.server_rules.specs.Requests.{on_request}
use Rattle.server_rules.specs.History.{Hears as ServerHears, step as server_step}
use Rattle.client_rules.specs.Steps.{new_client}
use Rattle.client_rules.specs.History.{step}
use Rattle.scenario_text.specs.declared.line.Line.{Line}
use Rattle.world_history.specs.declared.messages.Body.{Body}
use Rattle.world_history.specs.declared.messages.Message.{Message}
use Rattle.world_history.specs.State.{World, ClientAt, at_number, with_number, and_number, empty_world}
use Rattle.world_history.specs.Handed.{client_posts}
use Rattle.world_history.specs.History.{OneEventMore}
use Rattle.world_history.specs.Spelled.{spelled}
use Rattle.world_history.specs.Moves.{Act, Action, acts}
use Rattle.world_history.specs.Plans.{due}
use Rattle.world_history.specs.Sending.{Move, move}
use Rattle.history_law.specs.BookMoments.{IsMoment, lines_in, plan_at}
use Rattle.history_law.specs.State.{Client}
use Rattle.exchange_law.specs.Doing.{said, posted, IsDelivered, IsHeardByServer, AreReplies, Nothing, OneReply, OthersGo, ServerGoes, ClientGoes, ClientStops, ClientComes, Goes, Others, AServer, AClient, Stops, Comes, IsOneStep}
use Rattle.exchange_law.specs.Messages.{EachMessage, AsksOf, AnswersOf}
use Rattle.exchange_law.specs.Made.{WasMade, answer_to}
use Rattle.exchange_law.specs.InStep.{ClientsAreInStep, state_of}
use Rattle.history_law.proofs.Goes.{moves_are_steps}
use Rattle.exchange_law.proofs.SlotMoments.{comes_new, always}
use Rattle.exchange_law.proofs.SlotLists.{each_at, said_more, addressed_each, client_asks, client_answers_none}
use Rattle.exchange_law.proofs.SlotStepping.{step_asks}
use Rattle.history_law.specs.Answers.{ServerDid, Quiet, Asked}
use Rattle.history_law.proofs.Answers.{step_did}
use Rattle.exchange_law.proofs.Standing.{Parts, stays}
use Rattle.exchange_law.proofs.SlotAnswered.{sent_by, quiet_keeps, IsReadOf, read_of, own_request, other_request}
use Rattle.exchange_law.proofs.SlotKeeping.{InStep, own_step}

-- ---- clients by number

abbrev Clients : Type 0
Clients = List (ℕ × ClientAt)

pub put_same : (xs : Clients) (c : ℕ) (a b : ClientAt) → at_number xs c ≡ Some a → at_number (with_number xs c b) c ≡ Some b
put_same xs c a b found = lookup_set xs c b (subst IsSome (sym found) refl)

pub put_other : (xs : Clients) (c d : ℕ) (b : ClientAt) → (d ≡ c → ⊥) → at_number (with_number xs c b) d ≡ at_number xs d
put_other xs c d b other = lookup_set_beside xs c d b other

-- a client whose state stays is as it was, wherever it is looked for
pub stopped_same : (xs : Clients) (c d : ℕ) (a b : ClientAt) → at_number xs c ≡ Some a → b.state ≡ a.state
    → state_of d (at_number (with_number xs c b) d) ≡ state_of d (at_number xs d)
stopped_same xs c d a b found same = elim (cases_eq d c) [
  | inl it ↦
      ap (λ (n : ℕ). state_of n (at_number (with_number xs c b) n)) it
      ∙ ap (state_of c) (put_same xs c a b found) ∙ same
      ∙ sym (ap (state_of c) found) ∙ sym (ap (λ (n : ℕ). state_of n (at_number xs n)) it)
  | inr other ↦ ap (state_of d) (put_other xs c d b other)
]

-- so is one that comes
pub come_same : (xs : Clients) (c d : ℕ) (b : ClientAt) → at_number xs c ≡ None → b.state ≡ new_client c 1
    → state_of d (at_number (and_number xs c b) d) ≡ state_of d (at_number xs d)
come_same xs c d b none same = elim (cases_eq d c) [
  | inl it ↦
      ap (λ (n : ℕ). state_of n (at_number (and_number xs c b) n)) it ∙ ap (state_of c) (lookup_inserted xs c b) ∙ same
      ∙ sym (ap (state_of c) none) ∙ sym (ap (λ (n : ℕ). state_of n (at_number xs n)) it)
  | inr other ↦ ap (state_of d) (lookup_beside xs c d b other)
]

-- ---- a move

module _ (kept : SlotsAreKept) (w : World) (h : List Line) (k : IsMoment w h) (m : Move)
    (d : due (plan_at k) w ≡ Some m.action) (p : InStep w h) where
  abbrev a : Act
  a = acts w m.chosen m.action

  abbrev v : World
  v = (move w m).world

  abbrev ls : List Line
  ls = lines_in w m

  abbrev ms : List Message
  ms = said w.network.messages

  abbrev Goal : ℕ → Type 0
  Goal c = Parts (said v.network.messages) (slot_of v.server.slots c) (h ++ ls) c (state_of c (at_number v.clients c))

  one : IsOneStep w m.chosen m.action a
  one = moves_are_steps w m.chosen m.action

  all_said : (new : List Message) → posted a.posts ≡ new → said v.network.messages ≡ ms ++ new
  all_said new e =
      said_more a.world.network.messages a.posts ∙ ap (λ (l : List Message). l ++ posted a.posts) one.said
      ∙ ap (λ (l : List Message). ms ++ l) e

  -- what holds then is what holds of these
  conclude : (c : ℕ) (new : List Message) (o : Option Slot) (x : Client) → posted a.posts ≡ new
      → slot_of v.server.slots c ≡ o → state_of c (at_number v.clients c) ≡ x → Parts (ms ++ new) o (h ++ ls) c x
      → Goal c
  conclude c new o x sent slot state q =
      subst (λ (l : List Message).
      Parts l (slot_of v.server.slots c) (h ++ ls) c (state_of c (at_number v.clients c))) (sym (all_said new sent))
      (subst (λ (z : Option Slot). Parts (ms ++ new) z (h ++ ls) c (state_of c (at_number v.clients c))) (sym slot)
      (subst (Parts (ms ++ new) o (h ++ ls) c) (sym state) q))

  -- the server stays, and a client is as it was
  idle : (c : ℕ) (new : List Message) → posted a.posts ≡ new → v.server ≡ w.server
      → state_of c (at_number v.clients c) ≡ state_of c (at_number w.clients c)
      → EachMessage (AsksOf c (state_of c (at_number w.clients c))) new
      → EachMessage (AnswersOf c (slot_of w.server.slots c)) new → Goal c
  idle c new sent server state asks answers =
      conclude c new (slot_of w.server.slots c) (state_of c (at_number w.clients c)) sent
      (ap (λ (s : Server). slot_of s.slots c) server) state
      (stays ms new (slot_of w.server.slots c) h ls c (state_of c (at_number w.clients c)) (p c) asks answers)

  -- ---- drives, and clients that stop or come

  others : OthersGo w a → (c : ℕ) → Goal c
  others g c = by_replies g.posts
    where
      state : state_of c (at_number v.clients c) ≡ state_of c (at_number w.clients c)
      state = ap (λ (xs : Clients). state_of c (at_number xs c)) g.clients

      by_replies : AreReplies a.posts → Goal c
      by_replies (Nothing e) = idle c [] (ap posted e) g.server state tt tt
      by_replies (OneReply n to r e) =
          idle c _ (ap posted e) g.server state (λ from at. absurd (cc from), tt) (λ from at. absurd (cc from), tt)

  stops : ClientStops w a → (c : ℕ) → Goal c
  stops g c =
      idle c [] (ap posted g.posts) g.server
      (ap (λ (xs : Clients). state_of c (at_number xs c)) g.clients
      ∙ stopped_same w.clients g.client c g.before g.after g.found g.state) tt tt

  comes : ClientComes w m.action a → (c : ℕ) → Goal c
  comes g c =
      let none = comes_new w h k g.client (d ∙ ap (λ (x : Action). Some x) g.action_is) in
      idle c [] (ap posted g.posts) g.server
      (ap (λ (xs : Clients). state_of c (at_number xs c)) g.clients
      ∙ come_same w.clients g.client c g.after none g.state) tt tt

  -- ---- a client's step

  client_steps : ClientGoes w a → (c : ℕ) → Goal c
  client_steps g c = elim (cases_eq c g.client) [
    | inl it ↦ subst Goal (sym it) own
    | inr other ↦ another other
  ]
    where
      x : Client
      x = g.before.state

      q : Parts ms (slot_of w.server.slots g.client) h g.client g.before.state
      q =
          subst (Parts ms (slot_of w.server.slots g.client) h g.client) (ap (state_of g.client) g.found) (p g.client)

      own : Goal g.client
      own =
          conclude g.client _ (slot_of w.server.slots g.client) (step g.before.state g.input).client (ap posted g.posts)
          (ap (λ (s : Server). slot_of s.slots g.client) g.server)
          (ap (λ (xs : Clients). state_of g.client (at_number xs g.client)) g.clients
          ∙ ap (state_of g.client) (put_same w.clients g.client g.before g.after g.found) ∙ g.state)
          (own_step w h ls g.client g.before.state (slot_of w.server.slots g.client) q g.input g.heard g.wrote g.logged)

      another : (c ≡ g.client → ⊥) → Goal c
      another other =
          let s = step_asks g.before.state g.input q.room in
          let y : Client = state_of c (at_number w.clients c) in
          let os = (step g.before.state g.input).sends in
          idle c _ (ap posted g.posts) g.server
          (ap (λ (xs : Clients). state_of c (at_number xs c)) g.clients
          ∙ ap (state_of c) (put_other w.clients g.client c g.after other))
          (addressed_each (AsksOf c y) (client_posts g.client g.wrote g.logged os)
          (client_asks c g.client y (step g.before.state g.input).client.outstanding
          (λ r is it. absurd (other (sym it))) g.wrote g.logged os s.sends))
          (addressed_each (AnswersOf c (slot_of w.server.slots c)) (client_posts g.client g.wrote g.logged os)
          (client_answers_none c g.client (slot_of w.server.slots c) g.wrote g.logged os))

  -- ---- the server's step

  -- the request that comes was asked by its client
  module _ (q : ClientRequest) (named : q.client ≤ MAX_CLIENT) (s : IsDelivered w node.Server)
      (from : node.Client q.client ≡ s.posted.message.from)
      (read : server.message_in s.posted.message.from (spelled s.posted.message.body) ≡ Some (Asks q))
      (stepped : v.server ≡ (on_request w.server w.clock m.chosen q).state) where
    abbrev b : Body
    b = s.posted.message.body

    abbrev x : Client
    x = state_of q.client (at_number w.clients q.client)

    read_here : server.message_in (node.Client q.client) (spelled b) ≡ Some (Asks q)
    read_here = ap (λ (n : Node). server.message_in n (spelled b)) from ∙ read

    was_asked : IsReadOf x b q
    was_asked =
        let i = p q.client in
        read_of q.client x b q i.number named i.next
        (each_at (AsksOf q.client x) w.network.messages s.number s.posted s.there i.asks (sym from) s.receiver)
        read_here

    made : x.outstanding ≡ Some was_asked.request → admit (slot_of w.server.slots q.client) q.sequence ≡ New
        → WasMade (h ++ ls) q.client was_asked.request (answer_to w.server w.clock m.chosen q)
    made out new = record {
      world = w;
      before = h;
      moment = k;
      since = ls;
      history = refl;
      request = q;
      read = ap (λ (z : Body). server.message_in (node.Client q.client) (spelled z)) (sym was_asked.body) ∙ read_here;
      client = refl;
      sequence = was_asked.sequence;
      new = new;
      next = m;
      is_due = d;
      server = stepped;
      answer = refl;
    }

    pub request_kept : (t : ServerStep) → t ≡ on_request w.server w.clock m.chosen q → (c : ℕ)
        → Parts (ms ++ sent_by t) (slot_of t.state.slots c) (h ++ ls) c (state_of c (at_number w.clients c))
    request_kept t is c = elim (cases_eq q.client c) [
      | inl it ↦
          subst (λ (n : ℕ).
          Parts (ms ++ sent_by t) (slot_of t.state.slots n) (h ++ ls) n (state_of n (at_number w.clients n))) it
          (own_request kept ms h ls w.server w.clock m.chosen q named t x (p q.client) b was_asked made is)
      | inr other ↦
          other_request kept ms h ls w.server w.clock m.chosen q named t c (state_of c (at_number w.clients c)) (p c)
          other (p q.client).slot is
    ]

  asked_kept : (now : ℕ) (q : ClientRequest) (t : ServerStep) → q.client ≤ MAX_CLIENT
      → IsHeardByServer w (ServerHears now (node.Client q.client) (Asks q)) → t ≡ on_request w.server now m.chosen q
      → v.server ≡ t.state → (c : ℕ)
      → Parts (ms ++ sent_by t) (slot_of t.state.slots c) (h ++ ls) c (state_of c (at_number w.clients c))
  asked_kept now q t named heard is stepped c =
      let on_time : t ≡ on_request w.server w.clock m.chosen q =
      is ∙ ap (λ (n : ℕ). on_request w.server n m.chosen q) heard.1 in
      request_kept q named heard.0 heard.2 heard.3 (stepped ∙ ap (λ (z : ServerStep). z.state) on_time) t on_time c

  server_steps : ServerGoes w m.chosen a → (c : ℕ) → Goal c
  server_steps g c =
      conclude c (sent_by t) (slot_of t.state.slots c) (state_of c (at_number w.clients c)) (ap posted g.posts)
      (ap (λ (s : Server). slot_of s.slots c) g.server)
      (ap (λ (xs : Clients). state_of c (at_number xs c)) g.clients) (by_did (step_did w.server m.chosen g.input))
    where
      t : ServerStep
      t = server_step w.server m.chosen g.input

      by_did : ServerDid w.server m.chosen g.input (server_step w.server m.chosen g.input)
          → Parts (ms ++ sent_by (server_step w.server m.chosen g.input))
          (slot_of (server_step w.server m.chosen g.input).state.slots c) (h ++ ls) c
          (state_of c (at_number w.clients c))
      by_did (Quiet q) =
          quiet_keeps ms h ls w.server (server_step w.server m.chosen g.input) c
          (state_of c (at_number w.clients c)) (p c) q
      by_did (Asked now q is does) =
          asked_kept now q (server_step w.server m.chosen g.input) is.named (subst (IsHeardByServer w) is.is g.heard)
          does g.server c

  by_goes : Goes w m.chosen m.action a → (c : ℕ) → Goal c
  by_goes (Others g) c = others g c
  by_goes (AServer g) c = server_steps g c
  by_goes (AClient g) c = client_steps g c
  by_goes (Stops g) c = stops g c
  by_goes (Comes g) c = comes g c

  pub move_keeps : InStep (move w m).world (h ++ lines_in w m)
  move_keeps c = by_goes one.goes c

-- ---- at each moment

first_step : InStep empty_world []
first_step c = record {
  number = refl;
  next = omega arith;
  asks = tt;
  answers = tt;
  slot = λ s is. absurd (cc is);
  stands = refl;
  room = tt;
}

pub in_step : SlotsAreKept → OneEventMore → (w : World) (h : List Line) → IsMoment w h → InStep w h
in_step kept more w h k =
    always InStep (record { starts = first_step; moves = λ u g j m d p. move_keeps kept u g j m d p }) more w h k

pub clients_are_in_step : SlotsAreKept → OneEventMore → ClientsAreInStep
clients_are_in_step kept more w h k c =
    let p = in_step kept more w h k c in
    record {
      number = p.number;
      next = p.next;
      asks = p.asks;
      answers = p.answers;
      slot = p.slot;
      stands = p.stands;
    }
