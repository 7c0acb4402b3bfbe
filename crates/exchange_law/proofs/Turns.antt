-- Each move is such a turn.
use Rattle.std.specs.List.{list_any}
use Rattle.std.proofs.Common.{◌≡◌, ◌⊎◌, ◌||◌, ℕ, true, false, List, [], ◌∷◌, ◌++◌, Some, IsSome, refl, sym, ap, subst, ◌∙◌, inl, inr}
use Rattle.osd_lists.specs.declared.node.Node.{Node}
use Rattle.osd_lists.specs.declared.node.Node.TheVariants as node
use Rattle.osd_objects.proofs.Entries.{lookup_inserted, lookup_beside, lookup_set, lookup_set_beside}
use Rattle.server_rules.specs.Envelopes as server_bytes
use Rattle.server_rules.specs.History as server_input
use Rattle.server_rules.specs.History.{step as server_step}
use Rattle.client_rules.specs.Envelopes as client_bytes
use Rattle.client_rules.specs.Steps.{new_client}
use Rattle.client_rules.specs.History as client_input
use Rattle.client_rules.specs.History.{step as client_step}
use Rattle.scenario_text.specs.declared.event.Event.TheVariants as event
use Rattle.scenario_text.specs.declared.line.Delivery.{Delivery}
use Rattle.scenario_text.specs.declared.line.Delivery.TheVariants as delivery
use Rattle.scenario_text.specs.declared.line.Ending.TheVariants as ending
use Rattle.scenario_text.specs.declared.line.Line.{Line}
use Rattle.scenario_text.specs.declared.line.Line.TheVariants as line
use Rattle.scenario_text.specs.declared.line.Outcome.TheVariants as outcome
use Rattle.world_history.specs.declared.messages.Message.{Message}
use Rattle.world_history.specs.State.{ClientAt, World, at_number, with_number, and_number}
use Rattle.world_history.specs.Spelled.{spelled}
use Rattle.world_history.specs.Handed.{op_in, wrote_in, data_in, is_write_out}
use Rattle.world_history.specs.Moves.{Act, Action, Opens, Delivers, adds_client, known_drive, acts}
use Rattle.world_history.specs.Sending.{Move, move}
use Rattle.history_law.specs.Said.{posted, IsDelivered}
use Rattle.history_law.specs.Moves.{MoveCases, IsForServer, IsForClient, AreQuiet, number_in, front_of}
use Rattle.history_law.proofs.Moves.{front_cases, each_act}
use Rattle.exchange_law.proofs.Turning.{sent_by, bodies_more, body_in, AreNoRefusals, notes_told, Becomes, WasPosted, ComesTo, ComesToServer, IsAwake, ByServer, ByClient, ByDrive, Makes, Stops, Rests, IsTurn}

-- ---- one client

set_client : (w v : World) (c : ℕ) (a b : ClientAt) → at_number w.clients c ≡ Some a
    → v.clients ≡ with_number w.clients c b → Becomes w v c b
set_client w v c a b found is = record {
  there = ap (λ (xs : List (ℕ × ClientAt)). at_number xs c) is ∙ lookup_set w.clients c b (subst IsSome
      (sym found) refl);
  others = λ d other. ap (λ (xs : List (ℕ × ClientAt)). at_number xs d) is ∙ lookup_set_beside w.clients c d b other;
}

new_one : (w v : World) (c : ℕ) (b : ClientAt) → v.clients ≡ and_number w.clients c b → Becomes w v c b
new_one w v c b is = record {
  there = ap (λ (xs : List (ℕ × ClientAt)). at_number xs c) is ∙ lookup_inserted w.clients c b;
  others = λ d other. ap (λ (xs : List (ℕ × ClientAt)). at_number xs d) is ∙ lookup_beside w.clients c d b other;
}

-- a client behind a step
abbrev stepped : ClientAt → client_input.Input → ClientAt
stepped a i = record a {
  state = (client_step a.state i).client;
  wrote = wrote_in a i || list_any is_write_out (client_step a.state i).sends;
}

-- ---- what comes to a party, and what is told

was_posted : (w : World) (to : Node) (d : IsDelivered w to) (from : Node) → from ≡ d.posted.message.from
    → WasPosted w from to (spelled d.posted.message.body)
was_posted w to d from is = record {
  message = d.posted.message;
  there = body_in w.network.messages d.number d.posted d.there;
  sender = sym is;
  receiver = d.receiver;
  bytes_are = refl;
}

comes_to_server : (w : World) (action : Action) (i : server_input.Input) → IsForServer w action i → ComesToServer w i
comes_to_server w action (server_input.Hears now from m) (d, time, sender, read, number, up) = (
  spelled d.posted.message.body,
  was_posted w node.Server d from sender,
  ap (λ (n : Node). server_bytes.message_in n (spelled d.posted.message.body)) sender ∙ read,
)
comes_to_server w action i is = tt

comes_to : (w : World) (action : Action) (c : ℕ) (a : ClientAt) (i : client_input.Input) → IsForClient w action c a i
    → ComesTo w c i
comes_to w action c a (client_input.Hears from m) (d, sender, read, number, awake) = (
  spelled d.posted.message.body,
  was_posted w (node.Client c) d from sender,
  ap (λ (n : Node). client_bytes.message_in n (spelled d.posted.message.body)) sender ∙ read,
)
comes_to w action c a i is = tt

is_awake : (w : World) (action : Action) (c : ℕ) (a : ClientAt) (i : client_input.Input) → IsForClient w action c a i
    → IsAwake a i
is_awake w action c a (client_input.Hears from m) (d, sender, read, number, awake) = awake
is_awake w action c a i is = tt

delivers_it : (action : Action) (n : ℕ) → number_in action ≡ Some n
    → (action ≡ Delivers n) ⊎ (action ≡ Opens (event.Deliver n))
delivers_it (Opens (event.Deliver k)) n e =
    let same : k ≡ n = cc e in inr (ap (λ (j : ℕ). Opens (event.Deliver j)) same)
delivers_it (Delivers k) n e = let same : k ≡ n = cc e in inl (ap (λ (j : ℕ). Delivers j) same)
delivers_it action n e = absurd (cc e)

quiet_told : (ls : List Line) → AreQuiet ls → AreNoRefusals ls
quiet_told [] q = tt
quiet_told (line.Ended c (outcome.Failed kind (ending.Refused d v)) ∷ ls) q = absurd q.0
quiet_told (l ∷ ls) q = (tt, quiet_told ls q.1)

fronts_told : (action : Action) (d : Delivery) (ls : List Line) → AreNoRefusals ls
    → AreNoRefusals (front_of action d ++ ls)
fronts_told action d ls told =
    front_cases (λ (front : List Line). AreNoRefusals (front ++ ls)) told (λ number x. (tt, told)) (λ c k. (tt, told))
    action d

front_told : (action : Action) (d : Delivery) → AreNoRefusals (front_of action d)
front_told action d = front_cases AreNoRefusals tt (λ number x. (tt, tt)) (λ c k. (tt, tt)) action d

-- ---- each move

module _ (w : World) (chosen : List ℕ) (action : Action) where
  -- neither the server nor a client does anything
  rests : (a : Act) → sent_by a.world ≡ sent_by w → a.world.server ≡ w.server → a.world.clients ≡ w.clients
      → AreNoRefusals a.told → a.posts ≡ [] → IsTurn w action a
  rests a messages server clients told posts = record {
    messages = messages;
    turn = Rests (record {
      server = server;
      clients = λ c. ap (λ (xs : List (ℕ × ClientAt)). at_number xs c) clients;
      told = told;
      posts = posts;
    });
  }

  cases : MoveCases w chosen action (IsTurn w action)
  cases = record {
    rests = λ ms said told quiet. rests _ said refl refl (quiet_told told quiet) refl;
    refused = λ c a found op is e why. rests _ refl refl refl (tt, tt) refl;
    clock = λ time. rests _ refl refl refl tt refl;
    serves = λ ms said i is. record {
      messages = said;
      turn = ByServer (record {
        input = i;
        chosen = chosen;
        comes = comes_to_server w action i is;
        server = refl;
        clients = λ c. refl;
        told = fronts_told action _ _ (notes_told (server_step w.server chosen i).notes);
        posts = refl;
      });
    };
    goes = λ ms said c a found i is. record {
      messages = said;
      turn = ByClient (record {
        client = c;
        caller = a;
        found = found;
        input = i;
        comes = comes_to w action c a i is;
        awake = is_awake w action c a i is;
        server = refl;
        now = stepped a i;
        becomes = set_client w _ c a (stepped a i) found refl;
        state = refl;
        stopped = refl;
        front = front_of action delivery.Taken;
        quiet = front_told action delivery.Taken;
        told = refl;
        wrote = wrote_in a i;
        logged = data_in (op_in a.state i);
        posts = refl;
      });
    };
    comes = λ c is. record {
      messages = refl;
      turn = Makes (record {
        client = c;
        opens = is;
        server = refl;
        now = record { state = new_client c 1; stopped = false; wrote = false };
        becomes = new_one w (adds_client w c) c (record { state = new_client c 1; stopped = false; wrote = false }) refl;
        state = refl;
        told = tt;
        posts = refl;
      });
    };
    stops = λ c a found. record {
      messages = refl;
      turn = Stops (record {
        client = c;
        caller = a;
        found = found;
        server = refl;
        now = record a { stopped = true };
        becomes = set_client w _ c a (record a { stopped = true }) found refl;
        state = refl;
        stopped = refl;
        told = tt;
        posts = refl;
      });
    };
    judged = λ ms said d a found hears m number. record {
      messages = said;
      turn = ByDrive (record {
        number = m.number;
        delivers = delivers_it action m.number number;
        message = m.posted;
        found = m.there;
        drive = d;
        receiver = m.receiver;
        device = a;
        stands = found;
        hears = hears;
        server = refl;
        clients = λ c. refl;
        told = refl;
        posts = refl;
      });
    };
    injected = λ d bytes is a found. rests _ refl refl refl (tt, tt) refl;
    turns = λ d a b found turns. rests _ refl refl refl tt refl;
    known = λ d key capacity stored is knows. rests _ refl refl refl tt refl;
    adds = λ d key capacity stored is knows. record {
      messages = refl;
      turn = ByServer (record {
        input = server_input.Adds (known_drive d key capacity);
        chosen = [];
        comes = tt;
        server = refl;
        clients = λ c. refl;
        told = tt;
        posts = refl;
      });
    };
  }

  pub acts_turn : IsTurn w action (acts w chosen action)
  acts_turn = each_act w chosen (IsTurn w action) action cases

-- the messages behind a move
pub messages_behind : (w : World) (m : Move)
    → sent_by (move w m).world ≡ sent_by w ++ posted (acts w m.chosen m.action).posts
messages_behind w m =
    let a = acts w m.chosen m.action in
    bodies_more a.world.network.messages a.posts
    ∙ ap (λ (l : List Message). l ++ posted a.posts) (acts_turn w m.chosen m.action).messages
