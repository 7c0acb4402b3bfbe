-- Each move is a step of one party, and what that sends.
use Rattle.std.proofs.Common.{ℕ, List, refl}
use Rattle.world_history.specs.State.{World, ClientAt}
use Rattle.world_history.specs.Handed.{wrote_in, data_in, op_in}
use Rattle.world_history.specs.Moves.{Action, known_drive}
use Rattle.server_rules.specs.History as server
use Rattle.client_rules.specs.History as client
use Rattle.history_law.specs.Said.{IsHeardByServer, IsHeardByClient}
use Rattle.history_law.specs.Moves.{IsForServer, IsForClient, MoveCases}
use Rattle.history_law.specs.Goes.{IsAwake, Nothing, OneReply, Others, AServer, AClient, Stops, Comes, IsOneStep, MovesAreSteps}
use Rattle.history_law.proofs.Moves.{each_act}

-- what a party is handed, without the action
pub for_server : (w : World) (action : Action) (i : server.Input) → IsForServer w action i → IsHeardByServer w i
for_server w action (server.Hears now from m) (d, now_is, from_is, read, number, awake) = (d, now_is, from_is, read)
for_server w action i is = tt

-- a message comes to a server that is up
pub awake_for : (w : World) (action : Action) (i : server.Input) → IsForServer w action i → IsAwake w i
awake_for w action (server.Hears now from m) (d, now_is, from_is, read, number, awake) = awake
awake_for w action i is = tt

pub for_client : (w : World) (action : Action) (c : ℕ) (a : ClientAt) (i : client.Input) → IsForClient w action c a i
    → IsHeardByClient w c i
for_client w action c a (client.Hears from m) (d, from_is, read, number, awake) = (d, from_is, read)
for_client w action c a i is = tt

cases : (w : World) (chosen : List ℕ) (action : Action) → MoveCases w chosen action (IsOneStep w chosen action)
cases w chosen action = record {
  rests = λ ms said told quiet. record {
    goes = Others (record { server = refl; clients = refl; down = refl; posts = Nothing refl });
    said = said;
  };
  refused = λ c a found op is e why. record {
    goes = Others (record { server = refl; clients = refl; down = refl; posts = Nothing refl });
    said = refl;
  };
  clock = λ time. record {
    goes = Others (record { server = refl; clients = refl; down = refl; posts = Nothing refl });
    said = refl;
  };
  serves = λ ms said i is. record {
    goes = AServer (record {
      input = i;
      heard = for_server w action i is;
      awake = awake_for w action i is;
      down = refl;
      server = refl;
      clients = refl;
      posts = refl;
    });
    said = said;
  };
  goes = λ ms said c a found i is. record {
    goes = AClient (record {
      client = c;
      before = a;
      found = found;
      input = i;
      heard = for_client w action c a i is;
      after = _;
      state = refl;
      server = refl;
      down = refl;
      clients = refl;
      wrote = wrote_in a i;
      logged = data_in (op_in a.state i);
      posts = refl;
    });
    said = said;
  };
  comes = λ c is. record {
    goes = Comes (record {
      client = c;
      action_is = is;
      after = _;
      state = refl;
      server = refl;
      down = refl;
      clients = refl;
      posts = refl;
    });
    said = refl;
  };
  stops = λ c a found. record {
    goes = Stops (record {
      client = c;
      before = a;
      found = found;
      after = _;
      state = refl;
      server = refl;
      down = refl;
      clients = refl;
      posts = refl;
    });
    said = refl;
  };
  judged = λ ms said d a found deaf m number. record {
    goes = Others (record { server = refl; clients = refl; down = refl; posts = OneReply d m.posted.message.from _ refl });
    said = said;
  };
  injected = λ d bytes is a found. record {
    goes = Others (record { server = refl; clients = refl; down = refl; posts = Nothing refl });
    said = refl;
  };
  turns = λ d a b found turns. record {
    goes = Others (record { server = refl; clients = refl; down = refl; posts = Nothing refl });
    said = refl;
  };
  known = λ d key capacity stored is knows. record {
    goes = Others (record { server = refl; clients = refl; down = refl; posts = Nothing refl });
    said = refl;
  };
  adds = λ d key capacity stored is knows. record {
    goes = AServer (record {
      input = server.Adds (known_drive d key capacity);
      heard = tt;
      awake = tt;
      down = refl;
      server = refl;
      clients = refl;
      posts = refl;
    });
    said = refl;
  };
}

pub moves_are_steps : MovesAreSteps
moves_are_steps w chosen action = each_act w chosen (IsOneStep w chosen action) action (cases w chosen action)
