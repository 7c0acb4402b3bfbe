-- Each move changes the server and at most one client, and that by their rules.
use Rattle.std.proofs.Common.{◌≡◌, ℕ, List, Some, refl}
use Rattle.server_rules.specs.declared.server.Server.{Server}
use Rattle.server_rules.specs.History.{Act, Adds, step}
use Rattle.client_rules.specs.Steps.{new_client}
use Rattle.client_rules.specs.History as client
use Rattle.world_history.specs.State.{World, ClientAt, at_number, with_number, and_number}
use Rattle.world_history.specs.Moves as world
use Rattle.world_history.specs.Sending.{Move, move, sends_all}
use Rattle.history_law.specs.Moves.{MoveCases}
use Rattle.history_law.proofs.Moves.{each_act}

-- ---- what a move may do

abbrev pub Clients : Type 0
Clients = List (ℕ × ClientAt)

-- the server takes a step, or none
pub data Served (s t : Server) : Type 0 where
  Rests : t ≡ s → Served s t
  Steps : (a : Act) → t ≡ (step s a.chosen a.input).state → Served s t

-- a client takes a step, or none
pub data Called (a b : ClientAt) : Type 0 where
  Idles : b.state ≡ a.state → Called a b
  Goes : (i : client.Input) → b.state ≡ (client.step a.state i).client → Called a b

-- so does one client, or there is a new one
pub data Moved (xs ys : Clients) : Type 0 where
  Same : ys ≡ xs → Moved xs ys
  One : (c : ℕ) (a b : ClientAt) → at_number xs c ≡ Some a → Called a b → ys ≡ with_number xs c b → Moved xs ys
  More : (c : ℕ) (a : ClientAt) → a.state ≡ new_client c 1 → ys ≡ and_number xs c a → Moved xs ys

pub record Going (w v : World) : Type 0 where
  pub server : Served w.server v.server
  pub clients : Moved w.clients v.clients

-- ---- each move

still : (w v : World) → v.server ≡ w.server → v.clients ≡ w.clients → Going w v
still w v s c = record { server = Rests s; clients = Same c }

abbrev GoesOn : World → world.Act → Type 0
GoesOn w a = Going w (sends_all a).world

cases : (w : World) (m : Move) → MoveCases w m.chosen m.action (GoesOn w)
cases w m = record {
  rests = λ ms said told quiet. still w _ refl refl;
  refused = λ c a found op is e why. still w _ refl refl;
  clock = λ time. still w _ refl refl;
  serves = λ ms said i is. record {
    server = Steps (record { input = i; chosen = m.chosen }) refl;
    clients = Same refl;
  };
  goes = λ ms said c a found i is. record {
    server = Rests refl;
    clients = One c a _ found (Goes i refl) refl;
  };
  comes = λ c is. record { server = Rests refl; clients = More c _ refl refl };
  stops = λ c a found. record { server = Rests refl; clients = One c a _ found (Idles refl) refl };
  judged = λ ms said d a found deaf message number. still w _ refl refl;
  injected = λ d bytes is a found. still w _ refl refl;
  turns = λ d a b found turns. still w _ refl refl;
  known = λ d key capacity stored is knows. still w _ refl refl;
  adds = λ d key capacity stored is knows. record {
    server = Steps (record { input = Adds (world.known_drive d key capacity); chosen = m.chosen }) refl;
    clients = Same refl;
  };
}

pub goes : (w : World) (m : Move) → Going w (move w m).world
goes w m = each_act w m.chosen (GoesOn w) m.action (cases w m)
