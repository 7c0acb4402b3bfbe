-- The parties of a history go by their rules alone.
use Rattle.std.specs.Prelude.{◌≡◌, ℕ, List, [], All}
use Rattle.std.specs.Map.{values_of}
use Rattle.server_rules.specs.Making.{new_server}
use Rattle.server_rules.specs.History.{Act, state_after}
use Rattle.client_rules.specs.Steps.{new_client}
use Rattle.client_rules.specs.History.{Input, state_after as client_after}
use Rattle.world_history.specs.State.{ClientAt, World}
use Rattle.history_law.specs.HistoryMoments.{IsReached}

-- the server is a new one after some inputs
pub record ServerRuns (w : World) : Type 0 where
  pub acts : List Act
  pub is : w.server ≡ state_after (new_server []) acts

-- so is a client, whose first request had number 1
pub record ClientRuns (a : ClientAt) : Type 0 where
  pub number : ℕ
  pub inputs : List Input
  pub is : a.state ≡ client_after (new_client number 1) inputs

-- at each moment the server and each client are
pub record PartiesRun (w : World) : Type 0 where
  pub server : ServerRuns w
  pub clients : All ClientRuns (values_of w.clients)

abbrev pub AllPartiesRun : Type 0
AllPartiesRun = (w : World) → IsReached w → PartiesRun w
