-- How a ready call's dealings with the drives went up to a phase.
use Rattle.std.specs.Prelude.{◌≡◌, ℕ, List}
use Rattle.world_history.specs.ClientNames.{CallOp, Held, Phase, Awaited, Goes, Moved}
use Rattle.load_law.specs.Load.{Deals}

-- The call began under the first grant, sent these commands, and is in this phase under the second, which is the same but for
-- its count.
pub record Runs (h : Held) (op : CallOp) (g : Held) (p : Phase) (sent : List Awaited) : Type 0 where
  pub moved : Moved
  pub deals : Deals h op moved sent
  pub held : moved.held ≡ g
  pub turn : moved.turn ≡ Goes p
  pub count : ℕ
  pub same : g ≡ record h { count = count }
