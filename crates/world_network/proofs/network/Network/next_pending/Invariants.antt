use Rattle.std.proofs.Common.{◌-◌, ◌≤◌, length}
use Rattle.world_network.specs.Network.{NonePending}
use Rattle.world_network.proofs.network.Network.next_pending.Given as goal

abbrev pub invariant-loop-number : goal.invariant-loop-number
invariant-loop-number l = record { from : l.first ≤ l.number; past : NonePending l.first l.number l.self.messages }

abbrev pub decreases-loop-number : goal.decreases-loop-number
decreases-loop-number l = length l.self.messages - l.number
