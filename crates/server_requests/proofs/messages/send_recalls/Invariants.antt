use Rattle.std.proofs.Common.{◌≡◌, ◌++◌, ◌+◌, ℕ, List, drop}
use Rattle.server_rules.specs.declared.grants.Grant.{Grant}
use Rattle.server_rules.specs.Answers.{recalls_from}
use Rattle.server_requests.specs.declared.outgoing.Sent.{Sent}
use Rattle.server_requests.specs.Sending.{all_sent}
use Rattle.server_requests.proofs.messages.send_recalls.Given as goal

-- the first ones are sent
pub record Recalled (gs : List Grant) (first : ℕ) (old now : List Sent) (count index : ℕ) : Type 0 where
  pub all : now ++ all_sent (recalls_from count (drop index gs)) ≡ old ++ all_sent (recalls_from first gs)
  pub place : count ≡ first + index

abbrev pub invariant-loop-grant : goal.invariant-loop-grant
invariant-loop-grant l = Recalled l.fn.grants l.first l.fn.sends l.sends l.count l.grant-index
