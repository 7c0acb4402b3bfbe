-- At each moment clients have counted what they sent, so no call finds its slot spent.
use Rattle.std.proofs.Common.{ℕ, ◌+◌, length, sym, subst, arith}
use Rattle.client_rules.specs.History.{step}
use Rattle.world_history.specs.ClientNames.{Client}
use Rattle.history_law.proofs.KnownGoing.{ClientKnown}
use Rattle.history_law.proofs.KnownSteps.{step_known}
use Rattle.exchange_law.specs.Counters.{ClientsAreCounted}
use Rattle.exchange_law.proofs.CountClients.{Counted, new_counts, more_counts, step_counts, client_counts}
use Rattle.exchange_law.proofs.CountNear.{IsNear, input_near, all_sent}
use Rattle.exchange_law.proofs.ClientMoves.{IsKeptByClients, clients_always}

-- a client has counted, and sends to drives alone that a line can name
pub record Fits (n : ℕ) (c : Client) : Type 0 where
  pub counts : Counted n c
  pub near : ClientKnown IsNear c

pub fits_kept : IsKeptByClients Fits
fits_kept = record {
  more = λ n k c f. record { counts = more_counts n (n + k) c (omega arith) f.counts; near = f.near };
  made = λ n number. record { counts = new_counts n number; near = record { helds = tt; call = tt } };
  steps =
      λ n c i number wrote logged f.
      let s = step_counts n c i f.counts in
      let t = step_known IsNear c i f.near (input_near i) in
      let all = all_sent number wrote logged (step c i).sends t.sends in
      record {
        counts =
            subst (λ (k : ℕ). Counted (n + k) (step c i).client) (sym all)
            (record { requests = s.requests; commands = s.commands });
        near = t.client;
      };
}

pub clients_are_counted : ClientsAreCounted
clients_are_counted w reached client a found =
    client_counts (length w.network.messages) a.state (clients_always Fits fits_kept w reached client a found).counts
