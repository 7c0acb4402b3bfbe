-- How a call ends follows from what it met.
use Rattle.std.specs.Prelude.{◌≡◌, ◌≢◌, ℕ, List, [], length, Option, Some, None, option_map}
use Rattle.world_history.specs.ClientNames.{Client, Call, CallOp, Outcome, WriteOk, ReadOk}
use Rattle.client_rules.specs.Calls.{file_of, bytes_of}
use Rattle.client_rules.specs.Grants.{held_of}
use Rattle.client_rules.specs.Io.{awaited_in}
use Rattle.client_rules.specs.Steps.{new_client}
use Rattle.client_rules.specs.History.{Input, Calls, step, state_after}
use Rattle.cause_law.specs.Met.{Met, met_after, met_by, grant_under, cut_short, failure_in}

-- the call that a step is about: the one that comes, else the one that is pending
abbrev pub call_in : Client → Input → Option CallOp
call_in c (Calls op) = Some op
call_in c i = option_map (λ (call : Call). call.op) c.call

-- the failure with which a call ended; where it did what it was called for there is none
abbrev pub failure_of : Outcome → Option Outcome
failure_of (WriteOk n) = None
failure_of (ReadOk bytes) = None
failure_of o = Some o

-- a write that is acknowledged is so for all of its bytes
abbrev pub WritesAll : CallOp → Outcome → Type 0
WritesAll op (WriteOk n) = n ≡ length (bytes_of op)
WritesAll op o = Unit {0}

-- A call that ends with this failed so, by all that it met.
pub record IsCaused (c : Client) (ms : List Met) (i : Input) (o : Outcome) : Type 0 where
  pub op : CallOp
  pub call : call_in c i ≡ Some op
  pub cause : failure_in (grant_under c.held op (met_after c ms i)) op (met_after c ms i) ≡ failure_of o
  pub whole : WritesAll op o

-- the client behind these inputs, and what its call has met
abbrev pub client_by : (number sequence : ℕ) → List Input → Client
client_by number sequence is = state_after (new_client number sequence) is

abbrev pub call_met : (number sequence : ℕ) → List Input → List Met
call_met number sequence is = met_by (new_client number sequence) [] is

-- So is each call that ends, after any list of inputs to a new client; and none that awaits something of a drive was cut
-- short.
pub record OutcomesAreCaused : Type 0 where
  pub ends : (number sequence : ℕ) (is : List Input) (i : Input) (o : Outcome)
      → (step (client_by number sequence is) i).outcome ≡ Some o
      → IsCaused (client_by number sequence is) (call_met number sequence is) i o
  pub works : (number sequence : ℕ) (is : List Input) (call : Call)
      → (client_by number sequence is).call ≡ Some call → awaited_in call.phase ≢ []
      → cut_short (held_of (client_by number sequence is).held (file_of call.op)) call.op (call_met number sequence is) ≡ None
