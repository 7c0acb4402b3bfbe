-- What an answered read is, for all data that agree with what was read.
use Rattle.std.specs.Prelude.{◌≡◌, ℕ, List, [], map, Some}
use Rattle.std.specs.List.{range_with_len}
use Rattle.stripe_plan.specs.Laws.{AreBytes, Agrees}
use Rattle.client_rules.specs.Calls.{file_of, span_of}
use Rattle.client_rules.specs.Grants.{clipped, held_of}
use Rattle.client_rules.specs.Steps.{new_client}
use Rattle.client_rules.specs.History.{Input, step, state_after}
use Rattle.client_rules.specs.Laws.{read_after, read_by}
use Rattle.exchange_law.specs.ClientState.{Client, Call, Held, ReadOk, Column}

-- for any file whose codewords have, wherever something was read, what was read there, these bytes are those of the
-- pending call's range below the size, under the grant that is held
pub record IsRight (c : Client) (got : List Column) (bytes : List ℕ) : Type 0 where
  pub call : Call
  pub pending : c.call ≡ Some call
  pub held : Held
  pub holds : held_of c.held (file_of call.op) ≡ Some held
  pub right : (d : ℕ → ℕ) → AreBytes d → Agrees held.map got d →
      bytes
      ≡ map d (range_with_len (clipped held.size (span_of call.op)).offset (clipped held.size (span_of call.op)).length)

-- so is every read that is answered, after any list of inputs to a new client, by the performed READs whose replies its
-- call took
abbrev pub ReadsAreRight : Type 0
ReadsAreRight =
    (number sequence : ℕ) (is : List Input) (i : Input) (bytes : List ℕ) →
    (step (state_after (new_client number sequence) is) i).outcome ≡ Some (ReadOk bytes) →
    IsRight (state_after (new_client number sequence) is)
    (read_after (state_after (new_client number sequence) is) (read_by (new_client number sequence) [] is) i) bytes
