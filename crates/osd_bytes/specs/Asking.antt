-- What came of asking a node, and what is known of links and a clock meanwhile.
use Rattle.std.specs.Prelude.{◌≡◌, ◌≢◌, ◌⊎◌, ◌<◌, ℕ, List, length, Option, Some, None, Ok, Err}
use Rattle.osd_bytes.specs.Connections.{Traffic}
use Rattle.osd_bytes.specs.Counts.{Faults, asking_count}
use Rattle.osd_bytes.specs.Exchanges.{Exchanges, HasExchangeCause}
use Rattle.osd_bytes.specs.declared.exchanges.ExchangeErr.{ExchangeErr}
use Rattle.osd_bytes.specs.declared.exchanges.ExchangeErr.TheVariants.{Memory}
use Rattle.osd_lists.specs.declared.node.Node.{Node}
use Rattle.osd_bytes.specs.declared.records.TheConstants.{MAX_RECORD}

-- what is known of the links and the clock: what came and went, the calls that failed, and the times
pub record Ends : Type 0 where
  pub told : Option Traffic
  pub faults : Faults
  pub times : Option (List ℕ)

abbrev pub ends_of : Option Traffic → Faults → Option (List ℕ) → Ends
ends_of told faults times = record { told = told; faults = faults; times = times }

-- the exchange was refused for another cause than memory, or the message is longer than a record may be
abbrev pub IsUnanswered : Node → (message : List ℕ) → (before now : Option Traffic) → (failed_before failed : Faults)
    → Type 0
IsUnanswered to message before now failed_before failed =
    ((e : ExchangeErr) × (e ≢ Memory) × Exchanges to message before now (Err e)
    × HasExchangeCause (asking_count (Some to)) failed_before failed (Err e))
    ⊎ ((MAX_RECORD < length message) × (now ≡ before) × (failed ≡ failed_before))

-- the record that came of an exchange, none where there was none
abbrev pub Answered : Node → (message : List ℕ) → (before now : Option Traffic) → (failed_before failed : Faults)
    → Option (List ℕ) → Type 0
Answered to message before now failed_before failed (Some bytes) =
    Exchanges to message before now (Ok bytes) × (failed ≡ failed_before)
Answered to message before now failed_before failed None = IsUnanswered to message before now failed_before failed

-- there was no memory for the exchange: nothing was sent, or a part of the message's frame
abbrev pub IsCutOff : Node → (message : List ℕ) → (before now : Option Traffic) → (failed_before failed : Faults) → Type 0
IsCutOff to message before now failed_before failed =
    Exchanges to message before now (Err Memory) × (failed ≡ failed_before)
