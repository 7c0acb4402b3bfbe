-- Calls that are taken and that aren't.
use Rattle.std.specs.Prelude.{Option, Some, None, Result, Ok, Err, ◌≡◌, IfOk, IfErr, is_some, if◌then◌else◌}
use Rattle.client_rules.specs.declared.client.Client.{Client}
use Rattle.client_rules.specs.declared.calls.CallOp.{CallOp}
use Rattle.client_rules.specs.declared.outcomes.CallErr.{CallErr}
use Rattle.client_rules.specs.declared.outcomes.CallErr.TheVariants.{Busy, BadRange, SlotSpent}
use Rattle.client_rules.specs.declared.outcomes.CallErr.TheVariants.{Memory}
use Rattle.client_rules.specs.Calls.{span_of}
use Rattle.client_rules.specs.Messages.{Step}
use Rattle.client_rules.specs.Steps.{is_bad_range, is_spent}
use Rattle.stripe_client.specs.declared.sending.CStep.{CStep}
use Rattle.stripe_client.specs.Sending.{IsStep}

-- why a call isn't taken
abbrev pub refusal : Client → CallOp → Option CallErr
refusal c op =
    if is_some c.call then Some Busy
    else if is_bad_range (span_of op) then Some BadRange
    else if is_spent c.next then Some SlotSpent
    else None

-- a refusal is told, and has changed nothing; else the step is done, unless there is no memory
abbrev pub Gives : Result Step CallErr → (old new : Client) → Result CStep CallErr → Type 0
Gives (Err e) old new result = (result ≡ Err e) × (new ≡ old)
Gives (Ok s) old new result = IfOk result (IsStep s new) × IfErr result (λ e. e ≡ Memory)
