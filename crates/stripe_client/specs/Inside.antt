-- States whose pending call has a range inside the greatest file.
use Rattle.std.specs.Prelude.{Option, Some, None, ⊤, ◌≡◌, false}
use Rattle.held_grants.specs.Ranges.{AsksInFile}
use Rattle.stripe_client.specs.declared.state.PendingCall.{PendingCall}
use Rattle.stripe_client.specs.declared.state.State.{State}
use Rattle.stripe_client.specs.declared.state.Made.{Made}

-- the call that there may be asks inside the greatest file
abbrev pub CallInFile : Option PendingCall → Type 0
CallInFile None = ⊤
CallInFile (Some p) = AsksInFile p.op

-- so does that of a state
abbrev pub IsInside : State → Type 0
IsInside s = CallInFile s.call

-- the step has sent no request yet
abbrev pub HasNotAsked : Made → Type 0
HasNotAsked m = m.asked ≡ false
