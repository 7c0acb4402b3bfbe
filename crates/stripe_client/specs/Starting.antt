-- A call that begins.
use Rattle.std.specs.Prelude.{Option, Some, None, ◌≡◌, is_none, if◌then◌else◌}
use Rattle.call_io.specs.declared.phase.CallPhase.TheVariants as phase
use Rattle.client_rules.specs.declared.calls.CallOp.{CallOp}
use Rattle.client_rules.specs.declared.grants.Held.{Held}
use Rattle.client_rules.specs.declared.calls.Need.{Need}
use Rattle.client_rules.specs.declared.calls.Phase.TheVariants.{Starts}
use Rattle.client_rules.specs.declared.steps.Done.{Done}
use Rattle.client_rules.specs.Calls.{file_of}
use Rattle.client_rules.specs.Grants.{held_of, covers}
use Rattle.client_rules.specs.Going.{phased, moved, starts_under, begins}
use Rattle.stripe_client.specs.declared.begin.Cover.{Cover}
use Rattle.stripe_client.specs.declared.begin.Cover.TheVariants as cover
use Rattle.stripe_client.specs.declared.state.State.{State}

-- it needs the server, or waits while a request is outstanding
abbrev pub started : State → CallOp → Need → State
started s op need =
    if is_none s.outstanding then record s { call = Some (record { op = op; phase = phase.Needs need }) }
    else record s { call = Some (record { op = op; phase = phase.Starts }) }

-- whether the held grant covers it
abbrev pub cover_of : CallOp → Option Held → Cover
cover_of op None = cover.None
cover_of op (Some h) = if covers h op then cover.Covers else cover.Other

-- under a grant it deals with the drives
abbrev pub Deals : Done → CallOp → Option Held → Done → Type 0
Deals d op None new = new ≡ d
Deals d op (Some h) new = new ≡ moved d op (begins h op)

-- a call that was taken up to begin
abbrev pub starts : Done → CallOp → Done
starts d op = starts_under (phased d op Starts) op (held_of d.client.held (file_of op))
