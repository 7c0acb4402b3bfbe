-- The request of a call that needs the server.
use Rattle.std.specs.Prelude.{Option, Some, None}
use Rattle.layout_ops.specs.declared.args.Args.{Args}
use Rattle.client_rules.specs.declared.calls.CallOp.{CallOp}
use Rattle.client_rules.specs.declared.calls.Call.{Call}
use Rattle.client_rules.specs.declared.grants.Held.{Held}
use Rattle.client_rules.specs.declared.calls.Need.{Need}
use Rattle.client_rules.specs.declared.steps.Done.{Done}
use Rattle.client_rules.specs.Calls.{file_of}
use Rattle.client_rules.specs.Grants.{held_of}
use Rattle.client_rules.specs.Requests.{args_of, get_args}
use Rattle.client_rules.specs.Going.{phased, asks_under, progress_phase}

-- what it asks, under the grant that it may hold
abbrev pub needed : Option Held → CallOp → Need → Args
needed None op n = get_args op
needed (Some h) op n = args_of h op n

-- a call that was taken up asks it
abbrev pub asks : Done → CallOp → Need → Done
asks d op n = asks_under d op n (held_of d.client.held (file_of op))

-- a call that was taken up goes on
abbrev pub progresses : Done → Call → Done
progresses d call = progress_phase (phased d call.op call.phase) call.op call.phase
