-- What bytes spell, if anything.
use Rattle.std.specs.Prelude.{ℕ, List, Option, Some, None, Result, Ok, Err}
use Rattle.osd_commands.specs.declared.commands.Command.{Command}
use Rattle.osd_commands.specs.declared.commands.CommandBlock.{CommandBlock}
use Rattle.osd_commands.specs.declared.commands.CommandErr.{CommandErr}
use Rattle.osd_commands.specs.Commands.{with_payload}
use Rattle.layout_ops.specs.declared.envelope.Envelope.{Envelope}
use Rattle.layout_ops.specs.declared.err.OpErr.{OpErr}

-- the command that was read
abbrev pub command_of : Result Command CommandErr → Option Command
command_of (Ok c) = Some c
command_of (Err e) = None

-- the command of a block and its payload, where there is a block
abbrev pub command_with : (payload : List ℕ) → Option CommandBlock → Option Command
command_with payload (Some b) = Some (with_payload b payload)
command_with payload None = None

-- the message between a client and the server that was read
abbrev pub message_of : Result Envelope OpErr → Option Envelope
message_of (Ok e) = Some e
message_of (Err e) = None
