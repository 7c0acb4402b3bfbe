-- Messages as bytes: what a client reads of them, and the spelling of what it sends.
use Rattle.std.specs.Prelude.{ℕ, List, Option, Some, None, Result, Ok, Err}
use Rattle.osd_lists.specs.declared.node.Node.{Node}
use Rattle.osd_lists.specs.declared.node.Node.TheVariants.{Server as TheServer, Drive as ADrive}
use Rattle.layout_ops.specs.declared.err.OpErr.{OpErr}
use Rattle.layout_ops.specs.declared.envelope.Envelope.{Envelope}
use Rattle.layout_ops.specs.declared.envelope.Envelope.TheVariants as envelope
use Rattle.layout_ops.specs.Reading.{envelope_of}
use Rattle.layout_ops.specs.Spelling.{envelope_item}
use Rattle.osd_commands.specs.declared.commands.CommandErr.{CommandErr}
use Rattle.osd_commands.specs.Commands as commands
use Rattle.osd_commands.specs.Replies as replies
use Rattle.client_rules.specs.State.{Client, Outgoing, AnswersRecall, Asks, ToDrive, Reply}
use Rattle.client_rules.specs.Messages.{Message, Replies, Answers, Recalls, Step, still, hears}

-- ---- what is read

-- answers and recalls are for clients; a client takes no other envelope
abbrev pub in_envelope : Envelope → Option Message
in_envelope (envelope.Answer a) = Some (Answers a)
in_envelope (envelope.Recall r) = Some (Recalls r)
in_envelope e = None

-- an envelope that the bytes spell
abbrev pub by_envelope : Result Envelope OpErr → Option Message
by_envelope (Ok e) = in_envelope e
by_envelope (Err e) = None

-- a reply that the bytes spell
abbrev pub by_reply : Result Reply CommandErr → Option Message
by_reply (Ok r) = Some (Replies r)
by_reply (Err e) = None

-- drives send replies, and the server envelopes; nobody else sends a client anything
unfoldable pub message_in : Node → List ℕ → Option Message
message_in (ADrive d) bytes = by_reply (replies.reading bytes)
message_in TheServer bytes = by_envelope (envelope_of bytes)
message_in from bytes = None

-- bytes in which there is no message change nothing
abbrev pub on_message_in : Client → Node → Option Message → Step
on_message_in c from None = still c
on_message_in c from (Some m) = hears c from m

-- any bytes
abbrev pub on_bytes : Client → Node → List ℕ → Step
on_bytes c from bytes = on_message_in c from (message_in from bytes)

-- ---- what is sent

-- to whom
abbrev pub receiver : Outgoing → Node
receiver (AnswersRecall a) = TheServer
receiver (Asks r) = TheServer
receiver (ToDrive drive c) = ADrive drive

-- and as which bytes
abbrev pub bytes_of : Outgoing → List ℕ
bytes_of (AnswersRecall a) = envelope_item (envelope.RecallAnswer a)
bytes_of (Asks r) = envelope_item (envelope.Request r)
bytes_of (ToDrive drive c) = commands.spelling c
