-- Messages as bytes: what the server reads of them, and the spelling of what it sends.
use Rattle.std.specs.Prelude.{ℕ, List, Option, Some, None, Result, Ok, Err}
use Rattle.osd_lists.specs.declared.node.Node.{Node}
use Rattle.osd_lists.specs.declared.node.Node.TheVariants.{Server as TheServer, Drive as ADrive, Client as AClient}
use Rattle.layout_types.specs.declared.err.LayoutErr.{LayoutErr}
use Rattle.layout_types.specs.declared.update.LayoutUpdate.{LayoutUpdate}
use Rattle.layout_types.specs.declared.ioerrs.IoErrs.{IoErrs}
use Rattle.layout_types.specs.Grammar.{whole}
use Rattle.layout_types.specs.Reading.{update_in, ioerrs_in}
use Rattle.layout_ops.specs.declared.err.OpErr.{OpErr}
use Rattle.layout_ops.specs.declared.args.Args.{Args}
use Rattle.layout_ops.specs.declared.args.Args.TheVariants as args
use Rattle.layout_ops.specs.declared.messages.Request.{Request}
use Rattle.layout_ops.specs.declared.envelope.Envelope.{Envelope}
use Rattle.layout_ops.specs.declared.envelope.Envelope.TheVariants as envelope
use Rattle.layout_ops.specs.Reading.{envelope_of}
use Rattle.layout_ops.specs.Spelling.{envelope_item}
use Rattle.osd_commands.specs.declared.commands.CommandErr.{CommandErr}
use Rattle.osd_commands.specs.Commands as Commands
use Rattle.osd_commands.specs.Replies as Replies
use Rattle.server_rules.specs.State.{Server, RequestArgs, Get, Commit, Return, Reply, Outgoing, ToDrive, Recalls, Answers, AnswersOrder}
use Rattle.server_rules.specs.Files.{Step, still}
use Rattle.server_rules.specs.Messages.{Message, Asks, Replies as RepliesTo, Orders, on_message}

-- ---- what is read

-- a commit whose update can be read
abbrev pub commit_in : (last : Option ℕ) → Result LayoutUpdate LayoutErr → Option RequestArgs
commit_in last (Ok update) = Some (Commit last)
commit_in last (Err e) = None

-- a return whose report can be read
abbrev pub return_in : Result IoErrs LayoutErr → Option RequestArgs
return_in (Ok errors) = Some (Return errors.olr_ioerr_report)
return_in (Err e) = None

-- what a request asks, where its body can be read
abbrev pub asked_in : Args → Option RequestArgs
asked_in (args.LayoutGet a) = Some (Get a.iomode a.offset a.length)
asked_in (args.LayoutCommit a) = commit_in a.last_write_offset (whole update_in a.body)
asked_in (args.LayoutReturn a) = return_in (whole ioerrs_in a.body)

-- the request with that
abbrev pub request_with : Request → Option RequestArgs → Option Message
request_with q None = None
request_with q (Some asked) =
    Some (Asks (record { client = q.client; sequence = q.sequence; file = q.file; args = asked }))

-- requests and orders are for the server; it takes no other envelope
abbrev pub in_envelope : Envelope → Option Message
in_envelope (envelope.Request q) = request_with q (asked_in q.args)
in_envelope (envelope.Order o) = Some (Orders o)
in_envelope e = None

-- an envelope that the bytes spell
abbrev pub by_envelope : Result Envelope OpErr → Option Message
by_envelope (Ok e) = in_envelope e
by_envelope (Err e) = None

-- a reply that the bytes spell
abbrev pub by_reply : Result Reply CommandErr → Option Message
by_reply (Ok r) = Some (RepliesTo r)
by_reply (Err e) = None

-- drives send replies, all others envelopes
unfoldable pub message_in : Node → List ℕ → Option Message
message_in (ADrive d) bytes = by_reply (Replies.reading bytes)
message_in from bytes = by_envelope (envelope_of bytes)

-- bytes in which there is no message change nothing
abbrev pub on_message_in : Server → (now : ℕ) → (chosen : List ℕ) → Node → Option Message → Step
on_message_in s now chosen from None = still s
on_message_in s now chosen from (Some m) = on_message s now chosen from m

-- any bytes
abbrev pub on_bytes : Server → (now : ℕ) → (chosen : List ℕ) → Node → List ℕ → Step
on_bytes s now chosen from bytes = on_message_in s now chosen from (message_in from bytes)

-- ---- what is sent

-- to whom
abbrev pub receiver : Outgoing → Node
receiver (ToDrive drive c) = ADrive drive
receiver (Recalls r) = AClient r.client
receiver (Answers a) = AClient a.client
receiver (AnswersOrder a) = TheServer

-- the bytes that a message is sent as
abbrev pub bytes_of : Outgoing → List ℕ
bytes_of (ToDrive drive c) = Commands.spelling c
bytes_of (Recalls r) = envelope_item (envelope.Recall r)
bytes_of (Answers a) = envelope_item (envelope.Answer a)
bytes_of (AnswersOrder a) = envelope_item (envelope.OrderAnswer a)
