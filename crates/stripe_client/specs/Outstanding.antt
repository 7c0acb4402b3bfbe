-- The request whose answer is awaited, as the message that it was sent in.
use Rattle.std.specs.Prelude.{ℕ, List, Option, Some, None, ⊤}
use Rattle.layout_ops.specs.declared.messages.Request.{Request}
use Rattle.layout_ops.specs.declared.envelope.Envelope.{Envelope}
use Rattle.layout_ops.specs.declared.envelope.Envelope.TheVariants as envelope
use Rattle.layout_ops.specs.Spelling.{envelope_item, EnvelopeWritable}

-- the request of a message
abbrev pub request_in : Option Envelope → Option Request
request_in None = None
request_in (Some (envelope.Request r)) = Some r
request_in (Some e) = None

-- it can be sent once more
abbrev pub CanBeSent : Option Envelope → Type 0
CanBeSent None = ⊤
CanBeSent (Some e) = EnvelopeWritable e

-- its bytes
abbrev pub request_bytes : Request → List ℕ
request_bytes r = envelope_item (envelope.Request r)
