-- Which records answer a message to the server.
use Rattle.std.specs.Prelude.{ℕ, Bool, false, List, Result, Ok, ◌==◌, ◌&&◌}
use Rattle.layout_ops.specs.declared.err.OpErr.{OpErr}
use Rattle.layout_ops.specs.declared.envelope.Envelope.{Envelope}
use Rattle.layout_ops.specs.declared.envelope.Envelope.TheVariants as envelope
use Rattle.layout_ops.specs.declared.messages.Answer.{Answer}
use Rattle.layout_ops.specs.declared.messages.Request.{Request}
use Rattle.layout_ops.specs.Enumerations.{operation_number}
use Rattle.layout_ops.specs.Reading.{envelope_of}
use Rattle.layout_ops.specs.Spelling.{operation_of_args, operation_of_results}

-- an answer has the client, the sequence number, the file and the operation of a request
abbrev pub is_answer : Request → Answer → Bool
is_answer r a =
    (a.client == r.client)
    && ((a.sequence == r.sequence)
    && ((a.file == r.file) && (operation_number (operation_of_results a.results) == operation_number (operation_of_args r.args))))

-- what was read of a record is an answer to a request
abbrev pub answers_request : Request → Result Envelope OpErr → Bool
answers_request r (Ok (envelope.Answer a)) = is_answer r a
answers_request r read = false

-- what was read of a message is a request, and what was read of a record an answer to it
abbrev pub answers_message : Result Envelope OpErr → Result Envelope OpErr → Bool
answers_message (Ok (envelope.Request r)) read = answers_request r read
answers_message message read = false

-- a record answers a message, by the envelopes that the two spell
abbrev pub is_answer_to : (message came : List ℕ) → Bool
is_answer_to message came = answers_message (envelope_of message) (envelope_of came)
