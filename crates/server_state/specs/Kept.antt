-- The answer that a slot keeps, as bytes.
use Rattle.std.specs.Prelude.{ℕ, List, [], ◌∷◌, None, Result, Ok, ◌≡◌, ◌==◌, suc, if◌then◌else◌}
use Rattle.layout_ops.specs.declared.err.OpErr.{OpErr}
use Rattle.layout_ops.specs.declared.envelope.Envelope.{Envelope}
use Rattle.layout_ops.specs.declared.envelope.Envelope.TheVariants as envelope
use Rattle.layout_ops.specs.declared.results.LayoutReturnResult.TheVariants as return
use Rattle.layout_ops.specs.declared.results.Results.TheVariants as results
use Rattle.layout_ops.specs.Reading.{envelope_of}
use Rattle.layout_ops.specs.declared.messages.Answer.{Answer}
use Rattle.server_rules.specs.declared.server.Outgoing.TheVariants.{Answers}
use Rattle.server_rules.specs.declared.server.Slot.{Slot}
use Rattle.server_rules.specs.Envelopes.{bytes_of}

-- an answer that no bytes are kept of
abbrev pub no_answer : Answer
no_answer = record {
  client = 0;
  sequence = 0;
  file = 0;
  detail = 0;
  size = 0;
  results = results.LayoutReturn (return.Returned None);
}

abbrev pub answer_of : Result Envelope OpErr → Answer
answer_of (Ok (envelope.Answer a)) = a
answer_of r = no_answer

-- the answer that these bytes spell
abbrev pub answer_in : List ℕ → Answer
answer_in bytes = answer_of (envelope_of bytes)

-- the bytes spell an answer, and it is the client's
pub record IsKept (holder : ℕ) (bytes : List ℕ) : Type 0 where
  pub spelled : bytes ≡ bytes_of (Answers (answer_in bytes))
  pub client : (answer_in bytes).client ≡ holder

-- the number of the client's slot, or of all slots where it has none
unfoldable pub place_in : List Slot → (client : ℕ) → ℕ
place_in [] client = 0
place_in (s ∷ ss) client = if s.client == client then 0 else suc (place_in ss client)
