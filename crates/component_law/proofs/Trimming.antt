-- Bytes spell a number as far as they are wide, so an answer that is too wide is spelled as another one.
use Rattle.std.proofs.Common.{◌≡◌, ◌==◌, ℕ, ◌%◌, ◌<◌, true, Ok, sym, ap, ◌∙◌, arith}
use Rattle.std.proofs.lemmas.Bool.Decides.{nat_tests}
use Rattle.std.proofs.lemmas.Bool.{and_parts}
use Rattle.layout_ops.specs.declared.messages.Answer.{Answer}
use Rattle.layout_ops.specs.declared.envelope.Envelope.TheVariants as envelope
use Rattle.layout_ops.specs.Reading.{envelope_of}
use Rattle.layout_ops.specs.Spelling.{envelope_item, AnswerFits}
use Rattle.layout_ops.proofs.Whole.{all_again}
use Rattle.layout_ops.specs.declared.statuses.TheConstants.{NFS4_OK}
use Rattle.client_rules.specs.declared.limits.TheConstants.{LOSS_TAKEN}
use Rattle.client_rules.specs.Results.{status_of}
use Rattle.client_rules.specs.Answers.{is_loss_taken}
use Rattle.world_history.specs.Calm.{says_taken}
use Rattle.component_law.proofs.Numbers.{item_32, item_64}
use Rattle.component_law.proofs.Answering.{returned, IsPlain}

-- ---- numbers

below_32 : (n : ℕ) → n % 4294967296 < 4294967296
below_32 n = omega arith

below_64 : (n : ℕ) → n % 18446744073709551616 < 18446744073709551616
below_64 n = omega arith

-- ---- answers

-- as far as its bytes are wide
abbrev trimmed : Answer → Answer
trimmed a = record a {
  client = a.client % 4294967296;
  sequence = a.sequence % 4294967296;
  file = a.file % 4294967296;
  size = a.size % 18446744073709551616;
}

-- the same bytes
same_item : (a : Answer) → envelope_item (envelope.Answer (trimmed a)) ≡ envelope_item (envelope.Answer a)
same_item a = simp (item_32 a.client, item_32 a.sequence, item_32 a.file, item_64 a.size)

fits : (a : Answer) → a.detail ≡ 1 → a.results ≡ returned → AnswerFits (trimmed a)
fits a detail is = record {
  client = below_32 a.client;
  sequence = below_32 a.sequence;
  file = below_32 a.file;
  detail = omega (arith, detail);
  size = below_64 a.size;
  results = rw is tt;
}

detail_is : (a : Answer) → is_loss_taken a ≡ true → a.detail ≡ 1
detail_is a e =
    let is : (a.detail == LOSS_TAKEN) ≡ true =
    (and_parts (status_of a.results == NFS4_OK) (a.detail == LOSS_TAKEN) e).1 in
    grind (arith, nat_tests, is)

-- an answer that takes a loss is read so
pub taken_read : (a : Answer) → IsPlain a → is_loss_taken a ≡ true
    → says_taken (envelope_of (envelope_item (envelope.Answer a))) ≡ true
taken_read a plain e =
    let read : envelope_of (envelope_item (envelope.Answer (trimmed a))) ≡ Ok (envelope.Answer (trimmed a)) =
    all_again (envelope.Answer (trimmed a)) (fits a (detail_is a e) (plain.results e)) in
    ap (λ b. says_taken (envelope_of b)) (sym (same_item a)) ∙ ap says_taken read ∙ e
