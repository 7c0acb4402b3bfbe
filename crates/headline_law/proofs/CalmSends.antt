-- What the server sends says that a report was taken only as an answer that takes a loss.
-- Towards `ToldAreTaken` (`specs/Ending.antt`).
use Rattle.std.proofs.Common.{◌≡◌, ◌<◌, ◌^◌, ◌+◌, ◌-◌, ◌++◌, ◌||◌, ℕ, Bool, true, false, List, [], ◌∷◌, take, map, filter, length, replicate, Result, Ok, Err, refl, sym, ap, subst, ◌∙◌, inl, inr, arith, append_assoc, if◌then◌else◌}
use Rattle.std.specs.Int.{w16, w32, w64, to_be_bytes}
use Rattle.std.specs.List.{list_any}
use Rattle.std.proofs.lemmas.Bool.{cases_Bool}
use Rattle.xdr_codec.specs.Items.{u32_item}
use Rattle.xdr_codec.specs.Reading.{Rest}
use Rattle.layout_ops.specs.declared.err.OpErr.{OpErr}
use Rattle.layout_ops.specs.declared.messages.Answer.{Answer}
use Rattle.layout_ops.specs.declared.envelope.Envelope.{Envelope}
use Rattle.layout_ops.specs.declared.envelope.Envelope.TheVariants as envelope
use Rattle.layout_ops.specs.Spelling.{AnswerFits, envelope_item}
use Rattle.layout_ops.specs.Reading.{recall_in, order_answer_in, envelope_behind, envelope_in, envelope_of}
use Rattle.layout_ops.proofs.Fields.{u32_law}
use Rattle.layout_ops.proofs.Whole.{all_again}
use Rattle.osd_commands.specs.declared.commands.Command.{Command}
use Rattle.osd_commands.specs.Actions.{number_of}
use Rattle.osd_commands.specs.Commands.{magic, check_len, fields, head, spelling}
use Rattle.osd_capability.specs.Layout as cap
use Rattle.server_rules.specs.Laws.{In}
use Rattle.world_history.specs.ServerNames.{Outgoing, ToDrive, Recalls, Answers, AnswersOrder}
use Rattle.world_history.specs.Handed.{is_addressed, server_post}
use Rattle.world_history.specs.Sending.{sent_line, sent_lines}
use Rattle.world_history.specs.Calm.{is_told_taken, is_taken_out, says_taken, sent_taken}
use Rattle.history_law.proofs.Fronts.{codec_gets, next}
use Rattle.history_law.proofs.Parts.{message_ends}
use Rattle.history_law.proofs.Given.{other_kind}

-- ---- bytes that begin with the number of another kind

read_taken : (r : Result Envelope OpErr) → says_taken r ≡ true → (a : Answer) × (r ≡ Ok (envelope.Answer a))
read_taken (Ok (envelope.Answer a)) e = (a, refl)
read_taken (Ok (envelope.Request q)) e = absurd (cc e)
read_taken (Ok (envelope.Recall r)) e = absurd (cc e)
read_taken (Ok (envelope.RecallAnswer a)) e = absurd (cc e)
read_taken (Ok (envelope.Order o)) e = absurd (cc e)
read_taken (Ok (envelope.OrderAnswer a)) e = absurd (cc e)
read_taken (Err x) e = absurd (cc e)

-- with this number first no answer is read
abbrev IsOtherKind : ℕ → Type 0
IsOtherKind k = (i j : Rest) (at : ℕ) (a : Answer) → envelope_behind at (k, i) ≡ Ok (envelope.Answer a, j) → ⊥

not_taken : (k : ℕ) → k < 2 ^ 32 → IsOtherKind k → (more bytes : List ℕ) → bytes ≡ u32_item k ++ more →
    says_taken (envelope_of bytes) ≡ true → ⊥
unfolding envelope_of envelope_in
not_taken k low never more bytes is e =
    let r = read_taken (envelope_of bytes) e in
    let ends = message_ends envelope_in bytes (envelope.Answer r.0) r.1 in
    next _ (record { left = bytes; at = 0 }) more _ (envelope.Answer r.0, ends.rest) (codec_gets u32_law k low) is ends.read
    (λ n i1 same a1 r1.
    never i1 ends.rest 0 r.0 (subst (λ (x : ℕ). envelope_behind 0 (x, i1) ≡ Ok (envelope.Answer r.0, ends.rest)) same r1))

recall_kind : IsOtherKind 3
recall_kind i j at a e = other_kind recall_in envelope.Recall i a j (λ v f. absurd (cc f)) e

order_kind : IsOtherKind 6
order_kind i j at a e = other_kind order_answer_in envelope.OrderAnswer i a j (λ v f. absurd (cc f)) e

command_kind : IsOtherKind magic
command_kind i j at a e = absurd (cc e)

-- what stands behind the first number of a command
abbrev inner : Command → List ℕ
inner c =
    to_be_bytes w16 (number_of c.action) ++ (replicate 2 0 ++ (to_be_bytes w64 c.partition ++ (to_be_bytes w64 c.object
    ++ (to_be_bytes w64 c.offset ++ (to_be_bytes w64 c.length ++ (to_be_bytes w64 c.nonce
    ++ (to_be_bytes w32 c.attribute ++ (replicate 4 0 ++ (to_be_bytes w32 (length c.payload) ++ replicate 4 0)))))))))

-- the bytes for the check value, and the zeros in front of it
abbrev CHECK_ROOM : ℕ
CHECK_ROOM = 96

abbrev middle : Command → List ℕ
middle c = cap.spelling c.capability ++ replicate (CHECK_ROOM - check_len c.capability.format) 0

abbrev last : Command → List ℕ
last c = take (check_len c.capability.format) c.check ++ c.payload

command_front : (c : Command) → spelling c ≡ u32_item magic ++ (inner c ++ (middle c ++ last c))
unfolding spelling head fields u32_item
command_front c =
    append_assoc (fields c) (middle c) (last c) ∙ append_assoc (u32_item magic) (inner c) (middle c ++ last c)

-- ---- one message

pub out_back : (o : Outgoing) → ((a : Answer) → Answers a ≡ o → AnswerFits a) → (n : ℕ) →
    sent_taken (sent_line n (server_post o).message) ≡ true → is_taken_out o ≡ true
out_back (Answers a) fits n e = sym (ap says_taken (all_again (envelope.Answer a) (fits a refl))) ∙ e
out_back (Recalls r) fits n e = absurd (not_taken 3 (omega arith) recall_kind _ (envelope_item (envelope.Recall r)) refl e)
out_back (AnswersOrder a) fits n e =
    absurd (not_taken 6 (omega arith) order_kind _ (envelope_item (envelope.OrderAnswer a)) refl e)
out_back (ToDrive d c) fits n e =
    absurd (not_taken magic (omega arith) command_kind (inner c ++ (middle c ++ last c)) (spelling c) (command_front c) e)

-- ---- all that are sent

or_first : (a b : Bool) → a ≡ true → (a || b) ≡ true
or_first true b e = refl
or_first false b e = absurd (cc e)

or_later : (a b : Bool) → b ≡ true → (a || b) ≡ true
or_later true b e = refl
or_later false b e = e

pub sends_back : (os : List Outgoing) → ((a : Answer) → In (Answers a) os → AnswerFits a) → (n : ℕ) →
    is_told_taken (sent_lines n (filter is_addressed (map server_post os))) ≡ true → list_any is_taken_out os ≡ true
unfolding sent_lines
sends_back [] fits n e = absurd (cc e)
sends_back (o ∷ os) fits n e =
    by (λ k. sends_back os (λ a there. fits a (inr there)) k) (is_addressed (server_post o)) e
  where
    by : ((k : ℕ) → is_told_taken (sent_lines k (filter is_addressed (map server_post os))) ≡ true →
        list_any is_taken_out os ≡ true) → (b : Bool) →
        is_told_taken (sent_lines n (if b then server_post o ∷ filter is_addressed (map server_post os)
        else filter is_addressed (map server_post os))) ≡ true → (is_taken_out o || list_any is_taken_out os) ≡ true
    by rest false t = or_later (is_taken_out o) (list_any is_taken_out os) (rest n t)
    by rest true t = elim (cases_Bool (sent_taken (sent_line n (server_post o).message))) [
      | inl own ↦
          or_first (is_taken_out o) (list_any is_taken_out os) (out_back o (λ a same. fits a (inl same)) n own)
      | inr none ↦ or_later (is_taken_out o) (list_any is_taken_out os) (rest (n + 1) (rw none at t))
    ]
