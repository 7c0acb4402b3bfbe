-- What is read of a request and an answer that were spelled, however wide their other numbers are.
use Rattle.std.proofs.Common.{◌≡◌, ◌<◌, ◌^◌, ℕ, List, Option, Some, None, Result, Ok, Err, refl, sym, ap, subst, ◌∙◌, arith}
use Rattle.osd_lists.specs.declared.node.Node.TheVariants as node
use Rattle.xdr_codec.specs.Reading.{Rest, ◌>>=◌}
use Rattle.xdr_codec.proofs.ItemLaws.{bind_ok, ok_is}
use Rattle.layout_ops.specs.declared.err.OpErr.{OpErr}
use Rattle.layout_ops.specs.declared.args.Args.{Args}
use Rattle.layout_ops.specs.declared.results.Results.{Results}
use Rattle.layout_ops.specs.declared.messages.Request.{Request}
use Rattle.layout_ops.specs.declared.messages.Answer.{Answer}
use Rattle.layout_ops.specs.declared.recalls.Recall.{Recall}
use Rattle.layout_ops.specs.declared.recalls.RecallAnswer.{RecallAnswer}
use Rattle.layout_ops.specs.declared.envelope.Envelope.{Envelope}
use Rattle.layout_ops.specs.declared.envelope.Envelope.TheVariants as envelope
use Rattle.layout_ops.specs.Spelling.{EnvelopeFits, operation_of_args, operation_of_results, request_item, answer_item, envelope_item}
use Rattle.layout_ops.specs.Reading.{args_in, results_in, request_in, answer_in, recall_in, recall_answer_in, envelope_behind, envelope_in, envelope_of}
use Rattle.layout_ops.proofs.Fields.{u32_law, operation_law}
use Rattle.layout_ops.proofs.Steps.{named}
use Rattle.layout_ops.proofs.Whole.{all_again}
use Rattle.history_law.proofs.Fronts.{codec_gets, next}
use Rattle.history_law.proofs.Parts.{field_32, field_64, message_ends}
use Rattle.server_rules.specs.declared.requests.RequestArgs.{RequestArgs}
use Rattle.server_rules.specs.declared.requests.ClientRequest.{ClientRequest}
use Rattle.server_rules.specs.Messages.{Asks}
use Rattle.server_rules.specs.Envelopes as server
use Rattle.client_rules.specs.Messages.{Answers}
use Rattle.client_rules.specs.Envelopes as client

-- ---- the first two numbers

-- they fit their places
abbrev pub AreNarrow : (client sequence : ℕ) → Type 0
AreNarrow client sequence = (client < 2 ^ 32) × (sequence < 2 ^ 32)

request_head : (r : Request) (i : Rest) (x : Request × Rest) → AreNarrow r.client r.sequence → i.left ≡ request_item r
    → request_in i ≡ Ok x → (x.0.client ≡ r.client) × (x.0.sequence ≡ r.sequence)
unfolding request_in
request_head r i x fits at e =
    next _ i _ _ x (codec_gets u32_law r.client fits.0) at e (λ n1 i1 c1 a1 r1.
    next _ i1 _ _ x (codec_gets u32_law r.sequence fits.1) a1 r1 (λ n2 i2 c2 a2 r2.
    next _ i2 _ _ x (field_32 r.file) a2 r2 (λ n3 i3 c3 a3 r3.
    next _ i3 _ _ x (codec_gets operation_law (operation_of_args r.args) tt) a3 r3 (λ n4 i4 c4 a4 r4.
    let put : Args × Rest → Result (Request × Rest) OpErr = λ (v : Args × Rest). Ok (
      record {
        client = n1;
        sequence = n2;
        file = n3;
        args = v.0;
      },
      v.1,
    ) in
    let last = bind_ok (args_in n4 i4) put x r4 in
    let same = ok_is (record { client = n1; sequence = n2; file = n3; args = last.0.0 }, last.0.1) x last.2 in (
      sym (ap (λ (p : Request × Rest). p.0.client) same) ∙ c1,
      sym (ap (λ (p : Request × Rest). p.0.sequence) same) ∙ c2,
    )))))

answer_head : (a : Answer) (i : Rest) (x : Answer × Rest) → AreNarrow a.client a.sequence → i.left ≡ answer_item a
    → answer_in i ≡ Ok x → (x.0.client ≡ a.client) × (x.0.sequence ≡ a.sequence)
unfolding answer_in
answer_head a i x fits at e =
    next _ i _ _ x (codec_gets u32_law a.client fits.0) at e (λ n1 i1 c1 a1 r1.
    next _ i1 _ _ x (codec_gets u32_law a.sequence fits.1) a1 r1 (λ n2 i2 c2 a2 r2.
    next _ i2 _ _ x (field_32 a.file) a2 r2 (λ n3 i3 c3 a3 r3.
    next _ i3 _ _ x (codec_gets operation_law (operation_of_results a.results) tt) a3 r3 (λ n4 i4 c4 a4 r4.
    next _ i4 _ _ x (field_32 a.detail) a4 r4 (λ n5 i5 c5 a5 r5.
    next _ i5 _ _ x (field_64 a.size) a5 r5 (λ n6 i6 c6 a6 r6.
    let put : Results × Rest → Result (Answer × Rest) OpErr = λ (v : Results × Rest). Ok (
      record {
        client = n1;
        sequence = n2;
        file = n3;
        detail = n5;
        size = n6;
        results = v.0;
      },
      v.1,
    ) in
    let last = bind_ok (results_in n4 i6) put x r6 in
    let same = ok_is (
      record {
        client = n1;
        sequence = n2;
        file = n3;
        detail = n5;
        size = n6;
        results = last.0.0;
      },
      last.0.1,
    ) x last.2 in (
      sym (ap (λ (p : Answer × Rest). p.0.client) same) ∙ c1,
      sym (ap (λ (p : Answer × Rest). p.0.sequence) same) ∙ c2,
    )))))))

-- ---- the kind of a message

-- the kind that is read is the one that was spelled
kind_is : {V : Type 0} (read : Rest → Result (V × Rest) OpErr) (name : V → Envelope) (i : Rest) (e : Envelope)
    (j : Rest) → (read i >>= named name) ≡ Ok (e, j) → (v : V) × (read i ≡ Ok (v, j)) × (name v ≡ e)
kind_is {V = V} read name i e j is =
    let b = bind_ok (read i) (named name) (e, j) is in
    let same = ok_is (name b.0.0, b.0.1) (e, j) b.2 in (
      b.0.0,
      b.1 ∙ ap (λ (k : Rest). Ok (b.0.0, k)) (ap (λ (p : Envelope × Rest). p.1) same),
      ap (λ (p : Envelope × Rest). p.0) same,
    )

request_kind : (r q : Request) (i j : Rest) → AreNarrow r.client r.sequence
    → i.left ≡ envelope_item (envelope.Request r)
    → envelope_in i ≡ Ok (envelope.Request q, j) → (q.client ≡ r.client) × (q.sequence ≡ r.sequence)
unfolding envelope_in
request_kind r q i j fits at e =
    next _ i _ _ (envelope.Request q, j) (codec_gets u32_law 1 (omega arith)) at e (λ n i1 is a1 r1.
    let k = kind_is request_in envelope.Request i1 (envelope.Request q) j
    (subst (λ (m : ℕ). envelope_behind i.at (m, i1) ≡ Ok (envelope.Request q, j)) is r1) in
    let same : k.0 ≡ q = cc (k.2) in
    subst (λ (x : Request). (x.client ≡ r.client) × (x.sequence ≡ r.sequence)) same
    (request_head r i1 (k.0, j) fits a1 k.1))

recall_answer_kind : (v : RecallAnswer) (q : Request) (i j : Rest) → i.left ≡ envelope_item (envelope.RecallAnswer v)
    → envelope_in i ≡ Ok (envelope.Request q, j) → ⊥
unfolding envelope_in
recall_answer_kind v q i j at e =
    next _ i _ _ (envelope.Request q, j) (codec_gets u32_law 4 (omega arith)) at e (λ n i1 is a1 r1.
    let k = kind_is recall_answer_in envelope.RecallAnswer i1 (envelope.Request q) j
    (subst (λ (m : ℕ). envelope_behind i.at (m, i1) ≡ Ok (envelope.Request q, j)) is r1) in
    absurd (cc (k.2)))

answer_kind : (a b : Answer) (i j : Rest) → AreNarrow a.client a.sequence → i.left ≡ envelope_item (envelope.Answer a)
    → envelope_in i ≡ Ok (envelope.Answer b, j) → (b.client ≡ a.client) × (b.sequence ≡ a.sequence)
unfolding envelope_in
answer_kind a b i j fits at e =
    next _ i _ _ (envelope.Answer b, j) (codec_gets u32_law 2 (omega arith)) at e (λ n i1 is a1 r1.
    let k = kind_is answer_in envelope.Answer i1 (envelope.Answer b) j
    (subst (λ (m : ℕ). envelope_behind i.at (m, i1) ≡ Ok (envelope.Answer b, j)) is r1) in
    let same : k.0 ≡ b = cc (k.2) in
    subst (λ (x : Answer). (x.client ≡ a.client) × (x.sequence ≡ a.sequence)) same
    (answer_head a i1 (k.0, j) fits a1 k.1))

recall_kind : (v : Recall) (b : Answer) (i j : Rest) → i.left ≡ envelope_item (envelope.Recall v)
    → envelope_in i ≡ Ok (envelope.Answer b, j) → ⊥
unfolding envelope_in
recall_kind v b i j at e =
    next _ i _ _ (envelope.Answer b, j) (codec_gets u32_law 3 (omega arith)) at e (λ n i1 is a1 r1.
    let k = kind_is recall_in envelope.Recall i1 (envelope.Answer b) j
    (subst (λ (m : ℕ). envelope_behind i.at (m, i1) ≡ Ok (envelope.Answer b, j)) is r1) in
    absurd (cc (k.2)))

-- ---- what the server reads

-- a request that was spelled so
abbrev IsReadAs : Result Envelope OpErr → ClientRequest → Type 0
IsReadAs r q = (v : Request) × (r ≡ Ok (envelope.Request v)) × (q.client ≡ v.client) × (q.sequence ≡ v.sequence)

with_args : (v : Request) (o : Option RequestArgs) (q : ClientRequest) → server.request_with v o ≡ Some (Asks q)
    → (q.client ≡ v.client) × (q.sequence ≡ v.sequence)
with_args v None q e = absurd (cc e)
with_args v (Some asked) q e =
    let same : record { client = v.client; sequence = v.sequence; file = v.file; args = asked } ≡ q = cc e in
    (sym (ap (λ (x : ClientRequest). x.client) same), sym (ap (λ (x : ClientRequest). x.sequence) same))

asks_in : (r : Result Envelope OpErr) (q : ClientRequest) → server.by_envelope r ≡ Some (Asks q) → IsReadAs r q
asks_in (Ok (envelope.Request v)) q e = let w = with_args v (server.asked_in v.args) q e in (v, refl, w.0, w.1)
asks_in (Ok (envelope.Order o)) q e = absurd (cc e)
asks_in (Ok (envelope.Answer a)) q e = absurd (cc e)
asks_in (Ok (envelope.Recall v)) q e = absurd (cc e)
asks_in (Ok (envelope.RecallAnswer a)) q e = absurd (cc e)
asks_in (Ok (envelope.OrderAnswer a)) q e = absurd (cc e)
asks_in (Err x) q e = absurd (cc e)

pub server_reads : (c : ℕ) (r : Request) (q : ClientRequest) → AreNarrow r.client r.sequence
    → server.message_in (node.Client c) (envelope_item (envelope.Request r)) ≡ Some (Asks q)
    → (q.client ≡ r.client) × (q.sequence ≡ r.sequence)
unfolding server.message_in envelope_of
server_reads c r q fits e =
    let bytes : List ℕ = envelope_item (envelope.Request r) in
    let a = asks_in (envelope_of bytes) q e in
    let ends = message_ends envelope_in bytes (envelope.Request a.0) a.1 in
    let w = request_kind r a.0 (record { left = bytes; at = 0 }) ends.rest fits refl ends.read in
    (a.2 ∙ w.0, a.3 ∙ w.1)

pub server_reads_none : (c : ℕ) (v : RecallAnswer) (q : ClientRequest)
    → server.message_in (node.Client c) (envelope_item (envelope.RecallAnswer v)) ≡ Some (Asks q) → ⊥
unfolding server.message_in envelope_of
server_reads_none c v q e =
    let bytes : List ℕ = envelope_item (envelope.RecallAnswer v) in
    let a = asks_in (envelope_of bytes) q e in
    let ends = message_ends envelope_in bytes (envelope.Request a.0) a.1 in
    recall_answer_kind v a.0 (record { left = bytes; at = 0 }) ends.rest refl ends.read

-- ---- what a client reads

answers_in : (r : Result Envelope OpErr) (b : Answer) → client.by_envelope r ≡ Some (Answers b)
    → r ≡ Ok (envelope.Answer b)
answers_in (Ok (envelope.Answer a)) b e = let same : a ≡ b = cc e in ap (λ (x : Answer). Ok (envelope.Answer x)) same
answers_in (Ok (envelope.Request v)) b e = absurd (cc e)
answers_in (Ok (envelope.Order o)) b e = absurd (cc e)
answers_in (Ok (envelope.Recall v)) b e = absurd (cc e)
answers_in (Ok (envelope.RecallAnswer a)) b e = absurd (cc e)
answers_in (Ok (envelope.OrderAnswer a)) b e = absurd (cc e)
answers_in (Err x) b e = absurd (cc e)

pub client_reads : (a b : Answer) → AreNarrow a.client a.sequence
    → client.message_in node.Server (envelope_item (envelope.Answer a)) ≡ Some (Answers b)
    → (b.client ≡ a.client) × (b.sequence ≡ a.sequence)
unfolding client.message_in envelope_of
client_reads a b fits e =
    let bytes : List ℕ = envelope_item (envelope.Answer a) in
    let read = answers_in (envelope_of bytes) b e in
    let ends = message_ends envelope_in bytes (envelope.Answer b) read in
    answer_kind a b (record { left = bytes; at = 0 }) ends.rest fits refl ends.read

pub client_reads_none : (v : Recall) (b : Answer)
    → client.message_in node.Server (envelope_item (envelope.Recall v)) ≡ Some (Answers b) → ⊥
unfolding client.message_in envelope_of
client_reads_none v b e =
    let bytes : List ℕ = envelope_item (envelope.Recall v) in
    let read = answers_in (envelope_of bytes) b e in
    let ends = message_ends envelope_in bytes (envelope.Answer b) read in
    recall_kind v b (record { left = bytes; at = 0 }) ends.rest refl ends.read

-- where all its numbers fit, it reads what was spelled
one_answer : (r : Result Envelope OpErr) (a b : Answer) → r ≡ Ok (envelope.Answer b) → r ≡ Ok (envelope.Answer a)
    → b ≡ a
one_answer r a b e f = cc (sym e ∙ f)

pub client_exact : (a b : Answer) → EnvelopeFits (envelope.Answer a)
    → client.message_in node.Server (envelope_item (envelope.Answer a)) ≡ Some (Answers b) → b ≡ a
unfolding client.message_in
client_exact a b fits e =
    one_answer (envelope_of (envelope_item (envelope.Answer a))) a b
    (answers_in (envelope_of (envelope_item (envelope.Answer a))) b e) (all_again (envelope.Answer a) fits)
