-- Reading a message and spelling it are each other's inverse.
use Rattle.std.proofs.Common.{◌≡◌, ℕ, eqb, List, [], ◌∷◌, ◌++◌, Result, Ok, refl, sym, ap, subst, ◌∙◌, arith, inl, inr}
use Rattle.std.specs.Prelude.{⊤}
use Rattle.std.proofs.lemmas.Bool.{eqb-true}
use Rattle.osd_lists.specs.Blocks.{IsBytes}
use Rattle.xdr_codec.specs.Items.{u32_item, u64_item}
use Rattle.xdr_codec.specs.Reading.{Rest, ◌>>=◌}
use Rattle.xdr_codec.proofs.Codec.{IsCodec}
use Rattle.xdr_codec.proofs.ItemLaws.{ok_is, err_is_not, chosen}
use Rattle.layout_types.proofs.Steps.{gathered, after}
use Rattle.layout_ops.specs.declared.err.OpErr.{OpErr}
use Rattle.layout_ops.specs.declared.messages.Request.{Request}
use Rattle.layout_ops.specs.declared.messages.Answer.{Answer}
use Rattle.layout_ops.specs.declared.envelope.Envelope.{Envelope}
use Rattle.layout_ops.specs.declared.operation.Operation.{Operation}
use Rattle.layout_ops.specs.declared.envelope.Envelope.TheVariants as envelope
use Rattle.layout_ops.specs.Enumerations.{operation_number}
use Rattle.layout_ops.specs.Spelling.{operation_of_args, args_item, operation_of_results, results_item, request_item, RequestFits, answer_item, AnswerFits, recall_item, RecallFits, recall_answer_item, RecallAnswerFits, order_item, OrderFits, order_answer_item, envelope_item, EnvelopeFits}
use Rattle.layout_ops.specs.Reading.{request_in, answer_in, recall_in, recall_answer_in, order_in, order_answer_in, envelope_in}
use Rattle.layout_ops.proofs.Steps.{took, step, Ends, in_parts, first, last, named, put_under}
use Rattle.layout_ops.proofs.Fields.{u32_law, u64_law, operation_law}
use Rattle.layout_ops.proofs.ArgsCodecs.{args_law, recall_codec, recall_answer_codec, order_codec, order_answer_codec}
use Rattle.layout_ops.proofs.ResultsCodecs.{results_law}

-- ---- Request

request_again : (v : Request) (more : List ℕ) (at : ℕ) → RequestFits v →
    Ends (request_in (record { left = request_item v ++ more; at = at })) v more
unfolding request_in
request_again v more at fits =
    in_parts request_in
    (u32_item v.client ∷ u32_item v.sequence ∷ u32_item v.file ∷ u32_item
    (operation_number (operation_of_args v.args)) ∷ args_item v.args ∷ []) at v more
    (first _ _ _ _ _ u32_law v.client fits.client
    (λ _. first _ _ _ _ _ u32_law v.sequence fits.sequence
    (λ _. first _ _ _ _ _ u32_law v.file fits.file
    (λ _. first _ _ _ _ _ operation_law (operation_of_args v.args) tt
    (λ _. last _ _ _ _ (args_law (operation_of_args v.args)) v.args (fits.args, refl) (λ _. refl))))))

request_found : (i : Rest) (v : Request) (j : Rest) → IsBytes i.left → request_in i ≡ Ok (v, j) →
    RequestFits v × (i.left ≡ request_item v ++ j.left)
unfolding request_in
request_found i v j bytes e =
    took i _ (v, j) u32_law bytes e (λ a a1 af ae ab ar.
    took a1 _ (v, j) u32_law ab ar (λ b b1 bf be bb br.
    took b1 _ (v, j) u32_law bb br (λ c c1 cf ce cb cr.
    took c1 _ (v, j) operation_law cb cr (λ d d1 df de db dr.
    took d1 _ (v, j) (args_law d) db dr (λ f f1 ff fe fb fr.
    let op : c1.left ≡ u32_item (operation_number (operation_of_args f)) ++ d1.left =
    de ∙ ap (λ (o : Operation). u32_item (operation_number o) ++ d1.left) (sym ff.1) in
    subst (λ (p : Request × Rest). RequestFits p.0 × (i.left ≡ request_item p.0 ++ p.1.left)) (ok_is _ (v, j) fr) (
      record { client = af; sequence = bf; file = cf; args = ff.0 },
      gathered (u32_item a ∷ u32_item b ∷ u32_item c ∷ u32_item (operation_number (operation_of_args f)) ∷ args_item f ∷ [])
          i.left f1.left (ae ∙ after _ _ _ (be ∙ after _ _ _ (ce ∙ after _ _ _ (op ∙ after _ _ _ fe)))),
    ))))))

pub request_codec : IsCodec request_in request_item RequestFits
request_codec = record { again = request_again; found = request_found }

-- ---- Answer

answer_again : (v : Answer) (more : List ℕ) (at : ℕ) → AnswerFits v →
    Ends (answer_in (record { left = answer_item v ++ more; at = at })) v more
unfolding answer_in
answer_again v more at fits =
    in_parts answer_in
    (u32_item v.client ∷ u32_item v.sequence ∷ u32_item v.file ∷ u32_item
    (operation_number (operation_of_results v.results)) ∷ u32_item v.detail ∷ u64_item v.size ∷ results_item v.results ∷ [])
    at v more
    (first _ _ _ _ _ u32_law v.client fits.client
    (λ _. first _ _ _ _ _ u32_law v.sequence fits.sequence
    (λ _. first _ _ _ _ _ u32_law v.file fits.file
    (λ _. first _ _ _ _ _ operation_law (operation_of_results v.results) tt
    (λ _. first _ _ _ _ _ u32_law v.detail fits.detail
    (λ _. first _ _ _ _ _ u64_law v.size fits.size
    (λ _. last _ _ _ _ (results_law (operation_of_results v.results)) v.results (fits.results, refl) (λ _. refl))))))))

answer_found : (i : Rest) (v : Answer) (j : Rest) → IsBytes i.left → answer_in i ≡ Ok (v, j) →
    AnswerFits v × (i.left ≡ answer_item v ++ j.left)
unfolding answer_in
answer_found i v j bytes e =
    took i _ (v, j) u32_law bytes e (λ a a1 af ae ab ar.
    took a1 _ (v, j) u32_law ab ar (λ b b1 bf be bb br.
    took b1 _ (v, j) u32_law bb br (λ c c1 cf ce cb cr.
    took c1 _ (v, j) operation_law cb cr (λ d d1 df de db dr.
    took d1 _ (v, j) u32_law db dr (λ f f1 ff fe fb fr.
    took f1 _ (v, j) u64_law fb fr (λ g g1 gf ge gb gr.
    took g1 _ (v, j) (results_law d) gb gr (λ h h1 hf he hb hr.
    let op : c1.left ≡ u32_item (operation_number (operation_of_results h)) ++ d1.left =
    de ∙ ap (λ (o : Operation). u32_item (operation_number o) ++ d1.left) (sym hf.1) in
    subst (λ (p : Answer × Rest). AnswerFits p.0 × (i.left ≡ answer_item p.0 ++ p.1.left)) (ok_is _ (v, j) hr) (
      record { client = af; sequence = bf; file = cf; detail = ff; size = gf; results = hf.0 },
      gathered (u32_item a ∷ u32_item b ∷ u32_item c ∷ u32_item
          (operation_number (operation_of_results h)) ∷ u32_item f ∷ u64_item g ∷ results_item h ∷ []) i.left h1.left
          (ae ∙ after _ _ _
          (be ∙ after _ _ _ (ce ∙ after _ _ _ (op ∙ after _ _ _ (fe ∙ after _ _ _ (ge ∙ after _ _ _ he)))))),
    ))))))))

pub answer_codec : IsCodec answer_in answer_item AnswerFits
answer_codec = record { again = answer_again; found = answer_found }

-- ---- Envelope

envelope_again : (v : Envelope) (more : List ℕ) (at : ℕ) → EnvelopeFits v →
    Ends (envelope_in (record { left = envelope_item v ++ more; at = at })) v more
unfolding envelope_in
envelope_again (envelope.Request v) more at fits =
    in_parts envelope_in (u32_item 1 ∷ request_item v ∷ []) at (envelope.Request v) more
    (first _ _ _ _ _ u32_law 1 (omega arith) (λ _. last _ _ _ _ request_codec v fits (λ _. refl)))
envelope_again (envelope.Answer v) more at fits =
    in_parts envelope_in (u32_item 2 ∷ answer_item v ∷ []) at (envelope.Answer v) more
    (first _ _ _ _ _ u32_law 2 (omega arith) (λ _. last _ _ _ _ answer_codec v fits (λ _. refl)))
envelope_again (envelope.Recall v) more at fits =
    in_parts envelope_in (u32_item 3 ∷ recall_item v ∷ []) at (envelope.Recall v) more
    (first _ _ _ _ _ u32_law 3 (omega arith) (λ _. last _ _ _ _ recall_codec v fits (λ _. refl)))
envelope_again (envelope.RecallAnswer v) more at fits =
    in_parts envelope_in (u32_item 4 ∷ recall_answer_item v ∷ []) at (envelope.RecallAnswer v) more
    (first _ _ _ _ _ u32_law 4 (omega arith) (λ _. last _ _ _ _ recall_answer_codec v fits (λ _. refl)))
envelope_again (envelope.Order v) more at fits =
    in_parts envelope_in (u32_item 5 ∷ order_item v ∷ []) at (envelope.Order v) more
    (first _ _ _ _ _ u32_law 5 (omega arith) (λ _. last _ _ _ _ order_codec v fits (λ _. refl)))
envelope_again (envelope.OrderAnswer v) more at fits =
    in_parts envelope_in (u32_item 6 ∷ order_answer_item v ∷ []) at (envelope.OrderAnswer v) more
    (first _ _ _ _ _ u32_law 6 (omega arith) (λ _. last _ _ _ _ order_answer_codec v tt (λ _. refl)))

-- a message of one kind, behind the kind's number
abbrev IsEnvelope : Rest → Rest → Envelope → Type 0
IsEnvelope i j v = EnvelopeFits v × (i.left ≡ envelope_item v ++ j.left)

of_kind : {V : Type 0} (read : Rest → Result (V × Rest) OpErr) (spelling : V → List ℕ) (Fits : V → Type 0) (name : V → Envelope)
    (kind n : ℕ) (i x : Rest) (v : Envelope) (j : Rest) →
    IsCodec read spelling Fits → ((w : V) → Fits w → EnvelopeFits (name w)) →
    ((w : V) → envelope_item (name w) ≡ u32_item kind ++ spelling w) →
    n ≡ kind → i.left ≡ u32_item n ++ x.left → IsBytes x.left → (read x >>= named name) ≡ Ok (v, j) → IsEnvelope i j v
of_kind read spelling Fits name kind n i x v j codec fit spelled same front bytes e =
    let b = put_under read spelling Fits x name v j codec bytes e in
    let first_front : i.left ≡ u32_item kind ++ x.left = front ∙ ap (λ (k : ℕ). u32_item k ++ x.left) same in
    let all = gathered (u32_item kind ∷ spelling b.0 ∷ []) i.left j.left (first_front ∙ after _ _ _ b.3) in
    subst (IsEnvelope i j) b.1 (fit b.0 b.2, all ∙ ap (λ (t : List ℕ). t ++ j.left) (sym (spelled b.0)))

envelope_found : (i : Rest) (v : Envelope) (j : Rest) → IsBytes i.left → envelope_in i ≡ Ok (v, j) →
    EnvelopeFits v × (i.left ≡ envelope_item v ++ j.left)
unfolding envelope_in
envelope_found i v j bytes e =
    let a = step _ _ _ i _ (v, j) u32_law bytes e in
    elim (chosen (eqb a.0.0 1) _ _ _ a.2) [
      | inl p ↦ of_kind request_in request_item RequestFits envelope.Request 1 a.0.0 i a.0.1 v j request_codec (λ w f. f)
          (λ w. refl) (eqb-true _ _ p.0) a.1.front a.1.bytes p.1
      | inr p ↦
          elim (chosen (eqb a.0.0 2) _ _ _ p.1) [
            | inl q ↦ of_kind answer_in answer_item AnswerFits envelope.Answer 2 a.0.0 i a.0.1 v j answer_codec (λ w f. f)
                (λ w. refl) (eqb-true _ _ q.0) a.1.front a.1.bytes q.1
            | inr q ↦
                elim (chosen (eqb a.0.0 3) _ _ _ q.1) [
                  | inl r ↦ of_kind recall_in recall_item RecallFits envelope.Recall 3 a.0.0 i a.0.1 v j recall_codec (λ w f. f)
                      (λ w. refl) (eqb-true _ _ r.0) a.1.front a.1.bytes r.1
                  | inr r ↦
                      elim (chosen (eqb a.0.0 4) _ _ _ r.1) [
                        | inl s ↦ of_kind recall_answer_in recall_answer_item RecallAnswerFits envelope.RecallAnswer 4 a.0.0 i
                            a.0.1 v j recall_answer_codec (λ w f. f) (λ w. refl) (eqb-true _ _ s.0) a.1.front a.1.bytes s.1
                        | inr s ↦
                            elim (chosen (eqb a.0.0 5) _ _ _ s.1) [
                              | inl t ↦ of_kind order_in order_item OrderFits envelope.Order 5 a.0.0 i a.0.1 v j order_codec
                                  (λ w f. f) (λ w. refl) (eqb-true _ _ t.0) a.1.front a.1.bytes t.1
                              | inr t ↦
                                  elim (chosen (eqb a.0.0 6) _ _ _ t.1) [
                                    | inl u ↦ of_kind order_answer_in order_answer_item
                                        (λ w. ⊤) envelope.OrderAnswer 6 a.0.0 i a.0.1 v j order_answer_codec (λ w f. tt)
                                        (λ w. refl) (eqb-true _ _ u.0) a.1.front a.1.bytes u.1
                                    | inr u ↦
                                        absurd (err_is_not _ _ u.1)
                                  ]
                            ]
                      ]
                ]
          ]
    ]

pub envelope_codec : IsCodec envelope_in envelope_item EnvelopeFits
envelope_codec = record { again = envelope_again; found = envelope_found }
