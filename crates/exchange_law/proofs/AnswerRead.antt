-- What is read of an answer that the server spelled: its number, and which grant it names, however wide the rest.
use Rattle.std.proofs.Common.{◌≡◌, ◌<◌, ◌^◌, ℕ, eqb, List, [], Some, Ok, sym, ap, subst, ◌∙◌, arith, inl, inr}
use Rattle.std.proofs.lemmas.List.{append-nil}
use Rattle.xdr_codec.specs.Items.{u32_item}
use Rattle.xdr_codec.specs.Reading.{Rest}
use Rattle.xdr_codec.proofs.ItemLaws.{bind_ok, ok_is, chosen}
use Rattle.layout_ops.specs.declared.operation.Operation.{Operation}
use Rattle.layout_ops.specs.declared.results.LayoutSegment.{LayoutSegment}
use Rattle.layout_ops.specs.declared.results.LayoutGetOk.{LayoutGetOk}
use Rattle.layout_ops.specs.declared.results.LayoutGetResult.{LayoutGetResult}
use Rattle.layout_ops.specs.declared.results.LayoutGetResult.TheVariants as get
use Rattle.layout_ops.specs.declared.results.Results.{Results}
use Rattle.layout_ops.specs.declared.results.Results.TheVariants as results
use Rattle.layout_ops.specs.declared.messages.Answer.{Answer}
use Rattle.layout_ops.specs.declared.envelope.Envelope.{Envelope}
use Rattle.layout_ops.specs.declared.envelope.Envelope.TheVariants as envelope
use Rattle.layout_ops.specs.Grammar.{bool_field, list_in}
use Rattle.layout_ops.specs.Spelling.{StateIdFits, get_ok_item, get_result_item, results_item, operation_of_results, answer_item, envelope_item}
use Rattle.layout_ops.specs.Reading.{segment_in, get_ok_in, get_behind, get_result_in, commit_result_in, return_result_in, results_in, answer_in, request_in, recall_in, recall_answer_in, order_in, order_answer_in, envelope_behind, envelope_in, envelope_of}
use Rattle.layout_ops.proofs.Fields.{u32_law, bool_law, operation_law, stateid_law}
use Rattle.layout_ops.proofs.Steps.{named}
use Rattle.client_rules.specs.Results.{layouts_in}
use Rattle.history_law.proofs.Fronts.{codec_gets, next}
use Rattle.history_law.proofs.Parts.{field_32, field_64, message_ends}
use Rattle.history_law.proofs.Given.{other_kind, none_left}

-- ---- what names a grant

get_ok_read : (ok : LayoutGetOk) (i : Rest) (x : LayoutGetOk × Rest) → StateIdFits ok.stateid
    → i.left ≡ get_ok_item ok → get_ok_in i ≡ Ok x → x.0.stateid ≡ ok.stateid
unfolding get_ok_in
get_ok_read ok i x fits at e =
    next _ i _ _ x (codec_gets bool_law ok.return_on_close tt) at e (λ a i1 af a1 r1.
    next _ i1 _ _ x (codec_gets stateid_law ok.stateid fits) a1 r1 (λ b i2 bf a2 r2.
    let list = bind_ok (list_in segment_in i2)
    (λ (y : List LayoutSegment × Rest). Ok (record { return_on_close = a; stateid = b; layouts = y.0 }, y.1)) x r2 in
    let same = ok_is (record { return_on_close = a; stateid = b; layouts = list.0.0 }, list.0.1) x list.2 in
    ap (λ (p : LayoutGetOk × Rest). p.0.stateid) (sym same) ∙ bf))

-- where a layout is read, one was given, and is named alike
pub record IsNamedIn (ok given : LayoutGetOk) : Type 0 where
  pub same : StateIdFits ok.stateid → given.stateid ≡ ok.stateid

abbrev pub NamedIn : Results → (given : LayoutGetOk) → Type 0
NamedIn (results.LayoutGet (get.Granted ok)) given = IsNamedIn ok given
NamedIn r given = ⊥

get_read : (r : LayoutGetResult) (i : Rest) (x : LayoutGetResult × Rest) (given : LayoutGetOk)
    → i.left ≡ get_result_item r → get_result_in i ≡ Ok x → x.1.left ≡ []
    → layouts_in (results.LayoutGet x.0) ≡ Some given → NamedIn (results.LayoutGet r) given
unfolding get_result_in
get_read (get.Granted ok) i x given at e ends gives = record {
  same =
      λ fits.
      next _ i _ _ x (codec_gets u32_law 0 (omega arith)) at e (λ n i1 is a1 r1.
      let read = bind_ok _ _ x (subst (λ (k : ℕ). get_behind (k, i1) ≡ Ok x) is r1) in
      let same = ok_is _ x read.2 in
      let it : Some read.0.0 ≡ Some given =
      ap (λ (p : LayoutGetResult × Rest). layouts_in (results.LayoutGet p.0)) same ∙ gives in
      let given_is : read.0.0 ≡ given = cc it in
      ap (λ (y : LayoutGetOk). y.stateid) (sym given_is) ∙ get_ok_read ok i1 read.0 fits a1 read.1);
}
get_read (get.TryLater signal) i x given at e ends gives =
    next _ i _ _ x (codec_gets u32_law 10058 (omega arith)) at e (λ n i1 is a1 r1.
    let read = bind_ok (bool_field i1) (named get.TryLater) x
    (subst (λ (k : ℕ). get_behind (k, i1) ≡ Ok x) is r1) in
    let same : (get.TryLater read.0.0, read.0.1) ≡ x = ok_is (get.TryLater read.0.0, read.0.1) x read.2 in
    absurd (cc (ap (λ (p : LayoutGetResult × Rest). layouts_in (results.LayoutGet p.0)) same ∙ gives)))
get_read (get.Refused status) i x given at e ends gives =
    next _ i [] _ x (field_32 status) (at ∙ sym (append-nil (u32_item status))) e (λ n i1 is a1 r1.
    elim (chosen (eqb n 0) _ _ _ r1) [
      | inl p ↦ let read = bind_ok _ _ x p.1 in absurd (none_left i1 read.0 read.1 a1)
      | inr p ↦ elim (chosen (eqb n 10058) _ _ _ p.1) [
        | inl q ↦
            let read = bind_ok (bool_field i1) (named get.TryLater) x q.1 in
            let same : (get.TryLater read.0.0, read.0.1) ≡ x = ok_is (get.TryLater read.0.0, read.0.1) x read.2 in
            absurd (cc (ap (λ (p : LayoutGetResult × Rest). layouts_in (results.LayoutGet p.0)) same ∙ gives))
        | inr q ↦
            let same : (get.Refused n, i1) ≡ x = ok_is (get.Refused n, i1) x q.1 in
            absurd (cc (ap (λ (p : LayoutGetResult × Rest). layouts_in (results.LayoutGet p.0)) same ∙ gives))
      ]
    ])

results_read : (r : Results) (i : Rest) (x : Results × Rest) (given : LayoutGetOk) → i.left ≡ results_item r
    → results_in (operation_of_results r) i ≡ Ok x → x.1.left ≡ [] → layouts_in x.0 ≡ Some given → NamedIn r given
results_read (results.LayoutGet r) i x given at e ends gives =
    let read = bind_ok _ _ x e in
    let same = ok_is _ x read.2 in
    get_read r i read.0 given at read.1 (ap (λ (p : Results × Rest). p.1.left) same ∙ ends)
    (ap (λ (p : Results × Rest). layouts_in p.0) same ∙ gives)
results_read (results.LayoutCommit r) i x given at e ends gives =
    let read = bind_ok (commit_result_in i) (named results.LayoutCommit) x e in
    let same : (results.LayoutCommit read.0.0, read.0.1) ≡ x =
    ok_is (results.LayoutCommit read.0.0, read.0.1) x read.2 in
    absurd (cc (ap (λ (p : Results × Rest). layouts_in p.0) same ∙ gives))
results_read (results.LayoutReturn r) i x given at e ends gives =
    let read = bind_ok (return_result_in i) (named results.LayoutReturn) x e in
    let same : (results.LayoutReturn read.0.0, read.0.1) ≡ x =
    ok_is (results.LayoutReturn read.0.0, read.0.1) x read.2 in
    absurd (cc (ap (λ (p : Results × Rest). layouts_in p.0) same ∙ gives))

-- ---- an answer

answer_read : (a : Answer) (i : Rest) (x : Answer × Rest) (given : LayoutGetOk) → i.left ≡ answer_item a
    → answer_in i ≡ Ok x → x.1.left ≡ [] → layouts_in x.0.results ≡ Some given → NamedIn a.results given
unfolding answer_in
answer_read a i x given at e ends gives =
    next _ i _ _ x (field_32 a.client) at e (λ n1 i1 f1 a1 r1.
    next _ i1 _ _ x (field_32 a.sequence) a1 r1 (λ n2 i2 f2 a2 r2.
    next _ i2 _ _ x (field_32 a.file) a2 r2 (λ n3 i3 f3 a3 r3.
    next _ i3 _ _ x (codec_gets operation_law (operation_of_results a.results) tt) a3 r3 (λ n4 i4 op a4 r4.
    next _ i4 _ _ x (field_32 a.detail) a4 r4 (λ n5 i5 f5 a5 r5.
    next _ i5 _ _ x (field_64 a.size) a5 r5 (λ n6 i6 f6 a6 r6.
    let last = bind_ok _ _ x r6 in
    let same = ok_is _ x last.2 in
    results_read a.results i6 last.0 given a6 (subst (λ (o : Operation). results_in o i6 ≡ Ok last.0) op last.1)
    (ap (λ (p : Answer × Rest). p.1.left) same ∙ ends)
    (ap (λ (p : Answer × Rest). layouts_in p.0.results) same ∙ gives)))))))

-- ---- a message

-- which grant a message names where it is an answer
abbrev pub NamedBy : Envelope → (given : LayoutGetOk) → Type 0
NamedBy (envelope.Answer a) given = NamedIn a.results given
NamedBy e given = ⊥

kind_read : (m : Envelope) (i : Rest) (a : Answer) (j : Rest) (given : LayoutGetOk) → i.left ≡ envelope_item m
    → envelope_in i ≡ Ok (envelope.Answer a, j) → j.left ≡ [] → layouts_in a.results ≡ Some given → NamedBy m given
unfolding envelope_in
kind_read (envelope.Answer v) i a j given at e ends gives =
    next _ i _ _ (envelope.Answer a, j) (codec_gets u32_law 2 (omega arith)) at e (λ n i1 is a1 r1.
    let read = bind_ok _ _ (envelope.Answer a, j)
    (subst (λ (k : ℕ). envelope_behind i.at (k, i1) ≡ Ok (envelope.Answer a, j)) is r1) in
    let same = ok_is _ (envelope.Answer a, j) read.2 in
    let answer : read.0.0 ≡ a = cc (ap (λ (p : Envelope × Rest). p.0) same) in
    answer_read v i1 read.0 given a1 read.1 (ap (λ (p : Envelope × Rest). p.1.left) same ∙ ends)
    (ap (λ (y : Answer). layouts_in y.results) answer ∙ gives))
kind_read (envelope.Request v) i a j given at e ends gives =
    next _ i _ _ (envelope.Answer a, j) (codec_gets u32_law 1 (omega arith)) at e (λ n i1 is a1 r1.
    other_kind request_in envelope.Request i1 a j (λ w f. absurd (cc f))
    (subst (λ (k : ℕ). envelope_behind i.at (k, i1) ≡ Ok (envelope.Answer a, j)) is r1))
kind_read (envelope.Recall v) i a j given at e ends gives =
    next _ i _ _ (envelope.Answer a, j) (codec_gets u32_law 3 (omega arith)) at e (λ n i1 is a1 r1.
    other_kind recall_in envelope.Recall i1 a j (λ w f. absurd (cc f))
    (subst (λ (k : ℕ). envelope_behind i.at (k, i1) ≡ Ok (envelope.Answer a, j)) is r1))
kind_read (envelope.RecallAnswer v) i a j given at e ends gives =
    next _ i _ _ (envelope.Answer a, j) (codec_gets u32_law 4 (omega arith)) at e (λ n i1 is a1 r1.
    other_kind recall_answer_in envelope.RecallAnswer i1 a j (λ w f. absurd (cc f))
    (subst (λ (k : ℕ). envelope_behind i.at (k, i1) ≡ Ok (envelope.Answer a, j)) is r1))
kind_read (envelope.Order v) i a j given at e ends gives =
    next _ i _ _ (envelope.Answer a, j) (codec_gets u32_law 5 (omega arith)) at e (λ n i1 is a1 r1.
    other_kind order_in envelope.Order i1 a j (λ w f. absurd (cc f))
    (subst (λ (k : ℕ). envelope_behind i.at (k, i1) ≡ Ok (envelope.Answer a, j)) is r1))
kind_read (envelope.OrderAnswer v) i a j given at e ends gives =
    next _ i _ _ (envelope.Answer a, j) (codec_gets u32_law 6 (omega arith)) at e (λ n i1 is a1 r1.
    other_kind order_answer_in envelope.OrderAnswer i1 a j (λ w f. absurd (cc f))
    (subst (λ (k : ℕ). envelope_behind i.at (k, i1) ≡ Ok (envelope.Answer a, j)) is r1))

-- so it is of all the bytes of a message
pub named_read : (m : Envelope) (bytes : List ℕ) (a : Answer) (given : LayoutGetOk) → bytes ≡ envelope_item m
    → envelope_of bytes ≡ Ok (envelope.Answer a) → layouts_in a.results ≡ Some given → NamedBy m given
unfolding envelope_of
named_read m bytes a given is e gives =
    let ends = message_ends envelope_in bytes (envelope.Answer a) e in
    kind_read m (record { left = bytes; at = 0 }) a ends.rest given is ends.read ends.none gives

-- ---- its number

sequence_in : (a : Answer) (i : Rest) (x : Answer × Rest) → a.sequence < 2 ^ 32 → i.left ≡ answer_item a
    → answer_in i ≡ Ok x → x.0.sequence ≡ a.sequence
unfolding answer_in
sequence_in a i x low at e =
    next _ i _ _ x (field_32 a.client) at e (λ n1 i1 f1 a1 r1.
    next _ i1 _ _ x (codec_gets u32_law a.sequence low) a1 r1 (λ n2 i2 f2 a2 r2.
    next _ i2 _ _ x (field_32 a.file) a2 r2 (λ n3 i3 f3 a3 r3.
    next _ i3 _ _ x (codec_gets operation_law (operation_of_results a.results) tt) a3 r3 (λ n4 i4 op a4 r4.
    next _ i4 _ _ x (field_32 a.detail) a4 r4 (λ n5 i5 f5 a5 r5.
    next _ i5 _ _ x (field_64 a.size) a5 r5 (λ n6 i6 f6 a6 r6.
    let last = bind_ok (results_in n4 i6) (λ (y : Results × Rest). Ok (
      record {
        client = n1;
        sequence = n2;
        file = n3;
        detail = n5;
        size = n6;
        results = y.0;
      },
      y.1,
    )) x r6 in
    let same = ok_is (
      record {
        client = n1;
        sequence = n2;
        file = n3;
        detail = n5;
        size = n6;
        results = last.0.0;
      },
      last.0.1,
    ) x last.2 in
    ap (λ (p : Answer × Rest). p.0.sequence) (sym same) ∙ f2))))))

pub sequence_read : (v : Answer) (bytes : List ℕ) (a : Answer) → v.sequence < 2 ^ 32
    → bytes ≡ envelope_item (envelope.Answer v) → envelope_of bytes ≡ Ok (envelope.Answer a)
    → a.sequence ≡ v.sequence
unfolding envelope_of envelope_in
sequence_read v bytes a low is e =
    let ends = message_ends envelope_in bytes (envelope.Answer a) e in
    let i : Rest = record { left = bytes; at = 0 } in
    next _ i _ _ (envelope.Answer a, ends.rest) (codec_gets u32_law 2 (omega arith)) is ends.read (λ n i1 kind a1 r1.
    let read = bind_ok _ _ (envelope.Answer a, ends.rest)
    (subst (λ (k : ℕ). envelope_behind i.at (k, i1) ≡ Ok (envelope.Answer a, ends.rest)) kind r1) in
    let same = ok_is _ (envelope.Answer a, ends.rest) read.2 in
    let answer : read.0.0 ≡ a = cc (ap (λ (p : Envelope × Rest). p.0) same) in
    ap (λ (y : Answer). y.sequence) (sym answer) ∙ sequence_in v i1 read.0 low a1 read.1)
