-- What a client reads of an answer that the server spelled, where its status and detail fit their places.
use Rattle.std.proofs.Common.{◌≡◌, ◌<◌, ◌^◌, ℕ, eqb, List, [], Ok, refl, sym, ap, subst, ◌∙◌, arith, inl, inr}
use Rattle.std.proofs.lemmas.Bool.{eqb-true}
use Rattle.std.proofs.lemmas.List.{append-nil}
use Rattle.xdr_codec.specs.Items.{u32_item}
use Rattle.xdr_codec.specs.Reading.{Rest}
use Rattle.xdr_codec.proofs.ItemLaws.{bind_ok, ok_is, chosen}
use Rattle.layout_ops.specs.declared.operation.Operation.{Operation}
use Rattle.layout_ops.specs.declared.statuses.TheConstants.{NFS4ERR_LAYOUTTRYLATER}
use Rattle.layout_ops.specs.declared.results.LayoutCommitResult.{LayoutCommitResult}
use Rattle.layout_ops.specs.declared.results.LayoutCommitResult.TheVariants as commit
use Rattle.layout_ops.specs.declared.results.LayoutReturnResult.{LayoutReturnResult}
use Rattle.layout_ops.specs.declared.results.LayoutReturnResult.TheVariants as return
use Rattle.layout_ops.specs.declared.results.LayoutGetResult.{LayoutGetResult}
use Rattle.layout_ops.specs.declared.results.LayoutGetResult.TheVariants as get
use Rattle.layout_ops.specs.declared.results.Results.{Results}
use Rattle.layout_ops.specs.declared.results.Results.TheVariants as results
use Rattle.layout_ops.specs.declared.messages.Answer.{Answer}
use Rattle.layout_ops.specs.declared.envelope.Envelope.{Envelope}
use Rattle.layout_ops.specs.declared.envelope.Envelope.TheVariants as envelope
use Rattle.layout_ops.specs.Spelling.{get_result_item, commit_result_item, return_result_item, results_item, operation_of_results, answer_item, envelope_item}
use Rattle.layout_ops.specs.Reading.{optional_u64_field, optional_stateid_field, get_ok_in, get_behind, get_result_in, commit_behind, commit_result_in, return_behind, return_result_in, results_in, answer_in, envelope_behind, envelope_in, envelope_of}
use Rattle.layout_ops.proofs.Fields.{u32_law, operation_law}
use Rattle.layout_ops.proofs.Steps.{named}
use Rattle.client_rules.specs.Results.{get_status, commit_status, return_status, status_of}
use Rattle.history_law.proofs.Fronts.{codec_gets, next}
use Rattle.history_law.proofs.Parts.{field_32, field_64, message_ends}

-- ---- the status

-- the read status is to try later only where the spelled one is
abbrev Later : (spelled read : ℕ) → Type 0
Later n m = m ≡ NFS4ERR_LAYOUTTRYLATER → n ≡ NFS4ERR_LAYOUTTRYLATER

get_behind_read : (n : ℕ) (j : Rest) (x : LayoutGetResult × Rest) → get_behind (n, j) ≡ Ok x → Later n (get_status x.0)
get_behind_read n j x e later = elim (chosen (eqb n 0) _ _ _ e) [
  | inl p ↦
      let b = bind_ok (get_ok_in j) (named get.Granted) x p.1 in
      let is : 0 ≡ get_status x.0 = ap (λ (y : LayoutGetResult × Rest). get_status y.0)
      (ok_is (get.Granted b.0.0, b.0.1) x b.2) in
      absurd (omega (arith, is, later))
  | inr p ↦ elim (chosen (eqb n 10058) _ _ _ p.1) [
    | inl q ↦ eqb-true n 10058 q.0
    | inr q ↦
        let is : n ≡ get_status x.0 =
        ap (λ (y : LayoutGetResult × Rest). get_status y.0) (ok_is (get.Refused n, j) x q.1) in
        is ∙ later
  ]
]

get_read : (r : LayoutGetResult) (i : Rest) (x : LayoutGetResult × Rest) → get_status r < 2 ^ 32
    → i.left ≡ get_result_item r → get_result_in i ≡ Ok x → Later (get_status r) (get_status x.0)
unfolding get_result_in
get_read (get.Granted ok) i x low at e =
    next _ i _ _ x (codec_gets u32_law 0 (omega arith)) at e (λ n i1 is a1 r1. λ later.
    sym is ∙ get_behind_read n i1 x r1 later)
get_read (get.TryLater signal) i x low at e = λ later. refl
get_read (get.Refused status) i x low at e =
    next _ i [] _ x (codec_gets u32_law status low) (at ∙ sym (append-nil (u32_item status))) e (λ n i1 is a1 r1. λ later.
    sym is ∙ get_behind_read n i1 x r1 later)

commit_behind_read : (n : ℕ) (j : Rest) (x : LayoutCommitResult × Rest) → commit_behind (n, j) ≡ Ok x
    → Later n (commit_status x.0)
commit_behind_read n j x e later = elim (chosen (eqb n 0) _ _ _ e) [
  | inl p ↦
      let b = bind_ok (optional_u64_field j) (named commit.Committed) x p.1 in
      let is : 0 ≡ commit_status x.0 = ap (λ (y : LayoutCommitResult × Rest). commit_status y.0)
      (ok_is (commit.Committed b.0.0, b.0.1) x b.2) in
      absurd (omega (arith, is, later))
  | inr p ↦
      let is : n ≡ commit_status x.0 =
      ap (λ (y : LayoutCommitResult × Rest). commit_status y.0) (ok_is (commit.Refused n, j) x p.1) in
      is ∙ later
]

commit_read : (r : LayoutCommitResult) (i : Rest) (x : LayoutCommitResult × Rest) → commit_status r < 2 ^ 32
    → i.left ≡ commit_result_item r → commit_result_in i ≡ Ok x → Later (commit_status r) (commit_status x.0)
unfolding commit_result_in
commit_read (commit.Committed size) i x low at e =
    next _ i _ _ x (codec_gets u32_law 0 (omega arith)) at e (λ n i1 is a1 r1. λ later.
    sym is ∙ commit_behind_read n i1 x r1 later)
commit_read (commit.Refused status) i x low at e =
    next _ i [] _ x (codec_gets u32_law status low) (at ∙ sym (append-nil (u32_item status))) e (λ n i1 is a1 r1. λ later.
    sym is ∙ commit_behind_read n i1 x r1 later)

return_behind_read : (n : ℕ) (j : Rest) (x : LayoutReturnResult × Rest) → return_behind (n, j) ≡ Ok x
    → Later n (return_status x.0)
return_behind_read n j x e later = elim (chosen (eqb n 0) _ _ _ e) [
  | inl p ↦
      let b = bind_ok (optional_stateid_field j) (named return.Returned) x p.1 in
      let is : 0 ≡ return_status x.0 = ap (λ (y : LayoutReturnResult × Rest). return_status y.0)
      (ok_is (return.Returned b.0.0, b.0.1) x b.2) in
      absurd (omega (arith, is, later))
  | inr p ↦
      let is : n ≡ return_status x.0 =
      ap (λ (y : LayoutReturnResult × Rest). return_status y.0) (ok_is (return.Refused n, j) x p.1) in
      is ∙ later
]

return_read : (r : LayoutReturnResult) (i : Rest) (x : LayoutReturnResult × Rest) → return_status r < 2 ^ 32
    → i.left ≡ return_result_item r → return_result_in i ≡ Ok x → Later (return_status r) (return_status x.0)
unfolding return_result_in
return_read (return.Returned state) i x low at e =
    next _ i _ _ x (codec_gets u32_law 0 (omega arith)) at e (λ n i1 is a1 r1. λ later.
    sym is ∙ return_behind_read n i1 x r1 later)
return_read (return.Refused status) i x low at e =
    next _ i [] _ x (codec_gets u32_law status low) (at ∙ sym (append-nil (u32_item status))) e (λ n i1 is a1 r1. λ later.
    sym is ∙ return_behind_read n i1 x r1 later)

results_read : (r : Results) (i : Rest) (x : Results × Rest) → status_of r < 2 ^ 32 → i.left ≡ results_item r
    → results_in (operation_of_results r) i ≡ Ok x → Later (status_of r) (status_of x.0)
results_read (results.LayoutGet r) i x low at e =
    let b = bind_ok (get_result_in i) _ x e in
    let same : get_status b.0.0 ≡ status_of x.0 = ap (λ (p : Results × Rest). status_of p.0) (ok_is _ x b.2) in
    λ later. get_read r i b.0 low at b.1 (same ∙ later)
results_read (results.LayoutCommit r) i x low at e =
    let b = bind_ok (commit_result_in i) _ x e in
    let same : commit_status b.0.0 ≡ status_of x.0 = ap (λ (p : Results × Rest). status_of p.0) (ok_is _ x b.2) in
    λ later. commit_read r i b.0 low at b.1 (same ∙ later)
results_read (results.LayoutReturn r) i x low at e =
    let b = bind_ok (return_result_in i) _ x e in
    let same : return_status b.0.0 ≡ status_of x.0 = ap (λ (p : Results × Rest). status_of p.0) (ok_is _ x b.2) in
    λ later. return_read r i b.0 low at b.1 (same ∙ later)

-- ---- an answer

-- what is read bids the client try later only where the server said so, and has its detail
pub record ReadsLater (v a : Answer) : Type 0 where
  pub later : Later (status_of v.results) (status_of a.results)
  pub detail : v.detail < 2 ^ 32 → a.detail ≡ v.detail

fields_read : (v : Answer) (i : Rest) (x : Answer × Rest) → status_of v.results < 2 ^ 32 → i.left ≡ answer_item v
    → answer_in i ≡ Ok x → Later (status_of v.results) (status_of x.0.results)
unfolding answer_in
fields_read v i x low at e =
    next _ i _ _ x (field_32 v.client) at e (λ n1 i1 f1 a1 r1.
    next _ i1 _ _ x (field_32 v.sequence) a1 r1 (λ n2 i2 f2 a2 r2.
    next _ i2 _ _ x (field_32 v.file) a2 r2 (λ n3 i3 f3 a3 r3.
    next _ i3 _ _ x (codec_gets operation_law (operation_of_results v.results) tt) a3 r3 (λ n4 i4 op a4 r4.
    next _ i4 _ _ x (field_32 v.detail) a4 r4 (λ n5 i5 f5 a5 r5.
    next _ i5 _ _ x (field_64 v.size) a5 r5 (λ n6 i6 f6 a6 r6.
    let last = bind_ok _ _ x r6 in
    let same : status_of last.0.0 ≡ status_of x.0.results =
    ap (λ (p : Answer × Rest). status_of p.0.results) (ok_is _ x last.2) in
    λ later.
    results_read v.results i6 last.0 low a6 (subst (λ (o : Operation). results_in o i6 ≡ Ok last.0) op last.1)
    (same ∙ later)))))))

detail_in : (v : Answer) (i : Rest) (x : Answer × Rest) → v.detail < 2 ^ 32 → i.left ≡ answer_item v
    → answer_in i ≡ Ok x → x.0.detail ≡ v.detail
unfolding answer_in
detail_in v i x low at e =
    next _ i _ _ x (field_32 v.client) at e (λ n1 i1 f1 a1 r1.
    next _ i1 _ _ x (field_32 v.sequence) a1 r1 (λ n2 i2 f2 a2 r2.
    next _ i2 _ _ x (field_32 v.file) a2 r2 (λ n3 i3 f3 a3 r3.
    next _ i3 _ _ x (codec_gets operation_law (operation_of_results v.results) tt) a3 r3 (λ n4 i4 op a4 r4.
    next _ i4 _ _ x (codec_gets u32_law v.detail low) a4 r4 (λ n5 i5 f5 a5 r5.
    next _ i5 _ _ x (field_64 v.size) a5 r5 (λ n6 i6 f6 a6 r6.
    let last = bind_ok (results_in n4 i6) (λ (y : Results × Rest). Ok (
      record {
        client = n1;
        sequence = n2;
        file = n3;
        detail = n5;
        size = n6;
        results = y.0;
      },
      y.1,
    )) x r6 in
    let same = ok_is (
      record {
        client = n1;
        sequence = n2;
        file = n3;
        detail = n5;
        size = n6;
        results = last.0.0;
      },
      last.0.1,
    ) x last.2 in
    ap (λ (p : Answer × Rest). p.0.detail) (sym same) ∙ f5))))))

-- so it is of all the bytes of a message
pub answer_read : (v : Answer) (bytes : List ℕ) (a : Answer) → status_of v.results < 2 ^ 32
    → bytes ≡ envelope_item (envelope.Answer v) → envelope_of bytes ≡ Ok (envelope.Answer a) → ReadsLater v a
unfolding envelope_of envelope_in
answer_read v bytes a low is e =
    let ends = message_ends envelope_in bytes (envelope.Answer a) e in
    let i : Rest = record { left = bytes; at = 0 } in
    next _ i _ _ (envelope.Answer a, ends.rest) (codec_gets u32_law 2 (omega arith)) is ends.read (λ n i1 kind a1 r1.
    let read = bind_ok _ _ (envelope.Answer a, ends.rest)
    (subst (λ (k : ℕ). envelope_behind i.at (k, i1) ≡ Ok (envelope.Answer a, ends.rest)) kind r1) in
    let same = ok_is _ (envelope.Answer a, ends.rest) read.2 in
    let answer : read.0.0 ≡ a = cc (ap (λ (p : Envelope × Rest). p.0) same) in
    subst (ReadsLater v) answer (record {
      later = fields_read v i1 read.0 low a1 read.1;
      detail = λ fits. detail_in v i1 read.0 fits a1 read.1;
    }))
