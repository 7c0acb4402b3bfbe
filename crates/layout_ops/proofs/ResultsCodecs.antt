-- Reading results and spelling them are each other's inverse.
use Rattle.std.proofs.Common.{◌≡◌, ℕ, ◌<◌, ◌^◌, eqb, List, [], ◌∷◌, ◌++◌, Ok, refl, subst, ◌∙◌, arith, inl, inr}
use Rattle.std.specs.Prelude.{⊤}
use Rattle.std.proofs.lemmas.Bool.{eqb-true, eqb-false, ne_eqb}
use Rattle.osd_lists.specs.Blocks.{IsBytes}
use Rattle.xdr_codec.specs.Items.{u32_item, u64_item, bool_item, opaque_item}
use Rattle.xdr_codec.specs.Reading.{Rest}
use Rattle.xdr_codec.proofs.Codec.{IsCodec}
use Rattle.xdr_codec.proofs.ItemLaws.{ok_is, chosen}
use Rattle.layout_types.specs.Grammar.{optional_item, OptionalFits, list_item}
use Rattle.layout_types.proofs.Steps.{gathered, after}
use Rattle.layout_ops.specs.declared.results.LayoutSegment.{LayoutSegment}
use Rattle.layout_ops.specs.declared.results.LayoutGetOk.{LayoutGetOk}
use Rattle.layout_ops.specs.declared.results.LayoutGetResult.{LayoutGetResult}
use Rattle.layout_ops.specs.declared.results.LayoutCommitResult.{LayoutCommitResult}
use Rattle.layout_ops.specs.declared.results.LayoutReturnResult.{LayoutReturnResult}
use Rattle.layout_ops.specs.declared.results.Results.{Results}
use Rattle.layout_ops.specs.declared.operation.Operation.{Operation}
use Rattle.layout_ops.specs.declared.results.Results.TheVariants as results
use Rattle.layout_ops.specs.declared.results.LayoutGetResult.TheVariants as get
use Rattle.layout_ops.specs.declared.results.LayoutCommitResult.TheVariants as commit
use Rattle.layout_ops.specs.declared.results.LayoutReturnResult.TheVariants as return
use Rattle.layout_ops.specs.declared.operation.Operation.TheVariants as operation
use Rattle.layout_ops.specs.Grammar.{bool_field}
use Rattle.layout_ops.specs.Spelling.{layout_type_item, stateid_item, StateIdFits, segment_item, SegmentFits, get_ok_item, GetOkFits, get_result_item, GetResultFits, commit_result_item, CommitResultFits, return_result_item, ReturnResultFits, operation_of_results, results_item, ResultsFits}
use Rattle.layout_ops.specs.Reading.{optional_u64_field, optional_stateid_field, segment_in, get_ok_in, get_result_in, commit_result_in, return_result_in, results_in}
use Rattle.layout_ops.proofs.Steps.{took, step, Ends, in_parts, first, last, put_under}
use Rattle.layout_ops.proofs.ListLoops.{list_law}
use Rattle.layout_ops.proofs.Fields.{u32_law, u64_law, bool_law, body_law, layout_type_law, stateid_law, optional_u64_law, optional_stateid_law}

-- ---- LayoutSegment

segment_again : (v : LayoutSegment) (more : List ℕ) (at : ℕ) → SegmentFits v →
    Ends (segment_in (record { left = segment_item v ++ more; at = at })) v more
unfolding segment_in
segment_again v more at fits =
    in_parts segment_in
    (u64_item v.offset ∷ u64_item v.length ∷ u32_item v.iomode ∷ layout_type_item ∷ opaque_item v.body ∷ []) at v more
    (first _ _ _ _ _ u64_law v.offset fits.offset
    (λ _. first _ _ _ _ _ u64_law v.length fits.length
    (λ _. first _ _ _ _ _ u32_law v.iomode fits.iomode
    (λ _. first _ _ _ _ _ layout_type_law tt tt (λ _. last _ _ _ _ body_law v.body fits.body (λ _. refl))))))

segment_found : (i : Rest) (v : LayoutSegment) (j : Rest) → IsBytes i.left → segment_in i ≡ Ok (v, j) →
    SegmentFits v × (i.left ≡ segment_item v ++ j.left)
unfolding segment_in
segment_found i v j bytes e =
    took i _ (v, j) u64_law bytes e (λ a a1 af ae ab ar.
    took a1 _ (v, j) u64_law ab ar (λ b b1 bf be bb br.
    took b1 _ (v, j) u32_law bb br (λ c c1 cf ce cb cr.
    took c1 _ (v, j) layout_type_law cb cr (λ d d1 df de db dr.
    took d1 _ (v, j) body_law db dr (λ f f1 ff fe fb fr.
    subst (λ (p : LayoutSegment × Rest). SegmentFits p.0 × (i.left ≡ segment_item p.0 ++ p.1.left)) (ok_is _ (v, j) fr) (
      record { offset = af; «length» = bf; iomode = cf; body = ff },
      gathered (u64_item a ∷ u64_item b ∷ u32_item c ∷ layout_type_item ∷ opaque_item f ∷ []) i.left f1.left
          (ae ∙ after _ _ _ (be ∙ after _ _ _ (ce ∙ after _ _ _ (de ∙ after _ _ _ (fe))))),
    ))))))

pub segment_codec : IsCodec segment_in segment_item SegmentFits
segment_codec = record { again = segment_again; found = segment_found }

-- ---- LayoutGetOk

get_ok_again : (v : LayoutGetOk) (more : List ℕ) (at : ℕ) → GetOkFits v →
    Ends (get_ok_in (record { left = get_ok_item v ++ more; at = at })) v more
unfolding get_ok_in
get_ok_again v more at fits =
    in_parts get_ok_in (bool_item v.return_on_close ∷ stateid_item v.stateid ∷ list_item segment_item v.layouts ∷ []) at v more
    (first _ _ _ _ _ bool_law v.return_on_close tt
    (λ _. first _ _ _ _ _ stateid_law v.stateid fits.stateid
    (λ _. last _ _ _ _ (list_law segment_codec) v.layouts fits.layouts (λ _. refl))))

get_ok_found : (i : Rest) (v : LayoutGetOk) (j : Rest) → IsBytes i.left → get_ok_in i ≡ Ok (v, j) →
    GetOkFits v × (i.left ≡ get_ok_item v ++ j.left)
unfolding get_ok_in
get_ok_found i v j bytes e =
    took i _ (v, j) bool_law bytes e (λ a a1 af ae ab ar.
    took a1 _ (v, j) stateid_law ab ar (λ b b1 bf be bb br.
    took b1 _ (v, j) (list_law segment_codec) bb br (λ c c1 cf ce cb cr.
    subst (λ (p : LayoutGetOk × Rest). GetOkFits p.0 × (i.left ≡ get_ok_item p.0 ++ p.1.left)) (ok_is _ (v, j) cr) (
      record { stateid = bf; layouts = cf },
      gathered (bool_item a ∷ stateid_item b ∷ list_item segment_item c ∷ []) i.left c1.left
          (ae ∙ after _ _ _ (be ∙ after _ _ _ (ce))),
    ))))

pub get_ok_codec : IsCodec get_ok_in get_ok_item GetOkFits
get_ok_codec = record { again = get_ok_again; found = get_ok_found }

-- ---- LayoutGetResult

get_result_again : (v : LayoutGetResult) (more : List ℕ) (at : ℕ) → GetResultFits v →
    Ends (get_result_in (record { left = get_result_item v ++ more; at = at })) v more
unfolding get_result_in
get_result_again (get.Granted v) more at fits =
    in_parts get_result_in (u32_item 0 ∷ get_ok_item v ∷ []) at (get.Granted v) more
    (first _ _ _ _ _ u32_law 0 (omega arith) (λ _. last _ _ _ _ get_ok_codec v fits (λ _. refl)))
get_result_again (get.TryLater v) more at fits =
    in_parts get_result_in (u32_item 10058 ∷ bool_item v ∷ []) at (get.TryLater v) more
    (first _ _ _ _ _ u32_law 10058 (omega arith) (λ _. last _ _ _ _ bool_law v fits (λ _. refl)))
get_result_again (get.Refused status) more at fits =
    last _ _ _ _ u32_law status fits.0 (λ _. rw (ne_eqb status 0 fits.1, ne_eqb status 10058 fits.2) refl)

abbrev IsLayoutGetResult : Rest → LayoutGetResult × Rest → Type 0
IsLayoutGetResult i p = GetResultFits p.0 × (i.left ≡ get_result_item p.0 ++ p.1.left)

get_result_found : (i : Rest) (v : LayoutGetResult) (j : Rest) → IsBytes i.left → get_result_in i ≡ Ok (v, j) →
    GetResultFits v × (i.left ≡ get_result_item v ++ j.left)
unfolding get_result_in
get_result_found i v j bytes e =
    let a = step _ _ _ i _ (v, j) u32_law bytes e in
    elim (chosen (eqb a.0.0 0) _ _ _ a.2) [
      | inl p ↦
          let b = put_under get_ok_in (get_ok_item) GetOkFits a.0.1 get.Granted v j get_ok_codec a.1.bytes p.1 in
          let front : i.left ≡ u32_item 0 ++ a.0.1.left = rw (eqb-true _ _ p.0) at a.1.front in
          subst (λ (w : LayoutGetResult). IsLayoutGetResult i (w, j)) b.1
          (b.2, gathered (u32_item 0 ∷ get_ok_item b.0 ∷ []) i.left j.left (front ∙ after _ _ _ b.3))
      | inr p ↦
          elim (chosen (eqb a.0.0 10058) _ _ _ p.1) [
            | inl q ↦
                let b = put_under bool_field (bool_item) (λ b. ⊤) a.0.1 get.TryLater v j bool_law a.1.bytes q.1 in
                let front : i.left ≡ u32_item 10058 ++ a.0.1.left = rw (eqb-true _ _ q.0) at a.1.front in
                subst (λ (w : LayoutGetResult). IsLayoutGetResult i (w, j)) b.1
                (b.2, gathered (u32_item 10058 ∷ bool_item b.0 ∷ []) i.left j.left (front ∙ after _ _ _ b.3))
            | inr q ↦
                subst (IsLayoutGetResult i) (ok_is _ (v, j) q.1) ((a.1.fits, eqb-false _ _ p.0, eqb-false _ _ q.0), a.1.front)
          ]
    ]

pub get_result_codec : IsCodec get_result_in get_result_item GetResultFits
get_result_codec = record { again = get_result_again; found = get_result_found }

-- ---- LayoutCommitResult

commit_result_again : (v : LayoutCommitResult) (more : List ℕ) (at : ℕ) → CommitResultFits v →
    Ends (commit_result_in (record { left = commit_result_item v ++ more; at = at })) v more
unfolding commit_result_in
commit_result_again (commit.Committed v) more at fits =
    in_parts commit_result_in (u32_item 0 ∷ optional_item u64_item v ∷ []) at (commit.Committed v) more
    (first _ _ _ _ _ u32_law 0 (omega arith) (λ _. last _ _ _ _ optional_u64_law v fits (λ _. refl)))
commit_result_again (commit.Refused status) more at fits =
    last _ _ _ _ u32_law status fits.0 (λ _. rw (ne_eqb status 0 fits.1) refl)

abbrev IsLayoutCommitResult : Rest → LayoutCommitResult × Rest → Type 0
IsLayoutCommitResult i p = CommitResultFits p.0 × (i.left ≡ commit_result_item p.0 ++ p.1.left)

commit_result_found : (i : Rest) (v : LayoutCommitResult) (j : Rest) → IsBytes i.left → commit_result_in i ≡ Ok (v, j) →
    CommitResultFits v × (i.left ≡ commit_result_item v ++ j.left)
unfolding commit_result_in
commit_result_found i v j bytes e =
    let a = step _ _ _ i _ (v, j) u32_law bytes e in
    elim (chosen (eqb a.0.0 0) _ _ _ a.2) [
      | inl p ↦
          let b = put_under optional_u64_field (optional_item u64_item)
          (OptionalFits (λ n. n < 2 ^ 64)) a.0.1 commit.Committed v j optional_u64_law a.1.bytes p.1 in
          let front : i.left ≡ u32_item 0 ++ a.0.1.left = rw (eqb-true _ _ p.0) at a.1.front in
          subst (λ (w : LayoutCommitResult). IsLayoutCommitResult i (w, j)) b.1
          (b.2, gathered (u32_item 0 ∷ optional_item u64_item b.0 ∷ []) i.left j.left (front ∙ after _ _ _ b.3))
      | inr p ↦
          subst (IsLayoutCommitResult i) (ok_is _ (v, j) p.1) ((a.1.fits, eqb-false _ _ p.0), a.1.front)
    ]

pub commit_result_codec : IsCodec commit_result_in commit_result_item CommitResultFits
commit_result_codec = record { again = commit_result_again; found = commit_result_found }

-- ---- LayoutReturnResult

return_result_again : (v : LayoutReturnResult) (more : List ℕ) (at : ℕ) → ReturnResultFits v →
    Ends (return_result_in (record { left = return_result_item v ++ more; at = at })) v more
unfolding return_result_in
return_result_again (return.Returned v) more at fits =
    in_parts return_result_in (u32_item 0 ∷ optional_item stateid_item v ∷ []) at (return.Returned v) more
    (first _ _ _ _ _ u32_law 0 (omega arith) (λ _. last _ _ _ _ optional_stateid_law v fits (λ _. refl)))
return_result_again (return.Refused status) more at fits =
    last _ _ _ _ u32_law status fits.0 (λ _. rw (ne_eqb status 0 fits.1) refl)

abbrev IsLayoutReturnResult : Rest → LayoutReturnResult × Rest → Type 0
IsLayoutReturnResult i p = ReturnResultFits p.0 × (i.left ≡ return_result_item p.0 ++ p.1.left)

return_result_found : (i : Rest) (v : LayoutReturnResult) (j : Rest) → IsBytes i.left → return_result_in i ≡ Ok (v, j) →
    ReturnResultFits v × (i.left ≡ return_result_item v ++ j.left)
unfolding return_result_in
return_result_found i v j bytes e =
    let a = step _ _ _ i _ (v, j) u32_law bytes e in
    elim (chosen (eqb a.0.0 0) _ _ _ a.2) [
      | inl p ↦
          let b = put_under optional_stateid_field (optional_item stateid_item)
          (OptionalFits StateIdFits) a.0.1 return.Returned v j optional_stateid_law a.1.bytes p.1 in
          let front : i.left ≡ u32_item 0 ++ a.0.1.left = rw (eqb-true _ _ p.0) at a.1.front in
          subst (λ (w : LayoutReturnResult). IsLayoutReturnResult i (w, j)) b.1
          (b.2, gathered (u32_item 0 ∷ optional_item stateid_item b.0 ∷ []) i.left j.left (front ∙ after _ _ _ b.3))
      | inr p ↦
          subst (IsLayoutReturnResult i) (ok_is _ (v, j) p.1) ((a.1.fits, eqb-false _ _ p.0), a.1.front)
    ]

pub return_result_codec : IsCodec return_result_in return_result_item ReturnResultFits
return_result_codec = record { again = return_result_again; found = return_result_found }

-- ---- Results

-- those of one operation
abbrev pub ResultsOf : Operation → Results → Type 0
ResultsOf op v = ResultsFits v × (operation_of_results v ≡ op)

results_again : (op : Operation) (v : Results) (more : List ℕ) (at : ℕ) → ResultsOf op v →
    Ends (results_in op (record { left = results_item v ++ more; at = at })) v more
results_again operation.LayoutCommit (results.LayoutCommit v) more at fits = last _ _ _ _ commit_result_codec v fits.0 (λ _. refl)
results_again operation.LayoutGet (results.LayoutGet v) more at fits = last _ _ _ _ get_result_codec v fits.0 (λ _. refl)
results_again operation.LayoutReturn (results.LayoutReturn v) more at fits = last _ _ _ _ return_result_codec v fits.0 (λ _. refl)
results_again operation.LayoutCommit (results.LayoutGet v) more at fits = absurd (cc fits.1)
results_again operation.LayoutCommit (results.LayoutReturn v) more at fits = absurd (cc fits.1)
results_again operation.LayoutGet (results.LayoutCommit v) more at fits = absurd (cc fits.1)
results_again operation.LayoutGet (results.LayoutReturn v) more at fits = absurd (cc fits.1)
results_again operation.LayoutReturn (results.LayoutCommit v) more at fits = absurd (cc fits.1)
results_again operation.LayoutReturn (results.LayoutGet v) more at fits = absurd (cc fits.1)

results_found : (op : Operation) (i : Rest) (v : Results) (j : Rest) → IsBytes i.left → results_in op i ≡ Ok (v, j) →
    ResultsOf op v × (i.left ≡ results_item v ++ j.left)
results_found operation.LayoutCommit i v j bytes e =
    let p = put_under commit_result_in commit_result_item CommitResultFits i results.LayoutCommit v j commit_result_codec bytes
    e in
    subst (λ (w : Results). ResultsOf operation.LayoutCommit w × (i.left ≡ results_item w ++ j.left)) p.1 ((p.2, refl), p.3)
results_found operation.LayoutGet i v j bytes e =
    let p = put_under get_result_in get_result_item GetResultFits i results.LayoutGet v j get_result_codec bytes e in
    subst (λ (w : Results). ResultsOf operation.LayoutGet w × (i.left ≡ results_item w ++ j.left)) p.1 ((p.2, refl), p.3)
results_found operation.LayoutReturn i v j bytes e =
    let p = put_under return_result_in return_result_item ReturnResultFits i results.LayoutReturn v j return_result_codec bytes
    e in
    subst (λ (w : Results). ResultsOf operation.LayoutReturn w × (i.left ≡ results_item w ++ j.left)) p.1 ((p.2, refl), p.3)

pub results_law : (op : Operation) → IsCodec (results_in op) results_item (ResultsOf op)
results_law op = record { again = results_again op; found = results_found op }
