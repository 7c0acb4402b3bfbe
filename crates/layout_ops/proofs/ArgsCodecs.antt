-- Reading arguments and recalls, and spelling them, are each other's inverse.
use Rattle.std.proofs.Common.{◌≡◌, ℕ, List, [], ◌∷◌, ◌++◌, Ok, refl, subst, ◌∙◌}
use Rattle.std.specs.Prelude.{⊤}
use Rattle.osd_lists.specs.Blocks.{IsBytes}
use Rattle.xdr_codec.specs.Items.{u32_item, u64_item, bool_item, opaque_item}
use Rattle.xdr_codec.specs.Reading.{Rest}
use Rattle.xdr_codec.proofs.Codec.{IsCodec}
use Rattle.xdr_codec.proofs.ItemLaws.{ok_is}
use Rattle.layout_types.specs.Grammar.{optional_item}
use Rattle.layout_types.proofs.Steps.{gathered, after}
use Rattle.layout_ops.specs.declared.args.LayoutGetArgs.{LayoutGetArgs}
use Rattle.layout_ops.specs.declared.args.LayoutCommitArgs.{LayoutCommitArgs}
use Rattle.layout_ops.specs.declared.args.LayoutReturnArgs.{LayoutReturnArgs}
use Rattle.layout_ops.specs.declared.args.Args.{Args}
use Rattle.layout_ops.specs.declared.recalls.LayoutRecallArgs.{LayoutRecallArgs}
use Rattle.layout_ops.specs.declared.recalls.Recall.{Recall}
use Rattle.layout_ops.specs.declared.recalls.RecallAnswer.{RecallAnswer}
use Rattle.layout_ops.specs.declared.orders.Order.{Order}
use Rattle.layout_ops.specs.declared.orders.OrderAnswer.{OrderAnswer}
use Rattle.layout_ops.specs.declared.operation.Operation.{Operation}
use Rattle.layout_ops.specs.declared.args.Args.TheVariants as args
use Rattle.layout_ops.specs.declared.operation.Operation.TheVariants as operation
use Rattle.layout_ops.specs.Enumerations.{order_number, order_result_number}
use Rattle.layout_ops.specs.Spelling.{layout_type_item, file_kind_item, recall_op_item, stateid_item, time_item, get_args_item, GetArgsFits, commit_args_item, CommitArgsFits, return_args_item, ReturnArgsFits, operation_of_args, args_item, ArgsFits, recall_args_item, RecallArgsFits, recall_item, RecallFits, recall_answer_item, RecallAnswerFits, order_item, OrderFits, order_answer_item}
use Rattle.layout_ops.specs.Reading.{get_args_in, commit_args_in, return_args_in, args_in, recall_args_in, recall_in, recall_answer_in, order_in, order_answer_in}
use Rattle.layout_ops.proofs.Steps.{took, Ends, in_parts, first, last, put_under}
use Rattle.layout_ops.proofs.Fields.{u32_law, u64_law, bool_law, body_law, file_handle_law, layout_type_law, file_kind_law, recall_op_law, order_kind_law, order_result_law, stateid_law, optional_u64_law, optional_time_law}

-- ---- LayoutGetArgs

get_args_again : (v : LayoutGetArgs) (more : List ℕ) (at : ℕ) → GetArgsFits v →
    Ends (get_args_in (record { left = get_args_item v ++ more; at = at })) v more
unfolding get_args_in
get_args_again v more at fits =
    in_parts get_args_in
    (bool_item v.signal_layout_avail ∷ layout_type_item ∷ u32_item v.iomode ∷ u64_item v.offset ∷ u64_item v.length
    ∷ u64_item v.minlength ∷ stateid_item v.stateid ∷ u32_item v.maxcount ∷ []) at v more
    (first _ _ _ _ _ bool_law v.signal_layout_avail tt
    (λ _. first _ _ _ _ _ layout_type_law tt tt
    (λ _. first _ _ _ _ _ u32_law v.iomode fits.iomode
    (λ _. first _ _ _ _ _ u64_law v.offset fits.offset
    (λ _. first _ _ _ _ _ u64_law v.length fits.length
    (λ _. first _ _ _ _ _ u64_law v.minlength fits.minlength
    (λ _. first _ _ _ _ _ stateid_law v.stateid fits.stateid
    (λ _. last _ _ _ _ u32_law v.maxcount fits.maxcount (λ _. refl)))))))))

get_args_found : (i : Rest) (v : LayoutGetArgs) (j : Rest) → IsBytes i.left → get_args_in i ≡ Ok (v, j) →
    GetArgsFits v × (i.left ≡ get_args_item v ++ j.left)
unfolding get_args_in
get_args_found i v j bytes e =
    took i _ (v, j) bool_law bytes e (λ a a1 af ae ab ar.
    took a1 _ (v, j) layout_type_law ab ar (λ b b1 bf be bb br.
    took b1 _ (v, j) u32_law bb br (λ c c1 cf ce cb cr.
    took c1 _ (v, j) u64_law cb cr (λ d d1 df de db dr.
    took d1 _ (v, j) u64_law db dr (λ f f1 ff fe fb fr.
    took f1 _ (v, j) u64_law fb fr (λ g g1 gf ge gb gr.
    took g1 _ (v, j) stateid_law gb gr (λ h h1 hf he hb hr.
    took h1 _ (v, j) u32_law hb hr (λ k k1 kf ke kb kr.
    subst (λ (p : LayoutGetArgs × Rest). GetArgsFits p.0 × (i.left ≡ get_args_item p.0 ++ p.1.left))
    (ok_is _ (v, j) kr) (
      record { iomode = cf; offset = df; «length» = ff; minlength = gf; stateid = hf; maxcount = kf },
      gathered (bool_item a ∷ layout_type_item ∷ u32_item c ∷ u64_item d ∷ u64_item f ∷ u64_item g ∷ stateid_item h ∷ u32_item k
          ∷ []) i.left k1.left
          (ae ∙ after _ _ _
          (be ∙ after _ _ _
          (ce ∙ after _ _ _ (de ∙ after _ _ _ (fe ∙ after _ _ _ (ge ∙ after _ _ _ (he ∙ after _ _ _ (ke)))))))),
    )))))))))

pub get_args_codec : IsCodec get_args_in get_args_item GetArgsFits
get_args_codec = record { again = get_args_again; found = get_args_found }

-- ---- LayoutCommitArgs

commit_args_again : (v : LayoutCommitArgs) (more : List ℕ) (at : ℕ) → CommitArgsFits v →
    Ends (commit_args_in (record { left = commit_args_item v ++ more; at = at })) v more
unfolding commit_args_in
commit_args_again v more at fits =
    in_parts commit_args_in
    (u64_item v.offset ∷ u64_item v.length ∷ bool_item v.reclaim ∷ stateid_item v.stateid
    ∷ optional_item u64_item v.last_write_offset ∷ optional_item time_item v.time ∷ layout_type_item ∷ opaque_item v.body
    ∷ []) at v more
    (first _ _ _ _ _ u64_law v.offset fits.offset
    (λ _. first _ _ _ _ _ u64_law v.length fits.length
    (λ _. first _ _ _ _ _ bool_law v.reclaim tt
    (λ _. first _ _ _ _ _ stateid_law v.stateid fits.stateid
    (λ _. first _ _ _ _ _ optional_u64_law v.last_write_offset fits.last_write_offset
    (λ _. first _ _ _ _ _ optional_time_law v.time fits.time
    (λ _. first _ _ _ _ _ layout_type_law tt tt (λ _. last _ _ _ _ body_law v.body fits.body (λ _. refl)))))))))

commit_args_found : (i : Rest) (v : LayoutCommitArgs) (j : Rest) → IsBytes i.left → commit_args_in i ≡ Ok (v, j) →
    CommitArgsFits v × (i.left ≡ commit_args_item v ++ j.left)
unfolding commit_args_in
commit_args_found i v j bytes e =
    took i _ (v, j) u64_law bytes e (λ a a1 af ae ab ar.
    took a1 _ (v, j) u64_law ab ar (λ b b1 bf be bb br.
    took b1 _ (v, j) bool_law bb br (λ c c1 cf ce cb cr.
    took c1 _ (v, j) stateid_law cb cr (λ d d1 df de db dr.
    took d1 _ (v, j) optional_u64_law db dr (λ f f1 ff fe fb fr.
    took f1 _ (v, j) optional_time_law fb fr (λ g g1 gf ge gb gr.
    took g1 _ (v, j) layout_type_law gb gr (λ h h1 hf he hb hr.
    took h1 _ (v, j) body_law hb hr (λ k k1 kf ke kb kr.
    subst (λ (p : LayoutCommitArgs × Rest). CommitArgsFits p.0 × (i.left ≡ commit_args_item p.0 ++ p.1.left))
    (ok_is _ (v, j) kr) (
      record { offset = af; «length» = bf; stateid = df; last_write_offset = ff; time = gf; body = kf },
      gathered (u64_item a ∷ u64_item b ∷ bool_item c ∷ stateid_item d ∷ optional_item u64_item f ∷ optional_item time_item g
          ∷ layout_type_item ∷ opaque_item k ∷ []) i.left k1.left
          (ae ∙ after _ _ _
          (be ∙ after _ _ _
          (ce ∙ after _ _ _ (de ∙ after _ _ _ (fe ∙ after _ _ _ (ge ∙ after _ _ _ (he ∙ after _ _ _ (ke)))))))),
    )))))))))

pub commit_args_codec : IsCodec commit_args_in commit_args_item CommitArgsFits
commit_args_codec = record { again = commit_args_again; found = commit_args_found }

-- ---- LayoutReturnArgs

return_args_again : (v : LayoutReturnArgs) (more : List ℕ) (at : ℕ) → ReturnArgsFits v →
    Ends (return_args_in (record { left = return_args_item v ++ more; at = at })) v more
unfolding return_args_in
return_args_again v more at fits =
    in_parts return_args_in
    (bool_item v.reclaim ∷ layout_type_item ∷ u32_item v.iomode ∷ file_kind_item ∷ u64_item v.offset ∷ u64_item v.length
    ∷ stateid_item v.stateid ∷ opaque_item v.body ∷ []) at v more
    (first _ _ _ _ _ bool_law v.reclaim tt
    (λ _. first _ _ _ _ _ layout_type_law tt tt
    (λ _. first _ _ _ _ _ u32_law v.iomode fits.iomode
    (λ _. first _ _ _ _ _ file_kind_law tt tt
    (λ _. first _ _ _ _ _ u64_law v.offset fits.offset
    (λ _. first _ _ _ _ _ u64_law v.length fits.length
    (λ _. first _ _ _ _ _ stateid_law v.stateid fits.stateid (λ _. last _ _ _ _ body_law v.body fits.body (λ _. refl)))))))))

return_args_found : (i : Rest) (v : LayoutReturnArgs) (j : Rest) → IsBytes i.left → return_args_in i ≡ Ok (v, j) →
    ReturnArgsFits v × (i.left ≡ return_args_item v ++ j.left)
unfolding return_args_in
return_args_found i v j bytes e =
    took i _ (v, j) bool_law bytes e (λ a a1 af ae ab ar.
    took a1 _ (v, j) layout_type_law ab ar (λ b b1 bf be bb br.
    took b1 _ (v, j) u32_law bb br (λ c c1 cf ce cb cr.
    took c1 _ (v, j) file_kind_law cb cr (λ d d1 df de db dr.
    took d1 _ (v, j) u64_law db dr (λ f f1 ff fe fb fr.
    took f1 _ (v, j) u64_law fb fr (λ g g1 gf ge gb gr.
    took g1 _ (v, j) stateid_law gb gr (λ h h1 hf he hb hr.
    took h1 _ (v, j) body_law hb hr (λ k k1 kf ke kb kr.
    subst (λ (p : LayoutReturnArgs × Rest). ReturnArgsFits p.0 × (i.left ≡ return_args_item p.0 ++ p.1.left))
    (ok_is _ (v, j) kr) (
      record { iomode = cf; offset = ff; «length» = gf; stateid = hf; body = kf },
      gathered (bool_item a ∷ layout_type_item ∷ u32_item c ∷ file_kind_item ∷ u64_item f ∷ u64_item g ∷ stateid_item h
          ∷ opaque_item k ∷ []) i.left k1.left
          (ae ∙ after _ _ _
          (be ∙ after _ _ _
          (ce ∙ after _ _ _ (de ∙ after _ _ _ (fe ∙ after _ _ _ (ge ∙ after _ _ _ (he ∙ after _ _ _ (ke)))))))),
    )))))))))

pub return_args_codec : IsCodec return_args_in return_args_item ReturnArgsFits
return_args_codec = record { again = return_args_again; found = return_args_found }

-- ---- Args

-- those of one operation
abbrev pub ArgsOf : Operation → Args → Type 0
ArgsOf op v = ArgsFits v × (operation_of_args v ≡ op)

args_again : (op : Operation) (v : Args) (more : List ℕ) (at : ℕ) → ArgsOf op v →
    Ends (args_in op (record { left = args_item v ++ more; at = at })) v more
args_again operation.LayoutCommit (args.LayoutCommit v) more at fits = last _ _ _ _ commit_args_codec v fits.0 (λ _. refl)
args_again operation.LayoutGet (args.LayoutGet v) more at fits = last _ _ _ _ get_args_codec v fits.0 (λ _. refl)
args_again operation.LayoutReturn (args.LayoutReturn v) more at fits = last _ _ _ _ return_args_codec v fits.0 (λ _. refl)
args_again operation.LayoutCommit (args.LayoutGet v) more at fits = absurd (cc fits.1)
args_again operation.LayoutCommit (args.LayoutReturn v) more at fits = absurd (cc fits.1)
args_again operation.LayoutGet (args.LayoutCommit v) more at fits = absurd (cc fits.1)
args_again operation.LayoutGet (args.LayoutReturn v) more at fits = absurd (cc fits.1)
args_again operation.LayoutReturn (args.LayoutCommit v) more at fits = absurd (cc fits.1)
args_again operation.LayoutReturn (args.LayoutGet v) more at fits = absurd (cc fits.1)

args_found : (op : Operation) (i : Rest) (v : Args) (j : Rest) → IsBytes i.left → args_in op i ≡ Ok (v, j) →
    ArgsOf op v × (i.left ≡ args_item v ++ j.left)
args_found operation.LayoutCommit i v j bytes e =
    let p = put_under commit_args_in commit_args_item CommitArgsFits i args.LayoutCommit v j commit_args_codec bytes e in
    subst (λ (w : Args). ArgsOf operation.LayoutCommit w × (i.left ≡ args_item w ++ j.left)) p.1 ((p.2, refl), p.3)
args_found operation.LayoutGet i v j bytes e =
    let p = put_under get_args_in get_args_item GetArgsFits i args.LayoutGet v j get_args_codec bytes e in
    subst (λ (w : Args). ArgsOf operation.LayoutGet w × (i.left ≡ args_item w ++ j.left)) p.1 ((p.2, refl), p.3)
args_found operation.LayoutReturn i v j bytes e =
    let p = put_under return_args_in return_args_item ReturnArgsFits i args.LayoutReturn v j return_args_codec bytes e in
    subst (λ (w : Args). ArgsOf operation.LayoutReturn w × (i.left ≡ args_item w ++ j.left)) p.1 ((p.2, refl), p.3)

pub args_law : (op : Operation) → IsCodec (args_in op) args_item (ArgsOf op)
args_law op = record { again = args_again op; found = args_found op }

-- ---- LayoutRecallArgs

recall_args_again : (v : LayoutRecallArgs) (more : List ℕ) (at : ℕ) → RecallArgsFits v →
    Ends (recall_args_in (record { left = recall_args_item v ++ more; at = at })) v more
unfolding recall_args_in
recall_args_again v more at fits =
    in_parts recall_args_in
    (layout_type_item ∷ u32_item v.iomode ∷ bool_item v.changed ∷ file_kind_item ∷ opaque_item v.file ∷ u64_item v.offset
    ∷ u64_item v.length ∷ stateid_item v.stateid ∷ []) at v more
    (first _ _ _ _ _ layout_type_law tt tt
    (λ _. first _ _ _ _ _ u32_law v.iomode fits.iomode
    (λ _. first _ _ _ _ _ bool_law v.changed tt
    (λ _. first _ _ _ _ _ file_kind_law tt tt
    (λ _. first _ _ _ _ _ file_handle_law v.file fits.file
    (λ _. first _ _ _ _ _ u64_law v.offset fits.offset
    (λ _. first _ _ _ _ _ u64_law v.length fits.length
    (λ _. last _ _ _ _ stateid_law v.stateid fits.stateid (λ _. refl)))))))))

recall_args_found : (i : Rest) (v : LayoutRecallArgs) (j : Rest) → IsBytes i.left → recall_args_in i ≡ Ok (v, j) →
    RecallArgsFits v × (i.left ≡ recall_args_item v ++ j.left)
unfolding recall_args_in
recall_args_found i v j bytes e =
    took i _ (v, j) layout_type_law bytes e (λ a a1 af ae ab ar.
    took a1 _ (v, j) u32_law ab ar (λ b b1 bf be bb br.
    took b1 _ (v, j) bool_law bb br (λ c c1 cf ce cb cr.
    took c1 _ (v, j) file_kind_law cb cr (λ d d1 df de db dr.
    took d1 _ (v, j) file_handle_law db dr (λ f f1 ff fe fb fr.
    took f1 _ (v, j) u64_law fb fr (λ g g1 gf ge gb gr.
    took g1 _ (v, j) u64_law gb gr (λ h h1 hf he hb hr.
    took h1 _ (v, j) stateid_law hb hr (λ k k1 kf ke kb kr.
    subst (λ (p : LayoutRecallArgs × Rest). RecallArgsFits p.0 × (i.left ≡ recall_args_item p.0 ++ p.1.left))
    (ok_is _ (v, j) kr) (
      record { iomode = bf; file = ff; offset = gf; «length» = hf; stateid = kf },
      gathered (layout_type_item ∷ u32_item b ∷ bool_item c ∷ file_kind_item ∷ opaque_item f ∷ u64_item g ∷ u64_item h
          ∷ stateid_item k ∷ []) i.left k1.left
          (ae ∙ after _ _ _
          (be ∙ after _ _ _
          (ce ∙ after _ _ _ (de ∙ after _ _ _ (fe ∙ after _ _ _ (ge ∙ after _ _ _ (he ∙ after _ _ _ (ke)))))))),
    )))))))))

pub recall_args_codec : IsCodec recall_args_in recall_args_item RecallArgsFits
recall_args_codec = record { again = recall_args_again; found = recall_args_found }

-- ---- Recall

recall_again : (v : Recall) (more : List ℕ) (at : ℕ) → RecallFits v →
    Ends (recall_in (record { left = recall_item v ++ more; at = at })) v more
unfolding recall_in
recall_again v more at fits =
    in_parts recall_in
    (u32_item v.client ∷ u32_item v.number ∷ u32_item v.file ∷ recall_op_item ∷ recall_args_item v.args ∷ []) at v more
    (first _ _ _ _ _ u32_law v.client fits.client
    (λ _. first _ _ _ _ _ u32_law v.number fits.number
    (λ _. first _ _ _ _ _ u32_law v.file fits.file
    (λ _. first _ _ _ _ _ recall_op_law tt tt (λ _. last _ _ _ _ recall_args_codec v.args fits.args (λ _. refl))))))

recall_found : (i : Rest) (v : Recall) (j : Rest) → IsBytes i.left → recall_in i ≡ Ok (v, j) →
    RecallFits v × (i.left ≡ recall_item v ++ j.left)
unfolding recall_in
recall_found i v j bytes e =
    took i _ (v, j) u32_law bytes e (λ a a1 af ae ab ar.
    took a1 _ (v, j) u32_law ab ar (λ b b1 bf be bb br.
    took b1 _ (v, j) u32_law bb br (λ c c1 cf ce cb cr.
    took c1 _ (v, j) recall_op_law cb cr (λ d d1 df de db dr.
    took d1 _ (v, j) recall_args_codec db dr (λ f f1 ff fe fb fr.
    subst (λ (p : Recall × Rest). RecallFits p.0 × (i.left ≡ recall_item p.0 ++ p.1.left))
    (ok_is _ (v, j) fr) (
      record { client = af; number = bf; file = cf; args = ff },
      gathered (u32_item a ∷ u32_item b ∷ u32_item c ∷ recall_op_item ∷ recall_args_item f ∷ []) i.left f1.left
          (ae ∙ after _ _ _ (be ∙ after _ _ _ (ce ∙ after _ _ _ (de ∙ after _ _ _ (fe))))),
    ))))))

pub recall_codec : IsCodec recall_in recall_item RecallFits
recall_codec = record { again = recall_again; found = recall_found }

-- ---- RecallAnswer

recall_answer_again : (v : RecallAnswer) (more : List ℕ) (at : ℕ) → RecallAnswerFits v →
    Ends (recall_answer_in (record { left = recall_answer_item v ++ more; at = at })) v more
unfolding recall_answer_in
recall_answer_again v more at fits =
    in_parts recall_answer_in
    (u32_item v.client ∷ u32_item v.number ∷ u32_item v.file ∷ recall_op_item ∷ u32_item v.status ∷ []) at v more
    (first _ _ _ _ _ u32_law v.client fits.client
    (λ _. first _ _ _ _ _ u32_law v.number fits.number
    (λ _. first _ _ _ _ _ u32_law v.file fits.file
    (λ _. first _ _ _ _ _ recall_op_law tt tt (λ _. last _ _ _ _ u32_law v.status fits.status (λ _. refl))))))

recall_answer_found : (i : Rest) (v : RecallAnswer) (j : Rest) → IsBytes i.left → recall_answer_in i ≡ Ok (v, j) →
    RecallAnswerFits v × (i.left ≡ recall_answer_item v ++ j.left)
unfolding recall_answer_in
recall_answer_found i v j bytes e =
    took i _ (v, j) u32_law bytes e (λ a a1 af ae ab ar.
    took a1 _ (v, j) u32_law ab ar (λ b b1 bf be bb br.
    took b1 _ (v, j) u32_law bb br (λ c c1 cf ce cb cr.
    took c1 _ (v, j) recall_op_law cb cr (λ d d1 df de db dr.
    took d1 _ (v, j) u32_law db dr (λ f f1 ff fe fb fr.
    subst (λ (p : RecallAnswer × Rest). RecallAnswerFits p.0 × (i.left ≡ recall_answer_item p.0 ++ p.1.left))
    (ok_is _ (v, j) fr) (
      record { client = af; number = bf; file = cf; status = ff },
      gathered (u32_item a ∷ u32_item b ∷ u32_item c ∷ recall_op_item ∷ u32_item f ∷ []) i.left f1.left
          (ae ∙ after _ _ _ (be ∙ after _ _ _ (ce ∙ after _ _ _ (de ∙ after _ _ _ (fe))))),
    ))))))

pub recall_answer_codec : IsCodec recall_answer_in recall_answer_item RecallAnswerFits
recall_answer_codec = record { again = recall_answer_again; found = recall_answer_found }

-- ---- Order

order_again : (v : Order) (more : List ℕ) (at : ℕ) → OrderFits v →
    Ends (order_in (record { left = order_item v ++ more; at = at })) v more
unfolding order_in
order_again v more at fits =
    in_parts order_in (u32_item (order_number v.order) ∷ u32_item v.target ∷ []) at v more
    (first _ _ _ _ _ order_kind_law v.order tt (λ _. last _ _ _ _ u32_law v.target fits (λ _. refl)))

order_found : (i : Rest) (v : Order) (j : Rest) → IsBytes i.left → order_in i ≡ Ok (v, j) →
    OrderFits v × (i.left ≡ order_item v ++ j.left)
unfolding order_in
order_found i v j bytes e =
    took i _ (v, j) order_kind_law bytes e (λ a a1 af ae ab ar.
    took a1 _ (v, j) u32_law ab ar (λ b b1 bf be bb br.
    subst (λ (p : Order × Rest). OrderFits p.0 × (i.left ≡ order_item p.0 ++ p.1.left)) (ok_is _ (v, j) br)
    (bf, gathered (u32_item (order_number a) ∷ u32_item b ∷ []) i.left b1.left (ae ∙ after _ _ _ (be)))))

pub order_codec : IsCodec order_in order_item OrderFits
order_codec = record { again = order_again; found = order_found }

-- ---- OrderAnswer

order_answer_again : (v : OrderAnswer) (more : List ℕ) (at : ℕ) → ⊤ →
    Ends (order_answer_in (record { left = order_answer_item v ++ more; at = at })) v more
unfolding order_answer_in
order_answer_again v more at fits =
    in_parts order_answer_in (u32_item (order_number v.order) ∷ u32_item (order_result_number v.result) ∷ []) at v more
    (first _ _ _ _ _ order_kind_law v.order tt (λ _. last _ _ _ _ order_result_law v.result tt (λ _. refl)))

order_answer_found : (i : Rest) (v : OrderAnswer) (j : Rest) → IsBytes i.left → order_answer_in i ≡ Ok (v, j) →
    ⊤ × (i.left ≡ order_answer_item v ++ j.left)
unfolding order_answer_in
order_answer_found i v j bytes e =
    took i _ (v, j) order_kind_law bytes e (λ a a1 af ae ab ar.
    took a1 _ (v, j) order_result_law ab ar (λ b b1 bf be bb br.
    subst (λ (p : OrderAnswer × Rest). ⊤ × (i.left ≡ order_answer_item p.0 ++ p.1.left)) (ok_is _ (v, j) br)
    (tt, gathered (u32_item (order_number a) ∷ u32_item (order_result_number b) ∷ []) i.left b1.left (ae ∙ after _ _ _ (be)))))

pub order_answer_codec : IsCodec order_answer_in order_answer_item (λ w. ⊤)
order_answer_codec = record { again = order_answer_again; found = order_answer_found }
