-- Laws of the fields of a message.
use Rattle.std.proofs.Common.{◌≡◌, ℕ, ◌<◌, ◌≤◌, ◌^◌, eqb, List, [], ◌∷◌, ◌++◌, length, Option, None, Some, Result, Ok, Err, refl, ap, subst, ◌∙◌, arith, inl, inr}
use Rattle.std.specs.Prelude.{⊤}
use Rattle.std.proofs.lemmas.Bool.{eqb-true}
use Rattle.std.proofs.lemmas.Bool.Decides.{nat_tests}
use Rattle.osd_lists.specs.Blocks.{IsBytes}
use Rattle.xdr_codec.specs.declared.err.XdrErr.{XdrErr}
use Rattle.xdr_codec.specs.Items.{u32_item, u64_item, i64_item, bool_item, fixed_item, opaque_item}
use Rattle.xdr_codec.specs.Reading.{Rest, ◌>>=◌, opaque_in}
use Rattle.xdr_codec.proofs.Codec.{IsCodec}
use Rattle.xdr_codec.proofs.ItemLaws.{ok_is, err_is_not, chosen, opaque_codec}
use Rattle.layout_types.specs.declared.err.LayoutErr.{LayoutErr}
use Rattle.layout_types.specs.Grammar.{lifted, u32_part, u64_part, bool_part, count_part, enum_part, optional_item, OptionalFits}
use Rattle.layout_types.proofs.Steps as part
use Rattle.layout_types.proofs.Steps.{gathered, after, IsTable}
use Rattle.layout_ops.specs.declared.err.OpErr.{OpErr}
use Rattle.layout_ops.specs.declared.err.OpErr.TheVariants.{UnknownOp, WrongLayoutType, WrongReturn}
use Rattle.layout_ops.specs.declared.items.StateId.{StateId}
use Rattle.layout_ops.specs.declared.items.Time.{Time}
use Rattle.layout_ops.specs.declared.operation.Operation.{Operation}
use Rattle.layout_ops.specs.declared.operation.Operation.TheVariants as operation
use Rattle.layout_ops.specs.declared.orders.OrderKind.{OrderKind}
use Rattle.layout_ops.specs.declared.orders.OrderKind.TheVariants as order
use Rattle.layout_ops.specs.declared.orders.OrderResult.{OrderResult}
use Rattle.layout_ops.specs.declared.orders.OrderResult.TheVariants as answer
use Rattle.layout_ops.specs.Enumerations.{operation_number, operation_of, order_number, order_of, order_result_number, order_result_of}
use Rattle.layout_ops.specs.Grammar.{carried, u32_field, u64_field, bool_field, opaque_field, count_field, as_expected, layout_type_in, file_kind_in, recall_op_in, known, operation_in}
use Rattle.layout_ops.specs.Spelling.{stateid_item, StateIdFits, time_item, TimeFits}
use Rattle.layout_ops.specs.Reading.{stateid_part, time_part, stateid_field, optional_u64_field, optional_time_field, optional_stateid_field, order_kind_field, order_result_field}
use Rattle.layout_ops.proofs.Steps.{step}

-- ---- what structures have too

carried_ok : {A : Type 0} (r : Result A LayoutErr) (x : A) → carried r ≡ Ok x → r ≡ Ok x
carried_ok (Ok y) x e = cc
carried_ok (Err d) x e = absurd cc

carry : {V : Type 0} (read : Rest → Result (V × Rest) LayoutErr) (spelling : V → List ℕ) (Fits : V → Type 0) →
    IsCodec read spelling Fits → IsCodec (λ i. carried (read i)) spelling Fits
carry read spelling Fits codec = record {
  again = λ v more at fits. let a = codec.again v more at fits in (a.0, ap carried a.1);
  found = λ i v j fits e. codec.found i v j fits (carried_ok (read i) (v, j) e);
}

pub u32_law : IsCodec u32_field u32_item (λ n. n < 2 ^ 32)
unfolding u32_field
u32_law = carry u32_part u32_item (λ n. n < 2 ^ 32) part.u32_law

pub u64_law : IsCodec u64_field u64_item (λ n. n < 2 ^ 64)
unfolding u64_field
u64_law = carry u64_part u64_item (λ n. n < 2 ^ 64) part.u64_law

pub bool_law : IsCodec bool_field bool_item (λ b. ⊤)
unfolding bool_field
bool_law = carry bool_part bool_item (λ b. ⊤) part.bool_law

pub count_law : IsCodec count_field u32_item (λ n. n ≤ 1024)
unfolding count_field
count_law = carry count_part u32_item (λ n. n ≤ 1024) part.count_law

pub lifted_ok : {A : Type 0} (r : Result A XdrErr) (x : A) → carried (lifted r) ≡ Ok x → r ≡ Ok x
lifted_ok (Ok y) x e = cc
lifted_ok (Err d) x e = absurd cc

pub opaque_law : (most : ℕ) → most < 2 ^ 32 → IsCodec (opaque_field most) opaque_item (λ v. length v ≤ most)
unfolding opaque_field
opaque_law most small =
    let codec = opaque_codec most small in
    record {
      again = λ v more at fits. let a = codec.again v more at fits in (a.0, ap (λ r. carried (lifted r)) a.1);
      found = λ i v j fits e. codec.found i v j fits (lifted_ok (opaque_in most i) (v, j) e);
    }

pub body_law : IsCodec (opaque_field 65536) opaque_item (λ v. length v ≤ 65536)
body_law = opaque_law 65536 (omega arith)

pub file_handle_law : IsCodec (opaque_field 128) opaque_item (λ v. length v ≤ 128)
file_handle_law = opaque_law 128 (omega arith)

-- ---- numbers that decide

expected_ok : (expected : ℕ) (refusal : ℕ → OpErr) (n : ℕ × Rest) (x : Unit {0} × Rest) → as_expected expected refusal n ≡ Ok x →
    (n.0 ≡ expected) × ((tt, n.1) ≡ x)
expected_ok expected refusal n x e =
    elim (chosen (eqb n.0 expected) (Ok (tt, n.1)) (Err (refusal n.0)) (Ok x) e) [
      | inl p ↦ (eqb-true n.0 expected p.0, ok_is _ _ p.1)
      | inr p ↦ absurd (err_is_not _ _ p.1)
    ]

decided_found : (expected : ℕ) (refusal : ℕ → OpErr) (i : Rest) (v : Unit {0}) (j : Rest) → IsBytes i.left →
    (u32_field i >>= as_expected expected refusal) ≡ Ok (v, j) → ⊤ × (i.left ≡ u32_item expected ++ j.left)
decided_found expected refusal i v j bytes e =
    let s = step u32_field u32_item (λ n. n < 2 ^ 32) i (as_expected expected refusal) (v, j) u32_law bytes e in
    let n = expected_ok expected refusal s.0 (v, j) s.2 in
    let rest : s.0.1.left ≡ j.left = ap (λ (p : Unit {0} × Rest). p.1.left) n.1 in
    (tt, s.1.front ∙ rw (n.0, rest) refl)

pub layout_type_law : IsCodec layout_type_in (λ v. u32_item 2) (λ v. ⊤)
unfolding layout_type_in
layout_type_law = record {
  again = λ v more at fits. let a = u32_law.again 2 more at (omega arith) in (a.0, rw a.1 refl);
  found = decided_found 2 WrongLayoutType;
}

pub file_kind_law : IsCodec file_kind_in (λ v. u32_item 1) (λ v. ⊤)
unfolding file_kind_in
file_kind_law = record {
  again = λ v more at fits. let a = u32_law.again 1 more at (omega arith) in (a.0, rw a.1 refl);
  found = decided_found 1 WrongReturn;
}

pub recall_op_law : IsCodec recall_op_in (λ v. u32_item 5) (λ v. ⊤)
unfolding recall_op_in
recall_op_law = record {
  again = λ v more at fits. let a = u32_law.again 5 more at (omega arith) in (a.0, rw a.1 refl);
  found = decided_found 5 UnknownOp;
}

-- ---- operations and orders

operation_only : (n : ℕ) (v : Operation) → operation_of n ≡ Some v → operation_number v ≡ n
operation_only n operation.LayoutCommit e = grind (arith, nat_tests)
operation_only n operation.LayoutGet e = grind (arith, nat_tests)
operation_only n operation.LayoutReturn e = grind (arith, nat_tests)

operation_back : (v : Operation) → operation_of (operation_number v) ≡ Some v
operation_back operation.LayoutCommit = refl
operation_back operation.LayoutGet = refl
operation_back operation.LayoutReturn = refl

operation_small : (v : Operation) → operation_number v < 2 ^ 32
operation_small operation.LayoutCommit = omega arith
operation_small operation.LayoutGet = omega arith
operation_small operation.LayoutReturn = omega arith

known_ok : (n : ℕ × Rest) (o : Option Operation) (x : Operation × Rest) → known n o ≡ Ok x →
    (v : Operation) × (o ≡ Some v) × ((v, n.1) ≡ x)
known_ok n None x e = absurd cc
known_ok n (Some v) x e = (v, refl, cc)

pub operation_law : IsCodec operation_in (λ v. u32_item (operation_number v)) (λ v. ⊤)
unfolding operation_in
operation_law = record {
  again = λ v more at fits. let a = u32_law.again (operation_number v) more at (operation_small v) in
      (a.0, rw (a.1, operation_back v) refl);
  found = λ i v j fits e.
      let s = step u32_field u32_item (λ n. n < 2 ^ 32) i (λ n. known n (operation_of n.0)) (v, j) u32_law fits e in
      let n = known_ok s.0 (operation_of s.0.0) (v, j) s.2 in
      subst (λ (p : Operation × Rest). ⊤ × (i.left ≡ u32_item (operation_number p.0) ++ p.1.left)) n.2
      (tt, rw (operation_only s.0.0 n.0 n.1) s.1.front);
}

order_only : (n : ℕ) (v : OrderKind) → order_of n ≡ Some v → order_number v ≡ n
order_only n order.Recall e = grind (arith, nat_tests)
order_only n order.Revoke e = grind (arith, nat_tests)
order_only n order.Declare e = grind (arith, nat_tests)
order_only n order.Rebuild e = grind (arith, nat_tests)
order_only n order.Audit e = grind (arith, nat_tests)

order_back : (v : OrderKind) → order_of (order_number v) ≡ Some v
order_back order.Recall = refl
order_back order.Revoke = refl
order_back order.Declare = refl
order_back order.Rebuild = refl
order_back order.Audit = refl

order_small : (v : OrderKind) → order_number v < 2 ^ 32
order_small order.Recall = omega arith
order_small order.Revoke = omega arith
order_small order.Declare = omega arith
order_small order.Rebuild = omega arith
order_small order.Audit = omega arith

pub order_kind_law : IsCodec order_kind_field (λ v. u32_item (order_number v)) (λ v. ⊤)
unfolding order_kind_field
order_kind_law =
    carry (enum_part order_of) _ _
    (part.enum_law order_of order_number (λ v. ⊤)
    (record { back = λ v fits. order_back v; small = λ v fits. order_small v; only = λ n v e. (order_only n v e, tt) }))

result_only : (n : ℕ) (v : OrderResult) → order_result_of n ≡ Some v → order_result_number v ≡ n
result_only n answer.Started e = grind (arith, nat_tests)
result_only n answer.Busy e = grind (arith, nat_tests)
result_only n answer.Spent e = grind (arith, nat_tests)
result_only n answer.Unknown e = grind (arith, nat_tests)

result_back : (v : OrderResult) → order_result_of (order_result_number v) ≡ Some v
result_back answer.Started = refl
result_back answer.Busy = refl
result_back answer.Spent = refl
result_back answer.Unknown = refl

result_small : (v : OrderResult) → order_result_number v < 2 ^ 32
result_small answer.Started = omega arith
result_small answer.Busy = omega arith
result_small answer.Spent = omega arith
result_small answer.Unknown = omega arith

pub order_result_law : IsCodec order_result_field (λ v. u32_item (order_result_number v)) (λ v. ⊤)
unfolding order_result_field
order_result_law =
    carry (enum_part order_result_of) _ _
    (part.enum_law order_result_of order_result_number (λ v. ⊤)
    (record { back = λ v fits. result_back v; small = λ v fits. result_small v; only = λ n v e. (result_only n v e, tt) }))

-- ---- states and times

stateid_again : (v : StateId) (more : List ℕ) (at : ℕ) → StateIdFits v →
    part.Ends (stateid_part (record { left = stateid_item v ++ more; at = at })) v more
unfolding stateid_part
stateid_again v more at fits =
    part.in_parts stateid_part (u32_item v.seqid ∷ fixed_item v.other ∷ []) at v more
    (part.first _ _ _ _ _ part.u32_law v.seqid fits.seqid
    (λ _. part.last _ _ _ _ (part.fixed_law 12) v.other fits.other (λ _. refl)))

stateid_found : (i : Rest) (v : StateId) (j : Rest) → IsBytes i.left → stateid_part i ≡ Ok (v, j) →
    StateIdFits v × (i.left ≡ stateid_item v ++ j.left)
unfolding stateid_part
stateid_found i v j bytes e =
    let a = step _ _ _ i _ (v, j) part.u32_law bytes e in
    let b = step _ _ _ a.0.1 _ (v, j) (part.fixed_law 12) a.1.bytes a.2 in
    let whole = gathered (u32_item a.0.0 ∷ fixed_item b.0.0 ∷ []) i.left b.0.1.left (a.1.front ∙ after _ _ _ b.1.front) in
    subst (λ (p : StateId × Rest). StateIdFits p.0 × (i.left ≡ stateid_item p.0 ++ p.1.left)) (ok_is _ (v, j) b.2)
    (record { seqid = a.1.fits; other = b.1.fits }, whole)

stateid_codec : IsCodec stateid_part stateid_item StateIdFits
stateid_codec = record { again = stateid_again; found = stateid_found }

time_again : (v : Time) (more : List ℕ) (at : ℕ) → TimeFits v →
    part.Ends (time_part (record { left = time_item v ++ more; at = at })) v more
unfolding time_part
time_again v more at fits =
    part.in_parts time_part (i64_item v.seconds ∷ u32_item v.nanoseconds ∷ []) at v more
    (part.first _ _ _ _ _ part.i64_law v.seconds fits.seconds
    (λ _. part.last _ _ _ _ part.u32_law v.nanoseconds fits.nanoseconds (λ _. refl)))

time_found : (i : Rest) (v : Time) (j : Rest) → IsBytes i.left → time_part i ≡ Ok (v, j) →
    TimeFits v × (i.left ≡ time_item v ++ j.left)
unfolding time_part
time_found i v j bytes e =
    let a = step _ _ _ i _ (v, j) part.i64_law bytes e in
    let b = step _ _ _ a.0.1 _ (v, j) part.u32_law a.1.bytes a.2 in
    let whole = gathered (i64_item a.0.0 ∷ u32_item b.0.0 ∷ []) i.left b.0.1.left (a.1.front ∙ after _ _ _ b.1.front) in
    subst (λ (p : Time × Rest). TimeFits p.0 × (i.left ≡ time_item p.0 ++ p.1.left)) (ok_is _ (v, j) b.2)
    (record { seconds = a.1.fits; nanoseconds = b.1.fits }, whole)

time_codec : IsCodec time_part time_item TimeFits
time_codec = record { again = time_again; found = time_found }

pub stateid_law : IsCodec stateid_field stateid_item StateIdFits
unfolding stateid_field
stateid_law = carry stateid_part stateid_item StateIdFits stateid_codec

pub optional_u64_law : IsCodec optional_u64_field (optional_item u64_item) (OptionalFits (λ n. n < 2 ^ 64))
unfolding optional_u64_field
optional_u64_law = carry _ _ _ (part.optional_law part.u64_law)

pub optional_time_law : IsCodec optional_time_field (optional_item time_item) (OptionalFits TimeFits)
unfolding optional_time_field
optional_time_law = carry _ _ _ (part.optional_law time_codec)

pub optional_stateid_law : IsCodec optional_stateid_field (optional_item stateid_item) (OptionalFits StateIdFits)
unfolding optional_stateid_field
optional_stateid_law = carry _ _ _ (part.optional_law stateid_codec)
