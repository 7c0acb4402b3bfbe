-- The parts of layouts and messages at the front of bytes.
use Rattle.std.proofs.Common.{◌≡◌, ℕ, ◌≤◌, List, [], ◌++◌, length, Option, Some, None, Result, Ok, Err, sym, ap, ◌∙◌, arith, inl, inr}
use Rattle.std.proofs.lemmas.Bool.{cases_lt}
use Rattle.xdr_codec.specs.declared.err.XdrErr.{XdrErr}
use Rattle.xdr_codec.specs.Items.{u32_item, u64_item, opaque_item}
use Rattle.xdr_codec.specs.Reading.{Rest, u32_in, u64_in, count_in, opaque_in}
use Rattle.xdr_codec.proofs.ItemLaws.{bind_ok, ok_is}
use Rattle.layout_types.specs.declared.err.LayoutErr.{LayoutErr}
use Rattle.layout_types.specs.Grammar.{lifted, u32_part, u64_part, count_part, named, enum_part, whole}
use Rattle.layout_types.proofs.Steps.{count_law}
use Rattle.layout_ops.specs.declared.err.OpErr.{OpErr}
use Rattle.layout_ops.specs.Grammar.{carried, u32_field, u64_field, opaque_field}
use Rattle.layout_ops.specs.Grammar as message
use Rattle.layout_ops.proofs.Fields.{body_law, lifted_ok as message_ok}
use Rattle.history_law.proofs.Fronts.{Gets, Any, codec_gets, number_32, number_64, count_in_gets, long_leaves, ended}

-- ---- the refusals of layouts and of messages

pub lifted_ok : {A : Type 0} (r : Result A XdrErr) (x : A) → lifted r ≡ Ok x → r ≡ Ok x
lifted_ok (Ok y) x e = cc
lifted_ok (Err d) x e = absurd (cc e)

pub carried_ok : {A : Type 0} (r : Result A LayoutErr) (x : A) → carried r ≡ Ok x → r ≡ Ok x
carried_ok (Ok y) x e = cc
carried_ok (Err d) x e = absurd (cc e)

-- ---- numbers

pub part_32 : (n : ℕ) → Gets u32_part (u32_item n) Any
unfolding u32_part
part_32 n i more x at e = number_32 n i more x at (lifted_ok (u32_in i) x e)

pub part_64 : (n : ℕ) → Gets u64_part (u64_item n) Any
unfolding u64_part
part_64 n i more x at e = number_64 n i more x at (lifted_ok (u64_in i) x e)

pub field_32 : (n : ℕ) → Gets u32_field (u32_item n) Any
unfolding u32_field
field_32 n i more x at e = part_32 n i more x at (carried_ok (u32_part i) x e)

pub field_64 : (n : ℕ) → Gets u64_field (u64_item n) Any
unfolding u64_field
field_64 n i more x at e = part_64 n i more x at (carried_ok (u64_part i) x e)

named_rest : {V : Type 0} (at : ℕ) (n : ℕ × Rest) (o : Option V) (x : V × Rest) → named at n o ≡ Ok x → n.1 ≡ x.1
named_rest at n None x e = absurd (cc e)
named_rest at n (Some v) x e = ap (λ (p : _ × Rest). p.1) (ok_is (v, n.1) x e)

pub enum_gets : {V : Type 0} (of : ℕ → Option V) (n : ℕ) → Gets (enum_part of) (u32_item n) Any
unfolding enum_part
enum_gets of n i more x at e =
    let b = bind_ok (u32_part i) (λ k. named i.at k (of k.0)) x e in
    (tt, ap (λ (j : Rest). j.left) (sym (named_rest i.at b.0 (of b.0.0) x b.2)) ∙ (part_32 n i more b.0 at b.1).1)

within : (n : ℕ) → Gets count_part (u32_item n) (λ k. k ≤ 1024)
unfolding count_part
within n i more x at e = count_in_gets 1024 n i more x at (lifted_ok (count_in 1024 i) x e)

-- a count is no more than what was spelled
pub count_gets : (n : ℕ) → Gets count_part (u32_item n) (λ k. k ≤ n)
count_gets n = elim (cases_lt 1024 n) [
  | inl long ↦
      λ i more x at e.
      let g : (x.0 ≤ 1024) × (x.1.left ≡ more) = within n i more x at e in
      (omega (arith, long, g.0), g.1)
  | inr short ↦
      λ i more x at e.
      let g : (x.0 ≡ n) × (x.1.left ≡ more) = codec_gets count_law n short i more x at e in
      (omega (arith, g.0), g.1)
]

-- ---- the body of a layout, with nothing behind it

pub body_gets : (b : List ℕ) (i : Rest) (more : List ℕ) (x : List ℕ × Rest) → i.left ≡ opaque_item b ++ more
    → opaque_field 65536 i ≡ Ok x → x.1.left ≡ [] → x.0 ≡ b
unfolding opaque_field
body_gets b i more x at e ends = elim (cases_lt 65536 (length b)) [
  | inl long ↦ absurd (long_leaves b i more x long at (message_ok (opaque_in 65536 i) x e) ends)
  | inr short ↦ (codec_gets body_law b short i more x at e).0
]

-- ---- wholes

-- nothing is left
pub record Ends {V E : Type 0} (part : Rest → Result (V × Rest) E) (bytes : List ℕ) (v : V) : Type 0 where
  pub rest : Rest
  pub read : part (record { left = bytes; at = 0 }) ≡ Ok (v, rest)
  pub none : rest.left ≡ []

pub layout_ends : {V : Type 0} (part : Rest → Result (V × Rest) LayoutErr) (bytes : List ℕ) (v : V)
    → whole part bytes ≡ Ok v → Ends part bytes v
unfolding whole
layout_ends part bytes v e =
    let a = bind_ok _ _ v e in
    let b = bind_ok _ _ v a.2 in
    record {
      rest = a.0.1;
      read = a.1 ∙ ap (λ (x : _). Ok (x, a.0.1)) (ok_is a.0.0 v b.2);
      none = ended a.0.1 b.0 (lifted_ok _ _ b.1);
    }

pub message_ends : {V : Type 0} (part : Rest → Result (V × Rest) OpErr) (bytes : List ℕ) (v : V)
    → message.whole part bytes ≡ Ok v → Ends part bytes v
unfolding message.whole
message_ends part bytes v e =
    let a = bind_ok _ _ v e in
    let b = bind_ok _ _ v a.2 in
    record {
      rest = a.0.1;
      read = a.1 ∙ ap (λ (x : _). Ok (x, a.0.1)) (ok_is a.0.0 v b.2);
      none = ended a.0.1 b.0 (message_ok _ _ b.1);
    }
