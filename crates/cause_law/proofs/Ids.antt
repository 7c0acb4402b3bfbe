-- The device ids of a layout that was read are as long as all are.
use Rattle.std.proofs.Common.{◌≡◌, ℕ, zero, suc, Bool, true, false, List, [], nat_lt, length, Option, Some, None, Ok, Err, sym, ap, ◌∙◌, arith, inl, inr, if◌then◌else◌}
use Rattle.std.specs.Prelude.{slice_range}
use Rattle.std.specs.List.{AllByRecursion}
use Rattle.std.proofs.lemmas.Bool.{cases_lt, lt-ltb}
use Rattle.osd_lists.specs.Blocks.{first_nonzero}
use Rattle.osd_lists.proofs.BlockLaws.{length-range}
use Rattle.xdr_codec.specs.declared.err.XdrErr.TheVariants.{Short}
use Rattle.xdr_codec.specs.Reading.{Rest, behind, unless_padding, body_in, fixed_in, end_of}
use Rattle.xdr_codec.proofs.ItemLaws.{bind_ok}
use Rattle.layout_types.specs.declared.objid.ObjId.{ObjId}
use Rattle.layout_types.specs.declared.cred.ObjectCred.{ObjectCred}
use Rattle.layout_types.specs.declared.layout.Layout.{Layout}
use Rattle.layout_types.specs.Enumerations.{version_of, security_of}
use Rattle.layout_types.specs.Grammar.{u32_part, u64_part, fixed_part, opaque_part, enum_part, count_part, members, list_part, lifted, whole}
use Rattle.layout_types.specs.Reading.{objid_in, cred_in, map_in, layout_in}
use Rattle.client_rules.proofs.KnownMaps.{holds}
use Rattle.history_law.proofs.Parts.{lifted_ok}

-- ---- bytes of a length that is known

unpadded : (at : ℕ) (o : Option ℕ) (v x : List ℕ × Rest) → unless_padding at o v ≡ Ok x → v ≡ x
unpadded at None v x e = cc e
unpadded at (Some k) v x e = absurd (cc e)

fixed_long : (i : Rest) (x : List ℕ × Rest) → fixed_in 16 i ≡ Ok x → length x.0 ≡ 16
unfolding body_in
fixed_long i x e = elim (cases_lt (length i.left) 16) [
  | inl less ↦ absurd (cc (rw (lt-ltb (length i.left) 16 less) at e))
  | inr enough ↦ long (nat_lt (length i.left) 16) e (length-range i.left 0 16 (omega arith) enough)
]
  where
    long : (b : Bool) → (if b then Err (Short i.at) else
        unless_padding i.at (first_nonzero i.left 16 16) (slice_range i.left 0 16, behind 16 i)) ≡ Ok x
        → length (slice_range i.left 0 16) ≡ 16 → length x.0 ≡ 16
    long true e l = absurd (cc e)
    long false e l = let same = unpadded i.at (first_nonzero i.left 16 16) (slice_range i.left 0 16, behind 16 i) x e in
        ap (λ (y : List ℕ × Rest). length y.0) (sym same) ∙ l

-- ---- parts

abbrev pub IsLong : ObjId → Type 0
IsLong v = length v.oid_device_id ≡ 16

abbrev pub CredLong : ObjectCred → Type 0
CredLong o = IsLong o.oc_object_id

objid_long : (i : Rest) (x : ObjId × Rest) → objid_in i ≡ Ok x → IsLong x.0
unfolding objid_in fixed_part
objid_long i x e =
    let device = bind_ok (fixed_part 16 i) _ x e in
    let partition = bind_ok (u64_part device.0.1) _ x device.2 in
    let object = bind_ok (u64_part partition.0.1) _ x partition.2 in
    holds (λ (y : ObjId × Rest). IsLong y.0) _ x
    (fixed_long i device.0 (lifted_ok (fixed_in 16 i) device.0 device.1)) object.2

cred_long : (i : Rest) (x : ObjectCred × Rest) → cred_in i ≡ Ok x → CredLong x.0
unfolding cred_in
cred_long i x e =
    let id = bind_ok (objid_in i) _ x e in
    let version = bind_ok (enum_part version_of id.0.1) _ x id.2 in
    let security = bind_ok (enum_part security_of version.0.1) _ x version.2 in
    let key = bind_ok (opaque_part security.0.1) _ x security.2 in
    let capability = bind_ok (opaque_part key.0.1) _ x key.2 in
    holds (λ (y : ObjectCred × Rest). CredLong y.0) _ x (objid_long i id.0 id.1) capability.2

members_long : (n : ℕ) (i : Rest) (x : List ObjectCred × Rest) → members cred_in n i ≡ Ok x
    → AllByRecursion CredLong x.0
unfolding members
members_long zero i x e = holds (λ (y : List ObjectCred × Rest). AllByRecursion CredLong y.0) ([], i) x tt e
members_long (suc n) i x e =
    let v = bind_ok (cred_in i) _ x e in
    let vs = bind_ok (members cred_in n v.0.1) _ x v.2 in
    holds (λ (y : List ObjectCred × Rest). AllByRecursion CredLong y.0) _ x
    (cred_long i v.0 v.1, members_long n v.0.1 vs.0 vs.1) vs.2

layout_long : (i : Rest) (x : Layout × Rest) → layout_in i ≡ Ok x → AllByRecursion CredLong x.0.olo_components
unfolding layout_in list_part
layout_long i x e =
    let m = bind_ok (map_in i) _ x e in
    let index = bind_ok (u32_part m.0.1) _ x m.2 in
    let components = bind_ok (list_part cred_in index.0.1) _ x index.2 in
    let n = bind_ok (count_part index.0.1) _ components.0 components.1 in
    holds (λ (y : Layout × Rest). AllByRecursion CredLong y.0.olo_components) _ x
    (members_long n.0.0 n.0.1 components.0 n.2) components.2

pub whole_long : (bytes : List ℕ) (l : Layout) → whole layout_in bytes ≡ Ok l
    → AllByRecursion CredLong l.olo_components
unfolding whole
whole_long bytes l e =
    let v = bind_ok (layout_in (record { left = bytes; at = 0 })) _ l e in
    let end = bind_ok (lifted (end_of v.0.1)) _ l v.2 in
    holds (λ (y : Layout). AllByRecursion CredLong y.olo_components) _ l
    (layout_long (record { left = bytes; at = 0 }) v.0 v.1) end.2
