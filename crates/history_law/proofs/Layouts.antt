-- What is read of a layout that the server spelled: each of its credentials bears the grant's client and rights.
use Rattle.std.proofs.Common.{◌≡◌, ◌⊎◌, ℕ, zero, suc, ◌+◌, ◌≤◌, Bool, true, false, List, [], ◌∷◌, length, slice_get, Some, Ok, nat_eq, refl, sym, ap, subst, ◌∙◌, arith, inl, inr, if◌then◌else◌}
use Rattle.std.specs.List.{flat_map}
use Rattle.std.proofs.lemmas.List.Concat.{flat_map-cons}
use Rattle.hmac_tags.specs.Mac.{hmac_sha1, hmac_sha256}
use Rattle.hmac_tags.proofs.Lengths.{long_sha1, long_sha256}
use Rattle.xdr_codec.specs.Items.{u32_item, u64_item, fixed_item, opaque_item}
use Rattle.xdr_codec.specs.Reading.{Rest}
use Rattle.xdr_codec.proofs.ItemLaws.{bind_ok, ok_is}
use Rattle.data_map.specs.declared.check.RawMap.{RawMap}
use Rattle.layout_types.specs.declared.objid.ObjId.{ObjId}
use Rattle.layout_types.specs.declared.cred.ObjectCred.{ObjectCred}
use Rattle.layout_types.specs.declared.layout.Layout.{Layout}
use Rattle.layout_types.specs.Enumerations.{version_number, version_of, security_number, security_of, algorithm_of}
use Rattle.layout_types.specs.Grammar.{members, list_part, list_item, whole}
use Rattle.layout_types.specs.Spelling.{objid_item, cred_item, map_item}
use Rattle.layout_types.specs.Reading.{objid_in, cred_in, map_in, layout_in}
use Rattle.layout_types.proofs.Steps.{fixed_law, opaque_law, regrouped}
use Rattle.osd_capability.specs.declared.keys.CapKey.TheVariants.{One, Two}
use Rattle.osd_capability.specs.declared.layout.TheConstants.{FORMAT_SHA256}
use Rattle.osd_capability.specs.declared.layout.Capability.{Capability}
use Rattle.osd_capability.specs.Layout as cap
use Rattle.osd_capability.proofs.LayoutLaws.{length-spelling}
use Rattle.server_rules.specs.declared.limits.TheConstants.{READ_RIGHTS, WRITE_RIGHTS}
use Rattle.server_rules.specs.declared.files.Component.{Component}
use Rattle.server_rules.specs.declared.files.Kept.{Kept}
use Rattle.server_rules.specs.declared.grants.Grant.{Grant}
use Rattle.server_rules.specs.declared.server.Drive.{Drive}
use Rattle.server_rules.specs.Commands.{key_at}
use Rattle.server_rules.specs.Layouts.{capability_for, key_bytes, no_credential, credential, credentials_from, layout_for, body_of}
use Rattle.history_law.proofs.Fronts.{Gets, Any, codec_gets, next}
use Rattle.history_law.proofs.Parts.{part_32, part_64, enum_gets, count_gets, layout_ends}

-- ---- objects and maps

objid_gets : (v : ObjId) → length v.oid_device_id ≡ 16 → Gets objid_in (objid_item v) Any
unfolding objid_in
objid_gets v long i more x at e =
    next _ i _ _ x (codec_gets (fixed_law 16) v.oid_device_id long)
    (at ∙ regrouped (fixed_item v.oid_device_id ∷ u64_item v.oid_partition_id ∷ u64_item v.oid_object_id ∷ []) more) e
    (λ a i1 af a1 r1.
    next _ i1 _ _ x (part_64 v.oid_partition_id) a1 r1 (λ b i2 bf a2 r2.
    next _ i2 _ _ x (part_64 v.oid_object_id) a2 r2 (λ c i3 cf a3 r3.
    (tt, ap (λ (p : ObjId × Rest). p.1.left) (sym (ok_is _ x r3)) ∙ a3))))

map_gets : (v : RawMap) → Gets map_in (map_item v) Any
unfolding map_in
map_gets v i more x at e =
    next _ i _ _ x (part_32 v.comps)
    (at
    ∙ regrouped (u32_item v.comps ∷ u64_item v.unit ∷ u32_item v.width ∷ u32_item v.depth ∷ u32_item v.mirrors
    ∷ u32_item v.algorithm ∷ []) more) e (λ a i1 af a1 r1.
    next _ i1 _ _ x (part_64 v.unit) a1 r1 (λ b i2 bf a2 r2.
    next _ i2 _ _ x (part_32 v.width) a2 r2 (λ c i3 cf a3 r3.
    next _ i3 _ _ x (part_32 v.depth) a3 r3 (λ d i4 df a4 r4.
    next _ i4 _ _ x (part_32 v.mirrors) a4 r4 (λ m i5 mf a5 r5.
    next _ i5 _ _ x (enum_gets algorithm_of v.algorithm) a5 r5 (λ g i6 gf a6 r6.
    (tt, ap (λ (p : RawMap × Rest). p.1.left) (sym (ok_is _ x r6)) ∙ a6)))))))

-- ---- credentials

-- a credential whose opaques are short
record IsShort (v : ObjectCred) : Type 0 where
  device : length v.oc_object_id.oid_device_id ≡ 16
  key : length v.oc_capability_key ≤ 4096
  capability : length v.oc_capability ≤ 4096

-- the same capability is read
cred_gets : (v : ObjectCred) → IsShort v → Gets cred_in (cred_item v) (λ o. o.oc_capability ≡ v.oc_capability)
unfolding cred_in
cred_gets v short i more x at e =
    next _ i _ _ x (objid_gets v.oc_object_id short.device)
    (at
    ∙ regrouped (objid_item v.oc_object_id ∷ u32_item (version_number v.oc_osd_version)
    ∷ u32_item (security_number v.oc_cap_key_sec) ∷ opaque_item v.oc_capability_key ∷ opaque_item v.oc_capability
    ∷ []) more) e (λ a i1 af a1 r1.
    next _ i1 _ _ x (enum_gets version_of (version_number v.oc_osd_version)) a1 r1 (λ b i2 bf a2 r2.
    next _ i2 _ _ x (enum_gets security_of (security_number v.oc_cap_key_sec)) a2 r2 (λ c i3 cf a3 r3.
    next _ i3 _ _ x (codec_gets opaque_law v.oc_capability_key short.key) a3 r3 (λ d i4 df a4 r4.
    next _ i4 _ _ x (codec_gets opaque_law v.oc_capability short.capability) a4 r4 (λ f i5 ff a5 r5.
    let same = ok_is _ x r5 in (
      ap (λ (p : ObjectCred × Rest). p.0.oc_capability) (sym same) ∙ ff,
      ap (λ (p : ObjectCred × Rest). p.1.left) (sym same) ∙ a5,
    ))))))

-- ---- a key is short

short_key : (b : Bool) (key text : List ℕ)
    → length (key_bytes (if b then Two (hmac_sha256 key text) else One (hmac_sha1 key text))) ≤ 4096
short_key true key text = omega (arith, long_sha256 key text)
short_key false key text = omega (arith, long_sha1 key text)

missing_short : (at : Component) → IsShort (no_credential at)
missing_short at = record { device = refl; key = omega arith; capability = omega arith }

present_short : (ds : List Drive) (f : Kept) (g : Grant) (at : Component) (k : ℕ) → IsShort (credential ds f g at k)
unfolding credential
present_short ds f g at k = record {
  device = refl;
  key = short_key (nat_eq (capability_for f g at k).format FORMAT_SHA256) (key_at ds at.drive) _;
  capability = omega (arith, length-spelling (capability_for f g at k));
}

-- ---- all credentials of a layout

-- for reading and writing, or for reading alone
abbrev pub rights_by : Bool → ℕ
rights_by rw = if rw then WRITE_RIGHTS else READ_RIGHTS

-- a capability of this grant
abbrev pub IsOf : Grant → Capability → Type 0
IsOf g c = (c.holder ≡ g.client) × (c.rights ≡ rights_by g.rw)

-- there is no capability, or it spells one of the grant
abbrev pub Bears : Grant → ObjectCred → Type 0
Bears g o = (o.oc_capability ≡ []) ⊎ ((c : Capability) × IsOf g c × (o.oc_capability ≡ cap.spelling c))

-- one of the server, and what is read of it
record IsGiven (g : Grant) (v : ObjectCred) : Type 0 where
  short : IsShort v
  bears : Bears g v

given_at : (ds : List Drive) (f : Kept) (g : Grant) (at : Component) (k : ℕ) (b : Bool)
    → IsGiven g (if b then no_credential at else credential ds f g at k)
unfolding credential
given_at ds f g at k true = record { short = missing_short at; bears = inl refl }
given_at ds f g at k false = record {
  short = present_short ds f g at k;
  bears = inr (capability_for f g at k, (refl, refl), refl);
}

bears_too : (g : Grant) (v o : ObjectCred) → Bears g v → o.oc_capability ≡ v.oc_capability → Bears g o
bears_too g v o (inl none) same = inl (same ∙ none)
bears_too g v o (inr (c, is, spells)) same = inr (c, is, same ∙ spells)

-- so is each of those that are read
abbrev AllBear : Grant → List ObjectCred → Type 0
AllBear g os = (k : ℕ) (o : ObjectCred) → slice_get os k ≡ Some o → Bears g o

none_bear : (g : Grant) → AllBear g []
none_bear g k o found = absurd (cc found)

-- with one more
more_bear : (g : Grant) (o : ObjectCred) (os : List ObjectCred) → Bears g o → AllBear g os
    → AllBear g (o ∷ os)
more_bear g o os b all zero x found = let same : o ≡ x = cc found in subst (Bears g) same b
more_bear g o os b all (suc k) x found = all k x found

-- those that are read, of the server's from component j on
all_bear : (ds : List Drive) (f : Kept) (g : Grant) (cs : List Component) (j n : ℕ) (i : Rest)
    (x : List ObjectCred × Rest) → n ≤ length cs → i.left ≡ flat_map cred_item (credentials_from ds f g cs j)
    → members cred_in n i ≡ Ok x → AllBear g x.0
unfolding members credentials_from
all_bear ds f g cs j zero i x few at e =
    subst (AllBear g) (ap (λ (p : _ × Rest). p.0) (ok_is ([], i) x e)) (none_bear g)
all_bear ds f g [] j (suc n) i x few at e = absurd (omega (arith, few))
all_bear ds f g (c ∷ cs) j (suc n) i x few at e =
    let v : ObjectCred = if c.missing then no_credential c else credential ds f g c j in
    let given : IsGiven g v = given_at ds f g c j c.missing in
    next (cred_item v) i _ _ x (cred_gets v given.short)
    (at ∙ flat_map-cons cred_item v (credentials_from ds f g cs (j + 1))) e
    (λ o i1 same a1 r1.
    let rest = bind_ok _ _ x r1 in
    let few : n ≤ length cs = omega (arith, few) in
    let all = all_bear ds f g cs (j + 1) n i1 rest.0 few a1 rest.1 in
    subst (AllBear g) (ap (λ (p : _ × Rest). p.0) (ok_is _ x rest.2))
    (more_bear g o rest.0.0 (bears_too g v o given.bears same) all))

length_credentials : (ds : List Drive) (f : Kept) (g : Grant) (cs : List Component) (j : ℕ)
    → length (credentials_from ds f g cs j) ≡ length cs
unfolding credentials_from
length_credentials ds f g [] j = refl
length_credentials ds f g (c ∷ cs) j = ap suc (length_credentials ds f g cs (j + 1))

-- each credential that is read in the server's layout bears the grant's client and rights
pub layout_bears : (ds : List Drive) (f : Kept) (g : Grant) (bytes : List ℕ) (l : Layout)
    → bytes ≡ body_of (layout_for ds f g) → whole layout_in bytes ≡ Ok l → AllBear g l.olo_components
unfolding layout_in list_part list_item body_of
layout_bears ds f g bytes l is e =
    let ends = layout_ends layout_in bytes l e in
    next (map_item f.map) (record { left = bytes; at = 0 }) _ _ (l, ends.rest) (map_gets f.map) is ends.read
    (λ a i1 af a1 r1.
    next _ i1 _ _ (l, ends.rest) (part_32 0) a1 r1 (λ b i2 bf a2 r2.
    let list = bind_ok _ _ (l, ends.rest) r2 in
    let same = ok_is _ (l, ends.rest) list.2 in
    subst (λ (x : Layout). AllBear g x.olo_components) (ap (λ (p : Layout × Rest). p.0) same)
    (next _ i2 _ _ list.0 (count_gets (length (credentials_from ds f g f.components 0))) a2 list.1 (λ n i3 few a3 r3.
    all_bear ds f g f.components 0 n i3 list.0 (omega (arith, few, length_credentials ds f g f.components 0)) a3 r3))))
