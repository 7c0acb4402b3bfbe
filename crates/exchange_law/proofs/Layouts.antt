-- The layout of a grant fits its place in an answer.
use Rattle.std.specs.List.{AllByRecursion}
use Rattle.std.proofs.Common.{◌≡◌, ℕ, zero, suc, ◌+◌, ◌*◌, ◌^◌, ◌≤◌, ◌<◌, ◌++◌, Bool, true, false, List, [], ◌∷◌, Some, length, nat_eq, slice_get, flat_map, refl, ap, subst, ◌∙◌, arith, if◌then◌else◌}
use Rattle.std.proofs.lemmas.List.{length-append}
use Rattle.std.proofs.lemmas.List.Concat.{flat_map-cons}
use Rattle.hmac_tags.specs.Mac.{hmac_sha1, hmac_sha256}
use Rattle.hmac_tags.proofs.Lengths.{long_sha1, long_sha256}
use Rattle.xdr_codec.specs.Items.{u32_item, u64_item, opaque_item}
use Rattle.xdr_codec.proofs.ItemLaws.{length-u32}
use Rattle.data_map.specs.declared.check.RawMap.{RawMap}
use Rattle.layout_types.specs.declared.cred.ObjectCred.{ObjectCred}
use Rattle.layout_types.specs.Enumerations.{version_number, security_number}
use Rattle.layout_types.specs.Grammar.{list_item}
use Rattle.layout_types.specs.Spelling.{CredFits, LayoutFits, objid_item, cred_item, map_item}
use Rattle.layout_types.proofs.Lengths.{length-objid}
use Rattle.osd_capability.specs.declared.keys.CapKey.TheVariants.{One, Two}
use Rattle.osd_capability.specs.declared.layout.TheConstants.{FORMAT_SHA256}
use Rattle.osd_capability.proofs.LayoutLaws.{length-spelling}
use Rattle.world_history.specs.ServerNames.{Kept, Component, Drive, Grant}
use Rattle.server_rules.specs.Commands.{key_at}
use Rattle.server_rules.specs.Layouts.{capability_for, key_bytes, no_credential, credential, credentials_from, layout_for, body_of}
use Rattle.history_law.specs.Granted.{NumbersFit}
use Rattle.history_law.proofs.Fronts.{length_opaque}
use Rattle.exchange_law.specs.Files.{ComponentFits, GrantFits, KeptFits}
use Rattle.exchange_law.proofs.Parts.{PartsFit}
use Rattle.exchange_law.proofs.Ranges.{map_fits, capability_fits}

-- ---- keys

short_key : (b : Bool) (key text : List ℕ)
    → length (key_bytes (if b then Two (hmac_sha256 key text) else One (hmac_sha1 key text))) ≤ 32
short_key true key text = omega (arith, long_sha256 key text)
short_key false key text = omega (arith, long_sha1 key text)

-- ---- credentials

-- the numbers of an object fit, and its key and capability are short
record IsSmall (v : ObjectCred) : Type 0 where
  device : length v.oc_object_id.oid_device_id ≡ 16
  partition : v.oc_object_id.oid_partition_id < 2 ^ 64
  object : v.oc_object_id.oid_object_id < 2 ^ 64
  key : length v.oc_capability_key ≤ 32
  capability : length v.oc_capability ≤ 96

small_at : (ds : List Drive) (n : ℕ) (f : Kept) (g : Grant) (at : Component) (k : ℕ) (b : Bool) → n ≤ 2 ^ 63
    → ComponentFits n at → IsSmall (if b then no_credential at else credential ds f g at k)
unfolding credential
small_at ds n f g at k true l part = record {
  device = refl;
  partition = omega (arith, part.drive);
  object = omega (arith, part.object, l);
  key = omega arith;
  capability = omega arith;
}
small_at ds n f g at k false l part = record {
  device = refl;
  partition = omega (arith, part.drive);
  object = omega (arith, part.object, l);
  key = short_key (nat_eq (capability_for f g at k).format FORMAT_SHA256) (key_at ds at.drive) _;
  capability = omega (arith, length-spelling (capability_for f g at k));
}

all_small : (ds : List Drive) (n : ℕ) (f : Kept) (g : Grant) (cs : List Component) (k : ℕ) → n ≤ 2 ^ 63 → PartsFit n cs
    → AllByRecursion IsSmall (credentials_from ds f g cs k)
unfolding credentials_from
all_small ds n f g [] k l fit = tt
all_small ds n f g (at ∷ cs) k l fit =
    (small_at ds n f g at k at.missing l fit.0, all_small ds n f g cs (k + 1) l fit.1)

as_many : (ds : List Drive) (f : Kept) (g : Grant) (cs : List Component) (k : ℕ)
    → length (credentials_from ds f g cs k) ≡ length cs
unfolding credentials_from
as_many ds f g [] k = refl
as_many ds f g (at ∷ cs) k = ap suc (as_many ds f g cs (k + 1))

small_fits : (v : ObjectCred) → IsSmall v → CredFits v
small_fits v s = record {
  object_id = record { device_id = s.device; partition_id = s.partition; object_id = s.object };
  capability_key = omega (arith, s.key);
  capability = omega (arith, s.capability);
}

all_creds : (vs : List ObjectCred) → AllByRecursion IsSmall vs → AllByRecursion CredFits vs
all_creds [] s = tt
all_creds (v ∷ vs) s = (small_fits v s.0, all_creds vs s.1)

pub layout_fits : (ds : List Drive) (n : ℕ) (f : Kept) (g : Grant) → n ≤ 2 ^ 63 → KeptFits n f
    → LayoutFits (layout_for ds f g)
layout_fits ds n f g l k = record {
  map = map_fits f.map k.map;
  comps_index = omega arith;
  components = (
    omega (arith, as_many ds f g f.components 0, k.few),
    all_creds (credentials_from ds f g f.components 0) (all_small ds n f g f.components 0 l k.components),
  );
}

each_capability : (n : ℕ) (f : Kept) (g : Grant) → n ≤ 2 ^ 63 → KeptFits n f → GrantFits f.number f.map g
    → (cs : List Component) → PartsFit n cs → (j k : ℕ) (at : Component) → slice_get cs k ≡ Some at
    → ComponentFits n at
each_capability n f g l kept grant [] fit j k at found = absurd (cc found)
each_capability n f g l kept grant (c ∷ cs) fit j zero at found =
    let same : c ≡ at = cc found in subst (ComponentFits n) same fit.0
each_capability n f g l kept grant (c ∷ cs) fit j (suc k) at found =
    each_capability n f g l kept grant cs fit.1 j k at found

pub numbers_fit : (ds : List Drive) (n : ℕ) (f : Kept) (g : Grant) → n ≤ 2 ^ 63 → KeptFits n f
    → GrantFits f.number f.map g → NumbersFit ds f g
numbers_fit ds n f g l kept grant = record {
  layout = layout_fits ds n f g l kept;
  capabilities =
      λ k at found. capability_fits n f g at k l kept grant
      (each_capability n f g l kept grant f.components kept.components 0 k at found);
}

-- ---- its bytes

length_cred : (v : ObjectCred) → IsSmall v → length (cred_item v) ≤ 176
length_cred v s =
    let version = u32_item (version_number v.oc_osd_version) in
    let security = u32_item (security_number v.oc_cap_key_sec) in
    let key = opaque_item v.oc_capability_key in
    let capability = opaque_item v.oc_capability in
    omega (
      arith,
      length-objid v.oc_object_id s.device,
      length-append (objid_item v.oc_object_id) (version ++ (security ++ (key ++ capability))),
      length-append version (security ++ (key ++ capability)),
      length-append security (key ++ capability),
      length-append key capability,
      length-u32 (version_number v.oc_osd_version),
      length-u32 (security_number v.oc_cap_key_sec),
      length_opaque v.oc_capability_key,
      length_opaque v.oc_capability,
      s.key,
      s.capability,
    )

length_creds : (vs : List ObjectCred) → AllByRecursion IsSmall vs → length (flat_map cred_item vs) ≤ 176 * length vs
length_creds [] s = omega arith
length_creds (v ∷ vs) s =
    let rest : length (flat_map cred_item vs) ≤ 176 * length vs = length_creds vs s.1 in
    let all : length (flat_map cred_item (v ∷ vs)) ≡ length (cred_item v) + length (flat_map cred_item vs) =
    ap length (flat_map-cons cred_item v vs) ∙ length-append (cred_item v) (flat_map cred_item vs) in
    omega (arith, rest, all, length_cred v s.0)

length_map : (m : RawMap) → length (map_item m) ≡ 28
unfolding u32_item u64_item
length_map m = refl

pub short_body : (ds : List Drive) (n : ℕ) (f : Kept) (g : Grant) → n ≤ 2 ^ 63 → KeptFits n f
    → length (body_of (layout_for ds f g)) ≤ 65536
unfolding body_of list_item
short_body ds n f g l k =
    let vs = credentials_from ds f g f.components 0 in
    omega (
      arith,
      length_map f.map,
      length-append (map_item f.map) (u32_item 0 ++ (u32_item (length vs) ++ flat_map cred_item vs)),
      length-append (u32_item 0) (u32_item (length vs) ++ flat_map cred_item vs),
      length-append (u32_item (length vs)) (flat_map cred_item vs),
      length-u32 0,
      length-u32 (length vs),
      length_creds vs (all_small ds n f g f.components 0 l k.components),
      as_many ds f g f.components 0,
      k.few,
    )
