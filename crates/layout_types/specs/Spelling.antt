-- The structures of RFC 5664 as XDR spells them, field by field, and the values that have a spelling.
use Rattle.std.specs.Prelude.{◌≡◌, ⊤, ℕ, ◌<◌, ◌≤◌, ◌^◌, List, ◌++◌, length, FitsSigned}
use Rattle.std.specs.Int.{w64}
use Rattle.std.specs.List.{AllByRecursion}
use Rattle.data_map.specs.declared.check.RawMap.{RawMap}
use Rattle.data_map.specs.Check.{HasAlgorithm}
use Rattle.xdr_codec.specs.Items.{u32_item, u64_item, i64_item, bool_item, fixed_item, opaque_item}
use Rattle.layout_types.specs.declared.parts.TheConstants.{MAX_OPAQUE, MAX_MEMBERS}
use Rattle.layout_types.specs.declared.objid.TheConstants.{DEVICE_ID_BYTES}
use Rattle.layout_types.specs.declared.device_addr.TheConstants.{LUN_BYTES}
use Rattle.layout_types.specs.declared.objid.ObjId.{ObjId}
use Rattle.layout_types.specs.declared.cred.ObjectCred.{ObjectCred}
use Rattle.layout_types.specs.declared.layout.Layout.{Layout}
use Rattle.layout_types.specs.declared.device_addr.TargetId.{TargetId}
use Rattle.layout_types.specs.declared.device_addr.TargetId.TheVariants as target
use Rattle.layout_types.specs.declared.device_addr.NetAddr.{NetAddr}
use Rattle.layout_types.specs.declared.device_addr.DeviceAddr.{DeviceAddr}
use Rattle.layout_types.specs.declared.update.LayoutUpdate.{LayoutUpdate}
use Rattle.layout_types.specs.declared.ioerrs.IoErr.{IoErr}
use Rattle.layout_types.specs.declared.ioerrs.IoErrs.{IoErrs}
use Rattle.layout_types.specs.declared.hint.LayoutHint.{LayoutHint}
use Rattle.layout_types.specs.Enumerations.{version_number, security_number, errno_number, IsAlgorithm}
use Rattle.layout_types.specs.Grammar.{optional_item, OptionalFits, list_item}

-- an opaque or a string is within its largest length
abbrev pub IsShort : List ℕ → Type 0
IsShort bytes = length bytes ≤ MAX_OPAQUE

-- a list is within its largest length
abbrev pub ListFits : {V : Type 0} → (V → Type 0) → List V → Type 0
ListFits Fits vs = (length vs ≤ MAX_MEMBERS) × AllByRecursion Fits vs

-- ---- objects

abbrev pub objid_item : ObjId → List ℕ
objid_item v = fixed_item v.oid_device_id ++ (u64_item v.oid_partition_id ++ u64_item v.oid_object_id)

abbrev pub ObjIdFits : ObjId → Type 0
ObjIdFits v = record {
  device_id : length v.oid_device_id ≡ DEVICE_ID_BYTES;
  partition_id : v.oid_partition_id < 2 ^ 64;
  object_id : v.oid_object_id < 2 ^ 64;
}

abbrev pub cred_item : ObjectCred → List ℕ
cred_item v =
    objid_item v.oc_object_id
    ++ (u32_item (version_number v.oc_osd_version)
    ++ (u32_item (security_number v.oc_cap_key_sec)
    ++ (opaque_item v.oc_capability_key ++ opaque_item v.oc_capability)))

abbrev pub CredFits : ObjectCred → Type 0
CredFits v = record {
  object_id : ObjIdFits v.oc_object_id;
  capability_key : IsShort v.oc_capability_key;
  capability : IsShort v.oc_capability;
}

-- ---- layouts

abbrev pub map_item : RawMap → List ℕ
map_item v =
    u32_item v.comps ++ (u64_item v.unit ++ (u32_item v.width ++ (u32_item v.depth
    ++ (u32_item v.mirrors ++ u32_item v.algorithm))))

abbrev pub MapFits : RawMap → Type 0
MapFits v = record {
  comps : v.comps < 2 ^ 32;
  unit : v.unit < 2 ^ 64;
  width : v.width < 2 ^ 32;
  depth : v.depth < 2 ^ 32;
  mirrors : v.mirrors < 2 ^ 32;
  algorithm : HasAlgorithm v;
}

abbrev pub layout_item : Layout → List ℕ
layout_item v = map_item v.olo_map ++ (u32_item v.olo_comps_index ++ list_item cred_item v.olo_components)

abbrev pub LayoutFits : Layout → Type 0
LayoutFits v = record {
  map : MapFits v.olo_map;
  comps_index : v.olo_comps_index < 2 ^ 32;
  components : ListFits CredFits v.olo_components;
}

-- ---- addresses

-- the enumeration, and behind it a string, an opaque or nothing
abbrev pub target_item : TargetId → List ℕ
target_item target.Anon = u32_item 1
target_item (target.ScsiName name) = u32_item 2 ++ opaque_item name
target_item (target.ScsiDeviceId id) = u32_item 3 ++ opaque_item id

abbrev pub TargetFits : TargetId → Type 0
TargetFits target.Anon = ⊤
TargetFits (target.ScsiName name) = IsShort name
TargetFits (target.ScsiDeviceId id) = IsShort id

abbrev pub netaddr_item : NetAddr → List ℕ
netaddr_item v = opaque_item v.na_r_netid ++ opaque_item v.na_r_addr

abbrev pub NetAddrFits : NetAddr → Type 0
NetAddrFits v = record { netid : IsShort v.na_r_netid; addr : IsShort v.na_r_addr }

abbrev pub deviceaddr_item : DeviceAddr → List ℕ
deviceaddr_item v =
    target_item v.oda_targetid
    ++ (optional_item netaddr_item v.oda_targetaddr
    ++ (fixed_item v.oda_lun ++ (opaque_item v.oda_systemid
    ++ (cred_item v.oda_root_obj_cred ++ opaque_item v.oda_osdname))))

abbrev pub DeviceAddrFits : DeviceAddr → Type 0
DeviceAddrFits v = record {
  targetid : TargetFits v.oda_targetid;
  targetaddr : OptionalFits NetAddrFits v.oda_targetaddr;
  lun : length v.oda_lun ≡ LUN_BYTES;
  systemid : IsShort v.oda_systemid;
  root_obj_cred : CredFits v.oda_root_obj_cred;
  osdname : IsShort v.oda_osdname;
}

-- ---- what a client reports

abbrev pub update_item : LayoutUpdate → List ℕ
update_item v = optional_item i64_item v.dsu_delta ++ bool_item v.olu_ioerr_flag

abbrev pub UpdateFits : LayoutUpdate → Type 0
UpdateFits v = OptionalFits (FitsSigned w64) v.dsu_delta

abbrev pub ioerr_item : IoErr → List ℕ
ioerr_item v =
    objid_item v.oer_component
    ++ (u64_item v.oer_comp_offset ++ (u64_item v.oer_comp_length
    ++ (bool_item v.oer_iswrite ++ u32_item (errno_number v.oer_errno))))

abbrev pub IoErrFits : IoErr → Type 0
IoErrFits v = record {
  component : ObjIdFits v.oer_component;
  comp_offset : v.oer_comp_offset < 2 ^ 64;
  comp_length : v.oer_comp_length < 2 ^ 64;
}

abbrev pub ioerrs_item : IoErrs → List ℕ
ioerrs_item v = list_item ioerr_item v.olr_ioerr_report

abbrev pub IoErrsFits : IoErrs → Type 0
IoErrsFits v = ListFits IoErrFits v.olr_ioerr_report

-- ---- hints

abbrev pub hint_item : LayoutHint → List ℕ
hint_item v =
    optional_item u32_item v.max_comps
    ++ (optional_item u64_item v.stripe_unit
    ++ (optional_item u32_item v.group_width
    ++ (optional_item u32_item v.group_depth
    ++ (optional_item u32_item v.mirror_cnt ++ optional_item u32_item v.raid_algorithm))))

abbrev pub HintFits : LayoutHint → Type 0
HintFits v = record {
  max_comps : OptionalFits (λ n. n < 2 ^ 32) v.max_comps;
  stripe_unit : OptionalFits (λ n. n < 2 ^ 64) v.stripe_unit;
  group_width : OptionalFits (λ n. n < 2 ^ 32) v.group_width;
  group_depth : OptionalFits (λ n. n < 2 ^ 32) v.group_depth;
  mirror_cnt : OptionalFits (λ n. n < 2 ^ 32) v.mirror_cnt;
  raid_algorithm : OptionalFits IsAlgorithm v.raid_algorithm;
}

-- ---- what the types don't keep of that

abbrev pub CredWritable : ObjectCred → Type 0
CredWritable v = IsShort v.oc_capability_key × IsShort v.oc_capability

-- not too many components, an algorithm that there is, and short opaques
abbrev pub LayoutWritable : Layout → Type 0
LayoutWritable v = HasAlgorithm v.olo_map × ListFits CredWritable v.olo_components

abbrev pub DeviceAddrWritable : DeviceAddr → Type 0
DeviceAddrWritable v = record {
  targetid : TargetFits v.oda_targetid;
  targetaddr : OptionalFits NetAddrFits v.oda_targetaddr;
  systemid : IsShort v.oda_systemid;
  root_obj_cred : CredWritable v.oda_root_obj_cred;
  osdname : IsShort v.oda_osdname;
}

abbrev pub IoErrsWritable : IoErrs → Type 0
IoErrsWritable v = length v.olr_ioerr_report ≤ MAX_MEMBERS
