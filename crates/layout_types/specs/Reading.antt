-- The structures of RFC 5664 as they are read, field by field: the first refusal from the left decides.
use Rattle.std.specs.Prelude.{ℕ, if◌then◌else◌, nat_eq, Result, Ok, Err}
use Rattle.data_map.specs.declared.check.RawMap.{RawMap}
use Rattle.xdr_codec.specs.Reading.{Rest, ◌>>=◌}
use Rattle.layout_types.specs.declared.err.LayoutErr.{LayoutErr}
use Rattle.layout_types.specs.declared.err.LayoutErr.TheVariants.{BadEnum}
use Rattle.layout_types.specs.declared.objid.TheConstants.{DEVICE_ID_BYTES}
use Rattle.layout_types.specs.declared.device_addr.TheConstants.{LUN_BYTES}
use Rattle.layout_types.specs.declared.objid.ObjId.{ObjId}
use Rattle.layout_types.specs.declared.cred.ObjectCred.{ObjectCred}
use Rattle.layout_types.specs.declared.layout.Layout.{Layout}
use Rattle.layout_types.specs.declared.device_addr.TargetId.{TargetId}
use Rattle.layout_types.specs.declared.device_addr.TargetId.TheVariants as target
use Rattle.layout_types.specs.declared.device_addr.NetAddr.{NetAddr}
use Rattle.layout_types.specs.declared.device_addr.DeviceAddr.{DeviceAddr}
use Rattle.layout_types.specs.declared.update.LayoutUpdate.{LayoutUpdate}
use Rattle.layout_types.specs.declared.ioerrs.IoErr.{IoErr}
use Rattle.layout_types.specs.declared.ioerrs.IoErrs.{IoErrs}
use Rattle.layout_types.specs.declared.hint.LayoutHint.{LayoutHint}
use Rattle.layout_types.specs.Enumerations.{version_of, security_of, errno_of, algorithm_of}
use Rattle.layout_types.specs.Grammar.{u32_part, u64_part, i64_part, bool_part, fixed_part, opaque_part, enum_part, optional_part, list_part}

unfoldable pub objid_in : Rest → Result (ObjId × Rest) LayoutErr
objid_in i = do
  device_id ← fixed_part DEVICE_ID_BYTES i
  partition_id ← u64_part device_id.1
  object_id ← u64_part partition_id.1
  Ok (
    record {
      oid_device_id = device_id.0;
      oid_partition_id = partition_id.0;
      oid_object_id = object_id.0;
    },
    object_id.1,
  )

unfoldable pub cred_in : Rest → Result (ObjectCred × Rest) LayoutErr
cred_in i = do
  object_id ← objid_in i
  version ← enum_part version_of object_id.1
  security ← enum_part security_of version.1
  key ← opaque_part security.1
  capability ← opaque_part key.1
  Ok (
    record {
      oc_object_id = object_id.0;
      oc_osd_version = version.0;
      oc_cap_key_sec = security.0;
      oc_capability_key = key.0;
      oc_capability = capability.0;
    },
    capability.1,
  )

unfoldable pub map_in : Rest → Result (RawMap × Rest) LayoutErr
map_in i = do
  comps ← u32_part i
  unit ← u64_part comps.1
  width ← u32_part unit.1
  depth ← u32_part width.1
  mirrors ← u32_part depth.1
  algorithm ← enum_part algorithm_of mirrors.1
  Ok (
    record {
      comps = comps.0;
      unit = unit.0;
      width = width.0;
      depth = depth.0;
      mirrors = mirrors.0;
      algorithm = algorithm.0;
    },
    algorithm.1,
  )

unfoldable pub layout_in : Rest → Result (Layout × Rest) LayoutErr
layout_in i = do
  map ← map_in i
  comps_index ← u32_part map.1
  components ← list_part cred_in comps_index.1
  Ok (record { olo_map = map.0; olo_comps_index = comps_index.0; olo_components = components.0 }, components.1)

-- what the number of a target id announces, and behind it a string, an opaque or nothing
abbrev pub target_behind : ℕ → ℕ × Rest → Result (TargetId × Rest) LayoutErr
target_behind at n =
    if nat_eq n.0 1 then Ok (target.Anon, n.1)
    else if nat_eq n.0 2 then (opaque_part n.1 >>= λ name. Ok (target.ScsiName name.0, name.1))
    else if nat_eq n.0 3 then (opaque_part n.1 >>= λ id. Ok (target.ScsiDeviceId id.0, id.1))
    else Err (BadEnum at n.0)

unfoldable pub target_in : Rest → Result (TargetId × Rest) LayoutErr
target_in i = u32_part i >>= target_behind i.at

unfoldable pub netaddr_in : Rest → Result (NetAddr × Rest) LayoutErr
netaddr_in i = do
  netid ← opaque_part i
  addr ← opaque_part netid.1
  Ok (record { na_r_netid = netid.0; na_r_addr = addr.0 }, addr.1)

unfoldable pub deviceaddr_in : Rest → Result (DeviceAddr × Rest) LayoutErr
deviceaddr_in i = do
  targetid ← target_in i
  targetaddr ← optional_part netaddr_in targetid.1
  lun ← fixed_part LUN_BYTES targetaddr.1
  systemid ← opaque_part lun.1
  root ← cred_in systemid.1
  osdname ← opaque_part root.1
  Ok (
    record {
      oda_targetid = targetid.0;
      oda_targetaddr = targetaddr.0;
      oda_lun = lun.0;
      oda_systemid = systemid.0;
      oda_root_obj_cred = root.0;
      oda_osdname = osdname.0;
    },
    osdname.1,
  )

unfoldable pub update_in : Rest → Result (LayoutUpdate × Rest) LayoutErr
update_in i = do
  delta ← optional_part i64_part i
  flag ← bool_part delta.1
  Ok (record { dsu_delta = delta.0; olu_ioerr_flag = flag.0 }, flag.1)

unfoldable pub ioerr_in : Rest → Result (IoErr × Rest) LayoutErr
ioerr_in i = do
  component ← objid_in i
  offset ← u64_part component.1
  size ← u64_part offset.1
  iswrite ← bool_part size.1
  errno ← enum_part errno_of iswrite.1
  Ok (
    record {
      oer_component = component.0;
      oer_comp_offset = offset.0;
      oer_comp_length = size.0;
      oer_iswrite = iswrite.0;
      oer_errno = errno.0;
    },
    errno.1,
  )

unfoldable pub ioerrs_in : Rest → Result (IoErrs × Rest) LayoutErr
ioerrs_in i = do
  report ← list_part ioerr_in i
  Ok (record { olr_ioerr_report = report.0 }, report.1)

unfoldable pub hint_in : Rest → Result (LayoutHint × Rest) LayoutErr
hint_in i = do
  max_comps ← optional_part u32_part i
  stripe_unit ← optional_part u64_part max_comps.1
  group_width ← optional_part u32_part stripe_unit.1
  group_depth ← optional_part u32_part group_width.1
  mirror_cnt ← optional_part u32_part group_depth.1
  raid_algorithm ← optional_part (enum_part algorithm_of) mirror_cnt.1
  Ok (
    record {
      max_comps = max_comps.0;
      stripe_unit = stripe_unit.0;
      group_width = group_width.0;
      group_depth = group_depth.0;
      mirror_cnt = mirror_cnt.0;
      raid_algorithm = raid_algorithm.0;
    },
    raid_algorithm.1,
  )
