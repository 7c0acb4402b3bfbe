-- How long the items of structures are.
use Rattle.std.proofs.Common.{◌≡◌, length, ◌∙◌, arith}
use Rattle.std.proofs.lemmas.List.{length-append}
use Rattle.xdr_codec.specs.Items.{fixed_item, u64_item}
use Rattle.xdr_codec.proofs.ItemLaws.{length-u64, length-device}
use Rattle.layout_types.specs.declared.objid.ObjId.{ObjId}
use Rattle.layout_types.specs.Spelling.{objid_item}

pub length-objid : (v : ObjId) → length v.oid_device_id ≡ 16 → length (objid_item v) ≡ 32
length-objid v e =
    length-append (fixed_item v.oid_device_id) _
    ∙ omega (
      arith,
      length-device v.oid_device_id e,
      length-append (u64_item v.oid_partition_id)
          (u64_item v.oid_object_id),
      length-u64 v.oid_partition_id,
      length-u64 v.oid_object_id,
    )
