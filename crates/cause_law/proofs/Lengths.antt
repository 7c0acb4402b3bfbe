-- A report of few errors is short.
use Rattle.std.proofs.Common.{◌≡◌, ◌≤◌, ◌+◌, ◌*◌, List, [], ◌∷◌, ◌++◌, length, refl, ap, ◌∙◌, arith}
use Rattle.std.specs.List.{AllByRecursion, flat_map}
use Rattle.std.proofs.lemmas.List.{length-append}
use Rattle.std.proofs.lemmas.List.Concat.{flat_map-cons}
use Rattle.xdr_codec.specs.Items.{u32_item, u64_item, bool_item, fixed_item}
use Rattle.xdr_codec.proofs.ItemLaws.{length-u32, length-u64, length-bool, length-device}
use Rattle.layout_types.specs.declared.ioerrs.IoErr.{IoErr}
use Rattle.layout_types.specs.declared.objid.ObjId.{ObjId}
use Rattle.layout_types.specs.Grammar.{list_item}
use Rattle.layout_types.specs.Enumerations.{errno_number}
use Rattle.layout_types.specs.Spelling.{objid_item, ioerr_item, ioerrs_item}
use Rattle.layout_ops.specs.Spelling.{IsBody}
use Rattle.cause_law.proofs.Ids.{IsLong}

object_long : (v : ObjId) → IsLong v → length (objid_item v) ≡ 32
object_long v e =
    length-append (fixed_item v.oid_device_id) _
    ∙ omega (
      arith,
      length-device v.oid_device_id e,
      length-append (u64_item v.oid_partition_id)
          (u64_item v.oid_object_id),
      length-u64 v.oid_partition_id,
      length-u64 v.oid_object_id,
    )

-- the object of an error has a device id of its length
abbrev pub ErrorLong : IoErr → Type 0
ErrorLong v = IsLong v.oer_component

error_long : (v : IoErr) → ErrorLong v → length (ioerr_item v) ≡ 56
error_long v f =
    length-append (objid_item v.oer_component) _
    ∙ omega (
      arith,
      object_long v.oer_component f,
      length-append (u64_item v.oer_comp_offset)
          (u64_item v.oer_comp_length ++ (bool_item v.oer_iswrite ++ u32_item (errno_number v.oer_errno))),
      length-append (u64_item v.oer_comp_length) (bool_item v.oer_iswrite ++ u32_item (errno_number v.oer_errno)),
      length-append (bool_item v.oer_iswrite) (u32_item (errno_number v.oer_errno)),
      length-u64 v.oer_comp_offset,
      length-u64 v.oer_comp_length,
      length-bool v.oer_iswrite,
      length-u32 (errno_number v.oer_errno),
    )

errors_long : (vs : List IoErr) → AllByRecursion ErrorLong vs → length (flat_map ioerr_item vs) ≡ 56 * length vs
errors_long [] f = refl
errors_long (v ∷ vs) f =
    let rest : length (flat_map ioerr_item vs) ≡ 56 * length vs = errors_long vs f.1 in
    let all : length (flat_map ioerr_item (v ∷ vs)) ≡ length (ioerr_item v) + length (flat_map ioerr_item vs) =
    ap length (flat_map-cons ioerr_item v vs) ∙ length-append (ioerr_item v) (flat_map ioerr_item vs) in
    omega (arith, rest, all, error_long v f.0)

-- no more errors than a grant has components
pub record ReportShort (report : List IoErr) : Type 0 where
  pub few : length report ≤ 64
  pub long : AllByRecursion ErrorLong report

pub report_short : (report : List IoErr) → ReportShort report
    → IsBody (ioerrs_item (record { olr_ioerr_report = report }))
unfolding list_item
report_short report s =
    omega (
      arith,
      length-append (u32_item (length report)) (flat_map ioerr_item report),
      length-u32 (length report),
      errors_long report s.long,
      s.few,
    )
