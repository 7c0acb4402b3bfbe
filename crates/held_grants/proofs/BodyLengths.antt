-- How long the bodies of requests are.
use Rattle.std.specs.Prelude.{ℕ, Bool, true, false, List, [], ◌∷◌, ◌++◌, ◌*◌, ◌≤◌, length, Result, Ok, Err, IfOk, OnOk, refl, ◌≡◌}
use Rattle.std.specs.List.{AllByRecursion, flat_map}
use Rattle.std.proofs.Common.{arith, ◌∙◌}
use Rattle.std.proofs.lemmas.List.{length-append}
use Rattle.osd_lists.specs.declared.memory.Memory.{Memory}
use Rattle.xdr_codec.specs.Items.{u32_item, u64_item, bool_item, fixed_item}
use Rattle.xdr_codec.proofs.ItemLaws.{length-u32, length-u64, length-bool, length-device}
use Rattle.layout_types.specs.declared.ioerrs.IoErr.{IoErr}
use Rattle.layout_types.specs.declared.objid.ObjId.{ObjId}
use Rattle.layout_types.specs.Grammar.{list_item}
use Rattle.layout_types.specs.Enumerations.{errno_number}
use Rattle.layout_types.specs.Spelling.{objid_item, ioerr_item, IoErrFits, IoErrsFits, update_item}
use Rattle.layout_types.proofs.Lengths.{length-objid}
use Rattle.layout_ops.specs.Spelling.{IsBody}
use Rattle.client_rules.specs.Requests.{plain_update}
use Rattle.held_grants.specs.Bodies.{report_item}

error_long : (v : IoErr) → IoErrFits v → length (ioerr_item v) ≡ 56
error_long v f =
    length-append (objid_item v.oer_component) _
    ∙ omega (
      arith,
      length-objid v.oer_component f.component.device_id,
      length-append (u64_item v.oer_comp_offset)
          (u64_item v.oer_comp_length ++ (bool_item v.oer_iswrite ++ u32_item (errno_number v.oer_errno))),
      length-append (u64_item v.oer_comp_length) (bool_item v.oer_iswrite ++ u32_item (errno_number v.oer_errno)),
      length-append (bool_item v.oer_iswrite) (u32_item (errno_number v.oer_errno)),
      length-u64 v.oer_comp_offset,
      length-u64 v.oer_comp_length,
      length-bool v.oer_iswrite,
      length-u32 (errno_number v.oer_errno),
    )

errors_long : (vs : List IoErr) → AllByRecursion IoErrFits vs → length (flat_map ioerr_item vs) ≡ 56 * length vs
errors_long [] f = refl
errors_long (v ∷ vs) f =
    length-append (ioerr_item v) (flat_map ioerr_item vs) ∙ omega (arith, error_long v f.0, errors_long vs f.1)

report_long : (report : List IoErr) → IoErrsFits (record { olr_ioerr_report = report }) →
    length (report_item report) ≤ 65536
unfolding list_item
report_long report f =
    omega (
      arith,
      length-append (u32_item (length report)) (flat_map ioerr_item report),
      length-u32
          (length report),
      errors_long report f.1,
      f.0,
    )

-- a report of which the errors have spellings is a body
pub short_report : (report : List IoErr) (r : Result (List ℕ) Memory) →
    OnOk r (IoErrsFits (record { olr_ioerr_report = report })) →
    IfOk r (λ b. b ≡ report_item report) → IfOk r IsBody
short_report report (Ok b) f e = rw e (report_long report f)
short_report report (Err m) f e = tt

-- the update of a commit is one
pub short_update : (r : Result (List ℕ) Memory) → IfOk r (λ b. b ≡ update_item plain_update) → IfOk r IsBody
short_update (Ok b) e = rw e (omega (arith, length-append (bool_item false) (bool_item false), length-u32 0))
short_update (Err m) e = tt
