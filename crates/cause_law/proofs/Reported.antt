-- A report as the server reads it: each entry is there, with numbers as 8 bytes have them. So each request is read.
use Rattle.std.proofs.Common.{◌≡◌, ◌<◌, ◌++◌, ◌^◌, ℕ, zero, suc, List, [], ◌∷◌, Ok, length, refl, sym, ap, ◌∙◌, arith}
use Rattle.std.specs.Int.{w64, to_be_bytes}
use Rattle.std.specs.List.{AllByRecursion, flat_map}
use Rattle.std.proofs.lemmas.List.Concat.{flat_map-cons}
use Rattle.std.proofs.lemmas.Nat.{be_bytes_8}
use Rattle.osd_lists.specs.Blocks.{IsBytes}
use Rattle.osd_lists.proofs.BlockLaws.{below_64}
use Rattle.xdr_codec.specs.Items.{u64_item}
use Rattle.layout_types.specs.declared.ioerrs.IoErr.{IoErr}
use Rattle.layout_types.specs.declared.ioerrs.IoErrs.{IoErrs}
use Rattle.layout_types.specs.Grammar.{whole, list_item}
use Rattle.layout_types.specs.Reading.{ioerrs_in, update_in}
use Rattle.layout_types.specs.Spelling.{ioerr_item, ioerrs_item, IoErrFits, IoErrsFits, update_item, UpdateFits}
use Rattle.layout_types.proofs.Codecs.{ioerrs_codec, update_codec}
use Rattle.layout_types.proofs.Steps.{all_again}
use Rattle.client_rules.specs.Requests.{plain_update, get_args, commit_args, return_args}
use Rattle.server_rules.specs.Envelopes.{commit_in, return_in}
use Rattle.world_history.specs.ClientNames.{CallOp, Held}
use Rattle.world_history.specs.ServerNames.{Commit, Return}
use Rattle.cause_law.specs.Reports.{as_written, error_read, report_read, CanBeRead}
use Rattle.cause_law.proofs.Lengths.{ErrorLong, ReportShort}

-- ---- a number

digits : (n : ℕ) → IsBytes (to_be_bytes w64 n)
digits n zero = omega arith
digits n (suc zero) = omega arith
digits n (suc (suc zero)) = omega arith
digits n (suc (suc (suc zero))) = omega arith
digits n (suc (suc (suc (suc zero)))) = omega arith
digits n (suc (suc (suc (suc (suc zero))))) = omega arith
digits n (suc (suc (suc (suc (suc (suc zero)))))) = omega arith
digits n (suc (suc (suc (suc (suc (suc (suc zero))))))) = omega arith
digits n (suc (suc (suc (suc (suc (suc (suc (suc i)))))))) = omega arith

written_low : (n : ℕ) → as_written n < 2 ^ 64
written_low n = below_64 (to_be_bytes w64 n) (digits n)

written_so : (n : ℕ) → u64_item (as_written n) ≡ u64_item n
unfolding u64_item
written_so n = be_bytes_8 (to_be_bytes w64 n) (as_written n) refl (digits n) refl

-- ---- an entry

same_item : (e : IoErr) → ioerr_item (error_read e) ≡ ioerr_item e
same_item e =
    rw (
      written_so e.oer_component.oid_partition_id,
      written_so e.oer_component.oid_object_id,
      written_so e.oer_comp_offset,
      written_so e.oer_comp_length,
    ) refl

same_items : (es : List IoErr) → flat_map ioerr_item (report_read es) ≡ flat_map ioerr_item es
same_items [] = refl
same_items (e ∷ es) =
    flat_map-cons ioerr_item (error_read e) (report_read es)
    ∙ ap (λ (bytes : List ℕ). bytes ++ flat_map ioerr_item (report_read es)) (same_item e)
    ∙ ap (λ (bytes : List ℕ). ioerr_item e ++ bytes) (same_items es) ∙ sym (flat_map-cons ioerr_item e es)

as_many : (es : List IoErr) → length (report_read es) ≡ length es
as_many [] = refl
as_many (e ∷ es) = ap suc (as_many es)

entries_fit : (es : List IoErr) → AllByRecursion ErrorLong es → AllByRecursion IoErrFits (report_read es)
entries_fit [] long = tt
entries_fit (e ∷ es) long = (
  record {
    component = record {
      device_id = long.0;
      partition_id = written_low e.oer_component.oid_partition_id;
      object_id = written_low e.oer_component.oid_object_id;
    };
    comp_offset = written_low e.oer_comp_offset;
    comp_length = written_low e.oer_comp_length;
  },
  entries_fit es long.1,
)

-- ---- a report

abbrev pub as_errors : List IoErr → IoErrs
as_errors es = record { olr_ioerr_report = es }

spelled_so : (es : List IoErr) → ioerrs_item (as_errors (report_read es)) ≡ ioerrs_item (as_errors es)
unfolding list_item
spelled_so es = rw (as_many es, same_items es) refl

pub read_whole : (es : List IoErr) → ReportShort es
    → whole ioerrs_in (ioerrs_item (as_errors es)) ≡ Ok (as_errors (report_read es))
read_whole es s =
    ap (whole ioerrs_in) (sym (spelled_so es))
    ∙ all_again ioerrs_in ioerrs_item IoErrsFits ioerrs_codec (as_errors (report_read es))
    (omega (arith, s.few, as_many es), entries_fit es s.long)

-- ---- requests

pub get_read : (op : CallOp) → CanBeRead (get_args op)
get_read op = record { asks = _; read = refl }

pub commit_read : (h : Held) (op : CallOp) → CanBeRead (commit_args h op)
commit_read h op = record {
  asks = Commit _;
  read = ap (commit_in _) (all_again update_in update_item UpdateFits update_codec plain_update tt);
}

pub return_read : (grant : ℕ) (report : List IoErr) → ReportShort report → CanBeRead (return_args grant report)
return_read grant report s = record { asks = Return (report_read report); read = ap return_in (read_whole report s) }
