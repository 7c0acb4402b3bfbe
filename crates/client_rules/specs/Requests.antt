-- Requests to the server, with the fields that carry no decision.
use Rattle.std.specs.Prelude.{ℕ, Bool, false, List, [], ◌++◌, ◌+◌, ◌-◌, ◌==◌, ◌||◌, min, max, map, drop, slice_get, replicate, Option, Some, None, if◌then◌else◌}
use Rattle.std.specs.Int.{w32, to_be_bytes, from_be_bytes}
use Rattle.data_map.specs.declared.ranges.TheConstants.{MAX_FILE_SIZE}
use Rattle.layout_types.specs.declared.objid.TheConstants.{DEVICE_ID_BYTES}
use Rattle.layout_types.specs.declared.objid.ObjId.{ObjId}
use Rattle.layout_types.specs.declared.ioerrs.Errno.{Errno}
use Rattle.layout_types.specs.declared.ioerrs.Errno.TheVariants.{Eio, NotFound, NoSpace, BadCred, NoAccess, Unreachable, Resource}
use Rattle.layout_types.specs.declared.update.LayoutUpdate.{LayoutUpdate}
use Rattle.layout_types.specs.Spelling.{update_item, ioerrs_item}
use Rattle.layout_ops.specs.declared.items.TheConstants.{STATEID_OTHER_BYTES}
use Rattle.layout_ops.specs.declared.items.StateId.{StateId}
use Rattle.layout_ops.specs.declared.args.LayoutGetArgs.{LayoutGetArgs}
use Rattle.layout_ops.specs.declared.args.LayoutCommitArgs.{LayoutCommitArgs}
use Rattle.layout_ops.specs.declared.args.LayoutReturnArgs.{LayoutReturnArgs}
use Rattle.layout_ops.specs.declared.args.Args.{Args}
use Rattle.layout_ops.specs.declared.args.Args.TheVariants as args
use Rattle.layout_ops.specs.declared.statuses.TheConstants.{LAYOUTIOMODE4_READ, LAYOUTIOMODE4_RW, LAYOUTIOMODE4_ANY}
use Rattle.client_rules.specs.declared.limits.TheConstants.{MAX_LAYOUT, WHOLE_FILE, NO_KEY as NO_KEY_LEFT, BAD_CHECK_VALUE, EXPIRED, NO_RIGHT, OTHER_OBJECT, OUT_OF_RANGE, NO_OBJECT, OVER_LIMIT, NO_SPACE, LANE_FULL}
use Rattle.client_rules.specs.State.{CallOp, Need, First, Get, Commit, Report, Close, TimedOut, Listed, Held, IoErr, Span, Ask}
use Rattle.client_rules.specs.Calls.{span_of, is_write}

-- ---- what names a grant

-- 8 bytes of zeros, and its number
abbrev pub stateid_of : (grant : ℕ) → StateId
stateid_of number = record { seqid = 1; other = replicate 8 0 ++ to_be_bytes w32 number }

-- the grant that is named
abbrev pub grant_in : StateId → ℕ
grant_in state = from_be_bytes w32 (drop 8 state.other)

-- none
abbrev pub no_stateid : StateId
no_stateid = record { seqid = 0; other = replicate STATEID_OTHER_BYTES 0 }

-- ---- LAYOUTGET

-- from the call's offset, or the last byte that a file can have, for its length, or 1
abbrev pub asked_span : CallOp → Span
asked_span op = record { offset = min (span_of op).offset (MAX_FILE_SIZE - 1); length = max (span_of op).length 1 }

-- for these bytes
abbrev pub get_of : (write : Bool) → Span → LayoutGetArgs
get_of write r = record {
  signal_layout_avail = false;
  iomode = if write then LAYOUTIOMODE4_RW else LAYOUTIOMODE4_READ;
  offset = r.offset;
  length = r.length;
  minlength = r.length;
  stateid = no_stateid;
  maxcount = MAX_LAYOUT;
}

-- for a call
abbrev pub get_args : CallOp → Args
get_args op = args.LayoutGet (get_of (is_write op) (asked_span op))

-- ---- LAYOUTCOMMIT

-- no more than that it was written
abbrev pub plain_update : LayoutUpdate
plain_update = record { dsu_delta = None; olu_ioerr_flag = false }

-- these bytes were written
abbrev pub commit_of : (grant : ℕ) → Span → LayoutCommitArgs
commit_of grant r = record {
  offset = r.offset;
  length = r.length;
  reclaim = false;
  stateid = stateid_of grant;
  last_write_offset = Some (r.offset + r.length - 1);
  time = None;
  body = update_item plain_update;
}

-- the call's bytes were written
abbrev pub commit_args : Held → CallOp → Args
commit_args h op = args.LayoutCommit (commit_of h.number (span_of op))

-- ---- LAYOUTRETURN

-- of all layouts of the file, with a report of errors
abbrev pub return_of : (grant : ℕ) → List IoErr → LayoutReturnArgs
return_of grant report = record {
  reclaim = false;
  iomode = LAYOUTIOMODE4_ANY;
  offset = 0;
  length = WHOLE_FILE;
  stateid = stateid_of grant;
  body = ioerrs_item (record { olr_ioerr_report = report });
}

-- it is clean where there is no error
abbrev pub return_args : (grant : ℕ) → List IoErr → Args
return_args grant report = args.LayoutReturn (return_of grant report)

-- ---- reports

-- the object of no component
abbrev pub no_object : ObjId
no_object = record { oid_device_id = replicate DEVICE_ID_BYTES 0; oid_partition_id = 0; oid_object_id = 0 }

-- a listed object
abbrev pub id_in : Option Listed → ObjId
id_in None = no_object
id_in (Some l) = l.id

-- the object of component k
unfoldable pub object_of : Held → (k : ℕ) → ObjId
object_of h k = id_in (slice_get h.components k)

-- an error names the object, and the range of the command concerned
unfoldable pub error_at : Held → (write : Bool) → Ask → Errno → IoErr
error_at h write a errno = record {
  oer_component = object_of h a.component;
  oer_comp_offset = a.offset;
  oer_comp_length = a.length;
  oer_iswrite = write;
  oer_errno = errno;
}

-- each component that timed out wasn't reached
unfoldable pub report_of : Held → List TimedOut → List IoErr
report_of h timed = map (λ (t : TimedOut). error_at h t.write t.ask Unreachable) timed

-- the capability doesn't allow it
abbrev pub is_no_access : (verdict : ℕ) → Bool
is_no_access v = ((v == EXPIRED) || (v == NO_RIGHT)) || ((v == OTHER_OBJECT) || (v == OUT_OF_RANGE))

-- what went wrong, by the verdict
unfoldable pub errno_of : (verdict : ℕ) → Errno
errno_of v =
    if v == NO_SPACE then NoSpace
    else if (v == NO_KEY_LEFT) || (v == BAD_CHECK_VALUE) then BadCred
    else if is_no_access v then NoAccess
    else if v == NO_OBJECT then NotFound
    else if (v == OVER_LIMIT) || (v == LANE_FULL) then Resource
    else Eio

-- ---- what a call needs of the server

-- under the call's grant
unfoldable pub args_of : Held → CallOp → Need → Args
args_of h op First = return_args h.number []
args_of h op (Get tries) = get_args op
args_of h op (Commit timed) = commit_args h op
args_of h op (Report timed) = return_args h.number (report_of h timed)
args_of h op (Close outcome report) = return_args h.number report
