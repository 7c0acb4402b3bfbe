-- The messages between clients and server as XDR spells them, field by field, and those that have a spelling.
use Rattle.std.specs.Prelude.{◌≡◌, ◌≢◌, ⊤, ℕ, ◌<◌, ◌≤◌, ◌^◌, List, ◌++◌, length, FitsSigned}
use Rattle.std.specs.Int.{w64}
use Rattle.xdr_codec.specs.Items.{u32_item, u64_item, i64_item, bool_item, fixed_item, opaque_item}
use Rattle.layout_types.specs.Grammar.{optional_item, OptionalFits, list_item}
use Rattle.layout_types.specs.Spelling.{ListFits}
use Rattle.layout_ops.specs.declared.statuses.TheConstants.{LAYOUT4_OSD2_OBJECTS, LAYOUT4_RET_REC_FILE, OP_CB_LAYOUTRECALL, NFS4_OK, NFS4ERR_LAYOUTTRYLATER}
use Rattle.layout_ops.specs.declared.parts.TheConstants.{MAX_BODY, MAX_FILE_HANDLE}
use Rattle.layout_ops.specs.declared.items.TheConstants.{STATEID_OTHER_BYTES}
use Rattle.layout_ops.specs.declared.items.StateId.{StateId}
use Rattle.layout_ops.specs.declared.items.Time.{Time}
use Rattle.layout_ops.specs.declared.operation.Operation.{Operation}
use Rattle.layout_ops.specs.declared.operation.Operation.TheVariants as operation
use Rattle.layout_ops.specs.declared.args.LayoutGetArgs.{LayoutGetArgs}
use Rattle.layout_ops.specs.declared.args.LayoutCommitArgs.{LayoutCommitArgs}
use Rattle.layout_ops.specs.declared.args.LayoutReturnArgs.{LayoutReturnArgs}
use Rattle.layout_ops.specs.declared.args.Args.{Args}
use Rattle.layout_ops.specs.declared.args.Args.TheVariants as args
use Rattle.layout_ops.specs.declared.results.LayoutSegment.{LayoutSegment}
use Rattle.layout_ops.specs.declared.results.LayoutGetOk.{LayoutGetOk}
use Rattle.layout_ops.specs.declared.results.LayoutGetResult.{LayoutGetResult}
use Rattle.layout_ops.specs.declared.results.LayoutGetResult.TheVariants as get
use Rattle.layout_ops.specs.declared.results.LayoutCommitResult.{LayoutCommitResult}
use Rattle.layout_ops.specs.declared.results.LayoutCommitResult.TheVariants as commit
use Rattle.layout_ops.specs.declared.results.LayoutReturnResult.{LayoutReturnResult}
use Rattle.layout_ops.specs.declared.results.LayoutReturnResult.TheVariants as return
use Rattle.layout_ops.specs.declared.results.Results.{Results}
use Rattle.layout_ops.specs.declared.results.Results.TheVariants as results
use Rattle.layout_ops.specs.declared.recalls.LayoutRecallArgs.{LayoutRecallArgs}
use Rattle.layout_ops.specs.declared.recalls.Recall.{Recall}
use Rattle.layout_ops.specs.declared.recalls.RecallAnswer.{RecallAnswer}
use Rattle.layout_ops.specs.declared.orders.Order.{Order}
use Rattle.layout_ops.specs.declared.orders.OrderAnswer.{OrderAnswer}
use Rattle.layout_ops.specs.declared.messages.Request.{Request}
use Rattle.layout_ops.specs.declared.messages.Answer.{Answer}
use Rattle.layout_ops.specs.declared.envelope.Envelope.{Envelope}
use Rattle.layout_ops.specs.declared.envelope.Envelope.TheVariants as envelope
use Rattle.layout_ops.specs.Enumerations.{operation_number, order_number, order_result_number}

-- the body of a layout, a commit or a return
abbrev pub IsBody : List ℕ → Type 0
IsBody bytes = length bytes ≤ MAX_BODY

-- what names a file in a recall
abbrev pub IsFileHandle : List ℕ → Type 0
IsFileHandle bytes = length bytes ≤ MAX_FILE_HANDLE

-- the layout type of object-based storage
abbrev pub layout_type_item : List ℕ
layout_type_item = u32_item LAYOUT4_OSD2_OBJECTS

-- a return or a recall of a file's layouts
abbrev pub file_kind_item : List ℕ
file_kind_item = u32_item LAYOUT4_RET_REC_FILE

-- CB_LAYOUTRECALL
abbrev pub recall_op_item : List ℕ
recall_op_item = u32_item OP_CB_LAYOUTRECALL

-- ---- states and times

abbrev pub stateid_item : StateId → List ℕ
stateid_item v = u32_item v.seqid ++ fixed_item v.other

abbrev pub StateIdFits : StateId → Type 0
StateIdFits v = record { seqid : v.seqid < 2 ^ 32; other : length v.other ≡ STATEID_OTHER_BYTES }

abbrev pub time_item : Time → List ℕ
time_item v = i64_item v.seconds ++ u32_item v.nanoseconds

abbrev pub TimeFits : Time → Type 0
TimeFits v = record { seconds : FitsSigned w64 v.seconds; nanoseconds : v.nanoseconds < 2 ^ 32 }

-- ---- arguments

abbrev pub get_args_item : LayoutGetArgs → List ℕ
get_args_item v =
    bool_item v.signal_layout_avail ++ (layout_type_item
    ++ (u32_item v.iomode ++ (u64_item v.offset ++ (u64_item v.length
    ++ (u64_item v.minlength ++ (stateid_item v.stateid ++ u32_item v.maxcount))))))

abbrev pub GetArgsFits : LayoutGetArgs → Type 0
GetArgsFits v = record {
  iomode : v.iomode < 2 ^ 32;
  offset : v.offset < 2 ^ 64;
  «length» : v.length < 2 ^ 64;
  minlength : v.minlength < 2 ^ 64;
  stateid : StateIdFits v.stateid;
  maxcount : v.maxcount < 2 ^ 32;
}

abbrev pub commit_args_item : LayoutCommitArgs → List ℕ
commit_args_item v =
    u64_item v.offset ++ (u64_item v.length
    ++ (bool_item v.reclaim ++ (stateid_item v.stateid ++ (optional_item u64_item v.last_write_offset
    ++ (optional_item time_item v.time ++ (layout_type_item ++ opaque_item v.body))))))

abbrev pub CommitArgsFits : LayoutCommitArgs → Type 0
CommitArgsFits v = record {
  offset : v.offset < 2 ^ 64;
  «length» : v.length < 2 ^ 64;
  stateid : StateIdFits v.stateid;
  last_write_offset : OptionalFits (λ n. n < 2 ^ 64) v.last_write_offset;
  time : OptionalFits TimeFits v.time;
  body : IsBody v.body;
}

abbrev pub return_args_item : LayoutReturnArgs → List ℕ
return_args_item v =
    bool_item v.reclaim ++ (layout_type_item
    ++ (u32_item v.iomode ++ (file_kind_item ++ (u64_item v.offset ++ (u64_item v.length
    ++ (stateid_item v.stateid ++ opaque_item v.body))))))

abbrev pub ReturnArgsFits : LayoutReturnArgs → Type 0
ReturnArgsFits v = record {
  iomode : v.iomode < 2 ^ 32;
  offset : v.offset < 2 ^ 64;
  «length» : v.length < 2 ^ 64;
  stateid : StateIdFits v.stateid;
  body : IsBody v.body;
}

abbrev pub operation_of_args : Args → Operation
operation_of_args (args.LayoutCommit v) = operation.LayoutCommit
operation_of_args (args.LayoutGet v) = operation.LayoutGet
operation_of_args (args.LayoutReturn v) = operation.LayoutReturn

abbrev pub args_item : Args → List ℕ
args_item (args.LayoutCommit v) = commit_args_item v
args_item (args.LayoutGet v) = get_args_item v
args_item (args.LayoutReturn v) = return_args_item v

abbrev pub ArgsFits : Args → Type 0
ArgsFits (args.LayoutCommit v) = CommitArgsFits v
ArgsFits (args.LayoutGet v) = GetArgsFits v
ArgsFits (args.LayoutReturn v) = ReturnArgsFits v

-- ---- results

abbrev pub segment_item : LayoutSegment → List ℕ
segment_item v =
    u64_item v.offset ++ (u64_item v.length ++ (u32_item v.iomode ++ (layout_type_item ++ opaque_item v.body)))

abbrev pub SegmentFits : LayoutSegment → Type 0
SegmentFits v = record {
  offset : v.offset < 2 ^ 64;
  «length» : v.length < 2 ^ 64;
  iomode : v.iomode < 2 ^ 32;
  body : IsBody v.body;
}

abbrev pub get_ok_item : LayoutGetOk → List ℕ
get_ok_item v = bool_item v.return_on_close ++ (stateid_item v.stateid ++ list_item segment_item v.layouts)

abbrev pub GetOkFits : LayoutGetOk → Type 0
GetOkFits v = record { stateid : StateIdFits v.stateid; layouts : ListFits SegmentFits v.layouts }

-- the status, and what it announces
abbrev pub get_result_item : LayoutGetResult → List ℕ
get_result_item (get.Granted v) = u32_item NFS4_OK ++ get_ok_item v
get_result_item (get.TryLater will_signal) = u32_item NFS4ERR_LAYOUTTRYLATER ++ bool_item will_signal
get_result_item (get.Refused status) = u32_item status

abbrev pub GetResultFits : LayoutGetResult → Type 0
GetResultFits (get.Granted v) = GetOkFits v
GetResultFits (get.TryLater will_signal) = ⊤
GetResultFits (get.Refused status) = (status < 2 ^ 32) × (status ≢ NFS4_OK) × (status ≢ NFS4ERR_LAYOUTTRYLATER)

abbrev pub commit_result_item : LayoutCommitResult → List ℕ
commit_result_item (commit.Committed new_size) = u32_item NFS4_OK ++ optional_item u64_item new_size
commit_result_item (commit.Refused status) = u32_item status

abbrev pub CommitResultFits : LayoutCommitResult → Type 0
CommitResultFits (commit.Committed new_size) = OptionalFits (λ n. n < 2 ^ 64) new_size
CommitResultFits (commit.Refused status) = (status < 2 ^ 32) × (status ≢ NFS4_OK)

abbrev pub return_result_item : LayoutReturnResult → List ℕ
return_result_item (return.Returned stateid) = u32_item NFS4_OK ++ optional_item stateid_item stateid
return_result_item (return.Refused status) = u32_item status

abbrev pub ReturnResultFits : LayoutReturnResult → Type 0
ReturnResultFits (return.Returned stateid) = OptionalFits StateIdFits stateid
ReturnResultFits (return.Refused status) = (status < 2 ^ 32) × (status ≢ NFS4_OK)

abbrev pub operation_of_results : Results → Operation
operation_of_results (results.LayoutCommit v) = operation.LayoutCommit
operation_of_results (results.LayoutGet v) = operation.LayoutGet
operation_of_results (results.LayoutReturn v) = operation.LayoutReturn

abbrev pub results_item : Results → List ℕ
results_item (results.LayoutCommit v) = commit_result_item v
results_item (results.LayoutGet v) = get_result_item v
results_item (results.LayoutReturn v) = return_result_item v

abbrev pub ResultsFits : Results → Type 0
ResultsFits (results.LayoutCommit v) = CommitResultFits v
ResultsFits (results.LayoutGet v) = GetResultFits v
ResultsFits (results.LayoutReturn v) = ReturnResultFits v

-- ---- requests and answers

abbrev pub request_item : Request → List ℕ
request_item v =
    u32_item v.client ++ (u32_item v.sequence ++ (u32_item v.file
    ++ (u32_item (operation_number (operation_of_args v.args)) ++ args_item v.args)))

abbrev pub RequestFits : Request → Type 0
RequestFits v = record {
  client : v.client < 2 ^ 32;
  sequence : v.sequence < 2 ^ 32;
  file : v.file < 2 ^ 32;
  args : ArgsFits v.args;
}

abbrev pub answer_item : Answer → List ℕ
answer_item v =
    u32_item v.client ++ (u32_item v.sequence ++ (u32_item v.file
    ++ (u32_item (operation_number (operation_of_results v.results))
    ++ (u32_item v.detail ++ (u64_item v.size ++ results_item v.results)))))

abbrev pub AnswerFits : Answer → Type 0
AnswerFits v = record {
  client : v.client < 2 ^ 32;
  sequence : v.sequence < 2 ^ 32;
  file : v.file < 2 ^ 32;
  detail : v.detail < 2 ^ 32;
  size : v.size < 2 ^ 64;
  results : ResultsFits v.results;
}

-- ---- recalls

abbrev pub recall_args_item : LayoutRecallArgs → List ℕ
recall_args_item v =
    layout_type_item ++ (u32_item v.iomode
    ++ (bool_item v.changed ++ (file_kind_item ++ (opaque_item v.file ++ (u64_item v.offset
    ++ (u64_item v.length ++ stateid_item v.stateid))))))

abbrev pub RecallArgsFits : LayoutRecallArgs → Type 0
RecallArgsFits v = record {
  iomode : v.iomode < 2 ^ 32;
  file : IsFileHandle v.file;
  offset : v.offset < 2 ^ 64;
  «length» : v.length < 2 ^ 64;
  stateid : StateIdFits v.stateid;
}

abbrev pub recall_item : Recall → List ℕ
recall_item v =
    u32_item v.client ++ (u32_item v.number ++ (u32_item v.file ++ (recall_op_item ++ recall_args_item v.args)))

abbrev pub RecallFits : Recall → Type 0
RecallFits v = record {
  client : v.client < 2 ^ 32;
  number : v.number < 2 ^ 32;
  file : v.file < 2 ^ 32;
  args : RecallArgsFits v.args;
}

abbrev pub recall_answer_item : RecallAnswer → List ℕ
recall_answer_item v =
    u32_item v.client ++ (u32_item v.number ++ (u32_item v.file ++ (recall_op_item ++ u32_item v.status)))

abbrev pub RecallAnswerFits : RecallAnswer → Type 0
RecallAnswerFits v = record {
  client : v.client < 2 ^ 32;
  number : v.number < 2 ^ 32;
  file : v.file < 2 ^ 32;
  status : v.status < 2 ^ 32;
}

-- ---- orders

abbrev pub order_item : Order → List ℕ
order_item v = u32_item (order_number v.order) ++ u32_item v.target

abbrev pub OrderFits : Order → Type 0
OrderFits v = v.target < 2 ^ 32

abbrev pub order_answer_item : OrderAnswer → List ℕ
order_answer_item v = u32_item (order_number v.order) ++ u32_item (order_result_number v.result)

-- ---- messages

-- the kind, and what it announces
abbrev pub envelope_item : Envelope → List ℕ
envelope_item (envelope.Request v) = u32_item 1 ++ request_item v
envelope_item (envelope.Answer v) = u32_item 2 ++ answer_item v
envelope_item (envelope.Recall v) = u32_item 3 ++ recall_item v
envelope_item (envelope.RecallAnswer v) = u32_item 4 ++ recall_answer_item v
envelope_item (envelope.Order v) = u32_item 5 ++ order_item v
envelope_item (envelope.OrderAnswer v) = u32_item 6 ++ order_answer_item v

abbrev pub EnvelopeFits : Envelope → Type 0
EnvelopeFits (envelope.Request v) = RequestFits v
EnvelopeFits (envelope.Answer v) = AnswerFits v
EnvelopeFits (envelope.Recall v) = RecallFits v
EnvelopeFits (envelope.RecallAnswer v) = RecallAnswerFits v
EnvelopeFits (envelope.Order v) = OrderFits v
EnvelopeFits (envelope.OrderAnswer v) = ⊤

-- ---- what the types don't keep of that

abbrev pub SegmentWritable : LayoutSegment → Type 0
SegmentWritable v = IsBody v.body

abbrev pub GetOkWritable : LayoutGetOk → Type 0
GetOkWritable v = ListFits SegmentWritable v.layouts

abbrev pub GetResultWritable : LayoutGetResult → Type 0
GetResultWritable (get.Granted v) = GetOkWritable v
GetResultWritable (get.TryLater will_signal) = ⊤
GetResultWritable (get.Refused status) = (status ≢ NFS4_OK) × (status ≢ NFS4ERR_LAYOUTTRYLATER)

abbrev pub CommitResultWritable : LayoutCommitResult → Type 0
CommitResultWritable (commit.Committed new_size) = ⊤
CommitResultWritable (commit.Refused status) = status ≢ NFS4_OK

abbrev pub ReturnResultWritable : LayoutReturnResult → Type 0
ReturnResultWritable (return.Returned stateid) = ⊤
ReturnResultWritable (return.Refused status) = status ≢ NFS4_OK

abbrev pub ArgsWritable : Args → Type 0
ArgsWritable (args.LayoutCommit v) = IsBody v.body
ArgsWritable (args.LayoutGet v) = ⊤
ArgsWritable (args.LayoutReturn v) = IsBody v.body

abbrev pub ResultsWritable : Results → Type 0
ResultsWritable (results.LayoutCommit v) = CommitResultWritable v
ResultsWritable (results.LayoutGet v) = GetResultWritable v
ResultsWritable (results.LayoutReturn v) = ReturnResultWritable v

-- short bodies, file names and lists, and refusals with the status of one
abbrev pub EnvelopeWritable : Envelope → Type 0
EnvelopeWritable (envelope.Request v) = ArgsWritable v.args
EnvelopeWritable (envelope.Answer v) = ResultsWritable v.results
EnvelopeWritable (envelope.Recall v) = IsFileHandle v.args.file
EnvelopeWritable (envelope.RecallAnswer v) = ⊤
EnvelopeWritable (envelope.Order v) = ⊤
EnvelopeWritable (envelope.OrderAnswer v) = ⊤
