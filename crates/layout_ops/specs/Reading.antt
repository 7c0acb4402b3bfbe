-- The messages between clients and server as they are read, field by field: the first refusal from the left decides.
use Rattle.std.specs.Prelude.{ℕ, List, Option, if◌then◌else◌, nat_eq, Result, Ok, Err}
use Rattle.xdr_codec.specs.Reading.{Rest, ◌>>=◌}
use Rattle.layout_types.specs.declared.err.LayoutErr.{LayoutErr}
use Rattle.layout_types.specs.declared.err.LayoutErr.TheVariants.{BadEnum}
use Rattle.layout_types.specs.Grammar.{u32_part, u64_part, i64_part, fixed_part, enum_part, optional_part}
use Rattle.layout_ops.specs.declared.err.OpErr.{OpErr}
use Rattle.layout_ops.specs.declared.err.OpErr.TheVariants.{Layout}
use Rattle.layout_ops.specs.declared.statuses.TheConstants.{NFS4_OK, NFS4ERR_LAYOUTTRYLATER}
use Rattle.layout_ops.specs.declared.parts.TheConstants.{MAX_BODY, MAX_FILE_HANDLE}
use Rattle.layout_ops.specs.declared.items.TheConstants.{STATEID_OTHER_BYTES}
use Rattle.layout_ops.specs.declared.items.StateId.{StateId}
use Rattle.layout_ops.specs.declared.items.Time.{Time}
use Rattle.layout_ops.specs.declared.operation.Operation.{Operation}
use Rattle.layout_ops.specs.declared.operation.Operation.TheVariants as operation
use Rattle.layout_ops.specs.declared.args.LayoutGetArgs.{LayoutGetArgs}
use Rattle.layout_ops.specs.declared.args.LayoutCommitArgs.{LayoutCommitArgs}
use Rattle.layout_ops.specs.declared.args.LayoutReturnArgs.{LayoutReturnArgs}
use Rattle.layout_ops.specs.declared.args.Args.{Args}
use Rattle.layout_ops.specs.declared.args.Args.TheVariants as args
use Rattle.layout_ops.specs.declared.results.LayoutSegment.{LayoutSegment}
use Rattle.layout_ops.specs.declared.results.LayoutGetOk.{LayoutGetOk}
use Rattle.layout_ops.specs.declared.results.LayoutGetResult.{LayoutGetResult}
use Rattle.layout_ops.specs.declared.results.LayoutGetResult.TheVariants as get
use Rattle.layout_ops.specs.declared.results.LayoutCommitResult.{LayoutCommitResult}
use Rattle.layout_ops.specs.declared.results.LayoutCommitResult.TheVariants as commit
use Rattle.layout_ops.specs.declared.results.LayoutReturnResult.{LayoutReturnResult}
use Rattle.layout_ops.specs.declared.results.LayoutReturnResult.TheVariants as return
use Rattle.layout_ops.specs.declared.results.Results.{Results}
use Rattle.layout_ops.specs.declared.results.Results.TheVariants as results
use Rattle.layout_ops.specs.declared.recalls.LayoutRecallArgs.{LayoutRecallArgs}
use Rattle.layout_ops.specs.declared.recalls.Recall.{Recall}
use Rattle.layout_ops.specs.declared.recalls.RecallAnswer.{RecallAnswer}
use Rattle.layout_ops.specs.declared.orders.OrderKind.{OrderKind}
use Rattle.layout_ops.specs.declared.orders.OrderResult.{OrderResult}
use Rattle.layout_ops.specs.declared.orders.Order.{Order}
use Rattle.layout_ops.specs.declared.orders.OrderAnswer.{OrderAnswer}
use Rattle.layout_ops.specs.declared.messages.Request.{Request}
use Rattle.layout_ops.specs.declared.messages.Answer.{Answer}
use Rattle.layout_ops.specs.declared.envelope.Envelope.{Envelope}
use Rattle.layout_ops.specs.declared.envelope.Envelope.TheVariants as envelope
use Rattle.layout_ops.specs.Enumerations.{order_of, order_result_of}
use Rattle.layout_ops.specs.Grammar.{carried, u32_field, u64_field, bool_field, opaque_field, layout_type_in, file_kind_in, recall_op_in, operation_in, list_in, whole}

-- ---- states, times and what is optional

unfoldable pub stateid_part : Rest → Result (StateId × Rest) LayoutErr
stateid_part i = do
  seqid ← u32_part i
  other ← fixed_part STATEID_OTHER_BYTES seqid.1
  Ok (record { seqid = seqid.0; other = other.0 }, other.1)

unfoldable pub time_part : Rest → Result (Time × Rest) LayoutErr
time_part i = do
  seconds ← i64_part i
  nanoseconds ← u32_part seconds.1
  Ok (record { seconds = seconds.0; nanoseconds = nanoseconds.0 }, nanoseconds.1)

unfoldable pub stateid_field : Rest → Result (StateId × Rest) OpErr
stateid_field i = carried (stateid_part i)

unfoldable pub optional_u64_field : Rest → Result (Option ℕ × Rest) OpErr
optional_u64_field i = carried (optional_part u64_part i)

unfoldable pub optional_time_field : Rest → Result (Option Time × Rest) OpErr
optional_time_field i = carried (optional_part time_part i)

unfoldable pub optional_stateid_field : Rest → Result (Option StateId × Rest) OpErr
optional_stateid_field i = carried (optional_part stateid_part i)

-- ---- arguments

unfoldable pub get_args_in : Rest → Result (LayoutGetArgs × Rest) OpErr
get_args_in i = do
  signal ← bool_field i
  objects ← layout_type_in signal.1
  iomode ← u32_field objects.1
  offset ← u64_field iomode.1
  size ← u64_field offset.1
  least ← u64_field size.1
  stateid ← stateid_field least.1
  maxcount ← u32_field stateid.1
  Ok (
    record {
      signal_layout_avail = signal.0;
      iomode = iomode.0;
      offset = offset.0;
      length = size.0;
      minlength = least.0;
      stateid = stateid.0;
      maxcount = maxcount.0;
    },
    maxcount.1,
  )

unfoldable pub commit_args_in : Rest → Result (LayoutCommitArgs × Rest) OpErr
commit_args_in i = do
  offset ← u64_field i
  size ← u64_field offset.1
  reclaim ← bool_field size.1
  stateid ← stateid_field reclaim.1
  last ← optional_u64_field stateid.1
  time ← optional_time_field last.1
  objects ← layout_type_in time.1
  body ← opaque_field MAX_BODY objects.1
  Ok (
    record {
      offset = offset.0;
      length = size.0;
      reclaim = reclaim.0;
      stateid = stateid.0;
      last_write_offset = last.0;
      time = time.0;
      body = body.0;
    },
    body.1,
  )

unfoldable pub return_args_in : Rest → Result (LayoutReturnArgs × Rest) OpErr
return_args_in i = do
  reclaim ← bool_field i
  objects ← layout_type_in reclaim.1
  iomode ← u32_field objects.1
  of_file ← file_kind_in iomode.1
  offset ← u64_field of_file.1
  size ← u64_field offset.1
  stateid ← stateid_field size.1
  body ← opaque_field MAX_BODY stateid.1
  Ok (
    record {
      reclaim = reclaim.0;
      iomode = iomode.0;
      offset = offset.0;
      length = size.0;
      stateid = stateid.0;
      body = body.0;
    },
    body.1,
  )

abbrev pub args_in : Operation → Rest → Result (Args × Rest) OpErr
args_in operation.LayoutCommit i = commit_args_in i >>= λ v. Ok (args.LayoutCommit v.0, v.1)
args_in operation.LayoutGet i = get_args_in i >>= λ v. Ok (args.LayoutGet v.0, v.1)
args_in operation.LayoutReturn i = return_args_in i >>= λ v. Ok (args.LayoutReturn v.0, v.1)

-- ---- results

unfoldable pub segment_in : Rest → Result (LayoutSegment × Rest) OpErr
segment_in i = do
  offset ← u64_field i
  size ← u64_field offset.1
  iomode ← u32_field size.1
  objects ← layout_type_in iomode.1
  body ← opaque_field MAX_BODY objects.1
  Ok (record { offset = offset.0; length = size.0; iomode = iomode.0; body = body.0 }, body.1)

unfoldable pub get_ok_in : Rest → Result (LayoutGetOk × Rest) OpErr
get_ok_in i = do
  on_close ← bool_field i
  stateid ← stateid_field on_close.1
  layouts ← list_in segment_in stateid.1
  Ok (record { return_on_close = on_close.0; stateid = stateid.0; layouts = layouts.0 }, layouts.1)

abbrev pub get_behind : ℕ × Rest → Result (LayoutGetResult × Rest) OpErr
get_behind status =
    if nat_eq status.0 NFS4_OK then (get_ok_in status.1 >>= λ v. Ok (get.Granted v.0, v.1))
    else if nat_eq status.0 NFS4ERR_LAYOUTTRYLATER then (bool_field status.1 >>= λ v. Ok (get.TryLater v.0, v.1))
    else Ok (get.Refused status.0, status.1)

unfoldable pub get_result_in : Rest → Result (LayoutGetResult × Rest) OpErr
get_result_in i = u32_field i >>= get_behind

abbrev pub commit_behind : ℕ × Rest → Result (LayoutCommitResult × Rest) OpErr
commit_behind status =
    if nat_eq status.0 NFS4_OK then (optional_u64_field status.1 >>= λ v. Ok (commit.Committed v.0, v.1))
    else Ok (commit.Refused status.0, status.1)

unfoldable pub commit_result_in : Rest → Result (LayoutCommitResult × Rest) OpErr
commit_result_in i = u32_field i >>= commit_behind

abbrev pub return_behind : ℕ × Rest → Result (LayoutReturnResult × Rest) OpErr
return_behind status =
    if nat_eq status.0 NFS4_OK then (optional_stateid_field status.1 >>= λ v. Ok (return.Returned v.0, v.1))
    else Ok (return.Refused status.0, status.1)

unfoldable pub return_result_in : Rest → Result (LayoutReturnResult × Rest) OpErr
return_result_in i = u32_field i >>= return_behind

abbrev pub results_in : Operation → Rest → Result (Results × Rest) OpErr
results_in operation.LayoutCommit i = commit_result_in i >>= λ v. Ok (results.LayoutCommit v.0, v.1)
results_in operation.LayoutGet i = get_result_in i >>= λ v. Ok (results.LayoutGet v.0, v.1)
results_in operation.LayoutReturn i = return_result_in i >>= λ v. Ok (results.LayoutReturn v.0, v.1)

-- ---- requests and answers

unfoldable pub request_in : Rest → Result (Request × Rest) OpErr
request_in i = do
  client ← u32_field i
  sequence ← u32_field client.1
  file ← u32_field sequence.1
  op ← operation_in file.1
  arguments ← args_in op.0 op.1
  Ok (record { client = client.0; sequence = sequence.0; file = file.0; args = arguments.0 }, arguments.1)

unfoldable pub answer_in : Rest → Result (Answer × Rest) OpErr
answer_in i = do
  client ← u32_field i
  sequence ← u32_field client.1
  file ← u32_field sequence.1
  op ← operation_in file.1
  detail ← u32_field op.1
  size ← u64_field detail.1
  answered ← results_in op.0 size.1
  Ok (
    record {
      client = client.0;
      sequence = sequence.0;
      file = file.0;
      detail = detail.0;
      size = size.0;
      results = answered.0;
    },
    answered.1,
  )

-- ---- recalls

unfoldable pub recall_args_in : Rest → Result (LayoutRecallArgs × Rest) OpErr
recall_args_in i = do
  objects ← layout_type_in i
  iomode ← u32_field objects.1
  changed ← bool_field iomode.1
  of_file ← file_kind_in changed.1
  file ← opaque_field MAX_FILE_HANDLE of_file.1
  offset ← u64_field file.1
  size ← u64_field offset.1
  stateid ← stateid_field size.1
  Ok (
    record {
      iomode = iomode.0;
      changed = changed.0;
      file = file.0;
      offset = offset.0;
      length = size.0;
      stateid = stateid.0;
    },
    stateid.1,
  )

unfoldable pub recall_in : Rest → Result (Recall × Rest) OpErr
recall_in i = do
  client ← u32_field i
  number ← u32_field client.1
  file ← u32_field number.1
  op ← recall_op_in file.1
  arguments ← recall_args_in op.1
  Ok (record { client = client.0; number = number.0; file = file.0; args = arguments.0 }, arguments.1)

unfoldable pub recall_answer_in : Rest → Result (RecallAnswer × Rest) OpErr
recall_answer_in i = do
  client ← u32_field i
  number ← u32_field client.1
  file ← u32_field number.1
  op ← recall_op_in file.1
  status ← u32_field op.1
  Ok (record { client = client.0; number = number.0; file = file.0; status = status.0 }, status.1)

-- ---- orders

unfoldable pub order_kind_field : Rest → Result (OrderKind × Rest) OpErr
order_kind_field i = carried (enum_part order_of i)

unfoldable pub order_result_field : Rest → Result (OrderResult × Rest) OpErr
order_result_field i = carried (enum_part order_result_of i)

unfoldable pub order_in : Rest → Result (Order × Rest) OpErr
order_in i = do
  order ← order_kind_field i
  target ← u32_field order.1
  Ok (record { order = order.0; target = target.0 }, target.1)

unfoldable pub order_answer_in : Rest → Result (OrderAnswer × Rest) OpErr
order_answer_in i = do
  order ← order_kind_field i
  result ← order_result_field order.1
  Ok (record { order = order.0; result = result.0 }, result.1)

-- ---- messages

-- what the number of a kind announces
abbrev pub envelope_behind : ℕ → ℕ × Rest → Result (Envelope × Rest) OpErr
envelope_behind at kind =
    if nat_eq kind.0 1 then (request_in kind.1 >>= λ v. Ok (envelope.Request v.0, v.1))
    else if nat_eq kind.0 2 then (answer_in kind.1 >>= λ v. Ok (envelope.Answer v.0, v.1))
    else if nat_eq kind.0 3 then (recall_in kind.1 >>= λ v. Ok (envelope.Recall v.0, v.1))
    else if nat_eq kind.0 4 then (recall_answer_in kind.1 >>= λ v. Ok (envelope.RecallAnswer v.0, v.1))
    else if nat_eq kind.0 5 then (order_in kind.1 >>= λ v. Ok (envelope.Order v.0, v.1))
    else if nat_eq kind.0 6 then (order_answer_in kind.1 >>= λ v. Ok (envelope.OrderAnswer v.0, v.1))
    else Err (Layout (BadEnum at kind.0))

unfoldable pub envelope_in : Rest → Result (Envelope × Rest) OpErr
envelope_in i = u32_field i >>= envelope_behind i.at

-- the message that all of the bytes spell, or the first refusal
unfoldable pub envelope_of : List ℕ → Result Envelope OpErr
envelope_of bytes = whole envelope_in bytes
