-- What worked scenarios compute through where messages are read, under one name.
use Rattle.std.specs.Prelude.{ℕ}
use Rattle.xdr_codec.specs.Items.{u32_item, u64_item, i64_item, fixed_item, opaque_item}
use Rattle.xdr_codec.specs.Reading.{u32_in, u64_in, i64_in, bool_in, count_in, body_in, opaque_in, end_of}
use Rattle.layout_types.specs.Grammar.{u32_part, u64_part, i64_part, bool_part, fixed_part, opaque_part, count_part}
use Rattle.layout_types.specs.Grammar.{optional_part, enum_part, members as members_of, list_part, list_item, whole as whole_of}
use Rattle.layout_types.specs.Reading.{objid_in, ioerr_in, ioerrs_in, update_in}
use Rattle.layout_ops.specs.Grammar.{u32_field, u64_field, bool_field, opaque_field, count_field, layout_type_in, file_kind_in, recall_op_in, operation_in, members, list_in, whole}
use Rattle.layout_ops.specs.Reading.{stateid_part, time_part, stateid_field, optional_u64_field, optional_time_field, optional_stateid_field, get_args_in, commit_args_in, return_args_in, segment_in, get_ok_in, get_result_in, commit_result_in, return_result_in, request_in, answer_in, recall_args_in, recall_in, recall_answer_in, order_kind_field, order_result_field, order_in, order_answer_in, envelope_in, envelope_of}
use Rattle.osd_capability.specs.Layout.{spelling as capability_spelling, capability_at, stray as capability_stray, reading as capability_reading}
use Rattle.osd_commands.specs.Commands.{fields as command_fields, head, spelling as command_spelling, stray as command_stray, command_at, reading as command_reading}
use Rattle.osd_commands.specs.Replies.{fields as reply_fields, spelling as reply_spelling, reply_at, reading as reply_reading}
use Rattle.server_rules.specs.Envelopes.{message_in}
use Rattle.client_rules.specs.Envelopes.{message_in as client_message_in}

unfoldable pub opened_text : ℕ
unfolding optional_part enum_part members_of list_part list_item whole_of objid_in ioerr_in ioerrs_in update_in u32_part u64_part
    i64_part bool_part fixed_part opaque_part count_part u32_item u64_item i64_item fixed_item opaque_item u32_in u64_in i64_in
    bool_in count_in body_in opaque_in end_of u32_field u64_field bool_field opaque_field count_field layout_type_in
    file_kind_in recall_op_in operation_in members list_in whole stateid_part time_part stateid_field optional_u64_field
    optional_time_field optional_stateid_field get_args_in commit_args_in return_args_in segment_in get_ok_in get_result_in
    commit_result_in return_result_in request_in answer_in recall_args_in recall_in recall_answer_in order_kind_field
    order_result_field order_in order_answer_in envelope_in envelope_of capability_spelling capability_at capability_stray
    capability_reading command_fields head command_spelling command_stray command_at command_reading reply_fields
    reply_spelling reply_at reply_reading message_in client_message_in
opened_text = 0
