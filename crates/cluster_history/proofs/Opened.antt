-- What the worked run computes through.
use Rattle.std.specs.Prelude.{ℕ}
use Rattle.xdr_codec.specs.Items.{u32_item, u64_item, i64_item, fixed_item, opaque_item}
use Rattle.xdr_codec.specs.Reading.{u32_in, u64_in, i64_in, bool_in, count_in, body_in, opaque_in, end_of}
use Rattle.layout_types.specs.Grammar.{u32_part, u64_part, i64_part, bool_part, fixed_part, opaque_part, count_part}
use Rattle.layout_types.specs.Grammar.{optional_part, enum_part, members as members_of, list_part, list_item, whole as whole_of}
use Rattle.layout_ops.specs.Grammar.{u32_field, u64_field, bool_field, opaque_field, count_field, layout_type_in, file_kind_in, recall_op_in, operation_in, members, list_in, whole}
use Rattle.layout_ops.specs.Reading.{stateid_part, time_part, stateid_field, optional_u64_field, optional_time_field, optional_stateid_field, get_args_in, commit_args_in, return_args_in, segment_in, get_ok_in, get_result_in, commit_result_in, return_result_in, request_in, answer_in, recall_args_in, recall_in, recall_answer_in, order_kind_field, order_result_field, order_in, order_answer_in, envelope_in, envelope_of}
use Rattle.data_map.specs.Check.{checked as checked_map}
use Rattle.server_rules.specs.Answers.{recalls_from}
use Rattle.server_rules.specs.Commands.{label, is_meant, to_each, key_at}
use Rattle.server_rules.specs.Envelopes.{message_in}
use Rattle.server_rules.specs.Files.{file_at, put_file, add_file}
use Rattle.server_rules.specs.Get.{lowest_after, early, must_fence, late, give_or_refuse, fence_first, on_grants, gets}
use Rattle.server_rules.specs.Grants.{overlaps, conflicts, asked, joined, merged}
use Rattle.server_rules.specs.Jobs.{making, fenced, fence_begins, goes_on, loses, declares}
use Rattle.server_rules.specs.Making.{add_drive, checked_64, refusal, are_of, places, components_on, create_file}
use Rattle.server_rules.specs.Messages.{counters_have_room, heard_at, on_drive_reply, on_message}
use Rattle.server_rules.specs.Numbers.{among, marked}
use Rattle.server_rules.specs.Openings.{opens_fenced, opens, opens_each, reopen}
use Rattle.server_rules.specs.Orders.{offline, declares_each, declare, ordered}
use Rattle.server_rules.specs.Requests.{on_request}
use Rattle.server_rules.specs.Slots.{admit_after, admit, keep}
use Rattle.server_rules.specs.Standing.{lose_on, any_on, stood_on}
use Rattle.client_rules.specs.Grants.{held_of, put_held, without_held, covers_write, covers_read, is_for, covers, missing_from}
use Rattle.client_rules.specs.Requests.{object_of, error_at, report_of, errno_of, args_of}
use Rattle.client_rules.specs.Commands.{of_component, not_of, before, placed, in_order}
use Rattle.client_rules.specs.Io.{outs, first_of, timed_with, had, had_positions}
use Rattle.client_rules.specs.Answers.{busy, not_granted, not_committed, on_commit, on_report}
use Rattle.client_rules.specs.Going.{begins, begun, requests, due_behind, returns_due, progressed}
use Rattle.client_rules.specs.Messages.{finished, due_with, takes, hears}
use Rattle.client_rules.specs.Steps.{calls, times_out, all_due, leaves, resent, lowest_with, awaits, awaited_component}
use Rattle.client_rules.specs.Envelopes.{message_in as client_message_in}
use Rattle.world_history.specs.Told.{verdict_with}
use Rattle.world_history.specs.Drives.{judges}

unfoldable pub opened_text : ℕ
unfolding optional_part enum_part members_of list_part list_item whole_of u32_part u64_part i64_part bool_part fixed_part
    opaque_part
    count_part u32_item u64_item i64_item fixed_item opaque_item u32_in u64_in i64_in bool_in count_in body_in opaque_in end_of
    u32_field u64_field bool_field opaque_field count_field layout_type_in file_kind_in recall_op_in operation_in members list_in
    whole stateid_part time_part stateid_field optional_u64_field optional_time_field optional_stateid_field get_args_in
    commit_args_in return_args_in segment_in get_ok_in get_result_in commit_result_in return_result_in request_in answer_in
    recall_args_in recall_in recall_answer_in order_kind_field order_result_field order_in order_answer_in envelope_in envelope_of
    message_in client_message_in
opened_text = 0

unfoldable pub opened_server : ℕ
unfolding label is_meant to_each key_at file_at put_file add_file lowest_after early must_fence late give_or_refuse fence_first
    on_grants gets overlaps conflicts asked joined merged making fenced fence_begins goes_on loses declares add_drive checked_64
    refusal are_of places components_on create_file counters_have_room heard_at on_drive_reply on_message among marked
    opens_fenced
    opens opens_each reopen offline declares_each declare ordered on_request admit_after admit keep lose_on any_on stood_on
    checked_map recalls_from
opened_server = 0

unfoldable pub opened_client : ℕ
unfolding held_of put_held without_held covers_write covers_read is_for covers missing_from object_of error_at report_of errno_of
    args_of of_component not_of before placed in_order outs first_of timed_with had had_positions busy not_granted not_committed
    on_commit on_report begins begun requests due_behind returns_due progressed finished due_with takes hears calls times_out
    all_due leaves resent lowest_with awaits awaited_component
opened_client = 0

unfoldable pub opened_world : ℕ
unfolding verdict_with judges
opened_world = 0
