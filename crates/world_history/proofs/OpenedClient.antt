-- What worked scenarios compute through of the clients' rules, under one name.
use Rattle.std.specs.Prelude.{ℕ}
use Rattle.client_rules.specs.Grants.{held_of, put_held, without_held, covers_write, covers_read, is_for, covers, missing_from}
use Rattle.client_rules.specs.Requests.{object_of, error_at, report_of, errno_of, args_of}
use Rattle.client_rules.specs.Layouts.{listed, all_listed, first_why, is_lacking, enough, taken}
use Rattle.client_rules.specs.Commands.{credential_of, sealed, command, numbered, read_commands, write_commands, others, of_component, not_of, before, placed, in_order}
use Rattle.client_rules.specs.Io.{outs, first_of, timed_with, had, had_positions}
use Rattle.client_rules.specs.Reads.{reads_on, reads, first_present, probe_each, probes_on, probes_due, is_probe_lost, probes}
use Rattle.client_rules.specs.Writes.{written, firsts, laters, scatters_on, scatters, next_to, without_next, scatters_next, without_component, gathers_on, gathers_due, gathers, is_too_short}
use Rattle.client_rules.specs.Replies.{refused, replied, gather_timed, scatter_timed}
use Rattle.client_rules.specs.Answers.{busy, not_granted, not_committed, on_commit, on_report}
use Rattle.client_rules.specs.Going.{begins, begun, requests, due_behind, returns_due, progressed}
use Rattle.client_rules.specs.Messages.{finished, due_with, takes, hears}
use Rattle.client_rules.specs.Steps.{calls, times_out, all_due, leaves, resent, lowest_with, awaits, awaited_component}
use Rattle.stripe_plan.specs.Touched.{stripes, own, touches, columns_between, columns, whole}
use Rattle.stripe_plan.specs.Lost.{source_from, source, out_from, positions_out, is_short, is_degraded, hit_from, unreadable, unwritable}
use Rattle.stripe_plan.specs.Asks.{own_columns, changed, gathered, without, without_each, asks_each, asks_place, asks_stripe, asks}
use Rattle.stripe_plan.specs.Words.{byte_at, known_from, lost_from, decoded_at, answer_in, answered, new_at, news_from, parity_at, word_at}
use Rattle.stripe_plan.specs.Plans.{written_place, written_stripe, written as stripe_plans_written, stores}
use Rattle.parity_code.specs.Decoding.{decoded}
use Rattle.parity_code.specs.Repairs.{repair_of, first_repair, second_repair}
use Rattle.gf256.specs.Field.{double, where_odd, product_bits, product, two_to, inverse_from}
use Rattle.data_map.specs.Check.{checked}
use Rattle.osd_capability.specs.Layout.{spelling, capability_at, stray, reading}
use Rattle.xdr_codec.specs.Reading.{u32_in, u64_in, count_in, body_in, opaque_in, end_of}
use Rattle.xdr_codec.specs.Items.{u32_item, u64_item, fixed_item, opaque_item}
use Rattle.layout_types.specs.Grammar.{u32_part, u64_part, fixed_part, opaque_part, count_part, enum_part, members, list_part, list_item, whole as layout_grammar_whole}
use Rattle.layout_types.specs.Reading.{objid_in, cred_in, map_in, layout_in}

unfoldable pub opened_client : ℕ
unfolding held_of put_held without_held covers_write covers_read is_for covers missing_from object_of error_at report_of errno_of
    args_of listed all_listed first_why is_lacking enough taken credential_of sealed command numbered read_commands write_commands
    others of_component not_of before placed in_order outs first_of timed_with had had_positions reads_on reads first_present
    probe_each probes_on probes_due is_probe_lost probes written firsts laters scatters_on scatters next_to without_next
    scatters_next without_component gathers_on gathers_due gathers is_too_short refused replied gather_timed scatter_timed
    busy not_granted not_committed on_commit on_report begins begun requests due_behind returns_due progressed finished
    due_with takes hears calls times_out all_due leaves resent lowest_with awaits awaited_component stripes own touches
    columns_between columns whole source_from source out_from positions_out is_short is_degraded hit_from unreadable
    unwritable own_columns changed gathered without without_each asks_each asks_place asks_stripe asks byte_at known_from
    lost_from decoded_at answer_in answered new_at news_from parity_at word_at written_place written_stripe
    stripe_plans_written stores decoded repair_of first_repair second_repair double where_odd product_bits product two_to
    inverse_from checked spelling capability_at stray reading u32_in u64_in count_in body_in opaque_in end_of u32_item
    u64_item fixed_item opaque_item u32_part u64_part fixed_part opaque_part count_part enum_part members list_part list_item
    layout_grammar_whole objid_in cred_in map_in layout_in
opened_client = 0
